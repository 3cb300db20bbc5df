-- `answers::some_long` meets its contract. Assumes nothing.
use Rattle.std.proofs.Common.{◌∙◌, rules, tests}
use Rattle.std.proofs.lemmas.Iterator.{YieldsList-from_slice}
use Rattle.std.proofs.lemmas.Iterator.Search.{any_from_yields_List}
use Rattle.rules.specs.Answers.{is_long}
use Rattle.rules.specs.Memory.{current, answers_in}
use Rattle.answers.proofs.AnswerScan.{some_long_is}
use Rattle.answers.proofs.some_long.Goals as goal

pub returns : goal.returns
returns c =
    any_from_yields_List is_long _ _ _ c.any.ensures.ran (YieldsList-from_slice (answers_in current c.args.answers.now) cc) (λ x b q k. search (rules, tests)) ∙ some_long_is _
