-- `answers::has_key` meets its contract: the two keys, number by number. Assumes nothing.
use Rattle.std.proofs.Common.{◌∙◌, arith, eqb, take, rules, tests}
use Rattle.std.proofs.lemmas.Iterator.{YieldsList-from_slice, YieldsList-from_zip}
use Rattle.std.proofs.lemmas.Iterator.Search.{all_from_yields_List}
use Rattle.query.specs.Encoding.{key_width}
use Rattle.answers.proofs.AnswerScan.{key_is}
use Rattle.answers.proofs.has_key.Goals as goal

pub returns : goal.returns
returns c =
    all_from_yields_List (λ p. eqb p.0 p.1) c.all.new.self _ c.all.result c.all.ensures.ran
    (YieldsList-from_zip (YieldsList-from_slice (take key_width c.args.e.now) (search rules)) (YieldsList-from_slice (take key_width c.args.x.now) (search rules)))
    (λ x b q k. search (rules, tests))
    ∙ key_is _ _ (let w = c.told-e in omega arith) c.requires
