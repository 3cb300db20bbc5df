-- `answers::is_recent` meets its contract: the two lists of revisions, place by place. Assumes nothing.
use Rattle.std.proofs.Common.{◌∙◌, leb, rules, tests}
use Rattle.std.proofs.lemmas.Iterator.{YieldsList-from_slice, YieldsList-from_zip}
use Rattle.std.proofs.lemmas.Iterator.Search.{all_from_yields_List}
use Rattle.answers.proofs.AnswerScan.{noted, recent_is}
use Rattle.answers.proofs.is_recent.Goals as goal

pub returns : goal.returns
returns c =
    all_from_yields_List (λ p. leb p.1 p.0) c.all.new.self _ c.all.result c.all.ensures.ran
    (YieldsList-from_zip (YieldsList-from_slice (noted c.args.n c.args.e.now) (search rules)) (YieldsList-from_slice (noted c.args.n c.args.x.now) (search rules)))
    (λ x b q k. search (rules, tests))
    ∙ recent_is _ _ _ (search rules) c.requires.0 c.requires.1
