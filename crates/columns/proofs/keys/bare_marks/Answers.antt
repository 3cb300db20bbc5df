-- `keys::bare_marks` meets its contract: the lowest four bits. Assumes nothing.
use Rattle.columns.proofs.KeyLoops.{bare_first}
use Rattle.columns.proofs.keys.bare_marks.Goals as goal

pub returns : goal.returns
returns c = λ vs. bare_first c.args.first vs
