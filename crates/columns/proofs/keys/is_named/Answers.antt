-- `keys::is_named` meets its contract: a column names a value where its bit is 1. Assumes nothing.
use Rattle.columns.proofs.KeyLoops.{named_bit}
use Rattle.columns.proofs.keys.is_named.Goals as goal

pub returns : goal.returns
returns c = λ k vs h. named_bit k c.args.marks c.args.column vs h
