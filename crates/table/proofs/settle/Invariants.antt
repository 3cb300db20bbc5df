-- `table::settle`. Invariant: i of the record's numbers stand at `to`. Assumes nothing.
use Rattle.std.proofs.Common.{◌≡◌}
use lib.Seq.{paste}
use Rattle.table.proofs.settle.Given as goal

abbrev pub invariant-loop-i : goal.invariant-loop-i
invariant-loop-i g l = l.table ≡ paste l.fn.table l.to l.rec l.i
