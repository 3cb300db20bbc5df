-- `table::seek_in`. Invariant: none of the records met is this one, and its spot among them is known. Assumes nothing.
use Rattle.std.proofs.Common.{length}
use Rattle.rules.specs.Memory.{records_in}
use Rattle.table.proofs.Seeking.{Seeking}
use Rattle.table.proofs.seek_in.Given as goal

abbrev pub invariant-loop-i : goal.invariant-loop-i
invariant-loop-i g l = Seeking l.rec (records_in g.row.K l.table) (length l.yielded) l.spot
