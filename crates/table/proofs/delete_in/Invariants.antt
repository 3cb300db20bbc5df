-- `table::delete_in`. Invariant: of the records passed, those that stay lie at the front. Assumes nothing.
use Rattle.std.proofs.Common.{take}
use Rattle.rules.specs.Memory.{records_in}
use Rattle.rules.specs.Table.{outside}
use Rattle.table.proofs.Deleting.{Deleting}
use Rattle.table.proofs.delete_in.Given as goal

abbrev pub invariant-loop-i : goal.invariant-loop-i
invariant-loop-i g l = Deleting (outside (take g.row.K l.test)) (records_in g.row.K l.fn.table) g.row.K l.fn.table l.table l.i l.j
