-- `table::passes::list_in`. Invariant: of the records looked at, those that pass the test are in `out`. Assumes nothing.
use Rattle.std.proofs.Common.{length}
use Rattle.table.proofs.Listing.{Searched}
use Rattle.table.proofs.passes.list_in.Given as goal

abbrev pub invariant-loop-rest : goal.invariant-loop-rest
invariant-loop-rest g l = Searched (g.T.RecordTest.says l.test) g.row.K l.recs l.fn.out l.out l.j l.rest

abbrev pub decreases-loop-rest : goal.decreases-loop-rest
decreases-loop-rest g l = length l.rest
