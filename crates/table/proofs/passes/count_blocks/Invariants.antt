-- `table::passes::count_blocks`. Invariant: of the records before `rest`, j pass the test. Assumes nothing.
use Rattle.std.proofs.Common.{length}
use Rattle.table.proofs.Counting.{Counted}
use Rattle.table.proofs.passes.count_blocks.Given as goal

abbrev pub invariant-loop-rest : goal.invariant-loop-rest
invariant-loop-rest g l = Counted (g.T.RecordTest.says l.test) g.row.K l.recs l.j l.rest

abbrev pub decreases-loop-rest : goal.decreases-loop-rest
decreases-loop-rest g l = length l.rest
