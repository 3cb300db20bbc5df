-- `table::passes::skip`. Invariant: no record of the blocks passed passes the test. Assumes nothing.
use Rattle.table.proofs.Passing.{Passed}
use Rattle.std.proofs.Common.{length, ◌*◌}
use Rattle.table.proofs.passes.skip.Given as goal

abbrev pub invariant-loop-block : goal.invariant-loop-block
invariant-loop-block g l = Passed (g.T.RecordTest.says l.test) g.row.K (g.row.BLOCK * g.row.K) l.recs (length l.yielded) l.at
