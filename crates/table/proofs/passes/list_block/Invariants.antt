-- `table::passes::list_block`. Invariant: of the records met, those that pass the test are in `out`, behind those that it had. Assumes nothing.
use Rattle.table.proofs.Passing.{met}
use Rattle.table.proofs.Listing.{Listed}
use Rattle.table.proofs.passes.list_block.Given as goal

abbrev pub invariant-loop-rec : goal.invariant-loop-rec
invariant-loop-rec g l = Listed (g.T.RecordTest.says l.test) g.row.K (met l.yielded) l.fn.out l.had l.out l.j
