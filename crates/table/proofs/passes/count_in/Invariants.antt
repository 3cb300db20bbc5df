-- `table::passes::count_in`. Invariant: how many of the records met pass the test. Assumes nothing.
use Rattle.std.proofs.Common.{◌≡◌, length}
use Rattle.lists.specs.Lists.{keep}
use Rattle.table.proofs.Passing.{met}
use Rattle.table.proofs.passes.count_in.Given as goal

abbrev pub invariant-loop-rec : goal.invariant-loop-rec
invariant-loop-rec g l = l.j ≡ length (keep (g.T.RecordTest.says l.test) (met l.yielded))
