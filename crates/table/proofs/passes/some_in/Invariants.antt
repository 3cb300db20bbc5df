-- `table::passes::some_in`. Invariant: whether one of the records met passes the test. Assumes nothing.
use Rattle.std.proofs.Common.{◌≡◌}
use Rattle.table.specs.TableContracts.{some}
use Rattle.table.proofs.Passing.{met}
use Rattle.table.proofs.passes.some_in.Given as goal

abbrev pub invariant-loop-rec : goal.invariant-loop-rec
invariant-loop-rec g l = l.any ≡ some (g.T.RecordTest.says l.test) (met l.yielded)
