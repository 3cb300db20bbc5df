-- `columns::keys::zero_under` meets its contract. The invariant: it holds of all exactly if it does of what is left. Assumes nothing.
use Rattle.std.proofs.Common.{◌≡◌, drop}
use Rattle.columns.specs.KeyContracts.{zero_under}
use Rattle.columns.proofs.keys.zero_under.Given as goal

abbrev pub invariant-loop-v : goal.invariant-loop-v
invariant-loop-v l = zero_under l.fn.marks l.values ≡ zero_under l.left (drop l.v-index l.values)
