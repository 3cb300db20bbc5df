-- The clients before d are idle.
use Rattle.std.proofs.Common.{◌≡◌, true}
use Rattle.lists.specs.Lists.{all_below}
use Rattle.clients.specs.ClientContracts.{idle_at}
use Rattle.clients.proofs.all_idle.Given as goal

abbrev pub invariant-loop-d : goal.invariant-loop-d
invariant-loop-d l = all_below l.d (idle_at l.clients) ≡ true
