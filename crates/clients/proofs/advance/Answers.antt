-- `clients::advance` meets its contract: number 1 is stored, one higher. Assumes nothing.
use Rattle.std.proofs.Common.{arith}
use Rattle.rules.specs.Client.{steps}
use Rattle.clients.proofs.ClientChanges.{stepped_left}
use Rattle.clients.proofs.advance.Goals as goal

pub overflow_add-made : goal.overflow_add-made
unfolding steps
overflow_add-made c = rw c.client.ensures.own (omega (arith, c.requires.1))

pub returns : goal.returns
returns c = stepped_left _ _ c.requires.0 _ (rw c.client.ensures.own at c.put.ensures)
