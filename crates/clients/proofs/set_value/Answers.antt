-- `clients::set_value` meets its contract: a step counted, the number stored, and what is behind the numbers used cleared. Assumes nothing.
use Rattle.clients.proofs.ClientChanges.{value_left}
use Rattle.clients.proofs.set_value.Goals as goal

pub returns : goal.returns
returns c =
    λ sh. value_left _ _ c.requires.0 _ _ _ _ c.args.used sh _ c.advance.ensures c.put.ensures c.place-at.ensures c.requires.1.1.0 (c.fill.ensures.after (λ y e. e))
