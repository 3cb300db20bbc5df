-- `clients::set_idle` meets its contract: the client's part is cleared whole. Assumes nothing.
use Rattle.clients.proofs.ClientChanges.{idle_left}
use Rattle.clients.proofs.set_idle.Goals as goal

pub returns : goal.returns
returns c = idle_left _ _ c.requires _ _ c.place-at.ensures (c.fill.ensures.after (λ y e. e))
