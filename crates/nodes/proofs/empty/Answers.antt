-- `nodes::empty` meets its contract: the used part is cleared, then count and floor are set. Assumes nothing.
use Rattle.nodes.proofs.NodeStores.{store_none}
use Rattle.nodes.proofs.empty.Goals as goal

pub returns : goal.returns
returns c = store_none _ c.requires _ _ c.start_of-end.ensures (c.fill.ensures.after (λ y h. cc))
