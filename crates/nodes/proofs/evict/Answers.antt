-- `nodes::evict` meets its contract: eight numbers are taken out, then count and floor are set. Assumes nothing.
use Rattle.nodes.proofs.NodeStores.{store_evict}
use Rattle.nodes.proofs.evict.Goals as goal

pub returns : goal.returns
returns c =
    store_evict _ c.requires.0 _ _ _ _ _ c.start_of-at.ensures c.start_of.ensures c.remove.ensures c.max-higher.ensures c.requires.1
