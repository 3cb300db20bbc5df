-- `nodes::add` meets its contract: eight numbers are written behind the last node, then the count is set. Assumes nothing.
use Rattle.std.proofs.Common.{◌∙◌}
use Rattle.nodes.proofs.NodeStores.{store_added, node_made}
use Rattle.nodes.proofs.add.Goals as goal

pub returns : goal.returns
returns c =
    let node = c.copy_from_slice-2.ensures.after ∙ node_made _ _ _ c.requires.1.1 c.copy_from_slice.ensures.after in
    store_added _ c.requires.0 _ _ _ c.requires.1.1 c.start_of-at.ensures node c.requires.1.0
