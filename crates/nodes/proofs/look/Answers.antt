-- `nodes::look` meets its contract: two numbers of the node that `ensure` has made present. Assumes nothing.
use Rattle.std.proofs.Common.{rules}
use Rattle.nodes.proofs.NodePresent.{stands, look_stuck, look_seen}
use Rattle.nodes.proofs.look.Goals as goal

pub returns-in_err-i : goal.returns-in_err-i
returns-in_err-i c = look_stuck _ _ _ _ c.ensure.ensures.left _ c.in_err-i.was _ (search rules)

pub returns : goal.returns
returns c =
    look_seen _ _ _ _ (stands _ _ _ _ c.ensure.ensures.left _ c.in_ok-i.was c.requires.0 c.requires.1) _ c.nodes_in.ensures.nodes
