-- `Hall::clear_nodes` meets its contract: it empties the nodes memory and sets the floor. Assumes nothing.
use Rattle.rules.specs.Layout.{nodes_least}
use Rattle.rules.specs.Memory.{current}
use Rattle.hall.proofs.Clearing.{done_set}
use Rattle.hall.proofs.Hall.clear_nodes.Goals as goal

pub returns : goal.returns
returns c = done_set (nodes_least current) _ _ c.clear.ensures _
