-- `nodes::nodes_in` meets its contract. Assumes nothing.
use Rattle.std.proofs.Common.{ap, ◌∙◌, length}
use Rattle.nodes.proofs.NodeStores.{count_nodes}
use Rattle.nodes.proofs.NodeScans.{nodes_cut}
use Rattle.nodes.proofs.nodes_in.Goals as goal

pub returns-clause-nodes : goal.returns-clause-nodes
returns-clause-nodes c = c.as_chunks.ensures.front ∙ nodes_cut _ _ c.requires c.start_of-end.ensures

pub returns-clause-count : goal.returns-clause-count
returns-clause-count c = ap length (returns-clause-nodes c) ∙ count_nodes c.args.nodes.now
