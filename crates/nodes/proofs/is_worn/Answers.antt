-- `nodes::is_worn` meets its contract: the floor decides, and else whether some block of the nodes has one that is too high. Assumes nothing.
use Rattle.std.proofs.Common.{◌∙◌, rules, tests}
use Rattle.std.specs.List.{list_any}
use Rattle.std.proofs.lemmas.Iterator.Search.{any_from_yields_List}
use Rattle.rules.specs.Nodes.{is_high}
use Rattle.rules.specs.Memory.{current, store_in}
use Rattle.nodes.proofs.NodeBlocks.{YieldsList-from_blocks, any_blocks}
use Rattle.nodes.proofs.NodeScans.{worn_floor, worn_nodes}
use Rattle.nodes.proofs.is_worn.Goals as goal

pub returns-then-nodes-gt-WORN_ABOVE : goal.returns-then-nodes-gt-WORN_ABOVE
returns-then-nodes-gt-WORN_ABOVE c = λ sh. worn_floor sh c.args.nodes.now (search rules)

pub returns : goal.returns
returns c = λ sh.
    any_from_yields_List (list_any (is_high current sh)) _ _ _ c.any.ensures.ran (YieldsList-from_blocks (store_in current c.args.nodes.now).nodes (cc) (cc)) (λ x b q k. search (rules, tests))
    ∙ any_blocks (is_high current sh) (store_in current c.args.nodes.now).nodes
    ∙ worn_nodes sh c.args.nodes.now (search rules)
