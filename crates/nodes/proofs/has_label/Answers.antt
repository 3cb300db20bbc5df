-- `nodes::has_label` meets its contract: of the first two numbers one differs, or they agree and the last three decide. Assumes nothing.
use Rattle.std.proofs.Common.{arith}
use Rattle.nodes.proofs.NodeScans.{label_differs, label_decided}
use Rattle.nodes.proofs.has_label.Goals as goal

pub returns-then-first-ne0 : goal.returns-then-first-ne0
returns-then-first-ne0 c = label_differs _ _ c.if-first-ne0.true

pub returns : goal.returns
returns c = label_decided _ _ (let w = c.told-node in omega arith) c.requires c.if-first-ne0.false
