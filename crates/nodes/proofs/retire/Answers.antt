-- `nodes::retire` meets its contract, with a lift and without. Assumes nothing.
use Rattle.std.proofs.Common.{arith, ◌+◌}
use lib.Seq.{get_or-set_other}
use Rattle.nodes.proofs.NodeScans.{pending_at, revision_at}
use Rattle.nodes.proofs.NodePresent.{retire_plain, retire_lifted}
use Rattle.nodes.proofs.retire.Goals as goal

pub overflow_sub-nodes : goal.overflow_sub-nodes
overflow_sub-nodes c = omega (arith, pending_at c.args.nodes.now c.args.i c.start_of-at.result c.requires.fit.1.0 c.start_of-at.ensures)

pub overflow_add-nodes-then-lift-2 : goal.overflow_add-nodes-then-lift-2
overflow_add-nodes-then-lift-2 c =
    let room = c.requires.i_bound c.if-lift.true in
    let at = c.start_of-at.result in
    rw (get_or-set_other c.args.nodes.now (at + 5) (at + 6) _ 0 (λ q. omega arith)) (omega (arith, revision_at c.args.nodes.now c.args.i at c.requires.fit.1.0 c.start_of-at.ensures))

pub returns-then-lift : goal.returns-then-lift
returns-then-lift c = let p = c.requires.fit in retire_lifted _ _ _ _ p.0 p.1.0 c.start_of-at.ensures c.if-lift.true

pub returns-else-lift : goal.returns-else-lift
returns-else-lift c = let p = c.requires.fit in retire_plain _ _ _ _ p.0 p.1.0 c.start_of-at.ensures c.if-lift.false
