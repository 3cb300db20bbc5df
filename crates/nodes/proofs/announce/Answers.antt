-- `nodes::announce` meets its contract, at each of its ways out. Assumes nothing.
use Rattle.std.proofs.Common.{rules}
use Rattle.nodes.proofs.NodePresent.{stands, announce_stuck, announce_full, announce_more}
use Rattle.nodes.proofs.announce.Goals as goal

pub returns-in_err-i : goal.returns-in_err-i
returns-in_err-i c = announce_stuck _ _ _ _ c.ensure.ensures.left _ c.in_err-i.was _ (search rules)

pub returns-then-nodes-at-ge-PENDING : goal.returns-then-nodes-at-ge-PENDING
returns-then-nodes-at-ge-PENDING c =
    let there = stands _ _ _ _ c.ensure.ensures.left _ c.in_ok-i.was c.requires.0 c.requires.1 in
    announce_full _ _ _ _ _ there c.start_of-at.ensures c.requires.0 (search rules)

pub returns : goal.returns
returns c =
    let there = stands _ _ _ _ c.ensure.ensures.left _ c.in_ok-i.was c.requires.0 c.requires.1 in
    announce_more _ _ _ _ _ there c.start_of-at.ensures c.requires.0 (search rules)
