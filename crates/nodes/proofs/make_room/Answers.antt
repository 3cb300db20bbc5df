-- `nodes::make_room` meets its contract, at each of its ways out. Assumes nothing.
use Rattle.std.proofs.Common.{ap, sym, ◌∙◌, rules, arith, refl}
use Rattle.std.specs.Result.{result_ok}
use Rattle.rules.specs.Nodes.{is_free}
use Rattle.laws.proofs.WalkLaws.{found}
use Rattle.nodes.proofs.NodeStores.{count_nodes}
use Rattle.nodes.proofs.NodePresent.{found_none, room_there, room_none, room_made, room_fit}
use Rattle.nodes.proofs.make_room.Goals as goal

pub returns-then-nodes-lt-NODES-clause-left : goal.returns-then-nodes-lt-NODES-clause-left
returns-then-nodes-lt-NODES-clause-left c = room_there _ c.requires c.if-nodes-lt-NODES.true

pub returns-in_err-i-clause-left : goal.returns-in_err-i-clause-left
returns-in_err-i-clause-left c =
    let none = found_none _ _ _ c.ok_or.ensures.value c.in_err-i.was in
    room_none _ c.if-nodes-lt-NODES.false (sym c.find_free.ensures ∙ none.0) _ (search rules)

pub evict-requires : goal.evict-requires
evict-requires c =
    let free = found is_free _ _ (sym c.find_free.ensures ∙ c.ok_or.ensures.ok_part ∙ ap result_ok c.in_ok-i.was) in
    let n = count_nodes c.args.nodes.now in
    (c.requires, omega arith)

pub returns-clause-left : goal.returns-clause-left
returns-clause-left c = room_made _ c.if-nodes-lt-NODES.false _ _ (sym c.find_free.ensures ∙ c.ok_or.ensures.ok_part ∙ ap result_ok c.in_ok-i.was) c.evict.ensures

pub returns-clause-room : goal.returns-clause-room
returns-clause-room c = room_fit _ _ _ (returns-clause-left c) refl c.requires
