-- `nodes::ensure` meets its contract: the node is there, or room is made and it is added. Assumes nothing.
use Rattle.std.proofs.Common.{sym, ◌∙◌, rules, refl}
use Rattle.nodes.proofs.NodePresent.{stands, ensure_there, ensure_none, ensure_added}
use Rattle.nodes.proofs.ensure.Goals as goal

pub returns-in-Some-clause-left : goal.returns-in-Some-clause-left
returns-in-Some-clause-left c = ensure_there _ _ _ (sym c.find.ensures ∙ c.in-Some.is) c.requires.0

pub returns-in-Some-clause-there : goal.returns-in-Some-clause-there
returns-in-Some-clause-there c =
    let t = stands _ _ _ _ (returns-in-Some-clause-left c) _ refl c.requires.0 c.requires.1 in (t.keeps.fit, t.below)

pub returns-in_err-make_room-clause-left : goal.returns-in_err-make_room-clause-left
returns-in_err-make_room-clause-left c =
    ensure_none _ _ (sym c.find.ensures ∙ c.in_default.is) _ _ c.make_room.ensures.left _ c.in_err-make_room.was _ (search rules)

pub returns-clause-left : goal.returns-clause-left
returns-clause-left c =
    ensure_added _ _ (sym c.find.ensures ∙ c.in_default.is) _ _ c.make_room.ensures.left _ c.in_ok-make_room.was c.add.ensures c.requires.0 c.requires.1

pub returns-clause-there : goal.returns-clause-there
returns-clause-there c =
    let t = stands _ _ _ _ (returns-clause-left c) _ refl c.requires.0 c.requires.1 in (t.keeps.fit, t.below)
