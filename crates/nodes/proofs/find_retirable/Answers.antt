-- `nodes::find_retirable` meets its contract, at each of its ways out. Assumes nothing.
use Rattle.std.proofs.Common.{ap, sym, ◌∙◌, rules}
use Rattle.std.specs.Result.{result_ok}
use Rattle.rules.specs.Nodes.{pending, revision}
use Rattle.nodes.proofs.NodePresent.{found_none, retirable_missing, retirable_free, retirable_largest, retirable_plain, retirable_lifted}
use Rattle.nodes.proofs.find_retirable.Goals.{else-lift-via-then-lift+else-node-ge-LARGEST_REVISION, else-lift-via-else-lift}
use Rattle.nodes.proofs.find_retirable.Goals as goal

pub returns-in_err-i : goal.returns-in_err-i
returns-in_err-i c =
    let none = found_none _ _ _ c.ok_or.ensures.value c.in_err-i.was in
    retirable_missing _ _ _ (sym c.find.ensures ∙ none.0) _ (search rules)

pub returns-then-node-eq0 : goal.returns-then-node-eq0
unfolding pending
returns-then-node-eq0 c =
    retirable_free _ _ _ _ (sym c.find.ensures ∙ c.ok_or.ensures.ok_part ∙ ap result_ok c.in_ok-i.was) cc

pub returns-then-node-ge-LARGEST_REVISION : goal.returns-then-node-ge-LARGEST_REVISION
unfolding pending revision
returns-then-node-ge-LARGEST_REVISION c =
    retirable_largest _ _ _ _ (sym c.find.ensures ∙ c.ok_or.ensures.ok_part ∙ ap result_ok c.in_ok-i.was) (λ z. c.if-node-eq0.false cc) c.if-lift.true (search rules)

pub returns : goal.returns
unfolding pending revision
returns c =
    let at = sym c.find.ensures ∙ c.ok_or.ensures.ok_part ∙ ap result_ok c.in_ok-i.was in
    elim c.else-lift.branch [
      | else-lift-via-then-lift+else-node-ge-LARGEST_REVISION w ↦ retirable_lifted _ _ _ _ at (λ z. c.if-node-eq0.false cc) w.if-lift.true (search rules)
      | else-lift-via-else-lift w ↦ retirable_plain _ _ _ _ at (λ z. c.if-node-eq0.false cc) w.if-lift.false
    ]
