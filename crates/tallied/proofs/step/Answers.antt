-- `tallied::step` meets its contract: 15, or the call and one more at the count that it raises. Assumes nothing.
use Rattle.std.proofs.Common.{◌≡◌, false, sym, ◌∙◌, refl}
use Rattle.rules.specs.History.{step, tray_of, call_result}
use Rattle.rules.specs.Tally.{would_raise, is_full}
use Rattle.tally.proofs.TallyLaws.{none_full}
use Rattle.hall.specs.Memories.{lent_mut}
use Rattle.tallied.proofs.TalliedLaws.{told, turned_down, goes_on, step_raises}
use Rattle.tallied.proofs.step.Goals as goal
use Rattle.tallied.proofs.step.Goals.{else-some_full-via-then-some_full+else-is_full, else-some_full-via-else-some_full}

pub returns-then-is_full-clause-leaves : goal.returns-then-is_full-clause-leaves
unfolding tray_of
returns-then-is_full-clause-leaves c =
    let call = step c.args.client c.args.tray.now in
    turned_down _ _ call (told _ call c.view.ensures c.step_would.ensures c.is_full.ensures c.if-is_full.true) c.full.ensures

pub made-requires : goal.made-requires
made-requires c =
    let m = lent_mut c.args.memories.now in
    let call = step c.args.client c.args.tray.now in
    let room : is_full c.args.t (would_raise m call) ≡ false = elim c.else-some_full.branch [
      | else-some_full-via-then-some_full+else-is_full w ↦ told _ call w.view.ensures w.step_would.ensures w.is_full.ensures w.if-is_full.false
      | else-some_full-via-else-some_full w ↦ none_full _ (sym c.some_full.ensures ∙ w.if-some_full.false) _
    ] in
    rw (step_raises m _ _ c.step-out.ensures.leaves refl) room

pub returns-clause-leaves : goal.returns-clause-leaves
unfolding call_result
returns-clause-leaves c =
    let m = lent_mut c.args.memories.now in
    let call = step c.args.client c.args.tray.now in
    let room : is_full c.args.t (would_raise m call) ≡ false = elim c.else-some_full.branch [
      | else-some_full-via-then-some_full+else-is_full w ↦ told _ call w.view.ensures w.step_would.ensures w.is_full.ensures w.if-is_full.false
      | else-some_full-via-else-some_full w ↦ none_full _ (sym c.some_full.ensures ∙ w.if-some_full.false) _
    ] in
    goes_on m _ call room _ (step_raises m _ _ c.step-out.ensures.leaves refl) (c.step-out.ensures.leaves) c.made.ensures
