-- `tallied::begin` meets its contract: 15, or the call and one more at the count that it raises. Assumes nothing.
use Rattle.std.proofs.Common.{◌≡◌, false, sym, ◌∙◌, refl}
use Rattle.rules.specs.History.{begin, tray_of}
use Rattle.rules.specs.Tally.{would_raise, is_full}
use Rattle.tally.proofs.TallyLaws.{none_full}
use Rattle.hall.specs.Memories.{lent_mut}
use Rattle.checks.specs.CheckContracts.{request_of}
use Rattle.tallied.proofs.TalliedLaws.{told, turned_down, goes_on, begin_raises, begin_made}
use Rattle.tallied.proofs.begin.Goals as goal
use Rattle.tallied.proofs.begin.Goals.{else-some_full-via-then-some_full+else-is_full, else-some_full-via-else-some_full}

pub returns-then-is_full-clause-leaves : goal.returns-then-is_full-clause-leaves
unfolding tray_of
returns-then-is_full-clause-leaves c =
    let call = begin c.args.client (request_of c.args.request c.args.asked.now) in
    turned_down _ _ call (told _ call c.view.ensures c.begin_would.ensures c.is_full.ensures c.if-is_full.true) c.full.ensures

pub made-requires : goal.made-requires
made-requires c =
    let m = lent_mut c.args.memories.now in
    let call = begin c.args.client (request_of c.args.request c.args.asked.now) in
    let room : is_full c.args.t (would_raise m call) ≡ false = elim c.else-some_full.branch [
      | else-some_full-via-then-some_full+else-is_full w ↦ told _ call w.view.ensures w.begin_would.ensures w.is_full.ensures w.if-is_full.false
      | else-some_full-via-else-some_full w ↦ none_full _ (sym c.some_full.ensures ∙ w.if-some_full.false) _
    ] in
    rw (begin_raises m _ _ c.begin-out.ensures.leaves (c.begun_count.ensures _) refl) room

pub returns-clause-leaves : goal.returns-clause-leaves
returns-clause-leaves c =
    let m = lent_mut c.args.memories.now in
    let call = begin c.args.client (request_of c.args.request c.args.asked.now) in
    let room : is_full c.args.t (would_raise m call) ≡ false = elim c.else-some_full.branch [
      | else-some_full-via-then-some_full+else-is_full w ↦ told _ call w.view.ensures w.begin_would.ensures w.is_full.ensures w.if-is_full.false
      | else-some_full-via-else-some_full w ↦ none_full _ (sym c.some_full.ensures ∙ w.if-some_full.false) _
    ] in
    goes_on m _ call room _ (begin_raises m _ _ c.begin-out.ensures.leaves (c.begun_count.ensures _) refl) (begin_made m _ _ c.begin-out.ensures.leaves) c.made.ensures
