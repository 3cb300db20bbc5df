-- `writing::would::abandon_would` meets its contract, on each side of the table step. Assumes nothing.
use Rattle.std.proofs.Common.{◌≡◌, ◌≤◌, ◌<◌, None, refl, sym, ◌∙◌, arith, rules}
use Rattle.clients.proofs.HeldLaws.{writer_announcements}
use Rattle.writing.specs.WriteContracts.{step_at, count_at}
use Rattle.writing.proofs.WriteSteps.{marked_labels, left_labels}
use Rattle.writing.proofs.Foreseeing.{back_refused, back_raises, left_refused, left_raises, went_not, went_well}
use Rattle.writing.proofs.would.abandon_would.Goals as goal

pub returns-in_err-ok : goal.returns-in_err-ok
returns-in_err-ok c =
    let s = c.args.clients.now in
    let d = c.args.d in
    let w = c.requires.writer in
    let l : step_at s d ≤ count_at s d = omega (arith, writer_announcements w) in
    let n : c.from_residual.result ≡ None = search rules in
    let missed = went_not _ (sym c.ok.ensures.value ∙ c.in_err-ok.was) in
    λ t a. n ∙ back_refused _ _ _ _ _ _ c.can_retire.ensures.found refl (marked_labels w l) l t a missed

pub returns-then-h-count : goal.returns-then-h-count
returns-then-h-count c =
    let s = c.args.clients.now in
    let d = c.args.d in
    let w = c.requires.writer in
    let l : step_at s d ≤ count_at s d = omega (arith, writer_announcements w) in
    let found = went_well _ _ (sym c.ok.ensures.value ∙ c.in_ok-ok.was) in
    λ t a. back_raises _ _ _ _ _ _ c.can_retire.ensures.found refl (marked_labels w l) l t a found

pub returns-in_err-ok-2 : goal.returns-in_err-ok-2
returns-in_err-ok-2 c =
    let s = c.args.clients.now in
    let d = c.args.d in
    let w = c.requires.writer in
    let l : count_at s d < step_at s d = omega (arith, writer_announcements w) in
    let labels = left_labels w _ c.write_count-count.ensures.nodes l in
    let n : c.from_residual-in_err-ok-2.result ≡ None = search rules in
    let missed = went_not _ (sym c.ok-2.ensures.value ∙ c.in_err-ok-2.was) in
    λ t a. n ∙ left_refused _ _ _ _ _ _ c.can_retire-2.ensures.found c.did_change-lift.ensures labels l t a missed

pub returns : goal.returns
returns c =
    let s = c.args.clients.now in
    let d = c.args.d in
    let w = c.requires.writer in
    let l : count_at s d < step_at s d = omega (arith, writer_announcements w) in
    let labels = left_labels w _ c.write_count-count.ensures.nodes l in
    let found = went_well _ _ (sym c.ok-2.ensures.value ∙ c.in_ok-ok-2.was) in
    λ t a. left_raises _ _ _ _ _ _ c.can_retire-2.ensures.found c.did_change-lift.ensures labels l t a found _ c.end_would.ensures
