-- `writing::would::step_would` meets its contract: only the last raise would end the write. Assumes nothing.
use Rattle.std.proofs.Common.{◌≡◌, ◌+◌, None, sym, ◌∙◌, arith, rules}
use Rattle.clients.proofs.HeldLaws.{writer_announcements}
use Rattle.writing.specs.WriteContracts.{step_at, count_at}
use Rattle.writing.proofs.WriteSteps.{last_past, raise_label}
use Rattle.writing.proofs.Foreseeing.{going_raises, last_refused, last_raises, went_not, went_well}
use Rattle.writing.proofs.would.step_would.Goals as goal

pub returns-then-h-count : goal.returns-then-h-count
returns-then-h-count c = λ t a y.
    let n = writer_announcements c.requires.writer in
    going_raises _ _ _ (λ e. c.if-h-count.true (omega (arith, n))) t a y

pub returns-in_err-ok : goal.returns-in_err-ok
returns-in_err-ok c =
    let s = c.args.clients.now in
    let d = c.args.d in
    let w = c.requires.writer in
    let l : step_at s d ≡ count_at s d + count_at s d = omega (arith, writer_announcements w) in
    let label = raise_label w _ c.write_count-count.ensures.nodes (last_past w l) in
    let n : c.from_residual.result ≡ None = search rules in
    let missed = went_not _ (sym c.ok.ensures.value ∙ c.in_err-ok.was) in
    λ t a y. n ∙ last_refused _ _ _ _ _ c.did_change-lift.ensures _ label c.can_retire.ensures.found l (last_past w l) t a y missed

pub returns : goal.returns
returns c =
    let s = c.args.clients.now in
    let d = c.args.d in
    let w = c.requires.writer in
    let l : step_at s d ≡ count_at s d + count_at s d = omega (arith, writer_announcements w) in
    let label = raise_label w _ c.write_count-count.ensures.nodes (last_past w l) in
    let found = went_well _ _ (sym c.ok.ensures.value ∙ c.in_ok-ok.was) in
    λ t a y. last_raises _ _ _ _ _ c.did_change-lift.ensures _ label c.can_retire.ensures.found l (last_past w l) t a y found _ c.end_would.ensures
