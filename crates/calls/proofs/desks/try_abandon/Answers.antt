-- `calls::desks::try_abandon` meets its contract: each way out cites what the passed check tells. Assumes nothing.
use Rattle.std.proofs.Common.{sym, ap, ◌∙◌}
use Rattle.rules.specs.Refusals.{abandon_code}
use Rattle.rules.proofs.PassedChecks.{abandon_passed}
use Rattle.hall.specs.Kind.{kind_number}
use Rattle.writing.proofs.PassedWrite.{gives_up, abandon_due}
use Rattle.checks.proofs.SoundMemories.{nodes_fit, client_fit}
use Rattle.calls.proofs.CallLaws.{passed, held_there, reader_gives_up}
use Rattle.calls.proofs.desks.try_abandon.Goals as goal

pub set_idle-requires : goal.set_idle-requires
set_idle-requires c =
    let t = abandon_passed _ _ (passed c.view.ensures (λ m. abandon_code m c.args.client) c.in_ok-held.ensures.code) in
    client_fit t.0 _ t.1

pub returns-in-Read-clause-leaves : goal.returns-in-Read-clause-leaves
returns-in-Read-clause-leaves c =
    let z = passed c.view.ensures (λ m. abandon_code m c.args.client) c.in_ok-held.ensures.code in
    reader_gives_up _ _ _ _ _ z (sym (held_there c.view.ensures _ c.in_ok-held.ensures.ok).kind ∙ ap kind_number c.in-Read.is) _ c.set_idle.ensures

pub abandon_write-requires-clause-writer : goal.abandon_write-requires-clause-writer
abandon_write-requires-clause-writer c =
    let z = passed c.view.ensures (λ m. abandon_code m c.args.client) c.in_ok-held.ensures.code in
    gives_up _ _ _ _ _ _ (held_there c.view.ensures _ c.in_ok-held.ensures.ok) c.in_default.not-Read z

pub abandon_write-requires-clause-fit : goal.abandon_write-requires-clause-fit
abandon_write-requires-clause-fit c =
    let z = passed c.view.ensures (λ m. abandon_code m c.args.client) c.in_ok-held.ensures.code in
    nodes_fit (abandon_passed _ _ z).0

pub returns-in_default-clause-leaves : goal.returns-in_default-clause-leaves
returns-in_default-clause-leaves c =
    let z = passed c.view.ensures (λ m. abandon_code m c.args.client) c.in_ok-held.ensures.code in
    c.abandon_write.ensures _ _ ∙ abandon_due _ _ _ _ _ _ (held_there c.view.ensures _ c.in_ok-held.ensures.ok) c.in_default.not-Read z
