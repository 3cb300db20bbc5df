-- `calls::desks::try_step` meets its contract: each way out cites what the passed check tells. Assumes nothing.
use Rattle.std.proofs.Common.{sym, ◌∙◌}
use Rattle.rules.specs.Refusals.{step_code}
use Rattle.rules.proofs.PassedChecks.{step_passed}
use Rattle.reading.proofs.PassedRead.{reads_on, read_due}
use Rattle.writing.proofs.PassedWrite.{table_held, writes_on, write_due}
use Rattle.hall.specs.Memories.{lent_mut}
use Rattle.checks.proofs.SoundMemories.{nodes_fit}
use Rattle.calls.proofs.CallLaws.{passed, held_there}
use Rattle.calls.proofs.desks.try_step.Goals as goal

pub read_step-requires : goal.read_step-requires
read_step-requires c =
    let z = passed c.view.ensures (λ m. step_code m c.args.tray.now c.args.client) c.in_ok-held.ensures.code in
    reads_on _ _ _ _ _ (held_there c.view.ensures _ c.in_ok-held.ensures.ok) c.in-Read.is _ z

pub returns-in-Read-clause-leaves : goal.returns-in-Read-clause-leaves
returns-in-Read-clause-leaves c =
    let z = passed c.view.ensures (λ m. step_code m c.args.tray.now c.args.client) c.in_ok-held.ensures.code in
    c.read_step.ensures ∙ sym (read_due _ _ _ _ _ (held_there c.view.ensures _ c.in_ok-held.ensures.ok) c.in-Read.is _ z)

pub write_step-requires-clause-writer : goal.write_step-requires-clause-writer
write_step-requires-clause-writer c =
    let z = passed c.view.ensures (λ m. step_code m c.args.tray.now c.args.client) c.in_ok-held.ensures.code in
    writes_on _ _ _ _ _ _ (held_there c.view.ensures _ c.in_ok-held.ensures.ok) c.in_default.not-Read _ z

pub write_step-requires-clause-fit : goal.write_step-requires-clause-fit
write_step-requires-clause-fit c =
    let z = passed c.view.ensures (λ m. step_code m c.args.tray.now c.args.client) c.in_ok-held.ensures.code in
    nodes_fit (step_passed (lent_mut c.args.memories.now) _ _ z).1.0

pub write_step-requires-clause-fit_2 : goal.write_step-requires-clause-fit_2
write_step-requires-clause-fit_2 c =
    let z = passed c.view.ensures (λ m. step_code m c.args.tray.now c.args.client) c.in_ok-held.ensures.code in
    table_held (lent_mut c.args.memories.now) _ (held_there c.view.ensures _ c.in_ok-held.ensures.ok).columns (step_passed _ _ _ z).1.0

pub returns-in_default-clause-leaves : goal.returns-in_default-clause-leaves
returns-in_default-clause-leaves c =
    let z = passed c.view.ensures (λ m. step_code m c.args.tray.now c.args.client) c.in_ok-held.ensures.code in
    c.write_step.ensures _ _ ∙ write_due _ _ _ _ _ _ (held_there c.view.ensures _ c.in_ok-held.ensures.ok) c.in_default.not-Read _ z
