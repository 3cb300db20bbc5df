-- `tallied::would::step_would` meets its contract: what the step that is due would raise. Assumes nothing.
use Rattle.std.proofs.Common.{sym}
use Rattle.rules.proofs.PassedChecks.{step_passed}
use Rattle.reading.proofs.PassedRead.{reads_on, read_due}
use Rattle.writing.proofs.PassedWrite.{writes_on, write_due}
use Rattle.hall.specs.Memories.{lent}
use Rattle.checks.proofs.SoundMemories.{nodes_fit}
use Rattle.tallied.proofs.TalliedLaws.{step_raises}
use Rattle.tallied.proofs.would.step_would.Goals as goal

pub step_would-requires : goal.step_would-requires
step_would-requires c =
    let f = c.in-Ok.ensures in
    let on = reads_on _ _ _ _ _ f.ok c.in-Read.is _ (sym f.code) in
    record { read = on.read; listed = on.listed; fit = on.fit }

pub returns-in-Read : goal.returns-in-Read
returns-in-Read c =
    let f = c.in-Ok.ensures in
    step_raises _ _ _ (sym (read_due _ _ _ _ _ f.ok c.in-Read.is _ (sym f.code))) (c.step_would.ensures _ _)

pub step_would-requires-in_default-kind-clause-writer : goal.step_would-requires-in_default-kind-clause-writer
step_would-requires-in_default-kind-clause-writer c = let f = c.in-Ok.ensures in writes_on _ _ _ _ _ _ f.ok c.in_default-kind.not-Read _ (sym f.code)

pub step_would-requires-in_default-kind-clause-fit : goal.step_would-requires-in_default-kind-clause-fit
step_would-requires-in_default-kind-clause-fit c = nodes_fit (step_passed (lent c.args.memories) _ _ (sym c.in-Ok.ensures.code)).1.0

pub returns-in_default-kind : goal.returns-in_default-kind
returns-in_default-kind c =
    let f = c.in-Ok.ensures in
    step_raises _ _ _ (write_due _ _ _ _ _ _ f.ok c.in_default-kind.not-Read _ (sym f.code)) (c.step_would-in_default-kind.ensures _ _ _)
