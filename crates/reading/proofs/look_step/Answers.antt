-- `reading::look_step` meets its contract: what the node's revision and pending writes leave noted, or a refusal. Assumes nothing.
use Rattle.std.proofs.Common.{rules}
use Rattle.reading.proofs.Looking.{look_stuck, look_noted}
use Rattle.reading.proofs.look_step.Goals as goal

pub returns-in_err-revision : goal.returns-in_err-revision
returns-in_err-revision c = λ t a y.
    let p = c.requires in
    look_stuck p.read p.step _ _ c.read_label-label.ensures _ t a y _ c.in_err-revision.ensures c.from_residual.result (search rules)

pub returns : goal.returns
returns c = λ t a y.
    let p = c.requires in
    look_noted p.read p.step _ _ c.read_label-label.ensures _ t a y _ c.in_ok-revision.ensures _ c.note.ensures
