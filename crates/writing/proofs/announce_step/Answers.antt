-- `writing::announce_step` meets its contract. Assumes nothing.
use Rattle.std.proofs.Common.{rules}
use Rattle.writing.proofs.WriteSteps.{announce_label, announce_refused, announce_done}
use Rattle.writing.proofs.announce_step.Goals as goal

pub returns-in_err-announce : goal.returns-in_err-announce
returns-in_err-announce c = λ t a y.
    let p = c.requires in
    announce_refused t _ a _ y _ _ _ _ _ _ (announce_label p.writer _ c.write_label.ensures p.due) c.announce.ensures p.due _ c.in_err-announce.was c.from_residual.result (search rules)

pub returns : goal.returns
returns c = λ t a y.
    let p = c.requires in
    announce_done t _ a _ y _ _ _ _ _ _ (announce_label p.writer _ c.write_label.ensures p.due) c.announce.ensures p.due c.in_ok-announce.was _ c.advance.ensures
