-- `writing::raise_all` meets its contract. Assumes nothing.
use Rattle.std.proofs.Common.{rules}
use Rattle.writing.proofs.WriteSteps.{left_labels, off_refused, off_done}
use Rattle.writing.proofs.raise_all.Goals as goal

pub returns-in_err-retire : goal.returns-in_err-retire
returns-in_err-retire c = λ t a.
    let labels = left_labels c.requires.writer _ c.write_count-count.ensures.nodes c.requires.late in
    off_refused t _ a _ _ _ _ c.did_change-lift.ensures _ _ _ _ labels c.retire.ensures _ _ c.in_err-retire.was c.from_residual.result (search rules)

pub returns : goal.returns
returns c = λ t a.
    let labels = left_labels c.requires.writer _ c.write_count-count.ensures.nodes c.requires.late in
    off_done t _ a _ _ _ _ c.did_change-lift.ensures _ _ _ _ labels c.retire.ensures _ c.in_ok-retire.was _ _ c.end.ensures.said c.end.ensures.left
