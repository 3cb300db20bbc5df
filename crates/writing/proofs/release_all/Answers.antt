-- `writing::release_all` meets its contract. Assumes nothing.
use Rattle.std.proofs.Common.{refl, rules}
use Rattle.writing.proofs.WriteSteps.{marked_labels, off_refused, off_done}
use Rattle.writing.proofs.release_all.Goals as goal

pub returns-in_err-retire : goal.returns-in_err-retire
returns-in_err-retire c = λ t a.
    let labels = marked_labels c.requires.writer c.requires.early in
    off_refused t _ a _ _ _ _ refl _ _ _ _ labels c.retire.ensures _ _ c.in_err-retire.was c.from_residual.result (search rules)

pub returns : goal.returns
returns c = λ t a.
    let labels = marked_labels c.requires.writer c.requires.early in
    off_done t _ a _ _ _ _ refl _ _ _ _ labels c.retire.ensures _ c.in_ok-retire.was _ _ refl c.set_idle.ensures
