-- `writing::raise_step` meets its contract. Assumes nothing.
use Rattle.std.proofs.Common.{rules}
use Rattle.writing.proofs.WriteSteps.{raise_label, is_last, raise_refused, raise_done}
use Rattle.writing.proofs.raise_step.Goals as goal

pub returns-in_err-retire : goal.returns-in_err-retire
returns-in_err-retire c = λ t a y.
    let p = c.requires in
    let label = raise_label p.writer _ c.write_count-count.ensures.nodes p.due in
    raise_refused t _ a _ y _ _ _ _ _ _ label _ c.did_change-lift.ensures c.retire.ensures p.due _ c.in_err-retire.was c.from_residual.result (search rules)

pub returns : goal.returns
returns c = λ t a y.
    let p = c.requires in
    let label = raise_label p.writer _ c.write_count-count.ensures.nodes p.due in
    let last = is_last p.writer _ c.write_count-count.ensures.nodes in
    raise_done t _ a _ y _ _ _ _ _ _ label _ c.did_change-lift.ensures c.retire.ensures p.due c.in_ok-retire.was _ _ _ last c.after_raise.ensures.said c.after_raise.ensures.left
