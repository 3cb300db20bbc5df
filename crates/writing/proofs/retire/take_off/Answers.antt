-- `writing::retire::take_off` meets its contract: a mark can be taken off the next place, and is. Assumes nothing.
use Rattle.std.proofs.Common.{arith}
use Rattle.writing.proofs.Retiring.{taking_none, taking_marked, taking_room, taking_more, taking_all}
use Rattle.writing.proofs.retire.take_off.Goals as goal

pub loop-place-init : goal.loop-place-init
loop-place-init c = taking_none _ _ _ c.requires.fit c.requires.can_take_off

pub retire-requires-clause-fit : goal.retire-requires-clause-fit
retire-requires-clause-fit c =
    let l = c.loop-place in
    (l.invariant.fit, taking_marked _ _ _ _ _ l.invariant (omega arith))

pub retire-requires-clause-i_bound : goal.retire-requires-clause-i_bound
retire-requires-clause-i_bound c = taking_room _ _ _ _ _ c.loop-place.invariant (omega arith)

pub loop-place-preserved : goal.loop-place-preserved
loop-place-preserved c = taking_more _ _ _ _ _ c.loop-place.invariant (omega arith) c.requires.fit _ c.retire.ensures

pub returns : goal.returns
returns c = taking_all _ _ _ _ _ c.loop-place.invariant (omega arith)
