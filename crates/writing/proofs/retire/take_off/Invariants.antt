-- `writing::retire::take_off`. Invariant: what is left to take off leads where all would have led. Assumes nothing.
use Rattle.writing.proofs.Retiring.{Taking}
use Rattle.writing.proofs.retire.take_off.Given as goal

abbrev pub invariant-loop-place : goal.invariant-loop-place
invariant-loop-place l = Taking l.lift l.places l.fn.nodes l.nodes l.place-index
