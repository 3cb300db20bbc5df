-- `words::compare`. Invariant: the numbers met are the same, so that those behind them decide. Assumes nothing.
use Rattle.std.proofs.Common.{◌≡◌, length, drop}
use Rattle.words.specs.WordContracts.{order_of}
use Rattle.words.proofs.compare.Given as goal

abbrev pub invariant-loop-x : goal.invariant-loop-x
invariant-loop-x l = order_of l.a l.b ≡ order_of (drop (length l.yielded) l.a) (drop (length l.yielded) l.b)
