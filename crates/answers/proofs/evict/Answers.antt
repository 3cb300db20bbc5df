-- `answers::evict` meets its contract. Assumes nothing.
use Rattle.std.proofs.Common.{arith}
use Rattle.answers.proofs.AnswerChanges.{count_removed, evicted}
use Rattle.answers.proofs.evict.Goals as goal

pub overflow_sub-answers : goal.overflow_sub-answers
overflow_sub-answers c = omega (arith, count_removed _ c.requires.0 _ _ _ _ c.remove.ensures c.place.ensures c.end-end.ensures c.requires.1)

pub returns : goal.returns
returns c = evicted _ c.requires.0 _ _ _ _ c.remove.ensures c.place.ensures c.end-end.ensures c.requires.1
