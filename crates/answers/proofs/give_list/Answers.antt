-- `answers::give_list` meets its contract. Assumes nothing.
use Rattle.answers.proofs.AnswerChanges.{gave_copied, gave_count}
use Rattle.answers.proofs.give_list.Goals as goal

pub returns-then-not-is_count : goal.returns-then-not-is_count
returns-then-not-is_count c = gave_copied _ _ _ _ c.if-not-is_count.ensures c.requires.1.0 c.requires.1.1.0 c.requires.0 c.copy_from_slice.ensures.after

pub returns-else-not-is_count : goal.returns-else-not-is_count
returns-else-not-is_count c = gave_count _ _ _ c.if-not-is_count.ensures
