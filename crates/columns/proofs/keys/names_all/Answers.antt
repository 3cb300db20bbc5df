-- `keys::names_all` meets its contract: a query names every column exactly if its k marks are all 1. Assumes nothing.
use Rattle.std.proofs.Common.{sym, rules}
use Rattle.columns.proofs.MarkLaws.{names_in}
use Rattle.columns.proofs.keys.names_all.Goals as goal

pub returns : goal.returns
returns c = λ vs. rw c.all_marks.ensures (sym (names_in _ _ vs (search rules)))
