-- `keys::record_key` meets its contract: the marks are all 1, and every value stays. Assumes nothing.
use Rattle.std.proofs.Common.{rules}
use Rattle.columns.proofs.MarkLaws.{record_key_words}
use Rattle.columns.proofs.keys.record_key.Goals as goal

pub returns : goal.returns
returns c =
    let a = c.args in
    rw c.copy_from_slice.ensures.after (record_key_words a.k _ a.values (search rules) c.all_marks.ensures c.requires)
