-- `table::delete` meets its contract: for each width, what the pass takes out. Assumes nothing.
use Rattle.std.proofs.Common.{sym, ◌∙◌, arith}
use Rattle.table.proofs.Stretches.{deleted_words}
use Rattle.table.proofs.delete.Goals as goal

pub returns-in-4 : goal.returns-in-4
returns-in-4 c =
    let x = deleted_words _ _ 4 (sym c.width.ensures.is ∙ c.in-4.is) c.requires.columns.1 c.of-test.ensures _ _ _ c.delete_in.ensures.value c.delete_in.ensures.table_after in
    record { value = x.0; table_after = x.1 }

pub returns-in-3 : goal.returns-in-3
returns-in-3 c =
    let x = deleted_words _ _ 3 (sym c.width.ensures.is ∙ c.in-3.is) c.requires.columns.1 c.of-test.ensures _ _ _ c.delete_in-in-3.ensures.value c.delete_in-in-3.ensures.table_after in
    record { value = x.0; table_after = x.1 }

pub returns-in-2 : goal.returns-in-2
returns-in-2 c =
    let x = deleted_words _ _ 2 (sym c.width.ensures.is ∙ c.in-2.is) c.requires.columns.1 c.of-test.ensures _ _ _ c.delete_in-in-2.ensures.value c.delete_in-in-2.ensures.table_after in
    record { value = x.0; table_after = x.1 }

pub returns-in_default : goal.returns-in_default
returns-in_default c =
    let x = deleted_words _ _ 1 (omega (arith, c.width.ensures.is, c.requires.columns.0, c.requires.columns.1)) c.requires.columns.1 c.of-test.ensures _ _ _ c.delete_in-in_default.ensures.value c.delete_in-in_default.ensures.table_after in
    record { value = x.0; table_after = x.1 }
