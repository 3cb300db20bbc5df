-- `writing::write_step` meets its contract: the table step is due where as many were made as there are nodes. Assumes nothing.
use Rattle.std.proofs.Common.{◌≡◌, arith}
use Rattle.std.proofs.lemmas.Cmp.{ranked}
use Rattle.clients.proofs.HeldLaws.{writer_announcements}
use Rattle.writing.proofs.write_step.Goals as goal

pub write_table_step-requires-clause-due : goal.write_table_step-requires-clause-due
write_table_step-requires-clause-due c =
    let e : c.args.h.steps ≡ c.write_count.result = ranked _ _ _ c.in-Equal.ensures in
    omega (arith, writer_announcements c.requires.writer)
