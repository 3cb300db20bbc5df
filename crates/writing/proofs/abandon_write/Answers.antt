-- `writing::abandon_write` meets its contract: before the table step its marks are taken back, after it the raises that are left are made.
-- Assumes nothing.
use Rattle.std.proofs.Common.{sym, ◌∙◌, arith}
use Rattle.rules.specs.Refusals.{client}
use Rattle.rules.proofs.Abandonings.{abandon_before, abandon_past}
use Rattle.clients.proofs.HeldLaws.{writer_announcements}
use Rattle.writing.proofs.abandon_write.Goals as goal

pub returns-then-h-write_count : goal.returns-then-h-write_count
returns-then-h-write_count c = λ t a.
    c.release_all.ensures t a ∙ sym (abandon_before _ _ _ _ (omega (arith, writer_announcements c.requires.writer)))

pub returns : goal.returns
returns c = λ t a.
    c.raise_all.ensures t a ∙ unfold client in sym (abandon_past _ _ _ _ (omega (arith, writer_announcements c.requires.writer)))
