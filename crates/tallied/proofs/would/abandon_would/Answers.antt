-- `tallied::would::abandon_would` meets its contract: by what is under way. Assumes nothing.
use Rattle.std.proofs.Common.{sym, refl, ap, ◌∙◌}
use Rattle.rules.specs.Tally.{count_of}
use Rattle.rules.proofs.PassedChecks.{abandon_passed}
use Rattle.writing.proofs.PassedWrite.{reads_read, gives_up, abandon_due}
use Rattle.hall.specs.Kind.{kind_number}
use Rattle.hall.specs.Memories.{lent}
use Rattle.checks.proofs.SoundMemories.{nodes_fit}
use Rattle.calls.proofs.CallLaws.{reader_gives_up}
use Rattle.tallied.proofs.TalliedLaws.{abandon_raises, reader_left, writer_left}
use Rattle.tallied.proofs.would.abandon_would.Goals as goal

pub returns-in-Read : goal.returns-in-Read
unfolding count_of
returns-in-Read c =
    let f = c.in-Ok.ensures in
    abandon_raises _ _ (reader_gives_up _ _ _ _ _ (sym f.code) (sym f.ok.kind ∙ ap kind_number c.in-Read.is) _ refl) refl (λ x l. reader_left _ _ _ f.ok.kind (ap kind_number c.in-Read.is)) refl

pub abandon_would-requires-clause-writer : goal.abandon_would-requires-clause-writer
abandon_would-requires-clause-writer c = let f = c.in-Ok.ensures in gives_up _ _ _ _ _ _ f.ok c.in_default-kind.not-Read (sym f.code)

pub abandon_would-requires-clause-fit : goal.abandon_would-requires-clause-fit
abandon_would-requires-clause-fit c = nodes_fit (abandon_passed (lent c.args.memories) _ (sym c.in-Ok.ensures.code)).0

pub returns-in_default-kind : goal.returns-in_default-kind
returns-in_default-kind c =
    let f = c.in-Ok.ensures in
    abandon_raises _ _ (abandon_due _ _ _ _ _ _ f.ok c.in_default-kind.not-Read (sym f.code)) refl (λ x l. writer_left _ _ _ f.ok.kind (λ y. c.in_default-kind.not-Read (reads_read _ y))) (c.abandon_would.ensures _ _)
