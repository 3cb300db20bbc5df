-- The numbers of the kinds of work. Leans on the rules (Layout). Definitions only. Assumes nothing.
use Rattle.std.specs.Prelude.{◌≡◌, ◌≢◌, ℕ, Result, MatchResult}
use Rattle.rules.specs.Layout.{reads, inserts, deletes}
use Rattle.hall.specs.declared.kind.Kind.{Kind}
use Rattle.hall.specs.declared.kind.Kind.TheVariants.{Read, Insert, Delete}
use Rattle.hall.specs.declared.kind.UnknownKind.{UnknownKind}

abbrev pub kind_number : Kind → ℕ
kind_number Read = reads
kind_number Insert = inserts
kind_number Delete = deletes

-- the result is the kind with this number, or says that no kind has it
abbrev pub Decodes : ℕ → Result Kind UnknownKind → Type 0
Decodes n r = MatchResult r (λ kind. kind_number kind ≡ n) (λ e. (e.0 ≡ n) × (n ≢ reads) × (n ≢ inserts) × (n ≢ deletes))
