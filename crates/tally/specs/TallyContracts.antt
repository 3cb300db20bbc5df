-- A tally's counts by their names: one of them with another number, and whether some count stands at its largest: only then is it asked which count a
-- call would raise. Leans on the rules' Tally. Definitions only. Assumes nothing.
use Rattle.std.specs.Prelude.{Bool, [], ◌∷◌, map, ℕ, ◌==◌}
use Rattle.std.specs.List.{list_any}
use Rattle.std.specs.Borrow.{Lends, MutBor, Fml, u32}
use Rattle.rules.specs.contracts.Tally.{the_row}
use Rattle.rules.specs.declared.Tally.{Tally}
use Rattle.rules.specs.declared.Count.{Count}
use Rattle.rules.specs.declared.Count.TheVariants.{ReadBegun, FromFile, FromTable, EndedLong, ReadAbandoned}
use Rattle.rules.specs.declared.Count.TheVariants.{WriteBegun, EndedChanged, EndedUnchanged, WriteAbandoned}
use Rattle.rules.specs.Layout.{max_count}
use Rattle.rules.specs.Tally.{count_in}

-- n at a count, the others as they were
abbrev pub with_count : Tally → Count → ℕ → Tally
with_count t ReadBegun n = record t { reads_begun = n }
with_count t FromFile n = record t { from_file = n }
with_count t FromTable n = record t { from_table = n }
with_count t EndedLong n = record t { ended_long = n }
with_count t ReadAbandoned n = record t { reads_abandoned = n }
with_count t WriteBegun n = record t { writes_begun = n }
with_count t EndedChanged n = record t { ended_changed = n }
with_count t EndedUnchanged n = record t { ended_unchanged = n }
with_count t WriteAbandoned n = record t { writes_abandoned = n }

-- what is written at a lent count stands there when it is given back
abbrev pub LendsCount : MutBor Tally → Count → MutBor ℕ → Fml
LendsCount t c r = Lends the_row u32 t r (with_count t.now c)

unfoldable pub some_full : Tally → Bool
some_full t =
    list_any (λ n. n == max_count)
    (map (count_in t) (ReadBegun ∷ FromFile ∷ FromTable ∷ EndedLong ∷ ReadAbandoned ∷ WriteBegun ∷ EndedChanged ∷ EndedUnchanged ∷ WriteAbandoned ∷ []))
