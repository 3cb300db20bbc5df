-- Laws of a tally by value: one more at a count, and none at its largest. Leans on the rules' Tally. Assumes nothing.
use mathlib.Core.Path.{◌≡◌, refl}
use mathlib.Core.Bool.{false}
use Prim.Native.Nat.{◌+◌}
use native.Mathlib.Nat.{add-zero}
use Rattle.std.specs.Prelude.{Option, None, Some}
use Rattle.laws.proofs.TestLaws.{or_false}
use Rattle.rules.specs.declared.Tally.{Tally}
use Rattle.rules.specs.declared.Count.{Count}
use Rattle.rules.specs.declared.Count.TheVariants.{ReadBegun, FromFile, FromTable, EndedLong, ReadAbandoned}
use Rattle.rules.specs.declared.Count.TheVariants.{WriteBegun, EndedChanged, EndedUnchanged, WriteAbandoned}
use Rattle.tally.specs.TallyContracts.{with_count, some_full}
use Rattle.rules.specs.Tally.{count_in, rank, raises, one, raised, is_full}

module _ (t : Tally) where
  pub raised_is : (c : Count) → with_count t c (count_in t c + 1) ≡ raised t (Some c)
  unfolding count_in raised one raises rank
  raised_is ReadBegun = simp add-zero
  raised_is FromFile = simp add-zero
  raised_is FromTable = simp add-zero
  raised_is EndedLong = simp add-zero
  raised_is ReadAbandoned = simp add-zero
  raised_is WriteBegun = simp add-zero
  raised_is EndedChanged = simp add-zero
  raised_is EndedUnchanged = simp add-zero
  raised_is WriteAbandoned = simp add-zero

  -- where it is not so that some count stands at its largest, the one that is asked for does not, nor does none
  pub none_full : some_full t ≡ false → (c : Option Count) → is_full t c ≡ false
  unfolding some_full is_full
  none_full e =
      let reads_begun = or_false _ _ e in
      let from_file = or_false _ _ reads_begun.1 in
      let from_table = or_false _ _ from_file.1 in
      let ended_long = or_false _ _ from_table.1 in
      let reads_abandoned = or_false _ _ ended_long.1 in
      let writes_begun = or_false _ _ reads_abandoned.1 in
      let ended_changed = or_false _ _ writes_begun.1 in
      let ended_unchanged = or_false _ _ ended_changed.1 in
      let writes_abandoned = or_false _ _ ended_unchanged.1 in
      elim [
        | None ↦ refl
        | Some ReadBegun ↦ reads_begun.0
        | Some FromFile ↦ from_file.0
        | Some FromTable ↦ from_table.0
        | Some EndedLong ↦ ended_long.0
        | Some ReadAbandoned ↦ reads_abandoned.0
        | Some WriteBegun ↦ writes_begun.0
        | Some EndedChanged ↦ ended_changed.0
        | Some EndedUnchanged ↦ ended_unchanged.0
        | Some WriteAbandoned ↦ writes_abandoned.0
      ]
