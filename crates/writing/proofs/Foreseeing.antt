-- Which count of a tally the step that is due of a write, or its abandoning, would raise: by whether the marks can be taken off, and by what the
-- client keeps of its table step. Leans on the rules' Tally, Steps and Calls. Assumes nothing.
use mathlib.Core.Path.{◌≡◌, refl, sym, ◌∙◌}
use mathlib.Core.Bool.{Bool, true, false, cond, true≢false}
use mathlib.Core.List.{List, [], ◌∷◌}
use mathlib.Core.Option.{Option as Maybe, none, some}
use Rattle.std.specs.Prelude.{Option, None, Some, Result, Ok, Err, is_ok}
use Rattle.std.specs.Result.{result_ok}
use Prim.Native.Nat.{ℕ, ◌+◌, ◌-◌, ◌≤◌, ◌<◌}
use native.Mathlib.Omega.{arith}
use lib.Dec.{eqb, ltb}
use lib.ListN.{get_or}
use borrow.Author.Tests.{eq-eqb, ne_eqb, le-ltb}
use Rattle.rules.specs.declared.Outcome.{Outcome}
use Rattle.rules.specs.declared.Outcome.TheVariants.{Accepted, Full, Ended}
use Rattle.rules.specs.declared.Count.{Count}
use Rattle.rules.specs.declared.Count.TheVariants.{WriteAbandoned}
use Rattle.rules.specs.Table.{Change}
use Rattle.rules.specs.Nodes.{Words, Store, announced, retired}
use Rattle.rules.specs.Client.{Client, did_change, found_full}
use Rattle.rules.specs.Memory.{current, Mem, mem, client_in, store_in}
use Rattle.rules.specs.Outcome.{Result as Left, StepResult}
use Rattle.rules.specs.Refusals.{client}
use Rattle.rules.specs.Steps.{announce_result, write_table_result, end_of, raise_result, write_result}
use Rattle.rules.specs.Calls.{announced_labels, labels_left, retire_result}
use Rattle.rules.specs.Tally.{count_of}
use Rattle.rules.proofs.Abandonings.{abandon_before, abandon_past}
use Rattle.clients.specs.ClientContracts.{written_at}
use Rattle.writing.specs.WriteContracts.{step_at, labels_at, count_at, step_of, abandon_of, is_found}

-- what a step's outcome raises
abbrev raises : StepResult → Option Count
raises x = count_of None x.out

-- ---- a write's end
-- it is never accepted alone, so it raises the same whatever that would raise
end_any : (x c : Option Count) (k : Client) → count_of x (end_of k) ≡ count_of c (end_of k)
unfolding end_of count_of
end_any x c k = go (found_full k) (did_change k)
  where
    go : (b e : Bool) → count_of x (cond b Full (Ended e)) ≡ count_of c (cond b Full (Ended e))
    go true e = refl
    go false true = refl
    go false false = refl

-- whether a test went well, by what is left of its result
module _ {A E : Type 0} where
  pub went_not : (r : Result A E) → result_ok r ≡ None → is_ok r ≡ false
  went_not (Ok a) h = cc
  went_not (Err e) h = refl

  pub went_well : (r : Result A E) (a : A) → result_ok r ≡ Some a → is_ok r ≡ true
  went_well (Ok b) a h = refl
  went_well (Err e) a h = cc

-- ---- a step
module _ (m : Mem) (y : List ℕ) (d : ℕ) where
  announce_none : (o : Maybe Store) → None ≡ raises (announce_result m y d o)
  unfolding announce_result count_of
  announce_none none = refl
  announce_none (some s) = refl

  raise_none : (o : Maybe Store) → None ≡ raises (raise_result m y d false o)
  unfolding raise_result count_of
  raise_none none = refl
  raise_none (some s) = refl

  step_none : (a b : Bool) (o p : Maybe Store) (w : Change) → None ≡ raises (cond a (announce_result m y d o) (cond b (write_table_result m y d w) (raise_result m y d false p)))
  unfolding write_table_result count_of
  step_none true b o p w = announce_none o
  step_none false true o p w = refl
  step_none false false o p w = raise_none p

  last_not : (o : Maybe Store) → is_found o ≡ false → None ≡ raises (raise_result m y d true o)
  unfolding raise_result count_of is_found
  last_not none h = refl
  last_not (some s) h = absurd (true≢false h)

  last_well : (o : Maybe Store) → is_found o ≡ true → count_of None (end_of (client m d)) ≡ raises (raise_result m y d true o)
  unfolding raise_result is_found
  last_well none h = absurd (true≢false (sym h))
  last_well (some s) h = refl

-- lift, ps: as the code has them; b: whether it says that the marks can be taken off
module _ (lift must b : Bool) (c : lift ≡ must) (ps qs : List Words) (e : ps ≡ qs) (n : List ℕ) (g : b ≡ is_found (retired current lift ps (store_in current n))) where
  said : {x : Bool} → b ≡ x → is_found (retired current must qs (store_in current n)) ≡ x
  said z = rw (← c, ← e) (sym g ∙ z)

module _ (s n : List ℕ) (d : ℕ) where
  pub going_raises : (step_at s d ≡ count_at s d + count_at s d → ⊥) → (t a y : List ℕ) → None ≡ raises (step_of (mem t n a s) y d)
  unfolding write_result
  going_raises h t a y =
      rw (ne_eqb (step_at s d) (count_at s d + count_at s d) h)
      (step_none (mem t n a s) y d (ltb (step_at s d) (count_at s d)) (eqb (step_at s d) (count_at s d)) (announced (get_or (labels_at s d) (step_at s d) []) (store_in current n))
      (retired current (did_change (client (mem t n a s) d)) (get_or (labels_at s d) (step_at s d - (count_at s d + 1)) [] ∷ []) (store_in current n)) (written_at s d).change)

  -- the last raise
  module _
      (lift b : Bool) (c : lift ≡ did_change (client_in current s d)) (ps : List Words) (e : ps ≡ get_or (labels_at s d) (step_at s d - (count_at s d + 1)) [] ∷ [])
      (g : b ≡ is_found (retired current lift ps (store_in current n))) (l : step_at s d ≡ count_at s d + count_at s d) (p : count_at s d < step_at s d) (t a y : List ℕ) where
    raising : step_of (mem t n a s) y d
        ≡ raise_result (mem t n a s) y d true (retired current (did_change (client_in current s d)) (get_or (labels_at s d) (step_at s d - (count_at s d + 1)) [] ∷ []) (store_in current n))
    unfolding write_result client
    raising = rw (le-ltb (step_at s d) (count_at s d) (omega arith), ne_eqb (step_at s d) (count_at s d) (λ x. omega arith), eq-eqb (step_at s d) (count_at s d + count_at s d) l)

    pub last_refused : b ≡ false → None ≡ raises (step_of (mem t n a s) y d)
    last_refused z = rw raising (last_not (mem t n a s) y d _ (said lift _ b c ps _ e n g z))

    pub last_raises : b ≡ true → (r : Option Count) → r ≡ count_of None (end_of (client_in current s d)) → r ≡ raises (step_of (mem t n a s) y d)
    last_raises z r f = f ∙ unfold client in rw raising (last_well (mem t n a s) y d _ (said lift _ b c ps _ e n g z))

-- ---- an abandoning
abbrev given : Left → Option Count
given x = count_of (Some WriteAbandoned) x.out

module _ (m : Mem) (d : ℕ) (x : Outcome) where
  off_not : (o : Maybe Store) → is_found o ≡ false → None ≡ given (retire_result m d x o)
  unfolding retire_result count_of is_found
  off_not none h = refl
  off_not (some s) h = absurd (true≢false h)

  off_well : (o : Maybe Store) → is_found o ≡ true → count_of (Some WriteAbandoned) x ≡ given (retire_result m d x o)
  unfolding retire_result is_found
  off_well none h = absurd (true≢false (sym h))
  off_well (some s) h = refl

module _ (s n : List ℕ) (d : ℕ) (lift b : Bool) (ps : List Words) (g : b ≡ is_found (retired current lift ps (store_in current n))) where
  -- before the table step
  module _ (c : lift ≡ false) (e : ps ≡ announced_labels (written_at s d) (step_at s d)) (l : step_at s d ≤ count_at s d) (t a : List ℕ) where
    pub back_refused : b ≡ false → None ≡ given (abandon_of (mem t n a s) d)
    back_refused z = rw (abandon_before (mem t n a s) d (written_at s d) (step_at s d) l) (off_not (mem t n a s) d Accepted _ (said lift false b c ps _ e n g z))

    pub back_raises : b ≡ true → Some WriteAbandoned ≡ given (abandon_of (mem t n a s) d)
    unfolding count_of
    back_raises z = rw (abandon_before (mem t n a s) d (written_at s d) (step_at s d) l) (off_well (mem t n a s) d Accepted _ (said lift false b c ps _ e n g z))

  -- after it
  module _ (c : lift ≡ did_change (client_in current s d)) (e : ps ≡ labels_left (written_at s d) (step_at s d)) (l : count_at s d < step_at s d) (t a : List ℕ) where
    left : abandon_of (mem t n a s) d
        ≡ retire_result (mem t n a s) d (end_of (client_in current s d)) (retired current (did_change (client_in current s d)) (labels_left (written_at s d) (step_at s d)) (store_in current n))
    unfolding client
    left = abandon_past (mem t n a s) d (written_at s d) (step_at s d) l

    pub left_refused : b ≡ false → None ≡ given (abandon_of (mem t n a s) d)
    left_refused z = rw left (off_not (mem t n a s) d _ _ (said lift _ b c ps _ e n g z))

    pub left_raises : b ≡ true → (r : Option Count) → r ≡ count_of None (end_of (client_in current s d)) → r ≡ given (abandon_of (mem t n a s) d)
    left_raises z r f = f ∙ end_any None (Some WriteAbandoned) (client_in current s d) ∙ rw left (off_well (mem t n a s) d _ _ (said lift _ b c ps _ e n g z))
