-- Laws of a table as a list of records: what is in it, where a search of it ends, and how what a write leaves is reported.
-- Leans on the definitions of lists and rules, and on the laws of lists and records. Assumes nothing.
use mathlib.Core.Path.{◌≡◌, refl, sym, ap, ◌∙◌}
use mathlib.Core.Bool.{Bool, true, false, cond, not, ◌&&◌, ◌||◌, or-true, or_assoc}
use mathlib.Core.List.{List, [], ◌∷◌, ◌++◌}
use Prim.Native.Nat.{ℕ, zero, suc, ◌+◌, ◌-◌, ◌≤◌, ◌<◌}
use native.Mathlib.Nat.{zero-add, suc-add, le_of_suc-le-suc, not-suc-le-zero}
use native.Mathlib.Omega.{arith}
use Rattle.std.proofs.Common.{Option, Some, None}
use lib.Dec.{eqb, leb}
use lib.ListN.{length, get_or}
use borrow.Author.Tests.{eq-eqb, ne_eqb, eqb-true, eqb-false, le-leb, lt-leb, leb-true, leb-false}
use Rattle.lists.specs.Lists.{same, before, keep, place}
use Rattle.laws.proofs.TestLaws.{by_test}
use Rattle.laws.proofs.ListLaws.{keep_le}
use Rattle.laws.proofs.SearchLaws.{place_here, place_later}
use Rattle.query.specs.Query.{Query, Record}
use Rattle.rules.specs.Layout.{max_records, max_list}
use Rattle.rules.specs.Table.{Table, list_of, has, insert, delete, is_full, outside, effect, no_room, changes}
use Rattle.records.proofs.RecordWrites.{length_put, effect_there, effect_full, effect_put}
use Rattle.records.proofs.RecordSets.{two_parts}
use Rattle.table.specs.declared.Inserted.TheVariants.{Added, Present, Full}
use Rattle.table.specs.TableContracts.{up_to, gathered, spot_of, inserted_as, is_added, had_no_room, gone}

-- ---- what is in a table
pub has_append : (r : Record) (a b : Table) → has r (a ++ b) ≡ has r a || has r b
unfolding has
has_append r [] b = refl
has_append r (s ∷ a) b = rw (has_append r a b) (sym (or_assoc (same s r) (has r a) (has r b)))

pub has_snoc : (r : Record) (t : Table) (s : Record) → has r t ≡ false → same s r ≡ false → has r (t ++ (s ∷ [])) ≡ false
unfolding has
has_snoc r t s h e = has_append r t (s ∷ []) ∙ rw (h, e)

pub has_at : (r : Record) (t : Table) (i : ℕ) → i < length t → same (get_or t i []) r ≡ true → has r t ≡ true
unfolding has
has_at r [] i h e = absurd (not-suc-le-zero h)
has_at r (s ∷ t) zero h e = rw e
has_at r (s ∷ t) (suc i) h e = rw (has_at r t i (le_of_suc-le-suc h) e) (or-true (same s r))

-- ---- where a record goes in: a search of two parts
module _ {A : Type 0} (p : A → Bool) where
  pub place_front : (a b : List A) → place p a < length a → place p (a ++ b) ≡ place p a
  place_front [] b h = absurd (not-suc-le-zero h)
  place_front (x ∷ a) b h = go (p x) refl (place_front a b)
    where
      go : (c : Bool) → p x ≡ c → (place p a < length a → place p (a ++ b) ≡ place p a) → place p (x ∷ (a ++ b)) ≡ place p (x ∷ a)
      go true e r = place_here p x (a ++ b) e ∙ sym (place_here p x a e)
      go false e r =
          let q : place p (x ∷ a) ≡ suc (place p a) = place_later p x a e in
          place_later p x (a ++ b) e ∙ ap suc (r (omega arith)) ∙ sym q

  pub place_behind : (a b : List A) → place p a ≡ length a → place p (a ++ b) ≡ length a + place p b
  place_behind [] b h = sym (zero-add (place p b))
  place_behind (x ∷ a) b h = go (p x) refl (place_behind a b)
    where
      go : (c : Bool) → p x ≡ c → (place p a ≡ length a → place p (a ++ b) ≡ length a + place p b) → place p (x ∷ (a ++ b)) ≡ suc (length a) + place p b
      go true e r = absurd (let q : place p (x ∷ a) ≡ 0 = place_here p x a e in omega arith)
      go false e r =
          let q : place p (x ∷ a) ≡ suc (place p a) = place_later p x a e in
          place_later p x (a ++ b) e ∙ ap suc (r (omega arith)) ∙ sym (suc-add (length a) (place p b))

-- ---- what is reported
pub spot_there : (r : Record) (t : Table) → spot_of r t ≡ None → has r t ≡ true
unfolding spot_of
spot_there r t e = go (has r t) e
  where
    go : (c : Bool) → cond c None (Some (place (before r) t)) ≡ None → c ≡ true
    go true e = refl
    go false e = absurd (let z : ◌≡◌ {A = ℕ} 0 1 = cc in omega arith)

pub spot_before : (r : Record) (t : Table) (i : ℕ) → spot_of r t ≡ Some i → (has r t ≡ false) × (i ≡ place (before r) t)
unfolding spot_of
spot_before r t i e = go (has r t) e
  where
    go : (c : Bool) → cond c None (Some (place (before r) t)) ≡ Some i → (c ≡ false) × (i ≡ place (before r) t)
    go true e = absurd (let z : ◌≡◌ {A = ℕ} 0 1 = cc in omega arith)
    go false e = (refl, cc)

module _ (r : Record) (t : Table) where
  pub is_there : has r t ≡ true → spot_of r t ≡ None
  unfolding spot_of
  is_there e = rw e

  pub goes_before : has r t ≡ false → spot_of r t ≡ Some (place (before r) t)
  unfolding spot_of
  goes_before e = rw e

  pub as_present : has r t ≡ true → inserted_as r t ≡ Present
  unfolding inserted_as
  as_present e = rw e

  pub as_full : has r t ≡ false → max_records ≤ length t → inserted_as r t ≡ Full
  unfolding inserted_as
  as_full e h = rw (e, le-leb max_records (length t) h)

  pub as_added : has r t ≡ false → length t < max_records → inserted_as r t ≡ Added
  unfolding inserted_as
  as_added e h = rw (e, lt-leb max_records (length t) h)

  -- "whether the table changed"
  pub added_changes : changes (insert r) t ≡ is_added (inserted_as r t)
  unfolding changes
  added_changes =
      by_test (has r t)
      (λ e. rw (effect_there r t e, as_present e, eq-eqb (length t) (length t) refl))
      (λ e. by_test (leb max_records (length t))
      (λ g. let h : max_records ≤ length t = leb-true max_records (length t) g in
      rw (effect_full r t h, as_full e h, eq-eqb (length t) (length t) refl))
      (λ g. let h : length t < max_records = leb-false max_records (length t) g in
      rw (effect_put r t e h, as_added e h, length_put r t, ne_eqb (suc (length t)) (length t) (λ x. omega arith))))

  -- 13
  pub full_no_room : no_room (insert r) t ≡ had_no_room (inserted_as r t)
  unfolding no_room is_full inserted_as
  full_no_room = go (has r t) (leb max_records (length t))
    where
      go : (a b : Bool) → b && not a ≡ had_no_room (cond a Present (cond b Full Added))
      go true true = refl
      go true false = refl
      go false true = refl
      go false false = refl

module _ (q : Query) (t : Table) where
  pub gone_is : gone q t ≡ length t - length (keep (outside q) t)
  unfolding gone effect
  gone_is = refl

  -- as many records go as lie in the query's subspace
  pub gone_listed : gone q t ≡ length (list_of q t)
  unfolding list_of
  gone_listed = gone_is ∙ (let e = two_parts q t in omega arith)

  -- a delete changed the table exactly if some record went
  pub gone_changes : changes (delete q) t ≡ not (eqb (gone q t) 0)
  unfolding changes gone effect
  gone_changes =
      let h : length (keep (outside q) t) ≤ length t = keep_le (outside q) t in
      by_test (eqb (length (keep (outside q) t)) (length t))
      (λ e. let d : length (keep (outside q) t) ≡ length t = eqb-true _ _ e in
      rw (e, eq-eqb (length t - length (keep (outside q) t)) 0 (omega arith)))
      (λ e. let d : length (keep (outside q) t) ≡ length t → ⊥ = eqb-false _ _ e in
      rw (e, ne_eqb (length t - length (keep (outside q) t)) 0 (λ x. d (omega arith))))

  pub delete_no_room : no_room (delete q) t ≡ false
  unfolding no_room
  delete_no_room = refl

-- how many a read lists, if they are not too many
pub up_to_few : (n : ℕ) → n ≤ max_list → up_to n ≡ Some n
unfolding up_to
up_to_few n h = rw (le-leb n max_list h)

pub up_to_many : (n : ℕ) → max_list < n → up_to n ≡ None
unfolding up_to
up_to_many n h = rw (lt-leb n max_list h)

module _ (l : List Record) where
  pub gathered_few : length l ≤ max_list → gathered l ≡ Some (length l)
  unfolding gathered
  gathered_few h = up_to_few (length l) h

  pub gathered_many : max_list < length l → gathered l ≡ None
  unfolding gathered
  gathered_many h = up_to_many (length l) h

  -- the other way about
  module _ (n : ℕ) (e : Some n ≡ gathered l) where
    pub gathered_some : (length l ≡ n) × (n ≤ max_list)
    gathered_some =
        by_test (leb (length l) max_list)
        (λ t. let h : length l ≤ max_list = leb-true (length l) max_list t in
        let z : Some n ≡ Some (length l) = e ∙ gathered_few h in
        let y : n ≡ length l = cc in
        (sym y, omega arith))
        (λ t. absurd (let z : Some n ≡ None = e ∙ gathered_many (leb-false (length l) max_list t) in let y : ◌≡◌ {A = ℕ} 0 1 = cc in omega arith))

  pub gathered_none : None ≡ gathered l → max_list < length l
  gathered_none e =
      by_test (leb (length l) max_list)
      (λ t. absurd (let z : ◌≡◌ {A = Option ℕ} None (Some (length l)) = e ∙ gathered_few (leb-true (length l) max_list t) in let y : ◌≡◌ {A = ℕ} 0 1 = cc in omega arith))
      (λ t. leb-false (length l) max_list t)
