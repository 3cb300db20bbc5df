-- Laws of the place at which the pass over blocks ends: at the block of the first record that passes the test, or behind the last whole block.
-- Leans on the laws of Rows and Search, and on Passing. Assumes nothing.
use Rattle.std.proofs.Common.{◌≡◌, ℕ, suc, ◌+◌, ◌*◌, ◌-◌, ◌/◌, ◌<◌, ◌≤◌, Bool, true, false, cond, ◌||◌, List, [], ◌∷◌, ◌++◌, length, get_or, take, drop, refl, sym, ap, ◌∙◌, arith, length-drop, length-take-le, take_all, take-append-drop}
use Rattle.std.proofs.Math.Nat.{mul-div_cancel, mul_assoc, div-lt_iff_lt-mul, div-add-mod', mod-lt}
use lib.Arith.{digits_div}
use Rattle.lists.specs.Lists.{rows, keep, place}
use Rattle.laws.proofs.RowLaws.{length_rows}
use Rattle.laws.proofs.SearchLaws.{place_here, place_later, place_le}
use Rattle.query.specs.Query.{Record}
use Rattle.rules.specs.Table.{Table}
use Rattle.table.specs.TableContracts.{records_of, some}
use Rattle.table.proofs.TableLists.{place_front, place_behind}
use Rattle.table.proofs.Passing.{Passed, records_append, blocks_rest, chunk_is, chunk_long}

-- ---- where the first record stands that passes the test
module _ (p : Record → Bool) where
  -- none does
  none_place : (t : Table) → keep p t ≡ [] → place p t ≡ length t
  unfolding keep place
  none_place [] e = refl
  none_place (x ∷ t) e = go (p x) e (none_place t)
    where
      go : (b : Bool) → cond b (x ∷ keep p t) (keep p t) ≡ [] → (keep p t ≡ [] → place p t ≡ length t) → cond b 0 (suc (place p t)) ≡ suc (length t)
      go true e f = absurd (let z : ◌≡◌ {A = ℕ} 0 1 = cc in omega arith)
      go false e f = ap suc (f e)

  -- one does
  some_place : (t : Table) → some p t ≡ true → place p t < length t
  unfolding some
  some_place [] e = absurd (let z : ◌≡◌ {A = ℕ} 0 1 = cc in omega arith)
  some_place (x ∷ t) e = go (p x) refl e (some_place t)
    where
      go : (b : Bool) → p x ≡ b → b || some p t ≡ true → (some p t ≡ true → place p t < length t) → place p (x ∷ t) < suc (length t)
      go true g e f = let q : place p (x ∷ t) ≡ 0 = place_here p x t g in omega arith
      go false g e f = let q : place p (x ∷ t) ≡ suc (place p t) = place_later p x t g in omega (arith, f e)

-- ---- n blocks of `size` records were passed
module _ (p : Record → Bool) (k : ℕ) (positive : 0 < k) (size : ℕ) (s : List ℕ) (n at : ℕ) (a : Passed p k (size * k) s n at) where
  abbrev front : List ℕ
  front = take (n * (size * k)) s

  abbrev back : List ℕ
  back = drop (n * (size * k)) s

  many : (v : List ℕ) → length (records_of k v) ≡ length v / k
  unfolding records_of
  many v = length_rows k (length v / k) v

  records_long : (v : List ℕ) (m : ℕ) → length v ≡ m * k → length (records_of k v) ≡ m
  records_long v m l = many v ∙ ap (λ (i : ℕ). i / k) l ∙ mul-div_cancel m positive

  front_records : length (records_of k front) ≡ n * size
  front_records = records_long front (n * size) (length-take-le (n * (size * k)) s (let h = a.within in omega (arith, a.at_is)) ∙ sym (mul_assoc n size k))

  place_after : place p (records_of k s) ≡ n * size + place p (records_of k back)
  place_after =
      ap (place p) (blocks_rest k positive size n s (let h = a.within in omega (arith, a.at_is)))
      ∙ place_behind p (records_of k front) (records_of k back) (none_place p (records_of k front) a.none)
      ∙ ap (λ (m : ℕ). m + place p (records_of k back)) front_records

  -- the first record that passes is in the next block
  ended : place p (records_of k back) < size → take (length s - at) (drop at s) ≡ drop (place p (records_of k s) / size * size * k) s
  ended h =
      let g = a.within in
      let d : place p (records_of k s) / size ≡ n = ap (λ (m : ℕ). m / size) place_after ∙ digits_div n h in
      let e : at ≡ n * size * k = a.at_is ∙ sym (mul_assoc n size k) in
      take_all (length s - at) (drop at s) (rw length-drop (omega arith)) ∙ ap (λ (m : ℕ). drop m s) (e ∙ ap (λ (m : ℕ). m * size * k) (sym d))

  -- the next block, x, has one
  pub skip_found : (x : List ℕ) → (n < length (rows (size * k) (length s / (size * k)) s)) × (x ≡ get_or (rows (size * k) (length s / (size * k)) s) n x)
      → (r : Bool) → r ≡ some p (records_of k x) → r ≡ true → take (length s - at) (drop at s) ≡ drop (place p (records_of k s) / size * size * k) s
  skip_found x t r e f =
      let rest : List ℕ = drop (size * k) back in
      let b : back ≡ x ++ rest = sym (take-append-drop (size * k) back) ∙ ap (λ (v : List ℕ). v ++ rest) (sym (chunk_is (size * k) s n x t)) in
      let l : length x ≡ size * k = chunk_long (size * k) s n x t in
      let m : length (records_of k x) ≡ size = records_long x size l in
      let h : place p (records_of k x) < length (records_of k x) = some_place p (records_of k x) (sym e ∙ f) in
      let q : place p (records_of k back) ≡ place p (records_of k x) =
      ap (λ (v : List ℕ). place p (records_of k v)) b ∙ ap (place p) (records_append k positive size x rest l) ∙ place_front p (records_of k x) (records_of k rest) h in
      ended (omega arith)

  -- no whole block is left
  pub skip_end : 0 < size * k → n ≡ length (rows (size * k) (length s / (size * k)) s) → take (length s - at) (drop at s) ≡ drop (place p (records_of k s) / size * size * k) s
  skip_end w e =
      let i : n ≡ length s / (size * k) = e ∙ length_rows (size * k) (length s / (size * k)) s in
      let m : at ≡ length s / (size * k) * (size * k) = a.at_is ∙ ap (λ (j : ℕ). j * (size * k)) i in
      let h : length s < at + size * k = omega (arith, div-add-mod' (length s) (size * k), mod-lt (length s) w) in
      let l : length back < size * k = rw length-drop (omega (arith, a.at_is)) in
      let d : length back / k < size = (div-lt_iff_lt-mul positive).1 l in
      let c : place p (records_of k back) ≤ length (records_of k back) = place_le p (records_of k back) in
      ended (omega (arith, many back))
