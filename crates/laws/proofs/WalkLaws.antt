-- Laws of the library's walks over a list, in the words of lists: the entries of a memory as the library cuts them out, `position`, `any`, and
-- `all` over two lists at once. Leans on the definitions of lists and on the library. Assumes nothing.
use Rattle.std.proofs.Common.{◌≡◌, refl, sym, ap, ◌∙◌, Bool, true, false, cond, ◌||◌, List, [], ◌∷◌, ℕ, zero, suc, ◌+◌, ◌*◌, ◌-◌, ◌/◌, ◌≤◌, ◌<◌, arith, length, get_or, take, drop, length-drop, position, Some, None}
use native.Mathlib.Nat.{mul-div_cancel}
use lib.Dec.{ltb}
use lib.Seq.{length-take-le}
use borrow.Author.Tests.{lt-ltb, ltb-true, ltb-false}
use Rattle.std.specs.List.{list_all, list_any, zip, position_or_len}
use Rattle.std.specs.Simd.{first_chunks}
use Rattle.std.proofs.lemmas.List.Recursion.{is_position_or_len, and_at, and_from_places}
use Rattle.std.proofs.lemmas.Slice.Zip.{length-zip, get_or-zip}
use Rattle.std.proofs.lemmas.Bool.Decides.{nat_tests}
use Rattle.lists.specs.Lists.{header, place, all_below, rows, entries_in}
use Rattle.laws.proofs.TestLaws.{by_test, same_test}
use Rattle.laws.proofs.ListLaws.{all_below_law, below_at}
use Rattle.laws.proofs.RowLaws.{rows_front}
use Rattle.laws.proofs.SearchLaws.{place_le}

-- ---- the entries of a memory
chunks_rows : (w n : ℕ) (s : List ℕ) → first_chunks w n s ≡ rows w n s
unfolding rows
chunks_rows w zero s = refl
chunks_rows w (suc n) s = ap (λ (t : List (List ℕ)). take w s ∷ t) (chunks_rows w n (drop w s))

pub entries_cut : (c w : ℕ) (s : List ℕ) (e : ℕ) → 0 < w → e ≡ header + get_or s c 0 * w → e ≤ length s
    → first_chunks w (length (take (e - header) (drop header s)) / w) (take (e - header) (drop header s)) ≡ entries_in c w s
unfolding entries_in
entries_cut c w s e p h k =
    let n : ℕ = get_or s c 0 in
    let m : e - header ≡ n * w = omega arith in
    let r : n * w ≤ length (drop header s) = rw length-drop (omega arith) in
    let l : length (take (n * w) (drop header s)) ≡ n * w = length-take-le (n * w) (drop header s) r in
    let d : n * w / w ≡ n = mul-div_cancel n p in
    rw (m, l, d, chunks_rows) (rows_front w n (drop header s) r)

-- ---- the first that passes a test
module _ {A : Type 0} (p : A → Bool) where
  pub place_is_position : (l : List A) → place p l ≡ position_or_len p l
  unfolding place
  place_is_position l = is_position_or_len (place p) p refl (λ x m. ap (cond (p x) 0) (omega arith)) l

  -- what `position` finds, and what it doesn't
  pub found : (l : List A) (i : ℕ) → position p l ≡ Some i → (i ≡ place p l) × (i < length l)
  found l i h =
      by_test (ltb (position_or_len p l) (length l))
      (λ e. let z : Some (position_or_len p l) ≡ Some i = rw e at h in
      let k : position_or_len p l ≡ i = cc in
      (sym k ∙ sym (place_is_position l), let m : position_or_len p l < length l = ltb-true _ _ e in omega arith))
      (λ e. let z : None ≡ Some i = rw e at h in cc)

  pub not_found : (l : List A) → position p l ≡ None → place p l ≡ length l
  not_found l h =
      by_test (ltb (position_or_len p l) (length l))
      (λ e. let z : Some (position_or_len p l) ≡ None = rw e at h in cc)
      (λ e. let m : length l ≤ position_or_len p l = ltb-false _ _ e in
      let k : place p l ≡ position_or_len p l = place_is_position l in
      let n : place p l ≤ length l = place_le p l in omega arith)

  -- `any`
  pub any_place : (l : List A) → list_any p l ≡ ltb (place p l) (length l)
  unfolding place
  any_place [] = refl
  any_place (x ∷ l) = go (p x) (any_place l)
    where
      go : (b : Bool) → list_any p l ≡ ltb (place p l) (length l) → b || list_any p l ≡ ltb (cond b 0 (suc (place p l))) (suc (length l))
      go true e = sym (lt-ltb 0 (suc (length l)) (omega arith))
      go false e = e ∙ grind (arith, nat_tests)

-- ---- a test of two lists, place by place
pub all_zip : (t : ℕ × ℕ → Bool) (a b : List ℕ) (p : ℕ → Bool) (n : ℕ) → length a ≡ n → length b ≡ n → ((j : ℕ) → j < n → p j ≡ t (get_or a j 0, get_or b j 0))
    → list_all t (zip a b) ≡ all_below n p
all_zip t a b p n la lb h =
    same_test _ _
    (λ e. all_below_law n p (λ j k. h j k ∙ ap t (sym (get_or-zip a b j (0, 0) (omega arith) (omega arith))) ∙ and_at (list_all t) t refl (λ _ _. refl) (zip a b) j (0, 0) (omega (arith, length-zip a b)) e))
    (λ e. and_from_places (list_all t) t refl (λ _ _. refl) (zip a b) (0, 0) (λ j k. let m : j < n = omega (arith, length-zip a b) in ap t (get_or-zip a b j (0, 0) (omega arith) (omega arith)) ∙ sym (h j m) ∙ below_at n p j e m))
