-- An array that is filled from the front: the first i of q, and z behind them. Every loop here that makes an array has one
-- turn law (`fill_more`) and one end law (`fill_all`) from this file. Leans on the library's lists alone. Assumes nothing.
use Rattle.std.proofs.Common.{◌≡◌, ℕ, zero, suc, ◌+◌, ◌-◌, ◌<◌, ◌≤◌, List, [], ◌∷◌, ◌++◌, map, length, get_or, take, drop, set, replicate, sym, refl, ap, ◌∙◌, append_assoc, add-one, arith, length-drop, length-take-le, take_all, take_at, drop_of_length-le, drop-cons, take-suc}
use native.Mathlib.Nat.{sub-zero}
use lib.Seq.{set_at}

-- the array s of n elements holds the first i of q, and z from there on
pub record Filled {A : Type 0} (n : ℕ) (z : A) (q : List A) (i : ℕ) (s : List A) : Type 0 where
  pub held : s ≡ take i q ++ replicate (n - i) z
  pub within : i ≤ length q

pub drop_map : {A B : Type 0} (f : A → B) (i : ℕ) (l : List A) → drop i (map f l) ≡ map f (drop i l)
drop_map f zero l = refl
drop_map f (suc i) [] = refl
drop_map f (suc i) (x ∷ l) = drop_map f i l

module _ {A : Type 0} where
  -- what stands first behind i elements of q
  pub next_within : (q : List A) (i : ℕ) (x : A) (l : List A) → drop i q ≡ x ∷ l → i < length q
  next_within q i x l e = omega (arith, length-drop i q, ap length e)

  pub next_rest : (q : List A) (i : ℕ) (x : A) (l : List A) → drop i q ≡ x ∷ l → drop (i + 1) q ≡ l
  next_rest q i x l e = let d = drop-cons q i x (next_within q i x l e) in rw add-one (cc)

  next_is : (q : List A) (i : ℕ) (x : A) (l : List A) → drop i q ≡ x ∷ l → get_or q i x ≡ x
  next_is q i x l e = let d = drop-cons q i x (next_within q i x l e) in cc

  pub fill_none : (n : ℕ) (z : A) (q : List A) → Filled n z q 0 (replicate n z)
  fill_none n z q = record { held = rw sub-zero; within = omega arith }

  pub fill_more : (n : ℕ) (z : A) (q : List A) (i : ℕ) (s : List A) (x : A) (l : List A) → Filled n z q i s → drop i q ≡ x ∷ l → i < n
      → Filled n z q (i + 1) (set s i x)
  fill_more n z q i s x l f e h =
      let w : i < length q = next_within q i x l e in
      let d : n - i ≡ suc (n - suc i) = omega arith in
      let t : length (take i q) ≡ i = length-take-le i q (omega arith) in
      record {
        held = rw (add-one, f.held, d, set_at (take i q) z (replicate (n - suc i) z) x i t, take-suc q i x w, next_is q i x l e, append_assoc);
        within = omega arith;
      }

  pub fill_all : (n : ℕ) (z : A) (q : List A) (i : ℕ) (s : List A) → Filled n z q i s → drop i q ≡ [] → s ≡ q ++ replicate (n - length q) z
  fill_all n z q i s f e =
      let j : i ≡ length q = omega (arith, length-drop i q, ap length e, f.within) in
      rw (f.held, j, take_all (length q) q (omega arith))

  -- the same where q is known, and where it ends
  pub fill_at : (n : ℕ) (z : A) (q : List A) (i : ℕ) (s : List A) (x : A) → Filled n z q i s → i < length q → x ≡ get_or q i x → i < n → Filled n z q (i + 1) (set s i x)
  fill_at n z q i s x f w e h = fill_more n z q i s x (drop (suc i) q) f (drop-cons q i x w ∙ ap (λ (y : A). y ∷ drop (suc i) q) (sym e)) h

  pub fill_end : (n : ℕ) (z : A) (q : List A) (i : ℕ) (s : List A) → Filled n z q i s → length q ≤ i → s ≡ q ++ replicate (n - length q) z
  fill_end n z q i s f h = fill_all n z q i s f (drop_of_length-le q h)

  -- and of the array what is q's
  pub fill_front : (n : ℕ) (z : A) (q : List A) (i : ℕ) (s : List A) → Filled n z q i s → (k : ℕ) → length q ≡ k → k ≤ i → take k s ≡ q
  fill_front n z q i s f k e h = ap (take k) (fill_end n z q i s f (omega arith)) ∙ take_at q (replicate (n - length q) z) k e
