-- Laws of numbers of 64 bits that are kept in two of 32: what is read back is what was written, and of numbers below 2^32 what is written back is
-- what was there. Leans on the definitions of lists. Assumes nothing.
use mathlib.Core.Path.{◌≡◌, refl, sym, ap, ◌∙◌}
use mathlib.Core.List.{List, [], ◌∷◌, ◌++◌}
use Prim.Native.Nat.{ℕ, zero, suc, ◌+◌, ◌*◌, ◌-◌, ◌/◌, ◌%◌, ◌≤◌, ◌<◌}
use native.Mathlib.Omega.{arith}
use lib.ListN.{length, get_or, take, drop, length-append, length-drop}
use lib.Seq.{length-take-le, take_at, drop_at}
use lib.Seq.{take-append-le, take-take, get_or-take, get_or-drop, get_or-append-add, drop-drop}
use Rattle.lists.specs.Lists.{radix, wholes, halves, wholes_at, halves_at}

pub length_wholes : (n : ℕ) (l : List ℕ) → 2 * n ≤ length l → length (wholes n l) + n ≡ length l
unfolding wholes
length_wholes zero l h = omega arith
length_wholes (suc n) [] h = absurd (omega arith)
length_wholes (suc n) (x ∷ []) h = absurd (omega arith)
length_wholes (suc n) (x ∷ y ∷ l) h = let a = length_wholes n l (omega arith) in omega arith

pub length_halves : (n : ℕ) (l : List ℕ) → n ≤ length l → length (halves n l) ≡ length l + n
unfolding halves
length_halves zero l h = omega arith
length_halves (suc n) [] h = absurd (omega arith)
length_halves (suc n) (x ∷ l) h = let a = length_halves n l (omega arith) in omega arith

join : (x : ℕ) → x % radix + radix * (x / radix) ≡ x
join x = omega arith

pub wholes_halves : (n : ℕ) (l : List ℕ) → n ≤ length l → wholes n (halves n l) ≡ l
unfolding wholes halves
wholes_halves zero l h = refl
wholes_halves (suc n) [] h = absurd (omega arith)
wholes_halves (suc n) (x ∷ l) h = rw (join x) (ap (◌∷◌ x) (wholes_halves n l (omega arith)))

-- the lower halves are below 2^32
unfoldable pub Below : ℕ → List ℕ → Type 0
Below n l = (i : ℕ) → i < n → get_or l (2 * i) 0 < radix

low : (x y : ℕ) → x < radix → (x + radix * y) % radix ≡ x
low x y h = omega arith

high : (x y : ℕ) → x < radix → (x + radix * y) / radix ≡ y
high x y h = omega arith

pub halves_wholes : (n : ℕ) (l : List ℕ) → 2 * n ≤ length l → Below n l → halves n (wholes n l) ≡ l
unfolding wholes halves Below
halves_wholes zero l h b = refl
halves_wholes (suc n) [] h b = absurd (omega arith)
halves_wholes (suc n) (x ∷ []) h b = absurd (omega arith)
halves_wholes (suc n) (x ∷ y ∷ l) h b =
    let c : (i : ℕ) → i < n → get_or l (2 * i) 0 < radix = λ i g. (let e : 2 * suc i ≡ suc (suc (2 * i)) = omega arith in let z = b (suc i) (omega arith) in rw e at z) in
    rw (low x y (b 0 (omega arith)), high x y (b 0 (omega arith))) (ap (λ (m : List ℕ). x ∷ y ∷ m) (halves_wholes n l (omega arith) c))

module _ (a n : ℕ) (e : List ℕ) where
  pub length_wholes_at : a + 2 * n ≤ length e → length (wholes_at a n e) + n ≡ length e
  unfolding wholes_at
  length_wholes_at h =
      let d : length (drop a e) ≡ length e - a = length-drop a e in
      let b = length_wholes n (drop a e) (omega arith) in
      let t : length (take a e) ≡ a = length-take-le a e (omega arith) in
      let l : length (take a e ++ wholes n (drop a e)) ≡ length (take a e) + length (wholes n (drop a e)) = length-append (take a e) (wholes n (drop a e)) in
      omega arith

  pub length_halves_at : a + n ≤ length e → length (halves_at a n e) ≡ length e + n
  unfolding halves_at
  length_halves_at h =
      let d : length (drop a e) ≡ length e - a = length-drop a e in
      let b = length_halves n (drop a e) (omega arith) in
      let t : length (take a e) ≡ a = length-take-le a e (omega arith) in
      let l : length (take a e ++ halves n (drop a e)) ≡ length (take a e) + length (halves n (drop a e)) = length-append (take a e) (halves n (drop a e)) in
      omega arith

  take_drop : take a e ++ drop a e ≡ e
  take_drop = go a e
    where
      go : (a : ℕ) (e : List ℕ) → take a e ++ drop a e ≡ e
      go zero e = refl
      go (suc a) [] = refl
      go (suc a) (x ∷ e) = ap (◌∷◌ x) (go a e)

  pub wholes_at_halves_at : a + n ≤ length e → wholes_at a n (halves_at a n e) ≡ e
  unfolding wholes_at halves_at
  wholes_at_halves_at h =
      let d : length (drop a e) ≡ length e - a = length-drop a e in
      let t : length (take a e) ≡ a = length-take-le a e (omega arith) in
      rw (take_at (take a e) (halves n (drop a e)) a t, drop_at (take a e) (halves n (drop a e)) a t, wholes_halves n (drop a e) (omega arith)) take_drop

  pub halves_at_wholes_at : a + 2 * n ≤ length e → Below n (drop a e) → halves_at a n (wholes_at a n e) ≡ e
  unfolding wholes_at halves_at
  halves_at_wholes_at h b =
      let d : length (drop a e) ≡ length e - a = length-drop a e in
      let t : length (take a e) ≡ a = length-take-le a e (omega arith) in
      rw (take_at (take a e) (wholes n (drop a e)) a t, drop_at (take a e) (wholes n (drop a e)) a t, halves_wholes n (drop a e) (omega arith) b) take_drop

  -- before the halves nothing changes
  pub take_wholes_at : (j : ℕ) → j ≤ a → a ≤ length e → take j (wholes_at a n e) ≡ take j e
  unfolding wholes_at
  take_wholes_at j h k =
      let t : length (take a e) ≡ a = length-take-le a e k in
      take-append-le j (take a e) (wholes n (drop a e)) (omega arith) ∙ take-take j a e h

  pub get_or_wholes_at : (j : ℕ) → j < a → a ≤ length e → get_or (wholes_at a n e) j 0 ≡ get_or e j 0
  get_or_wholes_at j h k = sym (get_or-take a (wholes_at a n e) j 0 h) ∙ ap (λ (t : List ℕ). get_or t j 0) (take_wholes_at a (omega arith) k) ∙ get_or-take a e j 0 h

-- the first of them
pub whole_at : (a n : ℕ) (e : List ℕ) → a ≤ length e → get_or (wholes_at a (suc n) e) a 0 ≡ get_or e a 0 + radix * get_or e (a + 1) 0
unfolding wholes_at wholes
whole_at a n e h =
    let t : length (take a e) ≡ a = length-take-le a e h in
    let x : ℕ = get_or (drop a e) 0 0 + radix * get_or (drop a e) 1 0 in
    let z : a ≡ length (take a e) + 0 = omega arith in
    let y : a + 0 ≡ a = omega arith in
    let p : get_or (drop a e) 0 0 ≡ get_or e a 0 = get_or-drop a e 0 0 ∙ ap (λ (j : ℕ). get_or e j 0) y in
    let q : get_or (drop a e) 1 0 ≡ get_or e (a + 1) 0 = get_or-drop a e 1 0 in
    ap (λ (j : ℕ). get_or (take a e ++ (x ∷ wholes n (drop 2 (drop a e)))) j 0) z
    ∙ get_or-append-add (take a e) (x ∷ wholes n (drop 2 (drop a e))) 0 0
    ∙ (λ k. p k + radix * q k)

-- each of them, and what lies behind
whole_of : (n : ℕ) (l : List ℕ) (j : ℕ) → j < n → get_or (wholes n l) j 0 ≡ get_or l (2 * j) 0 + radix * get_or l (2 * j + 1) 0
unfolding wholes
whole_of zero l j h = absurd (omega arith)
whole_of (suc n) l zero h = refl
whole_of (suc n) l (suc j) h =
    let a : 2 + 2 * j ≡ 2 * suc j = omega arith in
    let b : 2 + (2 * j + 1) ≡ 2 * suc j + 1 = omega arith in
    whole_of n (drop 2 l) j (omega arith) ∙ rw (get_or-drop 2 l (2 * j) 0, get_or-drop 2 l (2 * j + 1) 0, a, b)

drop_wholes : (n : ℕ) (l : List ℕ) → drop n (wholes n l) ≡ drop (2 * n) l
unfolding wholes
drop_wholes zero l = refl
drop_wholes (suc n) l =
    let a : 2 * suc n ≡ 2 + 2 * n = omega arith in
    rw a (drop_wholes n (drop 2 l) ∙ drop-drop (2 * n) 2 l)

pub wholes_at_of : (a n : ℕ) (e : List ℕ) (j : ℕ) → j < n → a ≤ length e → get_or (wholes_at a n e) (a + j) 0 ≡ get_or e (a + 2 * j) 0 + radix * get_or e (a + 2 * j + 1) 0
unfolding wholes_at
wholes_at_of a n e j h k =
    let t : length (take a e) ≡ a = length-take-le a e k in
    let z : a + j ≡ length (take a e) + j = omega arith in
    let y : a + (2 * j + 1) ≡ a + 2 * j + 1 = omega arith in
    ap (λ (i : ℕ). get_or (take a e ++ wholes n (drop a e)) i 0) z
    ∙ get_or-append-add (take a e) (wholes n (drop a e)) j 0
    ∙ whole_of n (drop a e) j h
    ∙ rw (get_or-drop a e (2 * j) 0, get_or-drop a e (2 * j + 1) 0, y)

pub wholes_at_rest : (a n : ℕ) (e : List ℕ) → a ≤ length e → drop (a + n) (wholes_at a n e) ≡ drop (a + 2 * n) e
unfolding wholes_at
wholes_at_rest a n e k =
    let t : length (take a e) ≡ a = length-take-le a e k in
    sym (drop-drop n a (take a e ++ wholes n (drop a e))) ∙ ap (drop n) (drop_at (take a e) (wholes n (drop a e)) a t) ∙ drop_wholes n (drop a e) ∙ drop-drop (2 * n) a e
