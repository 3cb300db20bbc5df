-- Laws of the comparisons: std's `==` and a fold of tests in the words of lists, and what `order_of` tells of `same` and `before`.
-- Leans on the library's lists and tests. Assumes nothing.
use Rattle.std.proofs.Common.{◌≡◌, ℕ, ◌+◌, ◌<◌, ◌≤◌, ◌⊎◌, inl, inr, ⊎_elim, refl, sym, ap, ◌∙◌, Bool, true, false, true≢false, ◌&&◌, List, [], ◌∷◌, length, get_or, drop, replicate, cond, eqb, ltb, nat_eq, nat_cmp, fold, Ordering, Less, Equal, Greater, is_lt, is_eq, is_gt, add-one, drop-cons, drop_of_length-le, arith, ltb-true, ltb-false, lt-ltb, le-ltb, eq-eqb, ne_eqb}
use mathlib.Core.Bool.{and_assoc, and-true}
use Rattle.std.specs.Cmp.Lexicographic.{pointwise}
use Rattle.lists.specs.Lists.{same, before}
use Rattle.words.specs.WordContracts.{order_of}

-- ---- std's comparisons
-- `==` of two slices is `same`
pub eq_is_same : (a b : List ℕ) → pointwise nat_eq a b ≡ same a b
unfolding same
eq_is_same [] [] = refl
eq_is_same [] (y ∷ m) = refl
eq_is_same (x ∷ l) [] = refl
eq_is_same (x ∷ l) (y ∷ m) = ap (λ t. eqb x y && t) (eq_is_same l m)

-- a fold of the tests for 0
pub fold_is_zero : (s : List ℕ) (z : Bool) → fold (λ t x. t && eqb x 0) z s ≡ z && same s (replicate (length s) 0)
unfolding same
fold_is_zero [] z = sym (and-true z)
fold_is_zero (x ∷ s) z = fold_is_zero s (z && eqb x 0) ∙ and_assoc z (eqb x 0) _

-- ---- what `order_of` tells, for the callers of `compare`
three : (x y : ℕ) → (x < y) ⊎ ((x ≡ y) ⊎ (y < x))
three x y = go (ltb x y) refl (ltb y x) refl
  where
    go : (p : Bool) → ltb x y ≡ p → (q : Bool) → ltb y x ≡ q → (x < y) ⊎ ((x ≡ y) ⊎ (y < x))
    go true e q f = inl (ltb-true x y e)
    go false e true f = inr (inr (ltb-true y x f))
    go false e false f = inr (inl (omega (arith, ltb-false x y e, ltb-false y x f)))

-- the tests at a first number that is less, the same, more
less : (x y : ℕ) → x < y → (ltb x y ≡ true) × ((eqb x y ≡ false) × (ltb y x ≡ false))
less x y h = (lt-ltb x y h, (ne_eqb x y (λ e. omega arith), le-ltb y x (omega arith)))

alike : (x y : ℕ) → x ≡ y → (ltb x y ≡ false) × ((eqb x y ≡ true) × (ltb y x ≡ false))
alike x y h = (le-ltb x y (omega arith), (eq-eqb x y h, le-ltb y x (omega arith)))

-- number by number: x and y are what stands n numbers on
module _ (a b : List ℕ) (n x y : ℕ) (t : (n < length a) × (n < length b) × (x ≡ get_or a n 0) × (y ≡ get_or b n 0)) where
  step : order_of (drop n a) (drop n b) ≡ cond (ltb x y) Less (cond (ltb y x) Greater (order_of (drop (n + 1) a) (drop (n + 1) b)))
  unfolding order_of
  step = rw (add-one, drop-cons a n 0 t.0, drop-cons b n 0 t.1, ← t.2, ← t.3)

  pub order_before : x < y → Less ≡ order_of (drop n a) (drop n b)
  order_before h = let t = less x y h in rw (step, t.0)

  pub order_after : y < x → Greater ≡ order_of (drop n a) (drop n b)
  order_after h = let t = less y x h in rw (step, t.0, t.1.1)

  pub order_on : y ≤ x → x ≤ y → order_of (drop n a) (drop n b) ≡ order_of (drop (n + 1) a) (drop (n + 1) b)
  order_on h g = let t = alike x y (omega arith) in rw (step, t.0, t.1.1)

-- the same in std's order of two numbers, with x and y as a loop over both lists is handed them: by any default d
module _ (a b : List ℕ) (n x y : ℕ) (t : (n < length a) × (n < length b) × ((d : ℕ) → x ≡ get_or a n d) × ((d : ℕ) → y ≡ get_or b n d)) where
  there : (n < length a) × (n < length b) × (x ≡ get_or a n 0) × (y ≡ get_or b n 0)
  there = (t.0, t.1, t.2 0, t.3 0)

  pub order_differs : (x ≡ y → ⊥) → nat_cmp x y ≡ order_of (drop n a) (drop n b)
  order_differs e =
      ⊎_elim (λ h. let l = less x y h in rw l.0 (order_before a b n x y there h))
      (⊎_elim (λ h. absurd (e h))
      (λ h. let l = less y x h in rw (l.1.1, ne_eqb x y e) (order_after a b n x y there h)))
      (three x y)

  pub order_alike : x ≡ y → order_of (drop n a) (drop n b) ≡ order_of (drop (n + 1) a) (drop (n + 1) b)
  order_alike e = order_on a b n x y there (omega arith) (omega arith)

pub order_end : (a b : List ℕ) (n : ℕ) → length a ≡ length b → length a ≤ n → Equal ≡ order_of (drop n a) (drop n b)
unfolding order_of
order_end a b n e h = let g : length b ≤ n = omega arith in rw (drop_of_length-le a h, drop_of_length-le b g)

-- lists are the same exactly where the order is Equal
pub same_is : (a b : List ℕ) → same a b ≡ is_eq (order_of a b)
unfolding same order_of
same_is [] [] = refl
same_is [] (y ∷ m) = refl
same_is (x ∷ l) [] = refl
same_is (x ∷ l) (y ∷ m) =
    ⊎_elim (λ h. let t = less x y h in rw (t.0, t.1.0))
    (⊎_elim (λ h. let t = alike x y h in rw (t.0, t.1.0, t.1.1) (same_is l m))
    (λ h. let t = less y x h in rw (t.0, t.1.1, ne_eqb x y (λ e. omega arith))))
    (three x y)

-- one is before the other exactly where the order is Less
pub before_is : (a b : List ℕ) → before a b ≡ is_lt (order_of a b)
unfolding before order_of
before_is [] [] = refl
before_is [] (y ∷ m) = refl
before_is (x ∷ l) [] = refl
before_is (x ∷ l) (y ∷ m) =
    ⊎_elim (λ h. let t = less x y h in rw t.0)
    (⊎_elim (λ h. let t = alike x y h in rw (t.0, t.1.0, t.1.1) (before_is l m))
    (λ h. let t = less y x h in rw (t.0, t.1.1, ne_eqb x y (λ e. omega arith))))
    (three x y)

-- and the other way round exactly where it is Greater
pub above_is : (a b : List ℕ) → length a ≡ length b → before b a ≡ is_gt (order_of a b)
unfolding before order_of
above_is [] [] e = refl
above_is [] (y ∷ m) e = absurd (omega arith)
above_is (x ∷ l) [] e = absurd (omega arith)
above_is (x ∷ l) (y ∷ m) e =
    ⊎_elim (λ h. let t = less x y h in rw (t.0, t.1.1, ne_eqb y x (λ e. omega arith)))
    (⊎_elim (λ h. let t = alike x y h in rw (t.0, t.1.1, eq-eqb y x (sym h)) (above_is l m (omega arith)))
    (λ h. let t = less y x h in rw (t.0, t.1.1)))
    (three x y)

-- a test of an answer tells the answer
before_of : (o : Ordering) → is_lt o ≡ true → o ≡ Less
before_of Less e = refl
before_of Equal e = absurd (true≢false (sym e))
before_of Greater e = absurd (true≢false (sym e))

same_of : (o : Ordering) → is_eq o ≡ true → o ≡ Equal
same_of Less e = absurd (true≢false (sym e))
same_of Equal e = refl
same_of Greater e = absurd (true≢false (sym e))

after_of : (o : Ordering) → is_gt o ≡ true → o ≡ Greater
after_of Less e = absurd (true≢false (sym e))
after_of Equal e = absurd (true≢false (sym e))
after_of Greater e = refl

-- exactly if, both ways
module _ (a b : List ℕ) where
  pub to_same : order_of a b ≡ Equal → same a b ≡ true
  to_same e = same_is a b ∙ ap is_eq e

  pub from_same : same a b ≡ true → order_of a b ≡ Equal
  from_same e = same_of (order_of a b) (sym (same_is a b) ∙ e)

  pub to_before : order_of a b ≡ Less → before a b ≡ true
  to_before e = before_is a b ∙ ap is_lt e

  pub from_before : before a b ≡ true → order_of a b ≡ Less
  from_before e = before_of (order_of a b) (sym (before_is a b) ∙ e)

  pub to_above : length a ≡ length b → order_of a b ≡ Greater → before b a ≡ true
  to_above h e = above_is a b h ∙ ap is_gt e

  pub from_above : length a ≡ length b → before b a ≡ true → order_of a b ≡ Greater
  from_above h e = after_of (order_of a b) (sym (above_is a b h) ∙ e)
