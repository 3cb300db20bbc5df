-- Laws of the place of the first that passes a test: in a list with one altered, taken out or added. Leans on the
-- definitions of lists and on the laws of lists and searches. Assumes nothing.
use Rattle.std.proofs.Common.{◌≡◌, refl, sym, ◌∙◌, Bool, true, false, List, [], ◌∷◌, ◌++◌, ℕ, ◌+◌, ◌-◌, ◌≤◌, ◌<◌, arith, length, get_or, set, add-zero, fold, max, ◌||◌}
use lib.Dec.{ltb}
use borrow.Author.Tests.{ltb-true, ltb-false, eq-eqb}
use Rattle.std.specs.List.{position_or_len, list_any}
use Rattle.std.proofs.lemmas.List.Folds.{position_or_len-set, position_or_len_push}
use Rattle.lists.specs.Lists.{place, without}
use Rattle.laws.proofs.ListLaws.{length_without, without_before, without_after}
use Rattle.laws.proofs.SearchLaws.{place_before, place_all}
use Rattle.laws.proofs.WalkLaws.{place_is_position}
use mathlib.Core.Bool.{or-false, or_assoc}
use Rattle.std.proofs.lemmas.Bool.Decides.{nat_tests}

module _ {A : Type 0} (q : A → Bool) where
  -- one altered that passes as before
  pub place_set : (l : List A) (i : ℕ) (x d : A) → q x ≡ q (get_or l i d) → place q (set l i x) ≡ place q l
  place_set l i x d e = place_is_position q (set l i x) ∙ position_or_len-set q l i x d e ∙ sym (place_is_position q l)

  -- one that passes added behind others that do not
  pub place_snoc : (l : List A) (x : A) → place q l ≡ length l → q x ≡ true → place q (l ++ (x ∷ [])) ≡ length l
  place_snoc l x h e =
      let n : position_or_len q l ≡ length l = sym (place_is_position q l) ∙ h in
      place_is_position q (l ++ (x ∷ [])) ∙ position_or_len_push q l x ∙ rw (n, eq-eqb (length l) (length l) refl, e, add-zero) refl

  -- one taken out of some that do not pass
  pub place_without : (l : List A) (i : ℕ) (d : A) → i < length l → place q l ≡ length l → place q (without i l) ≡ length (without i l)
  place_without l i d h e = place_all q (without i l) d (λ j k. go j k (ltb j i) refl)
    where
      go : (j : ℕ) → j < length (without i l) → (b : Bool) → ltb j i ≡ b → q (get_or (without i l) j d) ≡ false
      go j k true f =
          let g : j < i = ltb-true j i f in
          rw (without_before i l j d g (omega arith)) (place_before q l d j (omega arith))
      go j k false f =
          let g : i ≤ j = ltb-false j i f in
          let m : length (without i l) ≡ length l - 1 = length_without i l h in
          rw (without_after i l j d g (omega arith)) (place_before q l d (j + 1) (omega arith))

-- ---- the largest of a and of what f tells of each
above_either : (b x y : ℕ) → ltb b (max x y) ≡ (ltb b x || ltb b y)
above_either b x y = grind (arith, nat_tests)

pub above_largest : {A : Type 0} (f : A → ℕ) (b a : ℕ) (l : List A) → ltb b (fold (λ h x. max h (f x)) a l) ≡ (ltb b a || list_any (λ x. ltb b (f x)) l)
above_largest f b a [] = sym (or-false (ltb b a))
above_largest f b a (x ∷ l) =
    above_largest f b (max a (f x)) l ∙ rw (above_either b a (f x)) (or_assoc (ltb b a) (ltb b (f x)) (list_any (λ y. ltb b (f y)) l))
