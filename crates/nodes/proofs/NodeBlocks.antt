-- Laws of a list that is passed in blocks of 64 (`chunks`): the blocks are its items in order, fewer in the last one, and an item passes a test
-- exactly where one of some block does. Leans on the library's iterators and on laws. Assumes nothing.
use Rattle.std.proofs.Common.{◌≡◌, refl, sym, ap, ◌∙◌, subst, Bool, ◌||◌, List, [], ◌∷◌, ◌++◌, ℕ, zero, suc, ◌+◌, ◌*◌, ◌/◌, ◌≤◌, ◌<◌, arith, length, take, drop, min, Bor, append-nil, length-append, length-drop, take-append-drop, take_all, take_at, drop_at, drop_of_length-le, ltb-true, ltb-false}
use mathlib.Core.Bool.{or_assoc}
use native.Mathlib.Nat.{min_comm, min-eq_left}
use lib.Dec.{ltb}
use Rattle.std.specs.Slice.Iter.{chunks_rest, chunks_size, chunks_steps}
use Rattle.std.specs.List.{list_any}
use Rattle.std.specs.Simd.{first_chunks}
use Rattle.std.proofs.lemmas.Iterator.{YieldsList}
use Rattle.std.proofs.lemmas.Iterator.Splits.{YieldsList-from_shown_while}
use Rattle.laws.proofs.TestLaws.{by_test}

module _ {A : Type 0} where
  unfoldable pub blocks : List A → List (List A)
  blocks l = first_chunks 64 ((length l + 63) / 64) l

  blocks_none : (l : List A) → length l ≡ 0 → length (blocks l) ≡ 0
  unfolding blocks
  blocks_none l h = rw h

  -- one block, and what is behind it: none, where the block is shorter
  append_none : (x l : List A) → length l ≡ 0 → x ++ l ≡ x
  append_none x [] h = append-nil x
  append_none x (y ∷ l) h = absurd (omega arith)

  none_of : (l : List A) → length l ≡ 0 → [] ≡ l
  none_of [] h = refl
  none_of (y ∷ l) h = absurd (omega arith)

  module _ (x l : List A) (h : length x ≡ min 64 (length (x ++ l))) where
    short : length (x ++ l) < 64 → length l ≡ 0
    short k = let m : min 64 (length (x ++ l)) ≡ length (x ++ l) = min_comm 64 (length (x ++ l)) ∙ min-eq_left (omega arith) in omega (arith, length-append x l)

    long : 64 ≤ length (x ++ l) → length x ≡ 64
    long k = h ∙ min-eq_left k

    block_count : 0 < length (x ++ l) → (length (x ++ l) + 63) / 64 ≡ suc ((length l + 63) / 64)
    block_count k =
        by_test (ltb (length (x ++ l)) 64)
        (λ e. let z : length l ≡ 0 = short (ltb-true _ _ e) in let n : length (x ++ l) < 64 = ltb-true _ _ e in omega (arith, length-append x l))
        (λ e. let z : length x ≡ 64 = long (ltb-false _ _ e) in omega (arith, length-append x l))

    block_front : take 64 (x ++ l) ≡ x
    block_front =
        by_test (ltb (length (x ++ l)) 64)
        (λ e. let n : length (x ++ l) < 64 = ltb-true _ _ e in take_all 64 (x ++ l) (omega arith) ∙ append_none x l (short n))
        (λ e. take_at x l 64 (long (ltb-false _ _ e)))

    block_behind : drop 64 (x ++ l) ≡ l
    block_behind =
        by_test (ltb (length (x ++ l)) 64)
        (λ e. let n : length (x ++ l) < 64 = ltb-true _ _ e in drop_of_length-le (x ++ l) {i = 64} (omega arith) ∙ none_of l (short n))
        (λ e. drop_at x l 64 (long (ltb-false _ _ e)))

    blocks_more : 0 < length (x ++ l) → blocks (x ++ l) ≡ x ∷ blocks l
    unfolding blocks
    blocks_more k = rw (block_count k, block_front, block_behind)

  pub YieldsList-from_blocks : {s : _} (l : List A) → chunks_rest s ≡ l → chunks_size s ≡ 64 → YieldsList (chunks_steps {A = A}) (λ (y : Bor (List A)). y.now) s (blocks l)
  YieldsList-from_blocks {s} l e f =
      subst (λ (m : List A). YieldsList (chunks_steps {A = A}) (λ (y : Bor (List A)). y.now) s (blocks m)) e
      (YieldsList-from_shown_while (chunks_steps {A = A}) (λ (y : Bor (List A)). y.now) (λ u. blocks (chunks_rest u)) (λ u. chunks_size u ≡ 64)
      (λ u t p g. blocks_none (chunks_rest u) g.1.0)
      (λ u x t p g.
      let r = g.1.0 in
      let w = rw (p, r) at g.1.1 in
      let b = rw r at g.1.2 in
      (g.0 ∙ p, ap blocks r ∙ blocks_more x.now (chunks_rest t) w b))
      s f)

  -- ---- a test
  module _ (q : A → Bool) where
    any_append : (a b : List A) → list_any q (a ++ b) ≡ list_any q a || list_any q b
    any_append [] b = refl
    any_append (x ∷ a) b = ap (λ t. q x || t) (any_append a b) ∙ sym (or_assoc (q x) (list_any q a) (list_any q b))

    any_chunks : (n : ℕ) (l : List A) → length l ≤ n * 64 → list_any (list_any q) (first_chunks 64 n l) ≡ list_any q l
    any_chunks zero [] h = refl
    any_chunks zero (x ∷ l) h = absurd (omega arith)
    any_chunks (suc n) l h =
        ap (λ t. list_any q (take 64 l) || t) (any_chunks n (drop 64 l) (rw length-drop (omega arith)))
        ∙ sym (any_append (take 64 l) (drop 64 l))
        ∙ ap (list_any q) (take-append-drop 64 l)

    pub any_blocks : (l : List A) → list_any (list_any q) (blocks l) ≡ list_any q l
    unfolding blocks
    any_blocks l = any_chunks ((length l + 63) / 64) l (omega arith)
