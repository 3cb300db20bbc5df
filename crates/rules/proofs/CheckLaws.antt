-- Laws of check words: a node read with what its check tells, and kept. What is read back is what was written, for any numbers; of numbers below
-- 2^32 what is written back is what was there. Leans on Checks and on the laws of halves. Assumes nothing.
use mathlib.Core.Path.{◌≡◌, refl, sym, ap, ◌∙◌}
use mathlib.Core.Bool.{false, ◌&&◌}
use mathlib.Core.List.{List, ◌∷◌}
use Prim.Native.Nat.{ℕ, ◌+◌, ◌*◌, ◌/◌, ◌%◌, ◌≤◌, ◌<◌}
use native.Mathlib.Omega.{arith}
use lib.Dec.{eqb}
use lib.ListN.{length, get_or, take, drop, set, length-set, length-drop}
use lib.Seq.{set-get_or, get_or-set_same, get_or-set_other, set-set, take-set-lt, length-take-le, get_or-take, get_or-drop}
use borrow.Author.Tests.{eqb-true, eqb-false, eq-eqb, ne_eqb}
use Rattle.lists.specs.Lists.{same, radix, wholes_at, halves_at}
use Rattle.laws.proofs.TestLaws.{by_test, same_test}
use Rattle.laws.proofs.ListLaws.{and_true, and_left, and_right, same_eq, eq_same}
use Rattle.laws.proofs.HalfLaws.{length_wholes_at, length_halves_at, wholes_at_halves_at, halves_at_wholes_at, Below, take_wholes_at, get_or_wholes_at, whole_at}
use Rattle.query.specs.Shape.{wide}
use Rattle.query.specs.Encoding.{label_width}
use Rattle.rules.specs.Layout.{node_width, kept_node, revision_offset}
use Rattle.rules.specs.Nodes.{Words, Node, has_label, label_in, pending, revision}
use Rattle.rules.specs.Checks.{check_of, misfit, labelled, bared, check_for}
use Rattle.rules.specs.Memory.{node_from, node_to}

-- ---- a and 0 change places
module _ (a : ℕ) where
  pub misfit_fits : misfit a a ≡ 0
  unfolding misfit
  misfit_fits = rw (eq-eqb a a refl)

  pub misfit_zero : misfit a 0 ≡ a
  unfolding misfit
  misfit_zero = by_test (eqb 0 a) (λ e. let z : 0 ≡ a = eqb-true 0 a e in rw e z) (λ e. rw e refl)

  pub misfit_not : (c : ℕ) → (c ≡ a → ⊥) → misfit a c ≡ 0 → ⊥
  unfolding misfit
  misfit_not c h e = by_test (eqb c 0)
      (λ f. h (let z : c ≡ 0 = eqb-true c 0 f in z ∙ sym (rw (ne_eqb c a h, f) at e)))
      (λ f. eqb-false c 0 f (rw (ne_eqb c a h, f) at e))

  pub misfit_twice : (c : ℕ) → misfit a (misfit a c) ≡ c
  misfit_twice c = by_test (eqb c a)
      (λ e. let z : c ≡ a = eqb-true c a e in ap (misfit a) (ap (misfit a) z ∙ misfit_fits) ∙ misfit_zero ∙ sym z)
      (λ e. by_test (eqb c 0)
      (λ f. let z : c ≡ 0 = eqb-true c 0 f in ap (misfit a) (ap (misfit a) z ∙ misfit_zero) ∙ misfit_fits ∙ sym z)
      (λ f. ap (misfit a) (stays c e f) ∙ stays c e f))
    where
      stays : (c : ℕ) → eqb c a ≡ false → eqb c 0 ≡ false → misfit a c ≡ c
      stays c e f = unfold misfit in rw (e, f)

-- ---- read back: for any numbers
pub labelled_bared : (n : List ℕ) → 1 ≤ length n → labelled (check_for n) (bared n) ≡ n
unfolding labelled check_for bared
labelled_bared n h =
    let x : ℕ = get_or n 0 0 in
    let co : ℕ = check_of (take label_width (set n 0 (x % radix))) in
    let a : get_or (set n 0 (x % radix)) 0 0 ≡ x % radix = get_or-set_same n 0 (x % radix) 0 (omega arith) in
    let b : x % radix + radix * (x / radix) ≡ x = omega arith in
    rw (a, misfit_twice co (x / radix), b, set-set) (set-get_or n 0 0)

-- written back: its first number is below 2^32
module _ (c : ℕ) (n : List ℕ) (h : 1 ≤ length n) (small : get_or n 0 0 < radix) where
  first_of : get_or (labelled c n) 0 0 ≡ get_or n 0 0 + radix * misfit (check_of (take label_width n)) c
  unfolding labelled
  first_of = get_or-set_same n 0 (get_or n 0 0 + radix * misfit (check_of (take label_width n)) c) 0 (omega arith)

  pub bared_labelled : bared (labelled c n) ≡ n
  unfolding bared labelled
  bared_labelled =
      let d : ℕ = misfit (check_of (take label_width n)) c in
      let a : (get_or n 0 0 + radix * d) % radix ≡ get_or n 0 0 = omega arith in
      let b : get_or (set n 0 (get_or n 0 0 + radix * d)) 0 0 ≡ get_or n 0 0 + radix * d = get_or-set_same n 0 (get_or n 0 0 + radix * d) 0 (omega arith) in
      rw (b, a, set-set) (set-get_or n 0 0)

  pub check_labelled : check_for (labelled c n) ≡ c
  unfolding check_for
  check_labelled =
      let d : ℕ = misfit (check_of (take label_width n)) c in
      let a : (get_or n 0 0 + radix * d) / radix ≡ d = omega arith in
      rw (bared_labelled, first_of, a) (misfit_twice (check_of (take label_width n)) c)

-- ---- a node in the wide form: its check, then its nine numbers
pub node_back : (n : Node) → length n ≡ node_width → node_from (node_to n) ≡ n
unfolding node_from node_to
node_back n h =
    let l : length (bared n) ≡ node_width = bared_length n h in
    rw (wholes_at_halves_at revision_offset 1 (bared n) (omega arith)) (labelled_bared n (omega arith))
  where
    bared_length : (n : List ℕ) → length n ≡ node_width → length (bared n) ≡ node_width
    bared_length n h = unfold bared in length-set n 0 (get_or n 0 0 % radix) ∙ h

pub length_bared : (n : List ℕ) → length (bared n) ≡ length n
unfolding bared
length_bared n = length-set n 0 (get_or n 0 0 % radix)

pub length_labelled : (c : ℕ) (n : List ℕ) → length (labelled c n) ≡ length n
unfolding labelled
length_labelled c n = length-set n 0 (get_or n 0 0 + radix * misfit (check_of (take label_width n)) c)

pub from_wide : (r : List ℕ) → length r ≡ kept_node wide → length (node_from r) ≡ node_width
unfolding node_from
from_wide r h =
    let d : length (drop 1 r) ≡ node_width + 1 = rw length-drop (omega arith) in
    let a = length_wholes_at revision_offset 1 (drop 1 r) (omega arith) in
    length_labelled (get_or r 0 0) (wholes_at revision_offset 1 (drop 1 r)) ∙ omega arith

pub to_wide : (n : Node) → length n ≡ node_width → length (node_to n) ≡ kept_node wide
unfolding node_to
to_wide n h =
    let b : length (bared n) ≡ length n = length_bared n in
    let a = length_halves_at revision_offset 1 (bared n) (omega arith) in
    omega arith

-- ---- what is kept, read and kept again: numbers below 2^32
module _ (c : ℕ) (r : List ℕ) (wide_r : length r ≡ node_width + 1) (small : get_or r 0 0 < radix) where
  the_node : List ℕ
  the_node = wholes_at revision_offset 1 r

  the_width : length the_node ≡ node_width
  unfolding the_node
  the_width = let a = length_wholes_at revision_offset 1 r (omega arith) in omega arith

  the_first : get_or the_node 0 0 ≡ get_or r 0 0
  unfolding the_node
  the_first = get_or_wholes_at revision_offset 1 r 0 (omega arith) (omega arith)

  the_label : take label_width the_node ≡ take label_width r
  unfolding the_node
  the_label = take_wholes_at revision_offset 1 r 5 (omega arith) (omega arith)

  some_first : get_or the_node 0 0 < radix
  some_first = let a = the_first in omega arith

  some_length : 1 ≤ length the_node
  some_length = let a = the_width in omega arith

  pub row_back : get_or r 6 0 < radix → node_to (node_from (c ∷ r)) ≡ c ∷ r
  unfolding node_to node_from the_node
  row_back low =
      let h : halves_at revision_offset 1 (wholes_at revision_offset 1 r) ≡ r = halves_at_wholes_at revision_offset 1 r (omega arith) (low_half low) in
      rw (check_labelled c the_node some_length some_first, bared_labelled c the_node some_length some_first, h)
    where
      low_half : get_or r 6 0 < radix → Below 1 (drop 6 r)
      low_half low = unfold Below in λ j k. (let z : j ≡ 0 = omega arith in let a : get_or (drop 6 r) (2 * j) 0 ≡ get_or r 6 0 = ap (λ (x : ℕ). get_or (drop 6 r) (2 * x) 0) z ∙ get_or-drop 6 r 0 0 in omega arith)

  pub revision_from : revision (node_from (c ∷ r)) ≡ get_or r 6 0 + radix * get_or r 7 0
  unfolding revision node_from labelled the_node
  revision_from = get_or-set_other the_node 0 6 (get_or the_node 0 0 + radix * misfit (check_of (take label_width the_node)) c) 0 (λ e. omega arith) ∙ whole_at 6 0 r (omega arith)

  pub pending_from : pending (node_from (c ∷ r)) ≡ get_or r 5 0
  unfolding pending node_from labelled the_node
  pending_from = get_or-set_other the_node 0 5 (get_or the_node 0 0 + radix * misfit (check_of (take label_width the_node)) c) 0 (λ e. omega arith) ∙ get_or_wholes_at revision_offset 1 r 5 (omega arith) (omega arith)

  -- the label that is read
  label_from : label_in (node_from (c ∷ r)) ≡ set (take label_width r) 0 (get_or (take label_width r) 0 0 + radix * misfit (check_of (take label_width r)) c)
  unfolding label_in node_from labelled the_node
  label_from =
      let f : get_or the_node 0 0 ≡ get_or (take label_width r) 0 0 = the_first ∙ sym (get_or-take label_width r 0 0 (omega arith)) in
      take-set-lt label_width the_node 0 _ (omega arith) ∙ rw (the_label, f)

-- a label l with a misfit d is the label p exactly if it is p and d is 0
module _ (l p : List ℕ) (d : ℕ) (some : 1 ≤ length l) (small : get_or p 0 0 < radix) where
  pub is_label : set l 0 (get_or l 0 0 + radix * d) ≡ p → (l ≡ p) × (d ≡ 0)
  is_label e =
      let a : get_or l 0 0 + radix * d ≡ get_or p 0 0 = sym (get_or-set_same l 0 (get_or l 0 0 + radix * d) 0 (omega arith)) ∙ ap (λ (t : List ℕ). get_or t 0 0) e in
      let z : d ≡ 0 = omega arith in
      let b : get_or l 0 0 + radix * d ≡ get_or l 0 0 = omega arith in
      (sym (set-get_or l 0 0) ∙ ap (set l 0) (sym b) ∙ e, z)

  pub label_is : l ≡ p → d ≡ 0 → set l 0 (get_or l 0 0 + radix * d) ≡ p
  label_is e z = let b : get_or l 0 0 + radix * d ≡ get_or l 0 0 = omega arith in ap (set l 0) b ∙ set-get_or l 0 0 ∙ e

-- the search's test: the check first, then the label
pub fits_test : (p : Words) (c : ℕ) (r : List ℕ) → get_or p 0 0 < radix → length r ≡ node_width + 1 → get_or r 0 0 < radix
    → has_label p (node_from (c ∷ r)) ≡ eqb c (check_of p) && same (take label_width r) p
unfolding has_label
fits_test p c r sp w sr =
    let l : List ℕ = take label_width r in
    let d : ℕ = misfit (check_of l) c in
    let m : List ℕ = set l 0 (get_or l 0 0 + radix * d) in
    let n : length l ≡ 5 = length-take-le label_width r (omega arith) in
    rw (label_from c r w sr) (same_test (same m p) (eqb c (check_of p) && same l p)
    (λ e. let q = is_label l p d (omega arith) sp (same_eq m p e) in
    and_true _ _ (eq-eqb c (check_of p) (sym (misfit_twice (check_of l) c) ∙ ap (misfit (check_of l)) q.1 ∙ misfit_zero (check_of l) ∙ ap check_of q.0)) (eq_same l p q.0))
    (λ e. let q : l ≡ p = same_eq l p (and_right (eqb c (check_of p)) (same l p) e) in
    let f : c ≡ check_of l = eqb-true c (check_of p) (and_left (eqb c (check_of p)) (same l p) e) ∙ ap check_of (sym q) in
    eq_same m p (label_is l p d (omega arith) sp q (ap (misfit (check_of l)) f ∙ misfit_fits (check_of l)))))
