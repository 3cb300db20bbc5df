-- Laws of a list that is passed in chunks of k numbers (`chunks_exact`): the chunks are its entries of k numbers, as many as are whole.
-- Leans on Rows and on the library's iterators. Assumes nothing.
use Rattle.std.proofs.Common.{◌≡◌, ℕ, suc, ◌+◌, ◌/◌, ◌<◌, List, ◌∷◌, ◌++◌, length, get_or, Bor, ap, ◌∙◌, subst, add-one, zero-add, arith, length-append, take_at, drop_at}
use Rattle.std.proofs.Math.Nat.{div-eq_of_lt, add-div_left}
use Rattle.std.specs.Slice.Iter.{chunks_exact_rest, chunks_exact_size, chunks_exact_steps}
use Rattle.std.specs.List.{enumerate_from}
use Rattle.std.proofs.lemmas.Iterator.{YieldsList}
use Rattle.std.proofs.lemmas.List.FromFn.{length-enumerate_from, get_or-enumerate_from}
use Rattle.std.proofs.lemmas.Iterator.Splits.{YieldsList-from_shown_while}
use Rattle.lists.specs.Lists.{rows}
use Rattle.laws.proofs.RowLaws.{length_rows}

module _ (k : ℕ) (positive : 0 < k) where
  -- one chunk before others
  rows_more : (x s : List ℕ) → length x ≡ k → rows k (length (x ++ s) / k) (x ++ s) ≡ x ∷ rows k (length s / k) s
  unfolding rows
  rows_more x s e =
      let n : length (x ++ s) / k ≡ suc (length s / k) = ap (λ (m : ℕ). m / k) (length-append x s ∙ ap (λ (m : ℕ). m + length s) e) ∙ add-div_left (length s) positive ∙ add-one (length s / k) in
      rw (n, take_at x s k e, drop_at x s k e)

  pub YieldsList-from_chunks_exact : {s : _} (xs : List ℕ) → chunks_exact_rest s ≡ xs → chunks_exact_size s ≡ k
      → YieldsList (chunks_exact_steps {A = ℕ}) (λ (y : Bor (List ℕ)). y.now) s (rows k (length xs / k) xs)
  YieldsList-from_chunks_exact {s} xs e f =
      subst (λ (l : List ℕ). YieldsList (chunks_exact_steps {A = ℕ}) (λ (y : Bor (List ℕ)). y.now) s (rows k (length l / k) l)) e
      (YieldsList-from_shown_while (chunks_exact_steps {A = ℕ}) (λ (y : Bor (List ℕ)). y.now) (λ u. rows k (length (chunks_exact_rest u) / k) (chunks_exact_rest u))
      (λ u. chunks_exact_size u ≡ k)
      (λ u t p g. length_rows k _ _ ∙ div-eq_of_lt (subst (λ (m : ℕ). length (chunks_exact_rest u) < m) p g.1.0))
      (λ u x t p g. (g.0 ∙ p, ap (λ (l : List ℕ). rows k (length l / k) l) g.1.0 ∙ rows_more x.now (chunks_exact_rest t) (g.1.1 ∙ p)))
      s f)

-- one turn of a `for` over items that are counted
pub counted_turn : {A : Type 0} (ys : List A) (n i : ℕ) (x : A) → (n < length (enumerate_from 0 ys)) × ((i, x) ≡ get_or (enumerate_from 0 ys) n (i, x))
    → (n < length ys) × (i ≡ n) × (x ≡ get_or ys n x)
counted_turn ys n i x t =
    let h : n < length ys = omega (arith, length-enumerate_from 0 ys) in
    let e = t.1 ∙ get_or-enumerate_from 0 ys n (i, x) h in
    (h, ap (λ p. p.0) e ∙ zero-add n, ap (λ p. p.1) e)
