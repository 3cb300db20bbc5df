-- Columns as they arrive, cut into pairs of a mark and a value: `query_of` and `well_marked` by the pairs. Leans on FillLoop and on the
-- definitions of crates/query. Assumes nothing.
use Rattle.std.proofs.Common.{◌≡◌, ℕ, suc, ◌+◌, ◌/◌, ◌%◌, ◌<◌, ◌≤◌, Bool, false, ◌&&◌, List, [], ◌∷◌, map, length, get_or, drop, refl, sym, ap, ◌∙◌, add-one, arith, drop-cons}
use mathlib.Core.Bool.{and-false}
use lib.ListN.{length-map}
use Rattle.std.specs.List.{list_all}
use Rattle.std.specs.Simd.{first_chunks}
use Rattle.query.specs.declared.Column.{Column}
use Rattle.query.specs.Encoding.{column_of, query_of, well_marked}
use Rattle.columns.specs.ColumnContracts.{column_marked}
use Rattle.columns.proofs.FillLoop.{drop_map}

-- the pairs, and what is done with each
abbrev pub pairs : List ℕ → List (List ℕ)
pairs a = first_chunks 2 (length a / 2) a

abbrev pub column_at : List ℕ → Column
column_at p = column_of (get_or p 0 0) (get_or p 1 0)

abbrev pub marked_at : List ℕ → Bool
marked_at p = column_marked (get_or p 0 0) (get_or p 1 0)

halved : (n : ℕ) → suc (suc n) / 2 ≡ suc (n / 2)
halved n = omega arith

pub query_pairs : (a : List ℕ) → query_of a ≡ map column_at (pairs a)
unfolding query_of
query_pairs [] = refl
query_pairs (m ∷ []) = refl
query_pairs (m ∷ v ∷ a) = rw (halved (length a)) (ap (λ q. column_of m v ∷ q) (query_pairs a))

pub marked_pairs : (a : List ℕ) → length a % 2 ≡ 0 → list_all marked_at (pairs a) ≡ well_marked a
unfolding well_marked column_marked
marked_pairs [] h = refl
marked_pairs (m ∷ []) h = absurd (omega arith)
marked_pairs (m ∷ v ∷ a) h = rw (halved (length a)) (ap (λ t. column_marked m v && t) (marked_pairs a (omega arith)))

pub marked_odd : (a : List ℕ) → (length a % 2 ≡ 0 → ⊥) → well_marked a ≡ false
unfolding well_marked
marked_odd [] h = absurd (h refl)
marked_odd (m ∷ []) h = refl
marked_odd (m ∷ v ∷ a) h = rw (marked_odd a (λ e. h (omega arith))) (and-false _)

pub length_pairs : (a : List ℕ) → length (pairs a) ≡ length (query_of a)
length_pairs a = sym (ap length (query_pairs a) ∙ length-map (pairs a) column_at)

-- the column of pair i, and those behind it
pub query_at : (a : List ℕ) (i : ℕ) → i < length (pairs a) → drop i (query_of a) ≡ column_at (get_or (pairs a) i []) ∷ drop (i + 1) (query_of a)
query_at a i h =
    let p : List (List ℕ) = pairs a in
    rw (query_pairs a, add-one)
    (drop_map column_at i p ∙ ap (map column_at) (drop-cons p i [] h) ∙ ap (λ q. column_at (get_or p i []) ∷ q) (sym (drop_map column_at (suc i) p)))

-- a list that is those pairs: the loop over it
module _ (a : List ℕ) (p : List (List ℕ)) (e : p ≡ pairs a) (i : ℕ) where
  pub next_column : (c : Column) → i < length p → c ≡ column_at (get_or p i []) → drop i (query_of a) ≡ c ∷ drop (i + 1) (query_of a)
  next_column c h f = rw f (rw e (query_at a i (rw e at h)))

  pub columns_done : length p ≤ i → length (query_of a) ≤ i
  columns_done h = omega (arith, length_pairs a, ap length e)
