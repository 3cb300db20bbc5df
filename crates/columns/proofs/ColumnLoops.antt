-- Laws on columns and queries, over plain lists. Leans on FillLoop, on Rows and on the definitions of crates/query. Assumes nothing.
use Rattle.std.proofs.Common.{◌≡◌, ℕ, suc, ◌+◌, ◌-◌, ◌/◌, ◌<◌, ◌≤◌, false, List, [], ◌∷◌, map, length, get_or, take, drop, set, replicate, sym, refl, ap, ◌∙◌, add-one, arith, drop_of_length-le, length-take, drop-cons, get_or-take, take_at, ne_eqb}
use native.Mathlib.Numerals.{add-two}
use lib.Dec.{eqb-suc-suc}
use lib.ListN.{length-map}
use Rattle.lists.specs.Lists.{rows}
use Rattle.laws.proofs.ListLaws.{get_d_map}
use Rattle.laws.proofs.RowLaws.{length_rows}
use Rattle.query.specs.declared.Column.{Column}
use Rattle.query.specs.declared.Column.TheVariants.{Is, Wildcard}
use Rattle.query.specs.Query.{Query, named}
use Rattle.query.specs.Encoding.{column_of, query_of, names_all}
use Rattle.query.proofs.NodeLists.{named_most}
use Rattle.columns.specs.ColumnContracts.{four}
use Rattle.columns.proofs.FillLoop.{Filled, fill_at}

-- ---- The column at a place of the first k
pub at_place : (z : Column) (cols : List Column) (k i : ℕ) → i < k → k ≤ length cols → drop i (take k cols) ≡ get_or cols i z ∷ drop (i + 1) (take k cols)
at_place z cols k i h l =
    let w : i < length (take k cols) = simp length-take (omega arith) in
    rw (add-one, drop-cons (take k cols) i z w, get_or-take k cols i z h)

pub past_all : {A : Type 0} (cols : List A) (k i : ℕ) → k ≤ i → drop i (take k cols) ≡ []
past_all cols k i h =
    let w : length (take k cols) ≤ i = simp length-take (omega arith) in
    drop_of_length-le (take k cols) w

-- ---- All named
pub names_value : (v : ℕ) (q : Query) → names_all (Is v ∷ q) ≡ names_all q
unfolding names_all named
names_value v q = eqb-suc-suc (named q) (length q)

pub names_wildcard : (q : Query) → names_all (Wildcard ∷ q) ≡ false
unfolding names_all named
names_wildcard q = ne_eqb (named q) (suc (length q)) (λ e. omega (arith, named_most q))

-- ---- A query as it arrives
module _ (a : List ℕ) (i : ℕ) (h : i < length a) (o : i + 1 ≡ length a → ⊥) where
  pub two_more : drop i a ≡ get_or a i 0 ∷ get_or a (i + 1) 0 ∷ drop (i + 2) a
  two_more =
      let w : suc i < length a = omega arith in
      rw (add-one, add-two, drop-cons a i 0 h, drop-cons a (suc i) 0 w)

-- pair by pair
abbrev pub pair_column : List ℕ → Column
pair_column p = column_of (get_or p 0 0) (get_or p 1 0)

pub pairs_query : (a : List ℕ) → map pair_column (rows 2 (length a / 2) a) ≡ query_of a
unfolding query_of rows
pairs_query [] = refl
pairs_query (x ∷ []) = refl
pairs_query (x ∷ y ∷ a) =
    let e : suc (suc (length a)) / 2 ≡ suc (length a / 2) = omega arith in
    rw (e, pairs_query a)

pub length_query : (a : List ℕ) → length (query_of a) ≡ length a / 2
length_query a = ap length (sym (pairs_query a)) ∙ length-map (rows 2 (length a / 2) a) pair_column ∙ length_rows 2 (length a / 2) a

-- one pair more
pub pair_more : (a : List ℕ) (cols : Query) (n i : ℕ) (p : List ℕ) (col : Column) → Filled 4 Wildcard (query_of a) n cols
    → (n < length (rows 2 (length a / 2) a)) × (i ≡ n) × (p ≡ get_or (rows 2 (length a / 2) a) n p) → col ≡ pair_column p → length a ≤ 8 → Filled 4 Wildcard (query_of a) (n + 1) (set cols i col)
pair_more a cols n i p col f t e h =
    let l : n < length a / 2 = omega (arith, length_rows 2 (length a / 2) a) in
    let x : col ≡ get_or (query_of a) n col =
    e ∙ ap pair_column t.2 ∙ sym (get_d_map pair_column (rows 2 (length a / 2) a) n col p t.0) ∙ ap (λ (q : Query). get_or q n col) (pairs_query a) in
    rw t.1 (fill_at 4 Wildcard (query_of a) n cols col f (omega (arith, length_query a)) x (omega arith))

-- fewer than two numbers hold no column
pub none_left : (a : List ℕ) → length a < 2 → query_of a ≡ []
unfolding query_of
none_left [] h = refl
none_left (x ∷ []) h = refl
none_left (x ∷ y ∷ a) h = absurd (omega arith)

-- ---- For callers: from the four columns back to the query
pub four_back : (k : ℕ) (q : Query) → length q ≡ k → take k (four q) ≡ q
unfolding four
four_back k q e = take_at q (replicate (4 - length q) Wildcard) k e
