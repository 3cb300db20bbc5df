-- Laws on the marks of a query as one number: what the columns of marks and values name, by the marks alone, and the values under them.
-- Leans on KeyLoops and ColumnLoops. Assumes nothing.
use Rattle.std.proofs.Common.{◌≡◌, ℕ, zero, suc, ◌+◌, ◌-◌, ◌*◌, ◌/◌, ◌%◌, ◌^◌, ◌<◌, ◌≤◌, false, eqb, List, [], ◌∷◌, map, length, get_or, take, drop, replicate, length-take-le, ◌++◌, sym, refl, ap, ◌∙◌, pow-suc, arith, pow_pos, pow_mono, eq-eqb, ne_eqb, eqb-true}
use native.Mathlib.Nat.{pow-succ'}
use lib.Arith.{mod-mul}
use Rattle.std.proofs.lemmas.List.{drop-replicate}
use Rattle.lists.specs.Lists.{padded}
use Rattle.query.specs.declared.Column.{Column}
use Rattle.query.specs.declared.Column.TheVariants.{Is, Wildcard}
use Rattle.query.specs.Query.{Query, Record, named, naming, read_count}
use Rattle.query.specs.Encoding.{column_of, column_value, marks, columns_in, key_words, names_all}
use Rattle.columns.specs.KeyContracts.{mark_of}
use Rattle.columns.proofs.ColumnLoops.{names_value, names_wildcard}
use Rattle.laws.proofs.TestLaws.{same_test}
use Rattle.columns.proofs.KeyLoops.{marks_cons}

-- ---- Powers of two
pub power_most : (k : ℕ) → k ≤ 4 → 2 ^ k ≤ 16
power_most k h = pow_mono {i = k} {j = 4} h

pub marks_below : (k m : ℕ) → k ≤ 4 → m < 2 ^ k → m < 16
marks_below k m h l = omega (arith, power_most k h)

-- two to the k as a shift in 32 bits: no bit is shifted out
pub shift_most : (k : ℕ) → k ≤ 4 → 1 * 2 ^ k % 4294967296 ≡ 2 ^ k
shift_most k h = omega (arith, power_most k h)

-- the low bits of a number: the lowest, and those of its half
pub low_half : (m k : ℕ) → m % 2 ^ suc k ≡ m / 2 % 2 ^ k * 2 + m % 2
low_half m k = ap (λ (x : ℕ). m % x) (pow-suc 2 k) ∙ mod-mul m {m = 2 ^ k} {c = 2} (pow_pos k) (omega arith)

-- ---- The columns of marks and values
column_mark : (a v : ℕ) → a < 2 → mark_of (column_of a v) ≡ a
unfolding mark_of column_of
column_mark zero v h = refl
column_mark (suc zero) v h = refl
column_mark (suc (suc a)) v h = absurd (omega arith)

pub marks_in : (k m : ℕ) (vs : List ℕ) → m < 2 ^ k → marks (columns_in k m vs) ≡ m
unfolding columns_in
marks_in zero m vs h = unfold marks in omega arith
marks_in (suc k) m vs h =
    let l : m / 2 < 2 ^ k = omega (arith, pow-succ' 2 k) in
    rw (marks_cons, column_mark (m % 2) (get_or vs 0 0) (omega arith), marks_in k (m / 2) (drop 1 vs) l) (omega arith)

-- marks past the columns say nothing
pub columns_cut : (k m : ℕ) (vs : List ℕ) → columns_in k (m % 2 ^ k) vs ≡ columns_in k m vs
unfolding columns_in
columns_cut zero m vs = refl
columns_cut (suc k) m vs =
    let a : m % 2 ^ suc k % 2 ≡ m % 2 = omega (arith, low_half m k) in
    let b : m % 2 ^ suc k / 2 ≡ m / 2 % 2 ^ k = omega (arith, low_half m k) in
    rw (a, b, columns_cut k (m / 2) (drop 1 vs))

-- ---- How many columns they name
named_cons : (c : Column) (q : Query) → named (c ∷ q) ≡ mark_of c + named q
unfolding named mark_of
named_cons (Is v) q = omega arith
named_cons Wildcard q = omega arith

named_more : (k m : ℕ) (vs : List ℕ) → named (columns_in (suc k) m vs) ≡ m % 2 + named (columns_in k (m / 2) (drop 1 vs))
unfolding columns_in
named_more k m vs = rw (named_cons, column_mark (m % 2) (get_or vs 0 0) (omega arith))

named_none : (n : ℕ) (vs : List ℕ) → named (columns_in n 0 vs) ≡ 0
named_none zero vs = unfold columns_in named in refl
named_none (suc n) vs = rw (named_more n 0 vs, named_none n (drop 1 vs))

-- by the marks alone, in as many columns as hold them or more
named_in : (n k m : ℕ) (vs ws : List ℕ) → k ≤ n → m < 2 ^ k → named (columns_in n m ws) ≡ named (columns_in k m vs)
named_in n zero m vs ws h l =
    let z : m ≡ 0 = omega arith in
    rw (z, named_none n ws, named_none 0 vs)
named_in zero (suc k) m vs ws h l = absurd (omega arith)
named_in (suc n) (suc k) m vs ws h l =
    let b : m / 2 < 2 ^ k = omega (arith, pow-succ' 2 k) in
    rw (named_more n m ws, named_more k m vs, named_in n k (m / 2) (drop 1 vs) (drop 1 ws) (omega arith) b)

-- the looks of a read, by its marks among four columns
unfoldable pub looks_by : ℕ → ℕ
looks_by m = read_count (columns_in 4 m [])

pub looks_in : (k m : ℕ) (vs : List ℕ) → k ≤ 4 → m < 2 ^ k → looks_by m ≡ read_count (columns_in k m vs)
unfolding looks_by read_count
looks_in k m vs h l = rw (named_in 4 k m vs [] h l)

-- one column more, by its mark
module _ (k m v : ℕ) (q : Query) where
  names_more : (a : ℕ) → m % 2 ≡ a → names_all q ≡ eqb (m / 2) (2 ^ k - 1) → names_all (column_of (m % 2) v ∷ q) ≡ eqb m (2 ^ suc k - 1)
  unfolding column_of
  names_more zero e i =
      let n : eqb m (2 ^ suc k - 1) ≡ false = ne_eqb m (2 ^ suc k - 1) (λ x. omega (arith, pow-succ' 2 k, pow_pos k)) in
      rw (e, n) (names_wildcard q)
  names_more (suc zero) e i =
      let n : eqb (m / 2) (2 ^ k - 1) ≡ eqb m (2 ^ suc k - 1) =
      same_test _ _ (λ t. eq-eqb m (2 ^ suc k - 1) (omega (arith, pow-succ' 2 k, pow_pos k, eqb-true (m / 2) (2 ^ k - 1) t)))
      (λ t. eq-eqb (m / 2) (2 ^ k - 1) (omega (arith, pow-succ' 2 k, pow_pos k, eqb-true m (2 ^ suc k - 1) t))) in
      rw e (names_value v q ∙ i ∙ n)
  names_more (suc (suc a)) e i = absurd (omega arith)

pub names_in : (k m : ℕ) (vs : List ℕ) → m < 2 ^ k → names_all (columns_in k m vs) ≡ eqb m (2 ^ k - 1)
unfolding columns_in names_all named
names_in zero m vs h =
    let z : m ≡ 0 = omega arith in
    rw z
names_in (suc k) m vs h =
    let l : m / 2 < 2 ^ k = omega (arith, pow-succ' 2 k) in
    names_more k m (get_or vs 0 0) (columns_in k (m / 2) (drop 1 vs)) (m % 2) refl (names_in k (m / 2) (drop 1 vs) l)

-- ---- The values under marks
pub under_even : (m v : ℕ) → m % 2 ≡ 0 → 0 ≡ column_value (column_of (m % 2) v)
unfolding column_of column_value
under_even m v e = rw e

pub under_odd : (m v : ℕ) → (m % 2 ≡ 0 → ⊥) → v ≡ column_value (column_of (m % 2) v)
unfolding column_of column_value
under_odd m v n = rw (ne_eqb (m % 2) 0 n)

pub four_at : (l : List ℕ) → length l ≡ 4 → get_or l 0 0 ∷ get_or l 1 0 ∷ get_or l 2 0 ∷ get_or l 3 0 ∷ [] ≡ l
four_at [] e = absurd (omega arith)
four_at (a ∷ []) e = absurd (omega arith)
four_at (a ∷ b ∷ []) e = absurd (omega arith)
four_at (a ∷ b ∷ c ∷ []) e = absurd (omega arith)
four_at (a ∷ b ∷ c ∷ d ∷ []) e = refl
four_at (a ∷ b ∷ c ∷ d ∷ f ∷ l) e = absurd (omega arith)

next_at : (vs : List ℕ) (i : ℕ) → get_or (drop 1 vs) i 0 ≡ get_or vs (suc i) 0
next_at [] i = refl
next_at (v ∷ vs) i = refl

module _ (m : ℕ) (vs ys : List ℕ) where
  pub under_four : length ys ≡ 4 → get_or ys 0 0 ≡ column_value (column_of (m % 2) (get_or vs 0 0)) → get_or ys 1 0 ≡ column_value (column_of (m / 2 % 2) (get_or vs 1 0))
      → get_or ys 2 0 ≡ column_value (column_of (m / 4 % 2) (get_or vs 2 0)) → get_or ys 3 0 ≡ column_value (column_of (m / 8 % 2) (get_or vs 3 0))
      → ys ≡ map column_value (columns_in 4 m vs)
  unfolding columns_in
  under_four l e f g h =
      let x : List ℕ = drop 1 vs in
      let y : List ℕ = drop 1 x in
      let a : m / 2 / 2 ≡ m / 4 = omega arith in
      let b : m / 4 / 2 ≡ m / 8 = omega arith in
      rw (next_at vs 0, next_at x 0, next_at vs 1, next_at y 0, next_at x 1, next_at vs 2, a, b, ← e, ← f, ← g, ← h) (sym (four_at ys l))

-- ---- The key of a record: every column is marked
marks_all : (r : Record) → marks (naming r) ≡ 2 ^ length r - 1
unfolding marks naming
marks_all [] = refl
marks_all (v ∷ r) = omega (arith, marks_all r, pow-succ' 2 (length r), pow_pos (length r))

values_all : (r : Record) → map column_value (naming r) ≡ r
unfolding naming column_value
values_all [] = refl
values_all (v ∷ r) = ap (λ (x : Record). v ∷ x) (values_all r)

-- the key of a record as it is made at once
pub record_key_words : (k u : ℕ) (vs : List ℕ) → length vs ≡ 4 → u ≡ 2 ^ k - 1 → k ≤ 4
    → u ∷ (take k vs ++ drop (1 + k - 1) (replicate 6 0)) ≡ key_words (naming (take k vs))
unfolding key_words padded
record_key_words k u vs l e h =
    let r : length (take k vs) ≡ k = length-take-le k vs (omega arith) in
    let d : 1 + k - 1 ≡ k = omega arith in
    rw (marks_all (take k vs), values_all (take k vs), r, e, d, drop-replicate {X = ℕ} k 6 0)

-- and by the values under its marks
record_four : (k a b c d : ℕ) → k ≤ 4
    → let vs : List ℕ = a ∷ b ∷ c ∷ d ∷ [] in
    let held : List ℕ = map column_value (columns_in 4 (2 ^ k - 1) vs) in
    (2 ^ k - 1) ∷ get_or held 0 0 ∷ get_or held 1 0 ∷ get_or held 2 0 ∷ get_or held 3 0 ∷ 0 ∷ 0 ∷ [] ≡ key_words (naming (take k vs))
unfolding columns_in column_of column_value key_words marks naming padded
record_four zero a b c d h = refl
record_four (suc zero) a b c d h = refl
record_four (suc (suc zero)) a b c d h = refl
record_four (suc (suc (suc zero))) a b c d h = refl
record_four (suc (suc (suc (suc zero)))) a b c d h = refl
record_four (suc (suc (suc (suc (suc k))))) a b c d h = absurd (omega arith)

pub record_words : (k u : ℕ) (vs held : List ℕ) → k ≤ 4 → u ≡ 2 ^ k - 1 → length vs ≡ 4 → held ≡ map column_value (columns_in 4 u vs)
    → u ∷ get_or held 0 0 ∷ get_or held 1 0 ∷ get_or held 2 0 ∷ get_or held 3 0 ∷ 0 ∷ 0 ∷ [] ≡ key_words (naming (take k vs))
record_words k u [] held h e l f = absurd (omega arith)
record_words k u (a ∷ []) held h e l f = absurd (omega arith)
record_words k u (a ∷ b ∷ []) held h e l f = absurd (omega arith)
record_words k u (a ∷ b ∷ c ∷ []) held h e l f = absurd (omega arith)
record_words k u (a ∷ b ∷ c ∷ d ∷ []) held h e l f = rw (f, e) (record_four k a b c d h)
record_words k u (a ∷ b ∷ c ∷ d ∷ g ∷ vs) held h e l f = absurd (omega arith)
