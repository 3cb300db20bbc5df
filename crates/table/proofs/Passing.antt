-- Laws of a pass over records that stand one after another: what is kept of the records passed, and of one more; and of a pass over blocks of
-- records, what a block adds. Leans on the laws of lists and Rows. Assumes nothing.
use Rattle.std.proofs.Common.{◌≡◌, ℕ, zero, suc, ◌+◌, ◌-◌, ◌*◌, ◌/◌, ◌<◌, ◌≤◌, min, Bool, true, false, cond, ◌||◌, List, [], ◌∷◌, ◌++◌, map, length, get_or, take, drop, Bor, sym, refl, ap, ◌∙◌, add-zero, add-one, zero-add, suc-add, append_assoc, append-nil, arith, length-append, length-drop, length-take-le, take-append-drop, take_all, drop-cons, drop-drop, drop_of_length-le}
use Rattle.std.proofs.Math.Nat.{mul-div_cancel, mul-add-div_right, div-mul-le_self, zero-div, mul-le-mul_left, zero-mul, suc-mul, one-mul, add-mul, mul_assoc}
use Rattle.std.proofs.lemmas.List.{map-append, get_or_default}
use mathlib.Core.Bool.{or-false, or_assoc}
use lib.Dec.{leb}
use lib.Seq.{take-add}
use borrow.Author.Tests.{leb-true, leb-false}
use Rattle.laws.proofs.TestLaws.{by_test}
use mir.Val.{bool_byte}
use Rattle.lists.specs.Lists.{rows, keep}
use Rattle.laws.proofs.ListLaws.{keep_append, keep_snoc, skip_snoc, keep_le}
use Rattle.laws.proofs.RowLaws.{Wide, wide_rows, rows_append, length_rows, get_d_rows, slot}
use Rattle.query.specs.Query.{Record}
use Rattle.rules.specs.Table.{Table}
use Rattle.table.specs.TableContracts.{Block, records_of, some}

-- ---- records that stand one after another
module _ (k : ℕ) (positive : 0 < k) where
  pub whole_records : (n : ℕ) (s : List ℕ) → length s ≡ n * k → records_of k s ≡ rows k n s
  unfolding records_of
  whole_records n s e = let m : length s / k ≡ n = ap (λ (x : ℕ). x / k) e ∙ mul-div_cancel n positive in rw m

  pub records_append : (m : ℕ) (a b : List ℕ) → length a ≡ m * k → records_of k (a ++ b) ≡ records_of k a ++ records_of k b
  unfolding records_of
  records_append m a b e =
      let n : length (a ++ b) / k ≡ m + length b / k = ap (λ (x : ℕ). x / k) (length-append a b ∙ ap (λ (x : ℕ). x + length b) e) ∙ mul-add-div_right positive m (length b) in
      let w : length a / k ≡ m = ap (λ (x : ℕ). x / k) e ∙ mul-div_cancel m positive in
      rw (n, w) (rows_append k m (length b / k) a b e)

-- the first i of them, and m more
pub rows_add : (k i m : ℕ) (s : List ℕ) → rows k (i + m) s ≡ rows k i s ++ rows k m (drop (i * k) s)
unfolding rows
rows_add k zero m s = rw (zero-add, zero-mul)
rows_add k (suc i) m s =
    let e : k + i * k ≡ suc i * k = omega (arith, suc-mul i k) in
    rw suc-add (ap (λ (t : Table). take k s ∷ t) (rows_add k i m (drop k s) ∙ ap (λ (l : List ℕ). rows k i (drop k s) ++ rows k m l) (drop-drop (i * k) k s ∙ ap (λ (n : ℕ). drop n s) e)))

pub keep_add : (p : Record → Bool) (k i m : ℕ) (s : List ℕ) → keep p (rows k (i + m) s) ≡ keep p (rows k i s) ++ keep p (rows k m (drop (i * k) s))
keep_add p k i m s = ap (keep p) (rows_add k i m s) ∙ keep_append p (rows k i s) (rows k m (drop (i * k) s))

-- no number, no record
pub none_of : (k : ℕ) (s : List ℕ) (p : Record → Bool) → length s ≡ 0 → keep p (records_of k s) ≡ []
unfolding records_of rows keep
none_of k s p e = rw (e, zero-div k)

-- two parts, of which the first is a block or all
pub records_split : (k : ℕ) → 0 < k → (size : ℕ) (s : List ℕ) (n : ℕ) → n ≡ min (length s) (size * k) → records_of k s ≡ records_of k (take n s) ++ records_of k (drop n s)
records_split k positive size s n m =
    by_test (leb (length s) n)
    (λ e. let h : length s ≤ n = leb-true (length s) n e in
    rw (take_all n s h, drop_of_length-le s h, nothing k) (sym (append-nil (records_of k s))))
    (λ e. let h : n < length s = leb-false (length s) n e in
    let w : n ≡ size * k = omega arith in
    ap (records_of k) (sym (take-append-drop n s)) ∙ records_append k positive size (take n s) (drop n s) (length-take-le n s (omega arith) ∙ w))
  where
    nothing : (k : ℕ) → records_of k [] ≡ []
    nothing k = unfold records_of rows in rw (zero-div k)

pub wide_records_of : (k : ℕ) (s : List ℕ) → Wide k (records_of k s)
unfolding records_of
wide_records_of k s = wide_rows k (length s / k) s (div-mul-le_self (length s) k)

-- ---- one turn over chunks of k numbers: the chunk is the next k
module _ (k : ℕ) (s : List ℕ) (n : ℕ) (x : List ℕ) (t : (n < length (rows k (length s / k) s)) × (x ≡ get_or (rows k (length s / k) s) n x)) where
  turn_at : n < length s / k
  turn_at = omega (arith, length_rows k (length s / k) s)

  pub chunk_is : x ≡ take k (drop (n * k) s)
  chunk_is = t.1 ∙ get_or_default (rows k (length s / k) s) n x [] t.0 ∙ get_d_rows k (length s / k) s n turn_at

  pub chunk_room : n * k + k ≤ length s
  chunk_room = omega (arith, slot k (length s / k) n turn_at, div-mul-le_self (length s) k)

  pub chunk_long : length x ≡ k
  chunk_long = ap length chunk_is ∙ length-take-le k (drop (n * k) s) (rw length-drop (let r = chunk_room in omega arith))

  pub chunk_next : take ((n + 1) * k) s ≡ take (n * k) s ++ x
  chunk_next = let e : (n + 1) * k ≡ n * k + k = omega (arith, add-mul n 1 k, one-mul k) in rw (e, take-add (n * k) k s, ← chunk_is)

-- ---- the records passed, and one more
-- what a loop over chunks has met
abbrev pub met : List (Bor (List ℕ)) → Table
met ys = map (λ y. y.now) ys

pub met_more : (ys : List (Bor (List ℕ))) (x : Bor (List ℕ)) → met (ys ++ (x ∷ [])) ≡ met ys ++ (x.now ∷ [])
met_more ys x = map-append (λ y. y.now) ys (x ∷ [])

pub records_are : (k : ℕ) (s : List ℕ) → rows k (length s / k) s ≡ records_of k s
unfolding records_of
records_are k s = refl

module _ (p : Record → Bool) where
  pub some_append : (t u : Table) → some p (t ++ u) ≡ some p t || some p u
  unfolding some
  some_append [] u = refl
  some_append (y ∷ t) u = rw (some_append t u) (sym (or_assoc (p y) (some p t) (some p u)))

  pub some_more : (t : Table) (x : Record) (b r : Bool) → b ≡ some p t → r ≡ p x → b || r ≡ some p (t ++ (x ∷ []))
  unfolding some
  some_more t x b r e f = rw (some_append t (x ∷ []), e, f) (ap (λ (c : Bool). some p t || c) (sym (or-false (p x))))

  pub none_kept : (t : Table) → some p t ≡ false → keep p t ≡ []
  unfolding some keep
  none_kept [] e = refl
  none_kept (x ∷ t) e = go (p x) e (none_kept t)
    where
      go : (b : Bool) → b || some p t ≡ false → (some p t ≡ false → keep p t ≡ []) → cond b (x ∷ keep p t) (keep p t) ≡ []
      go true e f = absurd (let z : ◌≡◌ {A = ℕ} 0 1 = cc in omega arith)
      go false e f = f e

  -- a test as a number
  pub kept_more : (t : Table) (x : Record) (r : Bool) (b : ℕ) → r ≡ p x → b ≡ bool_byte r → length (keep p (t ++ (x ∷ []))) ≡ length (keep p t) + b
  kept_more t x true b e f = ap length (keep_snoc p t x (sym e)) ∙ length-append (keep p t) (x ∷ []) ∙ rw f
  kept_more t x false b e f = ap length (skip_snoc p t x (sym e)) ∙ sym (rw f (add-zero _))

  pub kept_few : (t : Table) → length (keep p t) ≤ length t
  kept_few t = keep_le p t

pub bit_most : (r : Bool) (b : ℕ) → b ≡ bool_byte r → b ≤ 1
bit_most true b e = omega arith
bit_most false b e = omega arith

-- ---- passes over blocks
-- as many numbers as a block has
pub block_wide : (size k : ℕ) → Block size → (1 ≤ k) × (k ≤ 4) → (1 ≤ size * k) × (size * k ≤ 64)
block_wide size k a b =
    let x : size * 1 ≤ size * k = mul-le-mul_left size b.0 in
    let y : size * k ≤ size * 4 = mul-le-mul_left size b.1 in
    (omega (arith, a.some), omega (arith, a.few))

-- one block of w numbers more
module _ (k : ℕ) (positive : 0 < k) (size : ℕ) (s : List ℕ) (n : ℕ) (x : List ℕ)
    (t : (n < length (rows (size * k) (length s / (size * k)) s)) × (x ≡ get_or (rows (size * k) (length s / (size * k)) s) n x)) where
  front_long : length (take (n * (size * k)) s) ≡ n * size * k
  front_long = length-take-le (n * (size * k)) s (let r = chunk_room (size * k) s n x t in omega arith) ∙ sym (mul_assoc n size k)

  pub block_more : records_of k (take ((n + 1) * (size * k)) s) ≡ records_of k (take (n * (size * k)) s) ++ records_of k x
  block_more = ap (records_of k) (chunk_next (size * k) s n x t) ∙ records_append k positive (n * size) (take (n * (size * k)) s) x front_long

-- before the first block there is none
pub no_records : (k w : ℕ) (s : List ℕ) → records_of k (take (0 * w) s) ≡ []
unfolding records_of rows
no_records k w s = rw (zero-mul w, zero-div k)

-- behind n blocks of size records
pub blocks_rest : (k : ℕ) → 0 < k → (size n : ℕ) (s : List ℕ) → n * (size * k) ≤ length s → records_of k s ≡ records_of k (take (n * (size * k)) s) ++ records_of k (drop (n * (size * k)) s)
blocks_rest k positive size n s h =
    let l : length (take (n * (size * k)) s) ≡ n * size * k = length-take-le (n * (size * k)) s h ∙ sym (mul_assoc n size k) in
    ap (records_of k) (sym (take-append-drop (n * (size * k)) s)) ∙ records_append k positive (n * size) (take (n * (size * k)) s) (drop (n * (size * k)) s) l

-- the blocks that a pass has gone over, none of whose records passes the test
pub record Passed (p : Record → Bool) (k w : ℕ) (s : List ℕ) (n at : ℕ) : Type 0 where
  pub at_is : at ≡ n * w
  pub within : at ≤ length s
  pub none : keep p (records_of k (take (n * w) s)) ≡ []

pub passed_none : (p : Record → Bool) (k w : ℕ) (s : List ℕ) → Passed p k w s 0 0
unfolding keep
passed_none p k w s = record { at_is = sym (zero-mul w); within = omega arith; none = rw (no_records k w s) }

module _ (p : Record → Bool) (k : ℕ) (positive : 0 < k) (size : ℕ) (s : List ℕ) (n at : ℕ) (a : Passed p k (size * k) s n at) where
  pub passed_more : (x : List ℕ) → (n < length (rows (size * k) (length s / (size * k)) s)) × (x ≡ get_or (rows (size * k) (length s / (size * k)) s) n x)
      → (r : Bool) → r ≡ some p (records_of k x) → r ≡ false → Passed p k (size * k) s (n + 1) (at + size * k)
  passed_more x t r e f =
      let c = chunk_room (size * k) s n x t in
      let g : keep p (records_of k x) ≡ [] = none_kept p (records_of k x) (sym e ∙ f) in
      record {
        at_is = omega (arith, add-mul n 1 (size * k), one-mul (size * k), a.at_is);
        within = omega (arith, a.at_is);
        none = ap (keep p) (block_more k positive size s n x t) ∙ keep_append p _ (records_of k x) ∙ rw (a.none, g);
      }

  -- what is kept stands behind the blocks
  pub passed_rest : keep p (records_of k (take (length s - at) (drop at s))) ≡ keep p (records_of k s)
  passed_rest =
      let h = a.within in
      let d : take (length s - at) (drop at s) ≡ drop at s = take_all (length s - at) (drop at s) (rw length-drop (omega arith)) in
      let e : n * (size * k) ≤ length s = omega (arith, a.at_is) in
      rw (d, a.at_is) (sym (ap (keep p) (blocks_rest k positive size n s e) ∙ keep_append p _ (records_of k (drop (n * (size * k)) s)) ∙ rw a.none))

-- all chunks, where those met and the next are known
pub met_split : (all : Table) (ys : List (Bor (List ℕ))) (x : Record) → met ys ≡ take (length ys) all → (length ys < length all) × (x ≡ get_or all (length ys) x)
    → all ≡ (met ys ++ (x ∷ [])) ++ drop (length ys + 1) all
met_split all ys x e t =
    let d : drop (length ys) all ≡ x ∷ drop (suc (length ys)) all = drop-cons all (length ys) x t.0 ∙ ap (λ (y : Record). y ∷ drop (suc (length ys)) all) (sym t.1) in
    sym (take-append-drop (length ys) all) ∙ rw (← e, d, add-one) (sym (append_assoc (met ys) (x ∷ []) (drop (suc (length ys)) all)))
