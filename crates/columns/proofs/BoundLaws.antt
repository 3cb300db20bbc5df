-- Laws of the record test with a range: a number's test by shift and limit is that it lies from the lowest to the highest; so shifts and limits
-- of a query that names no 0 test what the query tests, and with a range laid over a wildcard, the range too, if it has a number above 0. What has
-- not is told first (`finds_none`). Leans on the library's bits and on MaskLaws and ColumnLoops. Assumes nothing.
use Rattle.std.proofs.Common.{◌≡◌, ℕ, zero, suc, ◌+◌, ◌-◌, ◌*◌, ◌%◌, ◌<◌, ◌≤◌, Bool, true, false, ◌&&◌, ◌||◌, eqb, ltb, leb, List, [], ◌∷◌, ◌++◌, map, length, get_or, take, drop, set, replicate, sym, refl, ap, ◌∙◌, true≢false, add-one, arith, length-append, length-set, drop_of_length-le, drop-cons, take_at, drop_at, ltb-false, ltb-true, eq-eqb, eqb-true, le-leb, leb-true}
use mathlib.Core.Bool.{and-true, and_comm}
use lib.Bits.{bit_xor, xor_block, xor_shifted, xor_comm, xor_self, xor_zero_r}
use Rattle.std.specs.List.{list_any}
use lib.Dec.{eqb-suc-zero, leb-zero, leb-suc-zero, leb-suc-suc}
use lib.ListN.{length-map, get_or-append}
use borrow.Author.Tests.{eqb-false}
use Rattle.laws.proofs.ListLaws.{and_left, and_right, get_d_map}
use Rattle.laws.proofs.TestLaws.{by_test, same_test, or_false_l, or_false_r}
use Rattle.query.specs.declared.Column.{Column}
use Rattle.query.specs.declared.Column.TheVariants.{Is, Wildcard}
use Rattle.query.specs.declared.Range.TheVariants.{Between}
use Rattle.query.specs.Query.{Query, Record, is_measured, admits, lies, is_zero, names_zero}
use Rattle.query.specs.Range.{within}
use Rattle.query.specs.Encoding.{column_value}
use Rattle.columns.specs.declared.bounds.Bounds.{Bounds}
use Rattle.columns.specs.ColumnContracts.{four}
use Rattle.columns.specs.BoundContracts.{sign_bit, shift_of, limit_of, width_of, shifts_of, limits_of, first_of, bound_words, bounds_of, bounded_under, finds_none, bounded_by, bounded, NamesWords}
use Rattle.columns.proofs.MaskLaws.{length_four}

-- ---- The highest bit turned over
pub turned : (y : ℕ) → y < 4294967296 → bit_xor y sign_bit ≡ (y + sign_bit) % 4294967296
turned y h = by_test (ltb y sign_bit)
    (λ e. let z = ltb-true y sign_bit e in xor_comm y sign_bit ∙ xor_shifted 1 31 y z ∙ (let w : sign_bit + y ≡ (y + sign_bit) % 4294967296 = omega arith in w))
    (λ e. let z = ltb-false y sign_bit e in
    let a : y ≡ 1 * 2147483648 + (y - sign_bit) = omega arith in
    ap (λ (x : ℕ). bit_xor x sign_bit) a ∙ xor_block 31 1 1 (y - sign_bit) 0 (omega arith) (omega arith)
    ∙ rw (xor_self 1, xor_zero_r (y - sign_bit)) (let w : 0 + (y - sign_bit) ≡ (y + sign_bit) % 4294967296 = omega arith in w))

-- ---- One number: from the lowest, by the width, to the highest
module _ (low width x : ℕ) (small : low + width < 4294967296) (fits : x < 4294967296) where
  -- what is compared: how far x is above the lowest, modulo 2^32, and the width
  shifted : bit_xor ((x + shift_of low) % 4294967296) sign_bit ≡ (x + (4294967296 - low)) % 4294967296
  unfolding shift_of
  shifted = turned ((x + (sign_bit + (4294967296 - low)) % 4294967296) % 4294967296) (omega arith) ∙ (let z : ((x + (sign_bit + (4294967296 - low)) % 4294967296) % 4294967296 + sign_bit) % 4294967296 ≡ (x + (4294967296 - low)) % 4294967296 = omega arith in z)

  limit : bit_xor (limit_of width) sign_bit ≡ width
  unfolding limit_of
  limit =
      let a : bit_xor width sign_bit ≡ (width + sign_bit) % 4294967296 = turned width (omega arith) in
      ap (λ (y : ℕ). bit_xor y sign_bit) a ∙ turned ((width + sign_bit) % 4294967296) (omega arith) ∙ (let z : ((width + sign_bit) % 4294967296 + sign_bit) % 4294967296 ≡ width = omega arith in z)

  pub bounded_by_law : bounded_by (shift_of low) (limit_of width) x ≡ leb low x && leb x (low + width)
  unfolding bounded_by
  bounded_by_law = rw (shifted, limit)
      (same_test _ _
      (λ t. let z = leb-true ((x + (4294967296 - low)) % 4294967296) width t in
      let a : low ≤ x = omega arith in
      rw (le-leb low x a, le-leb x (low + width) (omega arith)))
      (λ t. let a = leb-true low x (and_left (leb low x) _ t) in
      let b = leb-true x (low + width) (and_right (leb low x) _ t) in
      le-leb ((x + (4294967296 - low)) % 4294967296) width (omega arith)))

-- ---- One column
value_bounded : (v x : ℕ) → v < 4294967296 → x < 4294967296 → bounded_by (shift_of v) (limit_of 0) x ≡ eqb v x
value_bounded v x h g =
    bounded_by_law v 0 x (omega arith) g
    ∙ same_test _ _
    (λ t. eq-eqb v x (let a = leb-true v x (and_left (leb v x) _ t) in let b = leb-true x (v + 0) (and_right (leb v x) _ t) in omega arith))
    (λ t. let e = eqb-true v x t in rw (le-leb v x (omega arith), le-leb x (v + 0) (omega arith)))

-- not of a named 0: it takes no number, and its shift and limit would take 0
column_bounded : (c : Column) (x : ℕ) → is_zero c ≡ false → column_value c < 4294967296 → x < 4294967296
    → bounded_by (shift_of (column_value c)) (limit_of (width_of c)) x ≡ admits c x
unfolding is_zero column_value width_of admits
column_bounded (Is zero) x z h g = absurd (true≢false z)
column_bounded (Is (suc v)) x z h g = rw (eqb-suc-zero v) (value_bounded (suc v) x h g)
column_bounded Wildcard x z h g = bounded_by_law 0 4294967295 x (omega arith) g ∙ rw (le-leb 0 x (omega arith), le-leb x (0 + 4294967295) (omega arith))

-- ---- All numbers of a record fit 32 bits
abbrev pub Fitting : Record → Type 0
Fitting r = (i : ℕ) → get_or r i 0 < 4294967296

bounded_lies : (q : Query) (ss ls r : List ℕ) → names_zero q ≡ false → length r ≡ length q → NamesWords (length q) q → Fitting r
    → bounded (map (λ (c : Column). shift_of (column_value c)) q ++ ss) (map (λ (c : Column). limit_of (width_of c)) q ++ ls) r ≡ lies q r
unfolding bounded lies names_zero
bounded_lies [] ss ls [] z e n f = refl
bounded_lies [] ss ls (x ∷ r) z e n f = absurd (omega arith)
bounded_lies (c ∷ q) ss ls [] z e n f = absurd (omega arith)
bounded_lies (c ∷ q) ss ls (x ∷ r) z e n f =
    let u : is_zero c ≡ false = or_false_l (is_zero c) (names_zero q) z in
    let v : names_zero q ≡ false = or_false_r (is_zero c) (names_zero q) z in
    rw (column_bounded c x u (n 0 (omega arith)) (f 0), bounded_lies q ss ls r v (omega arith) (λ i h. n (suc i) (omega arith)) (λ i. f (suc i)))

-- ---- Another shift and limit at one column
swap : (a b c : Bool) → a && (b && c) ≡ (a && b) && c
swap true b c = refl
swap false b c = refl

bounded_set : (ss ls r : List ℕ) (i s l : ℕ) → i < length r → length r ≤ length ss → length r ≤ length ls
    → bounded_by (get_or ss i 0) (get_or ls i 0) (get_or r i 0) ≡ true → bounded (set ss i s) (set ls i l) r ≡ bounded ss ls r && bounded_by s l (get_or r i 0)
unfolding bounded
bounded_set ss ls [] i s l h g k e = absurd (omega arith)
bounded_set [] ls (x ∷ r) i s l h g k e = absurd (omega arith)
bounded_set (a ∷ ss) [] (x ∷ r) i s l h g k e = absurd (omega arith)
bounded_set (a ∷ ss) (b ∷ ls) (x ∷ r) zero s l h g k e = rw e (and_comm (bounded_by s l x) (bounded ss ls r))
bounded_set (a ∷ ss) (b ∷ ls) (x ∷ r) (suc i) s l h g k e =
    rw (bounded_set ss ls r i s l (omega arith) (omega arith) (omega arith) e) (swap (bounded_by a b x) (bounded ss ls r) (bounded_by s l (get_or r i 0)))

-- ---- A range skips 0
first_takes : (low x : ℕ) → leb (first_of low) x ≡ is_measured x && leb low x
unfolding first_of
first_takes zero zero = refl
first_takes zero (suc x) = rw (eqb-suc-zero x, leb-suc-suc 0 x, leb-zero x, leb-zero (suc x))
first_takes (suc low) zero = rw (eqb-suc-zero low, leb-suc-zero low)
first_takes (suc low) (suc x) = rw (eqb-suc-zero low, eqb-suc-zero x)

pub first_below : (low high : ℕ) → low ≤ high → 0 < high → first_of low ≤ high
unfolding first_of
first_below zero high h g = omega arith
first_below (suc low) high h g = rw (eqb-suc-zero low) h

-- ---- What finds no record
-- of all else shifts and limits tell
pub finds_some : (q : Query) (high : ℕ) → finds_none q high ≡ false → (names_zero q ≡ false) × (0 < high)
unfolding finds_none
finds_some q high e = (or_false_l (names_zero q) (eqb high 0) e, omega (arith, eqb-false high 0 (or_false_r (names_zero q) (eqb high 0) e)))

names_any : (q : Query) → list_any is_zero q ≡ names_zero q
unfolding names_zero
names_any [] = refl
names_any (c ∷ q) = ap (λ (b : Bool). is_zero c || b) (names_any q)

-- r tells whether a column of q names 0
module _ (q : Query) (high : ℕ) (r : Bool) (e : r ≡ list_any is_zero q) where
  pub zero_named : r ≡ true → r ≡ finds_none q high
  unfolding finds_none
  zero_named t = rw (← names_any q, ← e, t)

  pub zero_high : r ≡ false → eqb high 0 ≡ finds_none q high
  unfolding finds_none
  zero_high t = rw (← names_any q, ← e, t)

-- ---- A query's shifts and limits, with a range at a wildcard
map_both : {A B : Type 0} (f : A → B) (l m : List A) → map f (l ++ m) ≡ map f l ++ map f m
map_both f [] m = refl
map_both f (x ∷ l) m = ap (λ (t : List _). f x ∷ t) (map_both f l m)

module _ (q : Query) (few : length q ≤ 4) where
  pub length_shifts : length (shifts_of q) ≡ 4
  unfolding shifts_of
  length_shifts = length-map (four q) (λ (c : Column). shift_of (column_value c)) ∙ length_four q few

  pub length_limits : length (limits_of q) ≡ 4
  unfolding limits_of
  length_limits = length-map (four q) (λ (c : Column). limit_of (width_of c)) ∙ length_four q few

  module _ (r : Record) (same : length r ≡ length q) (named : NamesWords (length q) q) (fit : Fitting r) where
    plain_test : names_zero q ≡ false → bounded (shifts_of q) (limits_of q) r ≡ lies q r
    unfolding shifts_of limits_of four
    plain_test z =
        rw (map_both (λ (c : Column). shift_of (column_value c)) q (replicate (4 - length q) Wildcard), map_both (λ (c : Column). limit_of (width_of c)) q (replicate (4 - length q) Wildcard))
        (bounded_lies q _ _ r z same named fit)

    module _ (c low high : ℕ) (here : c < length q) (star : get_or q c Wildcard ≡ Wildcard) (ordered : low ≤ high) (small : high < 4294967296)
        (some : finds_none q high ≡ false) where
      column_at : get_or (four q) c Wildcard ≡ Wildcard
      unfolding four
      column_at = get_or-append q (replicate (4 - length q) Wildcard) Wildcard c here ∙ star

      any_number : bounded_by (get_or (shifts_of q) c 0) (get_or (limits_of q) c 0) (get_or r c 0) ≡ true
      unfolding shifts_of limits_of column_value is_zero admits
      any_number =
          let l : c < length (four q) = omega (arith, length_four q few) in
          rw (get_d_map (λ (c : Column). shift_of (column_value c)) (four q) c 0 Wildcard l, get_d_map (λ (c : Column). limit_of (width_of c)) (four q) c 0 Wildcard l, column_at)
          (column_bounded Wildcard (get_or r c 0) refl (omega arith) (fit c))

      pub bounds_test : bounded_under (bounds_of q c low high) r ≡ lies q r && within (Between c low high) r
      unfolding bounds_of bounded_under within
      bounds_test =
          let first : ℕ = first_of low in
          let o = finds_some q high some in
          let f : first ≤ high = first_below low high ordered o.1 in
          let w : first + (high - first) ≡ high = omega arith in
          bounded_set (shifts_of q) (limits_of q) r c (shift_of first) (limit_of (high - first)) (omega arith) (omega (arith, length_shifts)) (omega (arith, length_limits)) any_number
          ∙ rw (plain_test o.0, bounded_by_law first (high - first) (get_or r c 0) (omega arith) (fit c), w, first_takes low (get_or r c 0), swap (is_measured (get_or r c 0)) (leb low (get_or r c 0)) _)

      -- the same of both lists one behind the other
      pub bound_test : bounded (take 4 (bound_words q c low high)) (drop 4 (bound_words q c low high)) r ≡ lies q r && within (Between c low high) r
      unfolding bound_words bounds_of bounded_under
      bound_test =
          let x : ℕ = shift_of (first_of low) in
          let l : List ℕ = set (limits_of q) c (limit_of (high - first_of low)) in
          let a : length (set (shifts_of q) c x) ≡ 4 = length-set (shifts_of q) c x ∙ length_shifts in
          rw (take_at (set (shifts_of q) c x) l 4 a, drop_at (set (shifts_of q) c x) l 4 a) bounds_test

-- for callers: what shifts and limits say of a record, by their numbers one behind the other; and those of a query
pub bounded_words : (b : Bounds) (l r : List ℕ) → b.shifts ++ b.limits ≡ l → length b.shifts ≡ 4 → bounded_under b r ≡ bounded (take 4 l) (drop 4 l) r
unfolding bounded_under
bounded_words b l r e h = rw (← e, take_at b.shifts b.limits 4 h, drop_at b.shifts b.limits 4 h)

pub bounds_words : (q : Query) (c low high : ℕ) → (bounds_of q c low high).shifts ++ (bounds_of q c low high).limits ≡ bound_words q c low high
unfolding bound_words bounds_of
bounds_words q c low high = refl

pub bounds_long : (q : Query) (c low high : ℕ) → length q ≤ 4 → length (bound_words q c low high) ≡ 8
unfolding bound_words
bounds_long q c low high h =
    let first : ℕ = first_of low in
    rw (length-append, length-set (shifts_of q) c (shift_of first), length-set (limits_of q) c (limit_of (high - first)), length_shifts q h, length_limits q h)

pub shifts_long : (q : Query) (c low high : ℕ) → length q ≤ 4 → length (bounds_of q c low high).shifts ≡ 4
unfolding bounds_of
shifts_long q c low high h = length-set (shifts_of q) c (shift_of (first_of low)) ∙ length_shifts q h

-- ---- The loop: f tells whether all numbers before i fit
pub bounded_on : (ss ls rec : List ℕ) (i : ℕ) (f : Bool) → i < length ss → i < length ls → i < length rec
    → f && bounded (drop i ss) (drop i ls) (drop i rec)
    ≡ (f && bounded_by (get_or ss i 0) (get_or ls i 0) (get_or rec i 0)) && bounded (drop (i + 1) ss) (drop (i + 1) ls) (drop (i + 1) rec)
unfolding bounded
bounded_on ss ls rec i f a b h =
    rw (add-one, drop-cons ss i 0 a, drop-cons ls i 0 b, drop-cons rec i 0 h) (swap f (bounded_by (get_or ss i 0) (get_or ls i 0) (get_or rec i 0)) _)

pub bounded_end : (ss ls rec : List ℕ) (i : ℕ) (f : Bool) → length rec ≤ i → f && bounded ss ls (drop i rec) ≡ f
unfolding bounded
bounded_end ss ls rec i f h = rw (drop_of_length-le rec h) (and-true f)

-- ---- What makes them
-- the shift is the one 32-bit number that takes the lowest to the highest bit
pub shift_is : (low r : ℕ) → low < 4294967296 → r < 4294967296 → (r + low) % 4294967296 ≡ sign_bit → r ≡ shift_of low
unfolding shift_of
shift_is low r h g e = omega arith

-- the first i values of a query are 32-bit numbers, and one more
pub words_more : (q : Query) (i v : ℕ) (w : Column) → NamesWords i q → v ≡ column_value (get_or q i w) → v < 4294967296 → i < length q → NamesWords (i + 1) q
words_more q i v w n e h l j m = by_test (ltb j i)
    (λ t. n j (ltb-true j i t))
    (λ t. let z : j ≡ i = (let y = ltb-false j i t in omega arith) in
    let x : get_or (map column_value q) j 0 ≡ v = rw z (get_d_map column_value q i 0 w l ∙ sym e) in
    omega arith)
