-- Laws of the record test: masks and values name the columns that they were made of, and what a mask leaves of a number differs from the value
-- by 0 exactly if the column admits it. Leans on the laws of lists, FillLoop, ColumnLoops and the library's bits. Assumes nothing.
use Rattle.std.proofs.Common.{◌≡◌, ℕ, zero, suc, ◌+◌, ◌-◌, ◌%◌, ◌<◌, ◌≤◌, Bool, ◌&&◌, eqb, List, [], ◌∷◌, ◌++◌, map, length, get_or, take, drop, set, replicate, sym, refl, ap, ◌∙◌, add-one, arith, length-append, drop_of_length-le, drop-cons, eq-eqb, eqb-true, take_at, drop_at}
use mathlib.Core.Bool.{and_assoc, and-true}
use lib.Bits.{bit_and, bit_xor, and_mask, and_zero_r, and_le_l, and_le_r, xor_add_and, xor_self}
use lib.Dec.{eqb-suc-zero}
use lib.ListN.{length-map, length-replicate}
use Rattle.laws.proofs.ListLaws.{get_d_map}
use Rattle.laws.proofs.TestLaws.{same_test}
use Rattle.query.specs.declared.Column.{Column}
use Rattle.query.specs.declared.Column.TheVariants.{Is, Wildcard}
use Rattle.query.specs.Query.{Query, Record, admits, lies}
use Rattle.columns.specs.ColumnContracts.{four}
use Rattle.columns.specs.MaskContracts.{mask_of, sought_of, mask_words, column_under, columns_under, query_under, lies_under, Masked}
use Rattle.columns.proofs.FillLoop.{Filled, fill_at, fill_end}
use Rattle.columns.proofs.ColumnLoops.{at_place, past_all, four_back}

-- ---- masks and values name their columns
pub length_four : (q : Query) → length q ≤ 4 → length (four q) ≡ 4
unfolding four
length_four q h = rw (length-append, length-replicate) (omega arith)

map_four : (f : Column → ℕ) (q : Query) (z : ℕ) → f Wildcard ≡ z → map f (four q) ≡ map f q ++ replicate (4 - length (map f q)) z
unfolding four
map_four f q z e = rw length-map (go q (4 - length q))
  where
    behind : (n : ℕ) → map f (replicate n Wildcard) ≡ replicate n z
    behind zero = refl
    behind (suc n) = rw (e, behind n)

    go : (q : Query) (n : ℕ) → map f (q ++ replicate n Wildcard) ≡ map f q ++ replicate n z
    go [] n = behind n
    go (c ∷ q) n = rw (go q n)

named_back : (c : Column) → column_under (mask_of c) (sought_of c) ≡ c
unfolding column_under mask_of sought_of
named_back (Is zero) = refl
named_back (Is (suc v)) = rw (eqb-suc-zero v)
named_back Wildcard = refl

columns_back : (q : Query) → columns_under (map mask_of q) (map sought_of q) ≡ q
unfolding columns_under
columns_back [] = refl
columns_back (c ∷ q) = rw (named_back c, columns_back q)

-- the same of both lists one behind the other: the columns that they name are the query's, and wildcards past them
halves : (q : Query) → length q ≤ 4 → (take 4 (mask_words q) ≡ map mask_of (four q)) × (drop 4 (mask_words q) ≡ map sought_of (four q))
unfolding mask_words
halves q h =
    let l : length (map mask_of (four q)) ≡ 4 = rw length-map (length_four q h) in
    (take_at (map mask_of (four q)) (map sought_of (four q)) 4 l, drop_at (map mask_of (four q)) (map sought_of (four q)) 4 l)

pub under_words : (q : Query) → length q ≤ 4 → columns_under (take 4 (mask_words q)) (drop 4 (mask_words q)) ≡ four q
under_words q h = rw ((halves q h).0, (halves q h).1) (columns_back (four q))

pub words_query : (k : ℕ) (q : Query) → length q ≡ k → k ≤ 4 → query_under k (mask_words q) ≡ q
unfolding query_under four
words_query k q e h = rw (under_words q (omega arith)) (take_at q (replicate (4 - length q) Wildcard) k e)

-- for callers: the first k columns of a value of `Masks` are the query that the numbers name
pub words_front : (k : ℕ) (q : Query) → length q ≤ 4 → take k (four q) ≡ query_under k (mask_words q)
unfolding query_under
words_front k q h = ap (take k) (sym (under_words q h))

-- and what they say of a record
pub lies_words : (q : Query) (r : Record) → length q ≤ 4 → lies_under (four q) r ≡ lies (query_under (length r) (mask_words q)) r
unfolding lies_under
lies_words q r h = ap (λ (x : Query). lies x r) (words_front (length r) q h)

-- what a query of k columns says of a record of k numbers
pub lies_four : (q : Query) (r : Record) → length r ≡ length q → lies_under (four q) r ≡ lies q r
unfolding lies_under
lies_four q r e = ap (λ (x : Query). lies x r) (four_back (length r) q (sym e))

-- ---- the loop that makes them: of f of each column those before i stand in s, and z, which is f of a wildcard, behind them
module _ (f : Column → ℕ) (z : ℕ) (q : Query) (i : ℕ) (s : List ℕ) (t : Filled 4 z (map f q) i s) where
  pub made_more : (w : Column) (x : ℕ) → x ≡ f (get_or q i w) → i < length q → length q ≤ 4 → Filled 4 z (map f q) (i + 1) (set s i x)
  made_more w x e h g =
      let n : length (map f q) ≡ length q = length-map q f in
      fill_at 4 z (map f q) i s x t (omega arith) (e ∙ sym (get_d_map f q i x w h)) (omega arith)

  pub made_all : f Wildcard ≡ z → length q ≤ i → s ≡ map f (four q)
  made_all e h = fill_end 4 z (map f q) i s t (let n : length (map f q) ≡ length q = length-map q f in omega arith) ∙ sym (map_four f q z e)

-- what is made names the query, and wildcards behind its columns
module _ (q : Query) (few : length q ≤ 4) (ms vs : List ℕ) (e : ms ≡ map mask_of (four q)) (f : vs ≡ map sought_of (four q)) where
  pub masks_made : Masked ms vs
  unfolding mask_words
  masks_made = record { query = q; few = few; words = rw (e, f); masks_are = e; values_are = f }

  pub masks_name : columns_under ms vs ≡ four q
  masks_name = rw (e, f) (columns_back (four q))

-- ---- one column
xor_none : (a b : ℕ) → bit_xor a b ≡ 0 → a ≡ b
xor_none a b e = omega (arith, xor_add_and a b, and_le_l a b, and_le_r a b)

differs : (x v : ℕ) → eqb (bit_xor x v) 0 ≡ eqb v x
differs x v =
    same_test _ _
    (λ t. eq-eqb v x (sym (xor_none x v (eqb-true (bit_xor x v) 0 t))))
    (λ t. eq-eqb (bit_xor x v) 0 (ap (λ (y : ℕ). bit_xor x y) (eqb-true v x t) ∙ xor_self x))

column_test : (c : Column) (x : ℕ) → x < 4294967296 → eqb (bit_xor (bit_and x (mask_of c)) (sought_of c)) 0 ≡ admits c x
unfolding mask_of sought_of admits
column_test (Is zero) x h = rw (and_zero_r x) (differs 0 1)
column_test (Is (suc v)) x h = rw (eqb-suc-zero v, and_mask x 32 ∙ (let m : x % 4294967296 ≡ x = omega arith in m)) (differs x (suc v))
column_test Wildcard x h = rw (and_zero_r x)

-- ---- the loop: f tells whether all columns before i fit
module _ (ms vs : List ℕ) (m : Masked ms vs) where
  masks_long : length ms ≡ 4
  masks_long = ap length m.masks_are ∙ length-map (four m.query) mask_of ∙ length_four m.query m.few

  pub masked_long : length (ms ++ vs) ≡ 8
  unfolding mask_words
  masked_long =
      let n : length (four m.query) ≡ 4 = length_four m.query m.few in
      ap length m.words ∙ rw (length-append, length-map (four m.query) mask_of, length-map (four m.query) sought_of, n)

  -- the columns are those that the numbers were made of, four with the wildcards
  under : columns_under ms vs ≡ four m.query
  under =
      let w : columns_under (take 4 (ms ++ vs)) (drop 4 (ms ++ vs)) ≡ four m.query = rw m.words (under_words m.query m.few) in
      rw (take_at ms vs 4 masks_long, drop_at ms vs 4 masks_long) at w

  -- the numbers are those of every query that has these columns
  pub masked_words : (q : Query) → columns_under ms vs ≡ four q → ms ++ vs ≡ mask_words q
  unfolding mask_words
  masked_words q e = let f : four m.query ≡ four q = sym under ∙ e in m.words ∙ ap (λ (x : Query). map mask_of x ++ map sought_of x) f

  -- and their first k name what the numbers name
  pub masked_query : (k : ℕ) → query_under k (ms ++ vs) ≡ take k (columns_under ms vs)
  unfolding query_under
  masked_query k = rw (take_at ms vs 4 masks_long, drop_at ms vs 4 masks_long)

  module _ (i : ℕ) (h : i < 4) where
    in_four : i < length (four m.query)
    in_four = omega (arith, length_four m.query m.few)

    abbrev column : Column
    column = get_or (columns_under ms vs) i Wildcard

    mask_at : get_or ms i 0 ≡ mask_of column
    mask_at = rw (under, m.masks_are) (get_d_map mask_of (four m.query) i 0 Wildcard in_four)

    value_at : get_or vs i 0 ≡ sought_of column
    value_at = rw (under, m.values_are) (get_d_map sought_of (four m.query) i 0 Wildcard in_four)

    fits_at : (x : ℕ) → x < 4294967296 → eqb (bit_xor (bit_and x (get_or ms i 0)) (get_or vs i 0)) 0 ≡ admits column x
    fits_at x g = rw (mask_at, value_at) (column_test column x g)

  pub lies_on : (q : Query) (rec : List ℕ) (i : ℕ) (f : Bool) → columns_under ms vs ≡ q → length rec ≤ 4 → i < length rec → get_or rec i 0 < 4294967296
      → f && lies (drop i (take (length rec) q)) (drop i rec)
      ≡ (f && eqb (bit_xor (bit_and (get_or rec i 0) (get_or ms i 0)) (get_or vs i 0)) 0) && lies (drop (i + 1) (take (length rec) q)) (drop (i + 1) rec)
  unfolding lies
  lies_on q rec i f e k h g =
      let w : length (columns_under ms vs) ≡ 4 = rw under (length_four m.query m.few) in
      let v : i < 4 = omega arith in
      rw (← e, fits_at i v (get_or rec i 0) g, at_place Wildcard (columns_under ms vs) (length rec) i h (omega arith), add-one, drop-cons rec i 0 h) (sym (and_assoc f _ _))

pub lies_end : (q : Query) (rec : List ℕ) (i : ℕ) (f : Bool) → length rec ≤ i → f && lies (drop i (take (length rec) q)) (drop i rec) ≡ f
unfolding lies
lies_end q rec i f h = rw (past_all q (length rec) i h, drop_of_length-le rec h) (and-true f)
