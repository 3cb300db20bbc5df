-- Laws on marks, values and keys, over plain lists. Leans on FillLoop and ColumnLoops. Assumes nothing.
use Rattle.std.proofs.Common.{◌≡◌, ℕ, zero, suc, ◌+◌, ◌-◌, ◌*◌, ◌/◌, ◌%◌, ◌^◌, ◌<◌, ◌≤◌, Bool, true, false, not, ◌&&◌, ◌||◌, eqb, ltb, List, [], ◌∷◌, ◌++◌, map, reverse, length, get_or, take, drop, set, replicate, Bor, sym, refl, ap, ◌∙◌, div-one, add-one, arith, drop_of_length-le, get_or-drop, drop-cons, drop-drop, ltb-true, le-ltb, lt-ltb, eq-eqb, ne_eqb, eqb-true, leb}
use mathlib.Core.Bool.{or-true}
use native.Mathlib.Nat.{pow-succ', sub-zero, div-div-eq-div-mul}
use lib.ListN.{length-map}
use Rattle.std.proofs.lemmas.List.{map-append, reverse-append}
use Rattle.lists.specs.Lists.{padded, same}
use Rattle.laws.proofs.ListLaws.{length_padded, get_d_map, and_left}
use Rattle.std.proofs.lemmas.Bool.Decides.{nat_tests}
use Rattle.laws.proofs.TestLaws.{same_test}
use Rattle.query.specs.declared.Column.{Column}
use Rattle.query.specs.declared.Column.TheVariants.{Is, Wildcard}
use Rattle.query.specs.declared.Range.{Range}
use Rattle.query.specs.declared.Range.TheVariants.{None, Between}
use Rattle.query.specs.Query.{Query}
use Rattle.query.specs.Encoding.{column_of, column_value, marks, columns_in, query_in, key_words, is_key, count_bit, count_key, range_unit, range_in, range_key, wanted_key, unranged, bare_key}
use Rattle.query.specs.Range.{is_named, is_range, is_reversed}
use Rattle.query.specs.Shape.{Shape, shape_of}
use Rattle.query.proofs.EncodingLaws.{columns_length}
use Rattle.columns.specs.ColumnContracts.{four}
use Rattle.columns.specs.KeyContracts.{mark_of, keeps, zero_under}
use Rattle.columns.proofs.FillLoop.{Filled, next_rest, fill_none, fill_more, fill_at, fill_end, fill_front}

-- ---- Marks
pub mark_most : (c : Column) → mark_of c ≤ 1
unfolding mark_of
mark_most (Is v) = omega arith
mark_most Wildcard = omega arith

pub mark_small : (r : ℕ) (c : Column) → r ≡ mark_of c → r ≤ 1
mark_small r c e = omega (arith, mark_most c)

pub marks_cons : (c : Column) (q : Query) → marks (c ∷ q) ≡ mark_of c + 2 * marks q
unfolding marks mark_of
marks_cons (Is v) q = refl
marks_cons Wildcard q = refl

-- n bits, all 1
unfoldable pub ones : ℕ → ℕ
ones zero = 0
ones (suc n) = 1 + 2 * ones n

pub marks_most : (n : ℕ) (q : Query) → length q ≤ n → marks q ≤ ones n
unfolding marks ones
marks_most n [] h = omega arith
marks_most zero (c ∷ q) h = absurd (omega arith)
marks_most (suc n) (c ∷ q) h = rw marks_cons (omega (arith, mark_most c, marks_most n q (omega arith)))

-- a loop that goes from the last column to the first: t are those that it has met, in their own order
pub marks_more : (t : List (Bor Column)) (x : Bor Column) (m r : ℕ) → m ≡ marks (reverse (map (λ y. y.now) t)) → r ≡ mark_of x.now
    → r + 2 * m ≡ marks (reverse (map (λ y. y.now) (t ++ (x ∷ []))))
marks_more t x m r e f = rw (map-append, reverse-append, marks_cons, e, f)

pub marks_row : (t : Query) → length t ≤ 4 → marks t ≤ 15
unfolding ones
marks_row t h = marks_most 4 t h

-- ---- Columns from marks and values
pub record Reading (k marks : ℕ) (values : List ℕ) (cols : List Column) (left i : ℕ) : Type 0 where
  pub within : i ≤ k
  pub rest : drop i (columns_in k marks values) ≡ columns_in (k - i) left (drop i values)
  pub fill : Filled 4 Wildcard (columns_in k marks values) i cols

pub reading_none : (k m : ℕ) (values : List ℕ) → Reading k m values (replicate 4 Wildcard) m 0
reading_none k m values = record { within = omega arith; rest = rw sub-zero; fill = fill_none 4 Wildcard (columns_in k m values) }

pub reading_more : (k m : ℕ) (values : List ℕ) (cols : List Column) (left i : ℕ) (col : Column) → Reading k m values cols left i
    → col ≡ column_of (left % 2) (get_or values i 0) → i < k → k ≤ 4 → Reading k m values (set cols i col) (left / 2) (i + 1)
unfolding columns_in
reading_more k m values cols left i col t e h b =
    let d : k - i ≡ suc (k - (i + 1)) = omega arith in
    let z : i + 0 ≡ i = omega arith in
    let f : drop i (columns_in k m values) ≡ col ∷ columns_in (k - (i + 1)) (left / 2) (drop (i + 1) values) =
    t.rest ∙ rw (d, get_or-drop i values 0 0, z, drop-drop 1 i values, e) in
    record { within = omega arith; rest = next_rest _ i _ _ f; fill = fill_more 4 Wildcard _ i _ _ _ t.fill f (omega arith) }

pub reading_all : (k m : ℕ) (values : List ℕ) (cols : List Column) (left i : ℕ) → Reading k m values cols left i → k ≤ i → cols ≡ four (columns_in k m values)
unfolding four
reading_all k m values cols left i t h = fill_end 4 Wildcard (columns_in k m values) i cols t.fill (omega (arith, columns_length k m values))

-- and of them the first k
pub reading_front : (k m : ℕ) (values : List ℕ) (cols : List Column) (left i : ℕ) → Reading k m values cols left i → k ≤ i → take k cols ≡ columns_in k m values
reading_front k m values cols left i t h = fill_front 4 Wildcard (columns_in k m values) i cols t.fill k (columns_length k m values) h

-- ---- Keys
-- the values of the first i columns behind the marks
pub keying_none : (q : Query) (m : ℕ) → m ≡ marks q → Filled 7 0 (marks q ∷ map column_value q) 1 (set (replicate 7 0) 0 m)
keying_none q m e =
    let l : List ℕ = marks q ∷ map column_value q in
    rw e (fill_more 7 0 l 0 (replicate 7 0) (marks q) (map column_value q) (fill_none 7 0 l) refl (omega arith))

pub keying_more : (q : Query) (i : ℕ) (key : List ℕ) (z : Column) (v : ℕ) → Filled 7 0 (marks q ∷ map column_value q) (i + 1) key → v ≡ column_value (get_or q i z) → i < length q
    → length q ≤ 4 → Filled 7 0 (marks q ∷ map column_value q) (i + 1 + 1) (set key (i + 1) v)
keying_more q i key z v t e l b =
    let n : length (map column_value q) ≡ length q = length-map q column_value in
    fill_at 7 0 _ (i + 1) key v t (omega arith) (rw add-one (e ∙ sym (get_d_map column_value q i v z l))) (omega arith)

pub keying_all : (q : Query) (i : ℕ) (key : List ℕ) → Filled 7 0 (marks q ∷ map column_value q) (i + 1) key → length q ≤ i → key ≡ key_words q
unfolding key_words padded
keying_all q i key t h =
    let n : length (map column_value q) ≡ length q = length-map q column_value in
    let s : 7 - suc (length (map column_value q)) ≡ 6 - length (map column_value q) = omega arith in
    fill_end 7 0 _ (i + 1) _ t (omega arith) ∙ rw s

-- ---- No value without a mark
pub under_more : (values : List ℕ) (left i : ℕ) → i < length values → zero_under left (drop i values) ≡ keeps left (get_or values i 0) && zero_under (left / 2) (drop (i + 1) values)
unfolding zero_under
under_more values left i h = rw (add-one, drop-cons values i 0 h)

pub under_end : (values : List ℕ) (left i : ℕ) → length values ≤ i → zero_under left (drop i values) ≡ true
unfolding zero_under
under_end values left i h = rw (drop_of_length-le values h)

-- ---- A key's rule: its marks are below 2 ^ k, and no value stands without a mark
swap : (a b c : Bool) → a && (b && c) ≡ b && (a && c)
swap true true c = refl
swap true false c = refl
swap false true c = refl
swap false false c = refl

zeros_under : (vs : List ℕ) → same vs (replicate (length vs) 0) ≡ zero_under 0 vs
unfolding same zero_under keeps
zeros_under [] = refl
zeros_under (v ∷ vs) = rw (zeros_under vs)

half_marks : (m M b : ℕ) → m % 2 ≡ b → eqb m (b + 2 * M) ≡ eqb (m / 2) M
half_marks m M b e =
    same_test _ _ (λ t. eq-eqb (m / 2) M (omega (arith, eqb-true m (b + 2 * M) t))) (λ t. eq-eqb m (b + 2 * M) (omega (arith, eqb-true (m / 2) M t)))

half_power : (m k : ℕ) → ltb m (2 ^ suc k) ≡ ltb (m / 2) (2 ^ k)
half_power m k =
    rw (pow-succ' 2 k)
    (same_test _ _ (λ t. lt-ltb (m / 2) (2 ^ k) (omega (arith, ltb-true m (2 * 2 ^ k) t))) (λ t. lt-ltb m (2 * 2 ^ k) (omega (arith, ltb-true (m / 2) (2 ^ k) t))))

-- one column more, by its mark
module _ (k m v : ℕ) (vs l : List ℕ) (q : Query) (r : (eqb (m / 2) (marks q) && same vs l) ≡ (ltb (m / 2) (2 ^ k) && zero_under (m / 2) vs)) where
  key_more : (b : ℕ) → m % 2 ≡ b
      → (eqb m (marks (column_of (m % 2) v ∷ q)) && same (v ∷ vs) (column_value (column_of (m % 2) v) ∷ l)) ≡ (ltb m (2 ^ suc k) && zero_under m (v ∷ vs))
  unfolding column_of column_value marks same zero_under keeps
  key_more zero e =
      rw (e, half_marks m (marks q) 0 e, half_power m k, swap (eqb (m / 2) (marks q)) (eqb v 0) (same vs l), r)
      (swap (eqb v 0) (ltb (m / 2) (2 ^ k)) (zero_under (m / 2) vs))
  key_more (suc zero) e = rw (e, half_marks m (marks q) 1 e, half_power m k, eq-eqb v v refl) r
  key_more (suc (suc b)) e = absurd (omega arith)

key_rule : (k m : ℕ) (vs : List ℕ) → k ≤ length vs
    → (eqb m (marks (columns_in k m vs)) && same vs (map column_value (columns_in k m vs) ++ replicate (length vs - k) 0)) ≡ (ltb m (2 ^ k) && zero_under m vs)
unfolding columns_in
key_rule zero zero vs h = unfold marks in rw (sub-zero (length vs)) (zeros_under vs)
key_rule zero (suc m) vs h = unfold marks in rw (ne_eqb (suc m) 0 (λ e. omega arith), le-ltb (suc m) 1 (omega arith))
key_rule (suc k) m [] h = absurd (omega arith)
key_rule (suc k) m (v ∷ vs) h =
    let d : suc (length vs) - suc k ≡ length vs - k = omega arith in
    let l : k ≤ length vs = omega arith in
    rw d (key_more k m v vs _ (columns_in k (m / 2) vs) (key_rule k (m / 2) vs l) (m % 2) refl)

pub key_whole : (k : ℕ) (key : List ℕ) → k ≤ 4 → length key ≡ 7 → is_key (shape_of k) key ≡ (ltb (get_or key 0 0) (2 ^ k) && zero_under (get_or key 0 0) (drop 1 key))
unfolding is_key key_words query_in padded same
key_whole k [] b h = absurd (omega arith)
key_whole k (m ∷ vs) b h =
    let l : k ≤ length vs = omega arith in
    let n : 6 - k ≡ length vs - k = omega arith in
    rw (length-map (columns_in k m vs) column_value, columns_length k m vs, n) (key_rule k m vs l)

-- zeros behind the values change nothing
zeros_pass : (m n : ℕ) → zero_under m (replicate n 0) ≡ true
unfolding zero_under keeps
zeros_pass m zero = refl
zeros_pass m (suc n) = rw (or-true (eqb (m % 2) 1), zeros_pass (m / 2) n)

under_padded : (m n : ℕ) (vs : List ℕ) → zero_under m (vs ++ replicate n 0) ≡ zero_under m vs
unfolding zero_under
under_padded m n [] = zeros_pass m n
under_padded m n (v ∷ vs) = rw (under_padded (m / 2) n vs)

pub key_padded : (k m : ℕ) (vs : List ℕ) → k ≤ 4 → length vs ≤ 6 → is_key (shape_of k) (m ∷ padded 6 vs) ≡ (ltb m (2 ^ k) && zero_under m vs)
unfolding padded
key_padded k m vs b h = key_whole k (m ∷ padded 6 vs) b (let z = length_padded 6 vs h in omega arith) ∙ rw (under_padded m (6 - length vs) vs)

-- a key's marks are those of its columns
pub key_fits : (k m : ℕ) (vs : List ℕ) → k ≤ 4 → length vs ≤ 6 → true ≡ is_key (shape_of k) (m ∷ padded 6 vs) → m < 2 ^ k
key_fits k m vs b h e = ltb-true m (2 ^ k) (and_left _ _ (sym (key_padded k m vs b h) ∙ sym e))

-- ---- What is wanted, and the range
unranged_first : (g : Range) (m : ℕ) (vs : List ℕ) → get_or (unranged g (m ∷ vs)) 0 0 ≡ m
unfolding unranged
unranged_first None m vs = refl
unranged_first (Between c l h) m vs = refl

pub bare_first : (m : ℕ) (vs : List ℕ) → m % count_bit ≡ get_or (bare_key (m ∷ vs)) 0 0
unfolding bare_key
bare_first m vs = sym (unranged_first (range_in (m ∷ vs)) (m % count_bit) vs)

-- a column names a value where its bit is 1
pub named_bit : (k m c : ℕ) (vs : List ℕ) → c < k → eqb (m / 2 ^ c % 2) 1 ≡ is_named (get_or (columns_in k m vs) c Wildcard)
unfolding columns_in is_named column_of
named_bit zero m c vs h = absurd (omega arith)
named_bit (suc k) m zero vs h = rw (div-one m) (go (m % 2) (omega arith))
  where
    go : (b : ℕ) → b < 2 → eqb b 1 ≡ is_named (column_of b (get_or vs 0 0))
    go zero l = refl
    go (suc zero) l = refl
    go (suc (suc b)) l = absurd (omega arith)
named_bit (suc k) m (suc c) vs h =
    let e : m / 2 ^ suc c ≡ m / 2 / 2 ^ c = ap (λ (x : ℕ). m / x) (pow-succ' 2 c) ∙ sym (div-div-eq-div-mul m 2 (2 ^ c)) in
    rw e (named_bit k (m / 2) c (drop 1 vs) (omega arith))

-- the key of a read: its first number without a range
pub first_small : (q : Query) (key : List ℕ) → key ≡ key_words q → length q ≤ 4 → get_or key 0 0 < count_bit
unfolding key_words
first_small q key e h = rw e (let z = marks_row q h in omega arith)

-- with a count it is below what a range adds
pub count_low : (key now : List ℕ) → get_or key 0 0 < count_bit → now ≡ set key 0 (get_or key 0 0 + count_bit) → get_or now 0 0 < range_unit
count_low [] now h e = rw e (omega arith)
count_low (x ∷ key) now h e = rw e (omega arith)

module _ (counts : Bool) (g : Range) (key now : List ℕ) where
  pub count_wanted : counts ≡ true → now ≡ set key 0 (get_or key 0 0 + count_bit) → range_key g now ≡ wanted_key counts g key
  unfolding wanted_key count_key
  count_wanted c n = rw (c, n)

  pub list_wanted : counts ≡ false → now ≡ key → range_key g now ≡ wanted_key counts g key
  unfolding wanted_key
  list_wanted c n = rw (c, n)

-- ---- A range that a begin would turn down, test by test
pub range_tests : (sh : Shape) (q : Query) (c l h : ℕ) → not (is_range sh q (Between c l h)) || is_reversed (Between c l h) ≡ (leb sh.columns c || (is_named (get_or q c Wildcard) || ltb h l))
unfolding is_range is_reversed
range_tests sh q c l h = grind (arith, nat_tests)
