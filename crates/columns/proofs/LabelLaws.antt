-- Laws on the labels of nodes, over plain lists: what the sheet and a node's number say of each column, and a label in five numbers,
-- made of all columns at once by bits. Leans on KeyLoops and MarkLaws. Assumes nothing.
use Rattle.std.proofs.Common.{◌≡◌, ℕ, zero, suc, ◌+◌, ◌-◌, ◌*◌, ◌/◌, ◌%◌, ◌^◌, ◌<◌, ◌≤◌, min, List, [], ◌∷◌, ◌++◌, map, length, get_or, drop, replicate, sym, refl, ap, ◌∙◌, mod-lt, mod-eq_of_lt, arith, pow_pos, lt-ltb}
use native.Mathlib.Nat.{sub-zero, pow-succ', min-le_left}
use lib.Bits.{bit_and, and_step, and_mask, and_le_l}
use lib.ListN.{length-map}
use Rattle.lists.specs.Lists.{padded}
use Rattle.query.specs.declared.Column.{Column}
use Rattle.query.specs.declared.Column.TheVariants.{Is, Wildcard}
use Rattle.query.specs.Query.{Query, Term, value, wildcard, any, pick, Label, read_node, write_node, named, read_count}
use Rattle.query.specs.Sheet.{turned, looks, sheet_entry}
use Rattle.query.specs.Encoding.{column_of, column_value, columns_in, marks, tag, tags, term_value, label_words}
use Rattle.query.proofs.Choice.{pick_even, pick_same}
use Rattle.query.proofs.NodeLists.{read_count_most}
use Rattle.query.proofs.EncodingLaws.{columns_length}
use Rattle.columns.specs.LabelContracts.{turned_term, changed_term, changed_node, spread}
use Rattle.columns.specs.declared.labels.Turned.{Turned}
use Rattle.columns.specs.declared.marked.Marked.{Marked}
use Rattle.columns.specs.MarkedContracts.{marked_query}
use Rattle.columns.specs.declared.labels.Turned.TheVariants as turned
use Rattle.columns.proofs.KeyLoops.{ones, marks_most}
use Rattle.columns.proofs.MarkLaws.{low_half, columns_cut, marks_in, four_at}

-- ---- A write's node: its number's bits say which columns change
pub write_node_law : (q : Query) (n : ℕ) → write_node q n ≡ changed_node wildcard q n
unfolding write_node changed_node changed_term
write_node_law [] n = refl
write_node_law (Is v ∷ q) n = rw (write_node_law q (n / 2))
write_node_law (Wildcard ∷ q) n = rw (write_node_law q (n / 2))

-- ---- A read's node: the sheet's entry says which columns change. A column that q lacks counts as a star
-- n bits of stars: those of q's columns that name no value, and those that q lacks
module _ (n : ℕ) (q : Query) (h : length q ≤ n) where
  half_value : (v : ℕ) → (ones (suc n) - marks (Is v ∷ q)) / 2 ≡ ones n - marks q
  unfolding ones marks
  half_value v = omega (arith, marks_most n q h)

  bit_value : (v : ℕ) → (ones (suc n) - marks (Is v ∷ q)) % 2 ≡ 0
  unfolding ones marks
  bit_value v = omega (arith, marks_most n q h)

  half_wildcard : (ones (suc n) - marks (Wildcard ∷ q)) / 2 ≡ ones n - marks q
  unfolding ones marks
  half_wildcard = omega (arith, marks_most n q h)

  bit_wildcard : (ones (suc n) - marks (Wildcard ∷ q)) % 2 ≡ 1
  unfolding ones marks
  bit_wildcard = omega (arith, marks_most n q h)

pub turned_node : (n : ℕ) (q : Query) (look : ℕ) → length q ≤ n → read_node q look ≡ changed_node any q (turned n (ones n - marks q) look)
unfolding read_node changed_node changed_term turned
turned_node n [] look h = refl
turned_node zero (c ∷ q) look h = absurd (omega arith)
turned_node (suc n) (Is v ∷ q) look h =
    let l : length q ≤ n = omega arith in
    let t : ℕ = turned n (ones n - marks q) (look / 2) in
    let b : (look % 2 + 2 * t) % 2 ≡ look % 2 = omega arith in
    let d : (look % 2 + 2 * t) / 2 ≡ t = omega arith in
    rw (bit_value n q l v, half_value n q l v, d, pick_same _ look _ _ b, turned_node n q (look / 2) l)
turned_node (suc n) (Wildcard ∷ q) look h =
    let l : length q ≤ n = omega arith in
    let t : ℕ = turned n (ones n - marks q) look in
    let b : (0 + 2 * t) % 2 ≡ 0 = omega arith in
    let d : (0 + 2 * t) / 2 ≡ t = omega arith in
    rw (bit_wildcard n q l, half_wildcard n q l, d, pick_even _ wildcard any b, turned_node n q look l)

-- a pattern has as many looks as the read has nodes
looks_ones : (n : ℕ) → looks n (ones n) ≡ 1
unfolding looks ones
looks_ones zero = refl
looks_ones (suc n) =
    let b : (1 + 2 * ones n) % 2 ≡ 1 = omega arith in
    let d : (1 + 2 * ones n) / 2 ≡ ones n = omega arith in
    rw (b, d) (looks_ones n)

pub looks_count : (n : ℕ) (q : Query) → length q ≤ n → looks n (ones n - marks q) ≡ read_count q
unfolding looks marks read_count named
looks_count n [] h = rw (sub-zero (ones n)) (looks_ones n)
looks_count zero (c ∷ q) h = absurd (omega arith)
looks_count (suc n) (Is v ∷ q) h =
    let l : length q ≤ n = omega arith in
    rw (bit_value n q l v, half_value n q l v, pow-succ' 2 (named q), looks_count n q l)
looks_count (suc n) (Wildcard ∷ q) h =
    let l : length q ≤ n = omega arith in
    rw (bit_wildcard n q l, half_wildcard n q l) (looks_count n q l)

-- what an entry of the sheet means: the columns of node `look` that become ?
pub read_node_law : (q : Query) (look : ℕ) → length q ≤ 4 → look < read_count q → read_node q look ≡ changed_node any q (sheet_entry (15 - marks q) look)
unfolding sheet_entry ones
read_node_law q look h l = rw (looks_count 4 q h, lt-ltb look (read_count q) l) (turned_node 4 q look h)

-- the same in the terms of the code, by marks and values
pub look_small : (k m look : ℕ) (vs : List ℕ) → k ≤ 4 → look < read_count (columns_in k m vs) → look < 16
look_small k m look vs h l = omega (arith, read_count_most (columns_in k m vs) (omega (arith, columns_length k m vs)))

pub read_words : (q : Marked) (look t : ℕ) (r : List ℕ) → r ≡ label_words (changed_node (turned_term turned.Any) (marked_query q) t) → t ≡ sheet_entry (15 - q.marks) look
    → look < read_count (marked_query q) → r ≡ label_words (read_node (marked_query q) look)
read_words q look t r e f l =
    let w : length (marked_query q) ≤ 4 = (let z = q.few in omega (arith, columns_length q.k q.marks q.values)) in
    rw (read_node_law (marked_query q) look w l, marks_in q.k q.marks q.values q.fit, ← f) e

-- ---- Which columns change
-- a column changes by the lowest bit alone
term_same : (t : Term) (c : Column) (n m : ℕ) → n % 2 ≡ m % 2 → changed_term t c n ≡ changed_term t c m
unfolding changed_term
term_same t (Is v) n m e = pick_same n m (value v) t e
term_same t Wildcard n m e = pick_same n m wildcard any e

-- bits past the columns say nothing
node_cut : (t : Term) (q : Query) (k n : ℕ) → length q ≡ k → changed_node t q (n % 2 ^ k) ≡ changed_node t q n
unfolding changed_node
node_cut t [] k n e = refl
node_cut t (c ∷ q) zero n e = absurd (omega arith)
node_cut t (c ∷ q) (suc k) n e =
    let a : n % 2 ^ suc k % 2 ≡ n % 2 = omega (arith, low_half n k) in
    let b : n % 2 ^ suc k / 2 ≡ n / 2 % 2 ^ k = omega (arith, low_half n k) in
    rw (term_same t c (n % 2 ^ suc k) n a, b, node_cut t q k (n / 2) (omega arith))

-- two bits, by cases
two_bits : (P : ℕ → ℕ → Type 0) → P 0 0 → P 0 1 → P 1 0 → P 1 1 → (a b : ℕ) → a < 2 → b < 2 → P a b
two_bits P w x y z zero zero h l = w
two_bits P w x y z zero (suc zero) h l = x
two_bits P w x y z zero (suc (suc b)) h l = absurd (omega arith)
two_bits P w x y z (suc zero) zero h l = y
two_bits P w x y z (suc zero) (suc zero) h l = z
two_bits P w x y z (suc zero) (suc (suc b)) h l = absurd (omega arith)
two_bits P w x y z (suc (suc a)) b h l = absurd (omega arith)

-- ---- The tags, all at once
-- what a value that turns adds to the tag 2
abbrev pub added : Turned → ℕ
added turned.Wildcard = 0
added turned.Any = 1

-- of a column with the mark a and the bit b: 2, less 1 if it names a value, and 1 more if it changes; more yet if both
module _ (v n : ℕ) where
  abbrev TagOf : Turned → ℕ → ℕ → Type 0
  TagOf to a b = n % 2 ≡ b → tag (changed_term (turned_term to) (column_of a v) n) + a ≡ 2 + b + added to * min a b

  column_tag : (to : Turned) (a b : ℕ) → a < 2 → b < 2 → TagOf to a b
  unfolding changed_term column_of pick tag
  column_tag turned.Wildcard a b ha hb = two_bits (TagOf turned.Wildcard) (λ f. rw f) (λ f. rw f) (λ f. rw f) (λ f. rw f) a b ha hb
  column_tag turned.Any a b ha hb = two_bits (TagOf turned.Any) (λ f. rw f) (λ f. rw f) (λ f. rw f) (λ f. rw f) a b ha hb

spread_none : (n : ℕ) → spread n 0 ≡ 0
unfolding spread
spread_none zero = refl
spread_none (suc n) = rw (spread_none n)

-- the two halves of k + 1 marks, all 1, and of what two numbers have in common
module _ (k : ℕ) where
  ones_bit : (2 ^ suc k - 1) % 2 ≡ 1
  ones_bit = omega (arith, pow-succ' 2 k, pow_pos k)

  ones_half : (2 ^ suc k - 1) / 2 ≡ 2 ^ k - 1
  ones_half = omega (arith, pow-succ' 2 k, pow_pos k)

common_most : (a b : ℕ) → a < 2 → min a b < 2
common_most a b h = omega (arith, min-le_left a b)

module _ (a b : ℕ) where
  common_bit : bit_and a b % 2 ≡ min (a % 2) (b % 2)
  common_bit = omega (arith, and_step a b, common_most (a % 2) (b % 2) (omega arith))

  common_half : bit_and a b / 2 ≡ bit_and (a / 2) (b / 2)
  common_half = omega (arith, and_step a b, common_most (a % 2) (b % 2) (omega arith))

-- so of all columns, each in its byte
tags_all : (to : Turned) (n k m b : ℕ) (vs : List ℕ) → k ≤ n → m < 2 ^ k → b < 2 ^ k
    → tags (changed_node (turned_term to) (columns_in k m vs) b) + spread n m ≡ 2 * spread n (2 ^ k - 1) + spread n b + added to * spread n (bit_and m b)
unfolding changed_node columns_in tags spread
tags_all to n zero m b vs h hm hb =
    let x : m ≡ 0 = omega arith in
    let y : b ≡ 0 = omega arith in
    rw (x, y, spread_none n) (omega arith)
tags_all to zero (suc k) m b vs h hm hb = absurd (omega arith)
tags_all to (suc n) (suc k) m b vs h hm hb =
    let lm : m / 2 < 2 ^ k = omega (arith, pow-succ' 2 k) in
    let lb : b / 2 < 2 ^ k = omega (arith, pow-succ' 2 k) in
    let i = tags_all to n k (m / 2) (b / 2) (drop 1 vs) (omega arith) lm lb in
    let t = column_tag (get_or vs 0 0) b to (m % 2) (b % 2) (omega arith) (omega arith) refl in
    rw (ones_bit k, ones_half k, common_bit m b, common_half m b) (omega (arith, i, t))

-- ---- The values, all at once
turned_value : (to : Turned) → term_value (turned_term to) ≡ 0
unfolding term_value
turned_value turned.Wildcard = refl
turned_value turned.Any = refl

-- a value stays where it is named and does not change
module _ (to : Turned) (v n : ℕ) where
  abbrev ValueOf : ℕ → ℕ → Type 0
  ValueOf a b = n % 2 ≡ b → term_value (changed_term (turned_term to) (column_of a v) n) ≡ column_value (column_of (a - min a b) v)

  column_value_law : (a b : ℕ) → a < 2 → b < 2 → ValueOf a b
  unfolding changed_term column_of column_value pick term_value
  column_value_law a b ha hb = two_bits ValueOf (λ f. rw f) (λ f. rw f) (λ f. rw f) (λ f. rw f (turned_value to)) a b ha hb

none_under : (n : ℕ) (vs : List ℕ) → map column_value (columns_in n 0 vs) ≡ replicate n 0
unfolding columns_in column_of column_value
none_under zero vs = refl
none_under (suc n) vs = rw (none_under n (drop 1 vs))

values_all : (to : Turned) (n k m b : ℕ) (vs : List ℕ) → k ≤ n → m < 2 ^ k → b < 2 ^ k
    → map term_value (changed_node (turned_term to) (columns_in k m vs) b) ++ replicate (n - k) 0 ≡ map column_value (columns_in n (m - bit_and m b) vs)
unfolding changed_node columns_in
values_all to n zero m b vs h hm hb =
    let x : m ≡ 0 = omega arith in
    rw (x, sub-zero n, none_under n vs)
values_all to zero (suc k) m b vs h hm hb = absurd (omega arith)
values_all to (suc n) (suc k) m b vs h hm hb =
    let lm : m / 2 < 2 ^ k = omega (arith, pow-succ' 2 k) in
    let lb : b / 2 < 2 ^ k = omega (arith, pow-succ' 2 k) in
    let d : suc n - suc k ≡ n - k = omega arith in
    let x : (m - bit_and m b) % 2 ≡ m % 2 - min (m % 2) (b % 2) = omega (arith, and_step m b, min-le_left (m % 2) (b % 2), and_le_l (m / 2) (b / 2)) in
    let y : (m - bit_and m b) / 2 ≡ m / 2 - bit_and (m / 2) (b / 2) = omega (arith, and_step m b, min-le_left (m % 2) (b % 2), and_le_l (m / 2) (b / 2)) in
    rw (d, x, y, column_value_law to (get_or vs 0 0) b (m % 2) (b % 2) (omega arith) (omega arith) refl, values_all to n k (m / 2) (b / 2) (drop 1 vs) (omega arith) lm lb)

-- ---- A label in five numbers, in the terms of the code
-- the tags as a sum: d of the columns in use, n of those that name a value, g of those that change, w of those that do both
pub tag_sum : (q : Marked) (to : Turned) (b u d n g w : ℕ) → d ≡ spread 4 u → n ≡ spread 4 q.marks → g ≡ spread 4 b → w ≡ spread 4 (bit_and q.marks b)
    → u ≡ 2 ^ q.k - 1 → b < 2 ^ q.k → tags (changed_node (turned_term to) (marked_query q) b) + n ≡ 2 * d + g + added to * w
tag_sum q to b u d n g w ed en eg ew e hb = rw (ed, en, eg, ew, e) (tags_all to 4 q.k q.marks b q.values q.few q.fit hb)

pub spread_most : (r x : ℕ) → r ≡ spread 4 x → r ≤ 16843009
unfolding spread
spread_most r x e = omega arith

pub added_most : (to : Turned) (x : ℕ) → added to * x ≤ x
added_most turned.Wildcard x = omega arith
added_most turned.Any x = omega arith

node_length : (t : Term) (q : Query) (n : ℕ) → length (changed_node t q n) ≡ length q
unfolding changed_node
node_length t [] n = refl
node_length t (c ∷ q) n = rw (node_length t q (n / 2))

pub label_words_law : (k m n u tg : ℕ) (to : Turned) (vs held : List ℕ) → k ≤ 4 → u ≡ 2 ^ k - 1 → tg ≡ tags (changed_node (turned_term to) (columns_in k (bit_and m u) vs) (bit_and n u))
    → held ≡ map column_value (columns_in 4 (bit_and m u - bit_and (bit_and m u) (bit_and n u)) vs)
    → tg ∷ get_or held 0 0 ∷ get_or held 1 0 ∷ get_or held 2 0 ∷ get_or held 3 0 ∷ [] ≡ label_words (changed_node (turned_term to) (columns_in k m vs) n)
unfolding label_words padded
label_words_law k m n u tg to vs held h e f g =
    let t : Term = turned_term to in
    let x : ℕ = m % 2 ^ k in
    let y : ℕ = n % 2 ^ k in
    let lx : x < 2 ^ k = mod-lt m (pow_pos k) in
    let ly : y < 2 ^ k = mod-lt n (pow_pos k) in
    let a : bit_and m u ≡ x = rw e (and_mask m k) in
    let b : bit_and n u ≡ y = rw e (and_mask n k) in
    let q : changed_node t (columns_in k x vs) y ≡ changed_node t (columns_in k m vs) n =
    rw (columns_cut k m vs) (node_cut t (columns_in k m vs) k n (columns_length k m vs)) in
    let l : Label = changed_node t (columns_in k m vs) n in
    let w : tg ≡ tags l = f ∙ rw (a, b, q) in
    let v : held ≡ map term_value l ++ replicate (4 - k) 0 =
    g ∙ rw (a, b) (sym (values_all to 4 k x y vs h lx ly) ∙ ap (λ (z : Label). map term_value z ++ replicate (4 - k) 0) q) in
    let d : length (map term_value l) ≡ k = length-map l term_value ∙ node_length t (columns_in k m vs) n ∙ columns_length k m vs in
    let z : length held ≡ 4 = ap length g ∙ length-map (columns_in 4 _ vs) column_value ∙ columns_length 4 _ vs in
    ap (λ (r : List ℕ). tg ∷ r) (four_at held z) ∙ rw (w, v, d)

-- the same of a query whose marks are none past its columns
pub marked_label_law : (q : Marked) (n u tg : ℕ) (to : Turned) (held : List ℕ) → u ≡ 2 ^ q.k - 1 → tg ≡ tags (changed_node (turned_term to) (marked_query q) (bit_and n u))
    → held ≡ map column_value (columns_in 4 (q.marks - bit_and q.marks (bit_and n u)) q.values)
    → tg ∷ get_or held 0 0 ∷ get_or held 1 0 ∷ get_or held 2 0 ∷ get_or held 3 0 ∷ [] ≡ label_words (changed_node (turned_term to) (marked_query q) n)
marked_label_law q n u tg to held e f g =
    let a : bit_and q.marks u ≡ q.marks = rw e (and_mask q.marks q.k) ∙ mod-eq_of_lt q.fit in
    label_words_law q.k q.marks n u tg to q.values held q.few e (rw a f) (rw a g)
