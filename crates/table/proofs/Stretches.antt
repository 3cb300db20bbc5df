-- What the passes give is what the table's functions say: the records that a pass is lent are the table's; masks and values test what their query does,
-- and shifts and limits what the query and the range do; where nothing is to be found, nothing is listed. Leans on the laws of Rows, of columns and of
-- query, and on TableMemory and Passing. Assumes nothing.
use mathlib.Core.Path.{◌≡◌, refl, sym, ap, ◌∙◌}
use mathlib.Core.Bool.{Bool, true, false, cond, ◌&&◌}
use mathlib.Core.List.{List, [], ◌∷◌, ◌++◌}
use Prim.Native.Nat.{ℕ, zero, suc, ◌+◌, ◌*◌, ◌-◌, ◌≤◌, ◌<◌}
use native.Mathlib.Nat.{suc-mul, mul-le-mul_left}
use native.Mathlib.Omega.{arith}
use lib.Dec.{ltb}
use lib.ListN.{length, get_or, take, drop, length-take, length-drop, get_or-eq_default}
use lib.Seq.{length-take-le, get_or-take, get_or-drop}
use borrow.Author.Tests.{ltb-true, ltb-false, eqb-true}
use Rattle.std.proofs.Common.{Some}
use Rattle.lists.specs.Lists.{rows, keep, entries_in, written, flat}
use Rattle.laws.proofs.ListLaws.{and_left, and_right, keep_none}
use Rattle.laws.proofs.RowLaws.{Wide, rows_front}
use Rattle.laws.proofs.TestLaws.{by_test}
use Rattle.laws.proofs.WrittenLaws.{written_nil}
use Rattle.query.specs.declared.Column.TheVariants.{Wildcard}
use Rattle.query.specs.declared.Range.{Range}
use Rattle.query.specs.declared.Range.TheVariants.{None, Between}
use Rattle.query.specs.Query.{Query, Record, lies, names_zero}
use Rattle.query.specs.Range.{within, is_range, is_reversed}
use Rattle.query.proofs.RangeLaws.{not_named, none_within}
use Rattle.columns.specs.ColumnContracts.{four}
use Rattle.columns.specs.MaskContracts.{lies_under}
use Rattle.columns.specs.declared.bounds.Bounds.{Bounds}
use Rattle.columns.specs.BoundContracts.{bound_words, bounds_of, bounded_under, finds_none, NamesWords}
use Rattle.columns.proofs.ColumnLoops.{four_back}
use Rattle.columns.proofs.MaskLaws.{words_front, words_query, lies_words}
use Rattle.columns.proofs.BoundLaws.{Fitting, bounded_words, bounds_words, shifts_long, bound_test}
use Rattle.rules.specs.Layout.{max_list, record_count_offset}
use Rattle.rules.specs.Table.{Table, list_of, delete, effect}
use Rattle.rules.specs.Work.{list_within}
use Rattle.rules.specs.Memory.{records_in, with_records}
use Rattle.rules.proofs.WorkLaws.{list_unranged}
use Rattle.rules.proofs.Zeros.{zero_lists_none}
use Rattle.table.specs.TableContracts.{Fit, Stretch, RangeFits, lent, records_of, gathered, gone}
use Rattle.table.proofs.TableLists.{up_to_few}
use Rattle.table.proofs.TableMemory.{in_use, wide_records}
use Rattle.table.proofs.Passing.{whole_records}

-- ---- the table's records, as the stretch that a pass is lent
module _ (k : ℕ) (s : List ℕ) (f : Fit k s) where
  abbrev n : ℕ
  n = get_or s record_count_offset 0

  pub lent_long : length (lent k s) ≡ n * k
  lent_long = length-take-le (n * k) (drop 8 s) (rw length-drop (omega (arith, in_use k s f)))

  pub lent_stretch : Stretch k (lent k s)
  lent_stretch =
      let x : n * k ≤ n * 4 = mul-le-mul_left n f.columns.1 in
      record { columns = f.columns; few = omega (arith, lent_long, f.few) }

  pub lent_records : records_of k (lent k s) ≡ records_in k s
  unfolding records_in entries_in
  lent_records = whole_records k f.columns.0 n (lent k s) lent_long ∙ rows_front k n (drop 8 s) (rw length-drop (omega (arith, in_use k s f)))

-- ---- tests that say the same of such records
keep_same : (p q : Record → Bool) (k : ℕ) (t : Table) → Wide k t → ((r : Record) → length r ≡ k → p r ≡ q r) → keep p t ≡ keep q t
unfolding keep Wide
keep_same p q k [] w f = refl
keep_same p q k (r ∷ t) w f = rw (f r w.0, keep_same p q k t w.1 f)

-- without a range
pub kept_plain : (s : List ℕ) (q : Query) (range : Range) → range ≡ None → Fit (length q) s
    → keep (lies_under (four q)) (records_of (length q) (lent (length q) s)) ≡ list_within range q (records_in (length q) s)
unfolding list_of
kept_plain s q range e f =
    let say_same : (r : Record) → length r ≡ length q → lies_under (four q) r ≡ lies q r =
    (λ r h. lies_words q r f.columns.1 ∙ ap (λ (x : Query). lies x r) (words_query (length r) q (sym h) (omega (arith, f.columns.1)))) in
    ap (keep (lies_under (four q))) (lent_records (length q) s f)
    ∙ keep_same (lies_under (four q)) (lies q) (length q) (records_in (length q) s) (wide_records (length q) s f) say_same
    ∙ sym (rw e (list_unranged q (records_in (length q) s)))

-- numbers of a memory
abbrev pub Words : List ℕ → Type 0
Words s = (i : ℕ) → get_or s i 0 < 4294967296

take_words : (n : ℕ) (s : List ℕ) → Words s → Words (take n s)
take_words n s w i = by_test (ltb i n)
    (λ e. rw (get_or-take n s i 0 (ltb-true i n e)) (w i))
    (λ e. let l : length (take n s) ≤ i = (let z = ltb-false i n e in rw length-take (omega arith)) in
    rw (get_or-eq_default (take n s) 0 l) (omega arith))

drop_words : (n : ℕ) (s : List ℕ) → Words s → Words (drop n s)
drop_words n s w i = rw (get_or-drop n s i 0) (w (n + i))

-- tests that agree on records of k 32-bit numbers keep the same of them
rows_kept : (p q : Record → Bool) (k n : ℕ) (s : List ℕ) → ((r : Record) → length r ≡ k → Fitting r → p r ≡ q r) → n * k ≤ length s → Words s
    → keep p (rows k n s) ≡ keep q (rows k n s)
unfolding keep rows
rows_kept p q k zero s f h w = refl
rows_kept p q k (suc n) s f h w =
    let e : suc n * k ≡ k + n * k = omega (arith, suc-mul n k) in
    let l : length (drop k s) ≡ length s - k = length-drop k s in
    rw (f (take k s) (length-take-le k s (omega arith)) (take_words k s w), rows_kept p q k n (drop k s) f (omega arith) (drop_words k s w))

-- one test after the other
keep_both : (p q : Record → Bool) (t : Table) → keep (λ (r : Record). p r && q r) t ≡ keep q (keep p t)
unfolding keep
keep_both p q [] = refl
keep_both p q (r ∷ t) = by_test (p r)
    (λ e. rw e (ap (λ (u : Table). cond (q r) (r ∷ u) u) (keep_both p q t)))
    (λ e. rw e (keep_both p q t))

-- nothing is listed where a column names 0, or where the range has nothing above 0
module _ (q : Query) (range : Range) (c low high : ℕ) (e : range ≡ Between c low high) (none : finds_none q high ≡ true) (t : Table) where
  none_listed : list_within range q t ≡ []
  unfolding list_of list_within finds_none keep
  none_listed = by_test (names_zero q)
      (λ z. zero_lists_none q z range t)
      (λ z. let f : range ≡ Between c low 0 = e ∙ ap (Between c low) (eqb-true high 0 (rw z at none)) in
      rw f (keep_none (within (Between c low 0)) (list_of q t) [] (λ j h. none_within c low (get_or (list_of q t) j []))))

  pub none_counted : 0 ≡ length (list_within range q t)
  none_counted = rw none_listed

  pub none_gathered : Some 0 ≡ gathered (list_within range q t)
  unfolding gathered
  none_gathered = rw none_listed (sym (up_to_few 0 (omega arith)))

  pub none_written : (out : List ℕ) → out ≡ written out 0 (flat (take max_list (list_within range q t)))
  unfolding flat
  none_written out = rw none_listed (sym (written_nil out 0))

-- ---- with a range: it is on a wildcard, and its ends are in order
module _ (k : ℕ) (q : Query) (range : Range) (c low high : ℕ) (e : range ≡ Between c low high) (g : RangeFits k q range) where
  pub column_in : c < k
  unfolding is_range
  column_in = ltb-true c k (and_left (ltb c k) _ (rw e at g.there))

  column_free : get_or q c Wildcard ≡ Wildcard
  unfolding is_range
  column_free = not_named _ (and_right (ltb c k) _ (rw e at g.there))

  pub ends_ordered : low ≤ high
  unfolding is_reversed
  ends_ordered = ltb-false high low (rw e at g.ordered)

module _ (q : Query) (range : Range) (c low high : ℕ) (e : range ≡ Between c low high) (g : RangeFits (length q) q range) where
  -- these shifts and limits are the query's and the range's
  pub kept_bounded : (b : Bounds) → b.shifts ++ b.limits ≡ bound_words q c low high → length b.shifts ≡ 4 → (s : List ℕ) → Fit (length q) s → NamesWords (length q) q
      → high < 4294967296 → finds_none q high ≡ false → Words s
      → keep (bounded_under b) (records_of (length q) (lent (length q) s)) ≡ list_within range q (records_in (length q) s)
  unfolding list_of list_within
  kept_bounded b w four_long s f names small some words =
      let k : ℕ = length q in
      let n = get_or s record_count_offset 0 in
      let l = lent_long k s f in
      ap (keep (bounded_under b)) (whole_records k f.columns.0 n (lent k s) l)
      ∙ rows_kept (bounded_under b) (λ (r : Record). lies q r && within range r) k n (lent k s)
      (λ r m fit. bounded_words b _ r w four_long ∙ rw e (bound_test q f.columns.1 r m names fit c low high (column_in k q range c low high e g) (column_free k q range c low high e g) (ends_ordered k q range c low high e g) small some))
      (omega arith) (take_words (n * k) (drop 8 s) (drop_words 8 s words))
      ∙ keep_both (lies q) (within range) (rows k n (lent k s))
      ∙ ap (λ (t : Table). keep (within range) (keep (lies q) t)) (sym (whole_records k f.columns.0 n (lent k s) l) ∙ lent_records k s f)

  pub kept_ranged : (s : List ℕ) → Fit (length q) s → NamesWords (length q) q → high < 4294967296 → finds_none q high ≡ false → Words s
      → keep (bounded_under (bounds_of q c low high)) (records_of (length q) (lent (length q) s)) ≡ list_within range q (records_in (length q) s)
  kept_ranged s f names small some words =
      kept_bounded (bounds_of q c low high) (bounds_words q c low high) (shifts_long q c low high f.columns.1) s f names small some words

-- ---- a delete, for the width that is its query's
module _ (q v : Query) (m : ℕ) (e : length q ≡ m) where
  deleted_as : take m v ≡ q → (s s' : List ℕ) (r : ℕ) → r ≡ gone (take m v) (records_in m s) → s' ≡ with_records m s (effect (delete (take m v)) (records_in m s))
      → (r ≡ gone q (records_in (length q) s)) × (s' ≡ with_records (length q) s (effect (delete q) (records_in (length q) s)))
  deleted_as z s s' r x y = (rw (z, ← e) at x, rw (z, ← e) at y)

  pub deleted_is : v ≡ four q → (s s' : List ℕ) (r : ℕ) → r ≡ gone (take m v) (records_in m s) → s' ≡ with_records m s (effect (delete (take m v)) (records_in m s))
      → (r ≡ gone q (records_in (length q) s)) × (s' ≡ with_records (length q) s (effect (delete q) (records_in (length q) s)))
  deleted_is f = deleted_as (ap (take m) f ∙ four_back m q e)

  -- by the masks and values, which name the query
  pub deleted_words : length q ≤ 4 → v ≡ four q → (s s' : List ℕ) (r : ℕ) → r ≡ gone (take m v) (records_in m s) → s' ≡ with_records m s (effect (delete (take m v)) (records_in m s))
      → (r ≡ gone q (records_in (length q) s)) × (s' ≡ with_records (length q) s (effect (delete q) (records_in (length q) s)))
  deleted_words few f = deleted_as (ap (take m) f ∙ words_front m q few ∙ words_query m q e (omega arith))
