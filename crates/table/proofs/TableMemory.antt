-- Laws of a table memory that is fit: where its records lie, what a scan of them reads, and that other records written back keep it fit.
-- Leans on the definitions of rules, on its laws of the memories, on the laws of entries and rows and on those of records. Assumes nothing.
use mathlib.Core.Path.{◌≡◌}
use mathlib.Core.Bool.{false}
use mathlib.Core.List.{List, [], ◌∷◌, ◌++◌}
use Prim.Native.Nat.{ℕ, ◌+◌, ◌*◌, ◌≤◌, ◌<◌}
use native.Mathlib.Nat.{mul-le-mul_left, mul-le-mul_right}
use native.Mathlib.Omega.{arith}
use lib.ListN.{length, get_or, take, drop, set}
use Rattle.laws.specs.Splice.{inserted}
use Rattle.laws.proofs.RowLaws.{slot, Wide, wide_keep}
use Rattle.laws.proofs.EntryLaws.{entry_at, with_insert, with_self}
use Rattle.query.specs.Query.{Query, Record, lies}
use Rattle.query.specs.Shape.{max_columns}
use Rattle.rules.specs.Layout.{max_records, table_least, record_count_offset}
use Rattle.rules.specs.Table.{Table, list_of, Change, effect}
use Rattle.rules.specs.Memory.{Mem, records_in, with_records}
use Rattle.rules.specs.Refusals.{shape, columns, is_short, is_unsound}
use Rattle.rules.proofs.PassedChecks.{sound}
use Rattle.rules.proofs.MemoryLaws as rules
use Rattle.records.proofs.RecordWrites.{OfWidth, effect_wide, effect_few}
use Rattle.table.specs.TableContracts.{Fit}

-- ---- a table memory that passed the refusals is fit
pub fit_passed : (m : Mem) → is_short (shape m) m ≡ false → is_unsound m ≡ false → Fit (columns m) m.table
fit_passed m h g =
    let s = sound m h g in
    record { columns = (s.least, s.most); long = s.long.table; few = s.records }

-- ---- places, for omega
pub ends : (k n : ℕ) → k ≤ max_columns → n ≤ max_records → 8 + n * k ≤ table_least
ends k n h g = let a : n * k ≤ n * 4 = mul-le-mul_left n h in omega arith

pub in_use : (k : ℕ) (s : List ℕ) → Fit k s → 8 + get_or s record_count_offset 0 * k ≤ length s
in_use k s f = let a : 8 + get_or s record_count_offset 0 * k ≤ table_least = ends k (get_or s record_count_offset 0) f.columns.1 f.few in let b = f.long in omega arith

-- record i ends inside the memory
pub slot_in : (k : ℕ) (s : List ℕ) (i : ℕ) → Fit k s → i < get_or s record_count_offset 0 → 8 + i * k + k ≤ table_least
slot_in k s i f h =
    let a : 8 + get_or s record_count_offset 0 * k ≤ table_least = ends k (get_or s record_count_offset 0) f.columns.1 f.few in
    omega (arith, slot k (get_or s record_count_offset 0) i h)

-- the same at the place where a scan stands
pub scan_in : (k : ℕ) (s : List ℕ) (i at : ℕ) → Fit k s → i < get_or s record_count_offset 0 → at ≡ 8 + i * k → at + k ≤ table_least
scan_in k s i at f h e = omega (arith, slot_in k s i f h)

pub scan_end : (k : ℕ) (s : List ℕ) (i at : ℕ) → Fit k s → i ≤ get_or s record_count_offset 0 → at ≡ 8 + i * k → at ≤ table_least
scan_end k s i at f h e =
    let a : 8 + get_or s record_count_offset 0 * k ≤ table_least = ends k (get_or s record_count_offset 0) f.columns.1 f.few in
    let b : i * k ≤ get_or s record_count_offset 0 * k = mul-le-mul_right k h in
    omega arith

-- a record more ends inside it, where there is room for one
pub room_for : (k : ℕ) (s : List ℕ) → Fit k s → get_or s record_count_offset 0 < max_records → 8 + get_or s record_count_offset 0 * k + k ≤ length s
room_for k s f h =
    let a : 8 + max_records * k ≤ table_least = ends k max_records f.columns.1 (omega arith) in
    let b = f.long in
    omega (arith, slot k max_records (get_or s record_count_offset 0) h)

-- ---- what is read
pub record_at : (k : ℕ) (s : List ℕ) (i : ℕ) → i < get_or s record_count_offset 0 → get_or (records_in k s) i [] ≡ take k (drop (8 + i * k) s)
unfolding records_in
record_at k s i h = entry_at 0 k s i h

pub wide_records : (k : ℕ) (s : List ℕ) → Fit k s → Wide k (records_in k s)
wide_records k s f = rules.wide_records k s f.columns.1 f.long f.few

pub wide_list : (k : ℕ) (s : List ℕ) (q : Query) → Fit k s → Wide k (list_of q (records_in k s))
unfolding list_of
wide_list k s q f = wide_keep k (lies q) (records_in k s) (wide_records k s f)

-- ---- what is written
pub with_records_law : (k : ℕ) (s : List ℕ) → Fit k s → with_records k s (records_in k s) ≡ s
unfolding records_in with_records
with_records_law k s f = with_self 0 k s (in_use k s f) (omega arith)

pub with_inserted : (k : ℕ) (s : List ℕ) (r : Record) (i : ℕ) → Fit k s → i ≤ get_or s record_count_offset 0
    → with_records k s (take i (records_in k s) ++ (r ∷ drop i (records_in k s))) ≡ set (inserted s (8 + i * k) (8 + get_or s record_count_offset 0 * k) r) 0 (get_or s record_count_offset 0 + 1)
unfolding records_in with_records
with_inserted k s r i f h = with_insert 0 k s (in_use k s f) i r h

-- a table of at most 2,048 records of k numbers, written into a fit memory
module _ (k : ℕ) (s : List ℕ) (t : Table) (f : Fit k s) (w : Wide k t) (few : length t ≤ max_records) where
  pub length_back : length (with_records k s t) ≡ length s
  length_back = rules.length_with_records k s f.columns.1 f.long f.few t w few

  pub count_back : get_or (with_records k s t) record_count_offset 0 ≡ length t
  count_back = rules.count_records k s f.columns.1 f.long f.few t w few

  -- nothing is lost by writing a table back and reading it
  pub records_back : records_in k (with_records k s t) ≡ t
  records_back = rules.records_with k s f.columns.1 f.long f.few t w few

  pub fit_back : Fit k (with_records k s t)
  fit_back =
      let a : length (with_records k s t) ≡ length s = length_back in
      let b : get_or (with_records k s t) record_count_offset 0 ≡ length t = count_back in
      let l = f.long in
      record { columns = f.columns; long = omega arith; few = omega arith }

-- a write of k columns
module _ (k : ℕ) (s : List ℕ) (w : Change) (f : Fit k s) (h : OfWidth k w) where
  effect_is_wide : Wide k (effect w (records_in k s))
  effect_is_wide = effect_wide k w (records_in k s) h (wide_records k s f)

  effect_is_few : length (effect w (records_in k s)) ≤ max_records
  effect_is_few = effect_few w (records_in k s) (let a = rules.length_records k s in let b = f.few in omega arith)

  pub write_length : length (with_records k s (effect w (records_in k s))) ≡ length s
  write_length = length_back k s (effect w (records_in k s)) f effect_is_wide effect_is_few

  pub write_fit : Fit k (with_records k s (effect w (records_in k s)))
  write_fit = fit_back k s (effect w (records_in k s)) f effect_is_wide effect_is_few

  pub write_records : records_in k (with_records k s (effect w (records_in k s))) ≡ effect w (records_in k s)
  write_records = records_back k s (effect w (records_in k s)) f effect_is_wide effect_is_few
