-- What the functions over the table memory ask of it, and what they report. What is listed and what a write leaves are the rules'
-- definitions. Leans on rules and lists. Definitions only. Assumes nothing.
use Rattle.std.specs.Prelude.{◌≡◌, Bool, true, false, cond, ◌||◌, List, [], ◌∷◌, Option, Some, None, ℕ, ◌-◌, ◌*◌, ◌/◌, ◌≤◌, leb, length, get_or, take, drop}
use Rattle.lists.specs.Lists.{before, place, rows, header}
use Rattle.query.specs.Query.{Query, Record}
use Rattle.query.specs.declared.Range.{Range}
use Rattle.query.specs.Shape.{shape_of, max_columns}
use Rattle.query.specs.Range.{is_range, is_reversed}
use Rattle.rules.specs.Layout.{max_records, max_list, table_least, record_count_offset}
use Rattle.rules.specs.Table.{Table, delete, has, effect}
use Rattle.table.specs.declared.Inserted.{Inserted}
use Rattle.table.specs.declared.Inserted.TheVariants.{Added, Present, Full}

-- a table memory that passed the refusals 1 and 3: k in range, long enough, its count in range
pub record Fit (k : ℕ) (s : List ℕ) : Type 0 where
  pub columns : (1 ≤ k) × (k ≤ max_columns)
  pub long : table_least ≤ length s
  pub few : get_or s record_count_offset 0 ≤ max_records

-- a number of records, if a read lists so many
unfoldable pub up_to : ℕ → Option ℕ
up_to n = cond (leb n max_list) (Some n) None

-- how many records a list has, if a read lists them all
unfoldable pub gathered : List Record → Option ℕ
gathered l = up_to (length l)

-- a table's records, one after another
abbrev pub lent : ℕ → List ℕ → List ℕ
lent k s = take (get_or s record_count_offset 0 * k) (drop header s)

-- ---- passes over a stretch of records (src/passes.rt)
-- the records of k numbers that stand one after another
unfoldable pub records_of : ℕ → List ℕ → Table
records_of k s = rows k (length s / k) s

-- no more numbers than those of a table's records, of which each has k
pub record Stretch (k : ℕ) (s : List ℕ) : Type 0 where
  pub columns : (1 ≤ k) × (k ≤ max_columns)
  pub few : length s ≤ max_records * max_columns

-- as many records as a block may have
pub record Block (size : ℕ) : Type 0 where
  pub some : 1 ≤ size
  pub few : size ≤ 16

-- a range that a begin takes beside a query of k columns
pub record RangeFits (k : ℕ) (q : Query) (range : Range) : Type 0 where
  pub there : is_range (shape_of k) q range ≡ true
  pub ordered : is_reversed range ≡ false

-- a record of them passes the test
unfoldable pub some : (Record → Bool) → Table → Bool
some p [] = false
some p (x ∷ t) = p x || some p t

-- where a record belongs: before the first greater one, if it is not there
unfoldable pub spot_of : Record → Table → Option ℕ
spot_of r t = cond (has r t) None (Some (place (before r) t))

-- what an insert reports
unfoldable pub inserted_as : Record → Table → Inserted
inserted_as r t = cond (has r t) Present (cond (leb max_records (length t)) Full Added)

-- each report as a test
abbrev pub is_added : Inserted → Bool
is_added Added = true
is_added Present = false
is_added Full = false

abbrev pub had_no_room : Inserted → Bool
had_no_room Added = false
had_no_room Present = false
had_no_room Full = true

-- how many records a delete takes out
unfoldable pub gone : Query → Table → ℕ
gone q t = length t - length (effect (delete q) t)
