-- What the functions over columns give, where crates/query/specs has no name for it. Definitions only. Assumes nothing.
use Rattle.std.specs.Prelude.{ℕ, ◌-◌, Bool, ◌&&◌, ◌||◌, [], ◌∷◌, ◌++◌, length, take, replicate, ◌==◌, nat_le, List, Result, Ok, Err}
use Rattle.lists.specs.Lists.{padded}
use Rattle.query.specs.declared.Column.TheVariants.{Is, Wildcard}
use Rattle.query.specs.Query.{Query, Record}
use Rattle.query.specs.Shape.{max_columns}
use Rattle.hall.specs.declared.refusal.Refusal.{Refusal}
use Rattle.hall.specs.declared.refusal.Refusal.TheVariants.{Columns}
use Rattle.hall.specs.Refusal.{number_of}
use Rattle.columns.specs.declared.NoRecord.{NoRecord}

-- a mark and its value are those of a column; `well_marked` asks it of each
unfoldable pub column_marked : ℕ → ℕ → Bool
column_marked mark v = nat_le mark 1 && (mark == 1 || v == 0)

-- a query as four columns: wildcards behind its own
unfoldable pub four : Query → Query
four q = q ++ replicate (4 - length q) Wildcard

-- the values before the first wildcard; the whole record of a query that names every column
unfoldable pub front : Query → Record
front [] = []
front (Is v ∷ q) = v ∷ front q
front (Wildcard ∷ q) = []

-- the values that an insert takes from a query, as an array: those before the first wildcard, zeros behind
abbrev pub taken_of : Query → List ℕ
taken_of q = padded max_columns (take max_columns (front q))

-- what an insert with a wildcard is turned down with
abbrev pub refusal_of : NoRecord → Refusal
refusal_of found = Columns

-- its number, or 0
abbrev pub taken_code : {A : Type 0} → Result A NoRecord → ℕ
taken_code (Ok a) = 0
taken_code (Err found) = number_of (refusal_of found)
