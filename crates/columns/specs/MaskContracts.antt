-- A query as the record test takes it: four masks and four values, which the masks are to leave of a record's numbers. Leans on query and
-- ColumnContracts. Definitions only. Assumes nothing.
use Rattle.std.specs.Prelude.{◌≡◌, ℕ, ◌≤◌, Bool, cond, List, [], ◌∷◌, ◌++◌, map, length, take, drop, ◌==◌}
use Rattle.query.specs.declared.Column.{Column}
use Rattle.query.specs.declared.Column.TheVariants.{Is, Wildcard}
use Rattle.query.specs.Query.{Query, Record, is_measured, lies}
use Rattle.query.specs.Shape.{max_columns}
use Rattle.columns.specs.ColumnContracts.{four}

-- a column's mark, 1 or 0, in all bits of a 32-bit number; 0 too where it names 0
unfoldable pub mask_of : Column → ℕ
mask_of (Is v) = cond (is_measured v) 4294967295 0
mask_of Wildcard = 0

-- what the mask is to leave of a number that fits; where a column names 0, what it leaves of none: "A named 0 is never equal to anything" (S-5)
unfoldable pub sought_of : Column → ℕ
sought_of (Is v) = cond (is_measured v) v 1
sought_of Wildcard = 0

-- the columns that masks and values name
unfoldable pub column_under : ℕ → ℕ → Column
column_under m v = cond (m == 0) (cond (v == 0) Wildcard (Is 0)) (Is v)

unfoldable pub columns_under : List ℕ → List ℕ → Query
columns_under [] vs = []
columns_under (m ∷ ms) [] = []
columns_under (m ∷ ms) (v ∷ vs) = column_under m v ∷ columns_under ms vs

-- a query's masks and values, with those of wildcards behind its columns, one list behind the other; and the query of k columns that eight such
-- numbers name
unfoldable pub mask_words : Query → List ℕ
mask_words q = map mask_of (four q) ++ map sought_of (four q)

unfoldable pub query_under : ℕ → List ℕ → Query
query_under k l = take k (columns_under (take max_columns l) (drop max_columns l))

-- masks and values that are some query's, with those of wildcards behind its columns: one list behind the other, and each list
pub record Masked (masks values : List ℕ) : Type 0 where
  pub query : Query
  pub few : length query ≤ max_columns
  pub words : masks ++ values ≡ mask_words query
  pub masks_are : masks ≡ map mask_of (four query)
  pub values_are : values ≡ map sought_of (four query)

-- the test of four columns, of a record that may have fewer numbers
unfoldable pub lies_under : Query → Record → Bool
lies_under q r = lies (take (length r) q) r
