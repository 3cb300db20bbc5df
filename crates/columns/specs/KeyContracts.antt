-- What the functions of src/keys.rt give, where crates/query/specs has no name for it. Definitions only. Assumes nothing.
use Rattle.std.specs.Prelude.{◌≡◌, ℕ, ◌-◌, ◌/◌, ◌%◌, ◌<◌, Bool, true, cond, ◌&&◌, ◌||◌, List, [], ◌∷◌, ◌==◌}
use Rattle.query.specs.declared.Column.{Column}
use Rattle.query.specs.declared.Column.TheVariants.{Is, Wildcard}
use Rattle.query.specs.declared.Range.{Range}
use Rattle.query.specs.declared.Range.TheVariants.{Between}
use Rattle.query.specs.Shape.{max_columns}
use Rattle.query.specs.Encoding.{key_width}
use Rattle.query.specs.Range.{is_ranged}

-- the mark of one column
unfoldable pub mark_of : Column → ℕ
mark_of (Is v) = 1
mark_of Wildcard = 0

-- a value has a mark, or is 0
unfoldable pub keeps : ℕ → ℕ → Bool
keeps m v = m % 2 == 1 || v == 0

unfoldable pub zero_under : ℕ → List ℕ → Bool
zero_under m [] = true
zero_under m (v ∷ vs) = keeps m v && zero_under (m / 2) vs

-- how many of the numbers behind a key's first are its query's
unfoldable pub query_width : Range → ℕ
query_width range = cond (is_ranged range) max_columns (key_width - 1)

-- a range, if there is one, is on one of the four columns that a hall may have
abbrev pub IsNear : Range → Type 0
IsNear g = (c l h : ℕ) → g ≡ Between c l h → c < max_columns
