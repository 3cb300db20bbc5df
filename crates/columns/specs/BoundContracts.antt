-- A query and its range as the ranged record test takes them: four shifts and four limits. Leans on query and ColumnContracts. Definitions
-- only. Assumes nothing.
use Rattle.std.specs.Prelude.{ℕ, ◌+◌, ◌-◌, ◌%◌, ◌<◌, Bool, true, false, cond, ◌&&◌, ◌||◌, List, [], ◌∷◌, ◌++◌, map, ◌==◌, bit_xor, nat_le, slice_index, slice_set}
use Rattle.query.specs.declared.Column.{Column}
use Rattle.query.specs.declared.Column.TheVariants.{Is, Wildcard}
use Rattle.query.specs.Query.{Query, Record, is_measured, names_zero}
use Rattle.query.specs.Encoding.{column_value}
use Rattle.columns.specs.declared.bounds.Bounds.{Bounds}
use Rattle.columns.specs.ColumnContracts.{four}

-- the highest bit of a 32-bit number
abbrev pub sign_bit : ℕ
sign_bit = 2147483648

-- what takes a lowest number to it, modulo 2^32
unfoldable pub shift_of : ℕ → ℕ
shift_of lowest = (sign_bit + (4294967296 - lowest)) % 4294967296

-- what takes the number that is so far above the lowest to
unfoldable pub limit_of : ℕ → ℕ
limit_of width = bit_xor width sign_bit

-- how far a column's highest number is above its lowest, which is the value that it names, or 0 of a wildcard. A named 0 has neither, since it
-- takes no number: of a query that has one, shifts and limits are not made (`finds_none`)
unfoldable pub width_of : Column → ℕ
width_of (Is v) = 0
width_of Wildcard = 4294967295

-- the lowest number that a range takes: "a range skips records with 0 in its column" (S-5)
unfoldable pub first_of : ℕ → ℕ
first_of lowest = cond (is_measured lowest) lowest 1

-- a query's shifts and limits, with those of wildcards behind its columns, and with those of a range at one
unfoldable pub shifts_of : Query → List ℕ
shifts_of q = map (λ (c : Column). shift_of (column_value c)) (four q)

unfoldable pub limits_of : Query → List ℕ
limits_of q = map (λ (c : Column). limit_of (width_of c)) (four q)

-- one list behind the other, and as the two lists that the test takes
unfoldable pub bound_words : Query → ℕ → ℕ → ℕ → List ℕ
bound_words q column lowest highest =
    slice_set (shifts_of q) column (shift_of (first_of lowest)) ++ slice_set (limits_of q) column (limit_of (highest - first_of lowest))

unfoldable pub bounds_of : Query → ℕ → ℕ → ℕ → Bounds
bounds_of q column lowest highest = record {
  shifts = slice_set (shifts_of q) column (shift_of (first_of lowest));
  limits = slice_set (limits_of q) column (limit_of (highest - first_of lowest));
}

-- no record passes: the query names 0, or the range has nothing above 0. It is told apart, since any shift and limit take some number
unfoldable pub finds_none : Query → ℕ → Bool
finds_none q highest = names_zero q || highest == 0

-- the test, number by number: shifted modulo 2^32 it is not above the limit, both as signed numbers
unfoldable pub bounded_by : ℕ → ℕ → ℕ → Bool
bounded_by shift limit x = nat_le (bit_xor ((x + shift) % 4294967296) sign_bit) (bit_xor limit sign_bit)

unfoldable pub bounded : List ℕ → List ℕ → Record → Bool
bounded ss ls [] = true
bounded [] ls (x ∷ r) = false
bounded (s ∷ ss) [] (x ∷ r) = false
bounded (s ∷ ss) (l ∷ ls) (x ∷ r) = bounded_by s l x && bounded ss ls r

unfoldable pub bounded_under : Bounds → Record → Bool
bounded_under b r = bounded b.shifts b.limits r

-- the values that a query names are 32-bit numbers, as far as its first n columns; all of them
abbrev pub NamesWords : ℕ → Query → Type 0
NamesWords n q = (i : ℕ) → i < n → slice_index (map column_value q) i < 4294967296
