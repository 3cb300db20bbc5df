-- What a query as marks and values says, and what it was read from. Leans on query. Definitions only. Assumes nothing.
use Rattle.std.specs.Prelude.{◌≡◌, ℕ, List, take}
use Rattle.query.specs.Query.{Query}
use Rattle.query.specs.Encoding.{columns_in}
use Rattle.query.specs.Shape.{max_columns}
use Rattle.columns.specs.declared.marked.Marked.{Marked}

-- its columns
abbrev pub marked_query : Marked → Query
marked_query q = columns_in q.k q.marks q.values

-- it has k columns, and these marks and the first of these numbers
pub record IsParsed (q : Marked) (k m : ℕ) (vs : List ℕ) : Type 0 where
  pub columns : q.k ≡ k
  pub marks : q.marks ≡ m
  pub values : q.values ≡ take max_columns vs
