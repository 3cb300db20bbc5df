-- `columns::queries::Query::key`. Invariant: the values of the columns before the place stand behind the marks. Assumes nothing.
use Rattle.std.proofs.Common.{◌+◌, ◌∷◌, map}
use Rattle.query.specs.Encoding.{marks, column_value}
use Rattle.columns.proofs.FillLoop.{Filled}
use Rattle.columns.proofs.queries.Query.key.Given as goal

abbrev pub invariant-loop-i : goal.invariant-loop-i
invariant-loop-i l = Filled 7 0 (marks l.self ∷ map column_value l.self) (l.i + 1) l.key
