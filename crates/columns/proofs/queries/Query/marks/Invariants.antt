-- `columns::queries::Query::marks`. Invariant: the marks of the columns met, which are the last ones. Assumes nothing.
use Rattle.std.proofs.Common.{◌≡◌, map, reverse}
use Rattle.query.specs.Encoding.{marks}
use Rattle.columns.proofs.queries.Query.marks.Given as goal

abbrev pub invariant-loop-col : goal.invariant-loop-col
invariant-loop-col l =
    (goal.iterator-loop-col).can_next l.col-iterator × (goal.iterator-loop-col).is_finite l.col-iterator × (l.marks ≡ marks (reverse (map (λ y. y.now) l.yielded)))
