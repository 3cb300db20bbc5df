-- `columns::queries::Query::of_marks`. Invariant: the columns before the place stand in the array, and what is left of the marks is theirs behind.
use Rattle.columns.proofs.KeyLoops.{Reading}
use Rattle.columns.proofs.queries.Query.of_marks.Given as goal

abbrev pub invariant-loop-i : goal.invariant-loop-i
invariant-loop-i l = Reading l.k l.marks l.values l.columns l.left l.i
