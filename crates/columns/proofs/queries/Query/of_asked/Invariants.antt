-- `columns::queries::Query::of_asked`. Invariant: the columns of the pairs before stand in the array.
use Rattle.std.proofs.Common.{length}
use Rattle.query.specs.declared.Column.TheVariants.{Wildcard}
use Rattle.query.specs.Encoding.{query_of}
use Rattle.columns.proofs.FillLoop.{Filled}
use Rattle.columns.proofs.queries.Query.of_asked.Given as goal

abbrev pub invariant-loop-i : goal.invariant-loop-i
invariant-loop-i l = Filled 4 Wildcard (query_of l.asked) (length l.yielded) l.columns
