-- `columns::bounds::Bounds::of`. Invariant: the shifts and limits of the columns before the place stand in the two arrays, and the values that these
-- columns name are 32-bit numbers. Assumes nothing.
use Rattle.std.proofs.Common.{map}
use Rattle.query.specs.declared.Column.{Column}
use Rattle.query.specs.Encoding.{column_value}
use Rattle.columns.specs.BoundContracts.{shift_of, limit_of, width_of, NamesWords}
use Rattle.columns.proofs.FillLoop.{Filled}
use Rattle.columns.proofs.bounds.Bounds.of.Given as goal

abbrev pub invariant-loop-i : goal.invariant-loop-i
invariant-loop-i l = record {
  shifts : Filled 4 (shift_of 0) (map (λ (c : Column). shift_of (column_value c)) l.query) l.i l.shifts;
  limits : Filled 4 (limit_of 4294967295) (map (λ (c : Column). limit_of (width_of c)) l.query) l.i l.limits;
  words : NamesWords l.i l.query;
}
