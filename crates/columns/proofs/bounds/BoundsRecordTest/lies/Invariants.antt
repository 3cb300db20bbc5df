-- `lies` of `columns::bounds::Bounds`. Invariant: the columns before the place and those from it on say together what all say. Assumes nothing.
use Rattle.std.proofs.Common.{◌≡◌, ◌&&◌, drop}
use Rattle.columns.specs.BoundContracts.{bounded, bounded_under}
use Rattle.columns.proofs.bounds.BoundsRecordTest.lies.Given as goal

abbrev pub invariant-loop-i : goal.invariant-loop-i
invariant-loop-i l = bounded_under l.self l.rec ≡ l.fits && bounded (drop l.i l.self.shifts) (drop l.i l.self.limits) (drop l.i l.rec)
