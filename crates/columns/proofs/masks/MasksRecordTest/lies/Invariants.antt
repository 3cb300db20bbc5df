-- `lies` of `columns::masks::Masks`. Invariant: the columns before the place and those from it on say together what all say. Assumes nothing.
use Rattle.std.proofs.Common.{◌≡◌, ◌&&◌, length, take, drop}
use Rattle.query.specs.Query.{lies}
use Rattle.columns.specs.MaskContracts.{lies_under}
use Rattle.columns.proofs.masks.MasksRecordTest.lies.Given as goal

abbrev pub invariant-loop-i : goal.invariant-loop-i
invariant-loop-i l = lies_under l.self l.rec ≡ l.fits && lies (drop l.i (take (length l.rec) l.self)) (drop l.i l.rec)
