-- `columns::masks::Masks::of`. Invariant: the masks and values of the columns before the place stand in the two arrays. Assumes nothing.
use Rattle.std.proofs.Common.{map}
use Rattle.columns.specs.MaskContracts.{mask_of, sought_of}
use Rattle.columns.proofs.FillLoop.{Filled}
use Rattle.columns.proofs.masks.Masks.of.Given as goal

abbrev pub invariant-loop-i : goal.invariant-loop-i
invariant-loop-i l = record { masks : Filled 4 0 (map mask_of l.query) l.i l.masks; values : Filled 4 0 (map sought_of l.query) l.i l.values }
