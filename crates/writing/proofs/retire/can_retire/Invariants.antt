-- `writing::retire::can_retire`. Invariant: what is left to test decides, and the places of what is tested are kept. Assumes nothing.
use Rattle.std.proofs.Common.{◌≡◌, length, take}
use Rattle.rules.specs.Layout.{look_room}
use Rattle.rules.specs.Nodes.{retired}
use Rattle.rules.specs.Memory.{current, store_in}
use Rattle.revisions.proofs.Retirements.{all_retirable}
use Rattle.columns.specs.MarkedContracts.{marked_query}
use Rattle.writing.specs.WriteContracts.{labels_from, is_found, places_of}
use Rattle.writing.proofs.Retiring.{rest}
use Rattle.writing.proofs.retire.can_retire.Given as goal

abbrev pub invariant-loop-j : goal.invariant-loop-j
invariant-loop-j l = record {
  left : is_found (retired current l.lift (labels_from (marked_query l.query) l.from l.n) (store_in current l.nodes))
      ≡ all_retirable current l.lift (rest (marked_query l.query) l.from l.n l.j) (store_in current l.nodes);
  kept : take l.j l.places ≡ places_of (labels_from (marked_query l.query) l.from l.j) (store_in current l.nodes);
  size : length l.places ≡ look_room;
}
