-- `columns::masks::Masks::of` meets its contract: column by column. Assumes nothing.
use Rattle.std.proofs.Common.{◌≡◌, ◌<◌, ◌≤◌, map, length, refl}
use Rattle.columns.specs.ColumnContracts.{four}
use Rattle.columns.specs.MaskContracts.{mask_of, sought_of}
use Rattle.columns.proofs.FillLoop.{fill_none}
use Rattle.columns.proofs.MaskLaws.{made_more, made_all, masks_made, masks_name}
use Rattle.columns.proofs.masks.Masks.of.Goals as goal

pub loop-i-init : goal.loop-i-init
loop-i-init c = record { masks = fill_none 4 0 _; values = fill_none 4 0 _ }

pub loop-i-preserved : goal.loop-i-preserved
loop-i-preserved c =
    let q = c.columns-col-items.ensures in
    let h : c.loop-i.i < length c.args.query.now = rw q.is at c.loop-i-test.true in
    let few : length c.args.query.now ≤ 4 = rw q.is at q.few in
    record {
      masks = made_more mask_of 0 _ _ _ c.loop-i.invariant.masks _ _ (rw q.is at c.mask_of.ensures) h few;
      values = made_more sought_of 0 _ _ _ c.loop-i.invariant.values _ _ (rw q.is at c.sought_of.ensures) h few;
    }

masks_are : (c : goal.After-loop-i) → c.loop-i.masks ≡ map mask_of (four c.args.query.now)
unfolding mask_of
masks_are c = made_all mask_of 0 _ _ _ c.loop-i.invariant.masks refl (rw c.columns-col-items.ensures.is at c.loop-i-test.false)

values_are : (c : goal.After-loop-i) → c.loop-i.values ≡ map sought_of (four c.args.query.now)
unfolding sought_of
values_are c = made_all sought_of 0 _ _ _ c.loop-i.invariant.values refl (rw c.columns-col-items.ensures.is at c.loop-i-test.false)

pub invariant_of-result : goal.invariant_of-result
invariant_of-result c =
    let q = c.columns-col-items.ensures in
    masks_made c.args.query.now (rw q.is at q.few) _ _ (masks_are c) (values_are c)

pub returns : goal.returns
returns c =
    let q = c.columns-col-items.ensures in
    masks_name c.args.query.now (rw q.is at q.few) _ _ (masks_are c) (values_are c)
