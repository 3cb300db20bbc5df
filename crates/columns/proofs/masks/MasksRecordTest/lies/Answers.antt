-- `lies` of `columns::masks::Masks` meets its contract: column by column. Assumes nothing.
use Rattle.std.proofs.Common.{sym, refl, ◌∙◌, arith}
use Rattle.columns.specs.MaskContracts.{lies_under}
use Rattle.columns.proofs.MaskLaws.{lies_on, lies_end}
use Rattle.columns.proofs.masks.MasksRecordTest.lies.Goals as goal

pub loop-i-init : goal.loop-i-init
unfolding lies_under
loop-i-init c = refl

pub loop-i-preserved : goal.loop-i-preserved
loop-i-preserved c =
    c.loop-i.invariant ∙ lies_on _ _ c.self.invariant c.args.self.now c.args.rec.now c.loop-i.i c.loop-i.fits c.self.view_is c.requires c.loop-i-test.true (omega (arith, c.type_inv.rec c.loop-i.i))

pub returns : goal.returns
returns c = sym (c.loop-i.invariant ∙ lies_end c.args.self.now c.args.rec.now c.loop-i.i c.loop-i.fits c.loop-i-test.false)
