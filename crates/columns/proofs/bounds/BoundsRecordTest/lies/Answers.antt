-- `lies` of `columns::bounds::Bounds` meets its contract: column by column. Assumes nothing.
use Rattle.std.proofs.Common.{sym, refl, ◌∙◌, rules}
use Rattle.columns.specs.BoundContracts.{bounded_by, bounded_under}
use Rattle.columns.proofs.BoundLaws.{bounded_on, bounded_end}
use Rattle.columns.proofs.bounds.BoundsRecordTest.lies.Goals as goal

pub loop-i-init : goal.loop-i-init
unfolding bounded_under
loop-i-init c = refl

pub loop-i-preserved : goal.loop-i-preserved
unfolding bounded_by
loop-i-preserved c =
    let b = c.args.self.now in
    c.loop-i.invariant ∙ bounded_on b.shifts b.limits c.args.rec.now c.loop-i.i c.loop-i.fits (search rules) (search rules) c.loop-i-test.true ∙ refl

pub returns : goal.returns
returns c =
    let b = c.args.self.now in
    sym (c.loop-i.invariant ∙ bounded_end _ _ c.args.rec.now c.loop-i.i c.loop-i.fits c.loop-i-test.false)
