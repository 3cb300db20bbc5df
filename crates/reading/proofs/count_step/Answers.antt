-- `reading::count_step` meets its contract: the count is held. Assumes nothing.
use Rattle.reading.proofs.Listing.{count_held}
use Rattle.reading.proofs.count_step.Goals as goal

pub returns : goal.returns
returns c = λ n a y.
    let p = c.requires in
    count_held p.read _ _ c.count_records-n.ensures p.counts p.step _ _ c.saw_pending-saw.ensures n a y c.if-saw.false c.set_value.ensures
