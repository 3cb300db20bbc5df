-- `reading::fetch_step` meets its contract: the filed answer that was found is given. Assumes nothing.
use Rattle.std.proofs.Common.{sym}
use Rattle.reading.proofs.Filing.{fetch_given}
use Rattle.reading.proofs.fetch_step.Goals as goal

pub returns : goal.returns
returns c =
    let p = c.requires in
    fetch_given p.read p.step _ _ _ (sym c.in-Some.ensures) _ _ _ c.give-count.ensures c.set_idle.ensures
