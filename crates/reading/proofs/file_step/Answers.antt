-- `reading::file_step` meets its contract: the client's own entry filed and given. Assumes nothing.
use Rattle.reading.proofs.Filing.{file_left}
use Rattle.reading.proofs.file_step.Goals as goal

pub returns : goal.returns
returns c =
    let p = c.requires in
    let o = c.answer_held.ensures in
    file_left p.read p.step _ _ _ _ _ _ _ c.entry.ensures.own c.file.ensures o.value o.tray_after o.clients_after
