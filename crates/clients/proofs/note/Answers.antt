-- `clients::note` meets its contract: a step counted, then one or two numbers stored. Assumes nothing.
use Rattle.clients.proofs.ClientChanges.{noted_quiet, noted_seen}
use Rattle.clients.proofs.note.Goals as goal

pub returns-then-pending-ne0 : goal.returns-then-pending-ne0
returns-then-pending-ne0 c =
    noted_seen _ _ c.requires.0 _ _ c.args.j _ _ c.advance.ensures c.put.ensures _ c.put-then-pending-ne0.ensures c.if-pending-ne0.true

pub returns-else-pending-ne0 : goal.returns-else-pending-ne0
returns-else-pending-ne0 c =
    noted_quiet _ _ c.requires.0 _ _ c.args.j _ _ c.advance.ensures c.put.ensures c.if-pending-ne0.false
