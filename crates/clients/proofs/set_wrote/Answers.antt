-- `clients::set_wrote` meets its contract: a step counted, then two numbers stored. Assumes nothing.
use Rattle.clients.proofs.ClientChanges.{flag_byte, wrote_left}
use Rattle.clients.proofs.set_wrote.Goals as goal

pub returns : goal.returns
returns c =
    wrote_left _ _ c.requires.0 _ _ _ c.args.changed c.args.full c.advance.ensures (rw (c.from.ensures, flag_byte) at c.put.ensures)
    (rw (c.from-2.ensures, flag_byte) at c.put-2.ensures)
