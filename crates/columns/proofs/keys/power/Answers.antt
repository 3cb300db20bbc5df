-- `keys::power` meets its contract: no bit is shifted out. Assumes nothing.
use Rattle.columns.proofs.MarkLaws.{shift_most}
use Rattle.columns.proofs.keys.power.Goals as goal

pub returns : goal.returns
returns c = shift_most c.args.k c.requires
