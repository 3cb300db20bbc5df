-- `clients::range_in` meets its contract: the key's first number and its ends. Assumes nothing.
use Rattle.std.proofs.Common.{◌∙◌}
use Rattle.clients.proofs.ClientReads.{ends_read}
use Rattle.clients.proofs.range_in.Goals as goal

pub returns : goal.returns
returns c = c.range_of.ensures ∙ ends_read c.args.entry.now
