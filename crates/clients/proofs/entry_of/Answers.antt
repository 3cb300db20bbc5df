-- `clients::entry_of` meets its contract: all numbers behind the client's own. Assumes nothing.
use Rattle.clients.proofs.ClientReads.{entry_part}
use Rattle.clients.proofs.entry_of.Goals as goal

pub returns-clause-own : goal.returns-clause-own
returns-clause-own c = entry_part c.args.client.now
