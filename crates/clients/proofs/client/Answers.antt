-- `clients::client` meets its contract: the client's part of the memory. Assumes nothing.
use Rattle.clients.proofs.ClientReads.{client_part}
use Rattle.clients.proofs.client.Goals as goal

pub returns-clause-own : goal.returns-clause-own
returns-clause-own c = client_part _ _ _ c.place-at.ensures
