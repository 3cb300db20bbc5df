-- `clients::steps_in_all` meets its contract: a read's by its looks, a write's by k. Assumes nothing.
use Rattle.clients.specs.ClientContracts.{steps_of_kind}
use Rattle.clients.proofs.ClientSound.{write_steps}
use Rattle.clients.proofs.steps_in_all.Goals as goal

pub returns-in-Read : goal.returns-in-Read
unfolding steps_of_kind
returns-in-Read c = rw (c.in-Read.is, c.look_count.ensures.looks)

pub returns-in-Insert : goal.returns-in-Insert
returns-in-Insert c = write_steps c.args.kind _ _ c.in-Insert.is c.write_count.ensures.nodes
