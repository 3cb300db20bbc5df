-- `clients::put` meets its contract: a number stored in the client's part. Assumes nothing.
use Rattle.clients.proofs.ClientChanges.{put_one}
use Rattle.clients.proofs.put.Goals as goal

pub returns : goal.returns
returns c = rw c.place.ensures (put_one _ _ c.requires.0 _ _ c.requires.1)
