-- `keys::is_ranged` meets its contract: each variant by its own way out. Assumes nothing.
use Rattle.query.specs.Range.{is_ranged}
use Rattle.columns.proofs.keys.is_ranged.Goals as goal

pub returns-in-Between : goal.returns-in-Between
unfolding is_ranged
returns-in-Between c = rw c.in-Between.is

pub returns-in_default : goal.returns-in_default
unfolding is_ranged
returns-in_default c = rw c.in_default.is
