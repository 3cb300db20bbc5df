-- `keys::query_width` meets its contract: with a range and without. Assumes nothing.
use Rattle.query.specs.Range.{is_ranged}
use Rattle.columns.specs.KeyContracts.{query_width}
use Rattle.columns.proofs.keys.query_width.Goals as goal

pub returns-in-Between-clause-width : goal.returns-in-Between-clause-width
unfolding query_width is_ranged
returns-in-Between-clause-width c = rw c.in-Between.is

pub returns-in-None-clause-width : goal.returns-in-None-clause-width
unfolding query_width is_ranged
returns-in-None-clause-width c = rw c.in-None.is
