-- `keys::value_under` meets its contract, by the test of the mark. Assumes nothing.
use Rattle.columns.proofs.MarkLaws.{under_even, under_odd}
use Rattle.columns.proofs.keys.value_under.Goals as goal

pub returns-then-mark-eq0 : goal.returns-then-mark-eq0
returns-then-mark-eq0 c = under_even _ _ c.if-mark-eq0.true

pub returns-else-mark-eq0 : goal.returns-else-mark-eq0
returns-else-mark-eq0 c = under_odd _ _ c.if-mark-eq0.false
