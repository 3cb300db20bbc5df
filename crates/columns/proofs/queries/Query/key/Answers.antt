-- `columns::queries::Query::key` meets its contract: value by value. Assumes nothing.
use Rattle.columns.proofs.KeyLoops.{keying_none, keying_more, keying_all, first_small}
use Rattle.columns.proofs.queries.Query.key.Goals as goal

pub loop-i-init : goal.loop-i-init
loop-i-init c = keying_none _ _ c.marks.ensures

pub loop-i-preserved : goal.loop-i-preserved
loop-i-preserved c =
    let q = c.columns-col-items in
    keying_more c.args.self.now c.loop-i.i _ _ _ c.loop-i.invariant (rw q.ensures.is at c.value_of.ensures) (rw q.ensures.is at c.loop-i-test.true) (rw q.ensures.is at q.ensures.few)

pub returns-clause-is : goal.returns-clause-is
returns-clause-is c = keying_all c.args.self.now c.loop-i.i _ c.loop-i.invariant (rw c.columns-col-items.ensures.is at c.loop-i-test.false)

pub returns-clause-low : goal.returns-clause-low
returns-clause-low c =
    let q = c.columns-col-items.ensures in
    first_small c.args.self.now _ (keying_all c.args.self.now c.loop-i.i _ c.loop-i.invariant (rw q.is at c.loop-i-test.false)) (rw q.is at q.few)
