-- `columns::take_record` meets its contract. The invariant is `Taking`: the values so far, and no wildcard among them. Assumes nothing.
use Rattle.std.proofs.Common.{arith}
use Rattle.query.specs.declared.Column.TheVariants.{Is}
use Rattle.columns.proofs.PairLaws.{next_column, columns_done}
use Rattle.columns.proofs.TakeLoop.{taking_none, taking_more, taking_past, taking_stops, taking_before, taking_named, taking_all}
use Rattle.columns.proofs.take_record.Goals as goal
use Rattle.columns.proofs.take_record.Goals.{then-i-lt-COLUMN_SLOTS, else-i-lt-COLUMN_SLOTS}

pub loop-i-init : goal.loop-i-init
loop-i-init c = taking_none _

pub returns-in_default-clause-code : goal.returns-in_default-clause-code
returns-in_default-clause-code c =
    let l = c.loop-i in
    rw (taking_stops _ _ l.i l.invariant (next_column _ _ c.as_chunks.ensures.front l.i _ (omega arith) (cc)))

pub returns-in_default-clause-before : goal.returns-in_default-clause-before
returns-in_default-clause-before c =
    let l = c.loop-i in
    taking_before _ _ l.i l.invariant (next_column _ _ c.as_chunks.ensures.front l.i _ (omega arith) (cc))

pub loop-i-preserved : goal.loop-i-preserved
loop-i-preserved c =
    let l = c.loop-i in
    let h = next_column _ _ c.as_chunks.ensures.front l.i (Is c.in-Is.v) (omega arith) (cc) in
    elim c.if-i-lt-COLUMN_SLOTS.branch [
      | then-i-lt-COLUMN_SLOTS w ↦ rw w.values-is (taking_more _ _ l.i l.invariant c.in-Is.v h w.if-i-lt-COLUMN_SLOTS.true)
      | else-i-lt-COLUMN_SLOTS w ↦ rw w.values-is (taking_past _ _ l.i l.invariant c.in-Is.v h w.if-i-lt-COLUMN_SLOTS.false)
    ]

pub returns-clause-code : goal.returns-clause-code
returns-clause-code c =
    rw (taking_named _ _ c.loop-i.i c.loop-i.invariant (columns_done _ _ c.as_chunks.ensures.front _ (omega arith)))

pub returns-clause-values : goal.returns-clause-values
returns-clause-values c = taking_all _ _ c.loop-i.i c.loop-i.invariant (columns_done _ _ c.as_chunks.ensures.front _ (omega arith))
