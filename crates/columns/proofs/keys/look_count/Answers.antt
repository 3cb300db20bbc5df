-- `columns::keys::look_count` meets its contract, by one computed test over the table. Assumes nothing.
use Rattle.std.proofs.Common.{◌<◌, ◌∙◌, arith}
use Rattle.query.specs.Query.{named, read_count}
use Rattle.query.specs.Encoding.{column_of, columns_in}
use Rattle.columns.proofs.TableRule.{ruled}
use Rattle.columns.proofs.MarkLaws.{marks_below, looks_by, looks_in}
use Rattle.columns.proofs.keys.look_count.Goals as goal

pub bounds-marks : goal.bounds-marks
bounds-marks c = omega (arith, marks_below c.args.k c.args.marks (omega arith) (omega arith))

-- `passed` is the test of all 16 entries, computed
pub returns : goal.returns
unfolding looks_by read_count named columns_in column_of
returns c = λ vs.
    let a = c.args in
    let h : a.marks < 16 = marks_below a.k a.marks (omega arith) (omega arith) in
    let passed : Unit {0} = tt in
    c.from.ensures ∙ rw (ruled looks_by) (looks_in a.k a.marks vs (omega arith) (omega arith))
