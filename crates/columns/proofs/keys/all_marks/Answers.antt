-- `keys::all_marks` meets its contract: one below the power. Assumes nothing.
use Rattle.std.proofs.Common.{arith, pow_pos}
use Rattle.columns.proofs.keys.all_marks.Goals as goal

pub overflow_sub-result : goal.overflow_sub-result
overflow_sub-result c = omega (arith, pow_pos c.args.k, c.power.ensures)
