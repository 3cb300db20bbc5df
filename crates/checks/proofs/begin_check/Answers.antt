-- `checks::begin_check` meets its contract: memories that are not short have a number of columns. Assumes nothing.
use Rattle.std.proofs.Common.{sym, ◌∙◌, arith}
use Rattle.query.specs.Shape.{shape_of}
use Rattle.rules.proofs.PassedChecks.{long}
use Rattle.checks.proofs.begin_check.Goals as goal

pub bounds-memories-0 : goal.bounds-memories-0
bounds-memories-0 c = omega (arith, long (shape_of 0) _ (sym (c.is_short.ensures _) ∙ c.if-is_short.false))
