-- `keys::bad_range` meets its contract: test by test, as `is_range` and `is_reversed` have them (`range_tests`). Assumes nothing.
use Rattle.std.proofs.Common.{arith}
use Rattle.std.proofs.lemmas.Bool.Decides.{nat_tests}
use Rattle.query.specs.Range.{is_range, is_reversed}
use Rattle.columns.proofs.KeyLoops.{range_tests}
use Rattle.columns.proofs.keys.bad_range.Goals as goal
use Rattle.columns.proofs.keys.bad_range.Goals.{then-k-column, else-k-column}

pub returns-in_default : goal.returns-in_default
unfolding is_range is_reversed
returns-in_default c = λ vs. rw c.in_default.is

pub returns-then-is_named : goal.returns-then-is_named
returns-then-is_named c =
    λ vs. rw (c.in-Between.is, range_tests)
    (elim c.if-k-column.branch [
      | then-k-column w ↦ grind (arith, nat_tests)
      | else-k-column w ↦ let n = w.is_named.ensures _ vs w.if-k-column.false in grind (arith, nat_tests)
    ])

pub returns-else-is_named : goal.returns-else-is_named
returns-else-is_named c =
    λ vs. rw (c.in-Between.is, range_tests)
    (elim c.if-k-column.branch [
      | then-k-column w ↦ grind (arith, nat_tests)
      | else-k-column w ↦ let n = w.is_named.ensures _ vs w.if-k-column.false in grind (arith, nat_tests)
    ])
