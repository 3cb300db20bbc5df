-- `columns::bounds::finds_none` meets its contract: one column after the other is asked, and then the range. Assumes nothing.
use Rattle.std.proofs.Common.{rules}
use Rattle.std.proofs.lemmas.Iterator.{YieldsList-from_slice}
use Rattle.std.proofs.lemmas.Iterator.Search.{any_from_yields_List}
use Rattle.query.specs.Query.{is_zero}
use Rattle.columns.proofs.BoundLaws.{zero_named, zero_high}
use Rattle.columns.proofs.bounds.finds_none.Goals as goal

pub returns-then-any : goal.returns-then-any
returns-then-any c =
    let e = any_from_yields_List is_zero _ _ c.any.result c.any.ensures.ran (YieldsList-from_slice c.columns.result.now cc) (λ x b q k. search rules) in
    zero_named c.args.query.now c.args.highest _ (rw c.columns.ensures.is at e) c.if-any.true

pub returns-else-any : goal.returns-else-any
returns-else-any c =
    let e = any_from_yields_List is_zero _ _ c.any.result c.any.ensures.ran (YieldsList-from_slice c.columns.result.now cc) (λ x b q k. search rules) in
    zero_high c.args.query.now c.args.highest _ (rw c.columns.ensures.is at e) c.if-any.false
