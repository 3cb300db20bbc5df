-- `table::count` meets its contract: what the pass counts, without a range and with one, or 0 where nothing is to be found. Assumes nothing.
use Rattle.std.proofs.Common.{length, sym, ap, ◌∙◌, arith, rules}
use Rattle.columns.proofs.BoundLaws.{finds_some}
use Rattle.table.proofs.Stretches.{kept_plain, none_counted, column_in, ends_ordered, kept_bounded}
use Rattle.table.proofs.count.Goals as goal

pub returns-in_default : goal.returns-in_default
returns-in_default c =
    let a = c.args in
    rw (c.records-recs.ensures, c.width-k.ensures.is, c.of.ensures) at c.count.ensures ∙ ap length (kept_plain a.table.now a.query.now a.range c.in_default.is c.requires.0)

pub returns-then-finds_none : goal.returns-then-finds_none
returns-then-finds_none c = none_counted _ _ _ _ _ c.in-Between.is (sym c.finds_none.ensures ∙ c.if-finds_none.true) _

pub of-requires-2-clause-on : goal.of-requires-2-clause-on
of-requires-2-clause-on c = omega (arith, column_in _ _ _ _ _ _ c.in-Between.is c.requires.1, c.requires.0.columns.1)

pub of-requires-2-clause-ordered : goal.of-requires-2-clause-ordered
of-requires-2-clause-ordered c = ends_ordered _ _ _ _ _ _ c.in-Between.is c.requires.1

pub of-requires-2-clause-above : goal.of-requires-2-clause-above
of-requires-2-clause-above c = (finds_some _ _ (sym c.finds_none.ensures ∙ c.if-finds_none.false)).1

pub returns : goal.returns
returns c =
    let a = c.args in
    rw (c.records-recs.ensures, c.width-k.ensures.is) at c.count-2.ensures
    ∙ ap length (kept_bounded a.query.now a.range _ _ _ c.in-Between.is c.requires.1 c.of-2.result c.of-2.ensures.words (search rules) a.table.now c.requires.0 c.of-2.ensures.names_words (search rules) (sym c.finds_none.ensures ∙ c.if-finds_none.false) (λ i. omega (arith, c.type_inv.table i)))
