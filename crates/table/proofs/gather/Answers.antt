-- `table::gather` meets its contract: what the pass lists, without a range and with one, or nothing where nothing is to be found. Assumes nothing.
use Rattle.std.proofs.Common.{length, take, sym, ap, ◌∙◌, arith, rules}
use Rattle.columns.proofs.BoundLaws.{finds_some}
use Rattle.lists.specs.Lists.{written, flat}
use Rattle.rules.specs.Layout.{max_list}
use Rattle.table.specs.TableContracts.{gathered, up_to}
use Rattle.table.proofs.Stretches.{kept_plain, none_gathered, none_written, column_in, ends_ordered, kept_bounded}
use Rattle.table.proofs.gather.Goals as goal

pub returns-in_default : goal.returns-in_default
unfolding gathered
returns-in_default c =
    let a = c.args in
    let k = kept_plain a.table.now a.query.now a.range c.in_default.is c.requires.fit.0 in
    record {
      value = rw (c.records-recs.ensures, c.width-k.ensures.is, c.of.ensures) at c.list.ensures.value ∙ ap (λ t. up_to (length t)) k;
      out_after = rw (c.records-recs.ensures, c.width-k.ensures.is, c.of.ensures) at c.list.ensures.out_after ∙ ap (λ t. written a.out.now 0 (flat (take max_list t))) k;
    }

pub returns-then-finds_none : goal.returns-then-finds_none
returns-then-finds_none c =
    let n = sym c.finds_none.ensures ∙ c.if-finds_none.true in
    record { value = none_gathered _ _ _ _ _ c.in-Between.is n _; out_after = none_written _ _ _ _ _ c.in-Between.is n _ _ }

pub of-requires-2-clause-on : goal.of-requires-2-clause-on
of-requires-2-clause-on c = omega (arith, column_in _ _ _ _ _ _ c.in-Between.is c.requires.fit.1, c.requires.fit.0.columns.1)

pub of-requires-2-clause-ordered : goal.of-requires-2-clause-ordered
of-requires-2-clause-ordered c = ends_ordered _ _ _ _ _ _ c.in-Between.is c.requires.fit.1

pub of-requires-2-clause-above : goal.of-requires-2-clause-above
of-requires-2-clause-above c = (finds_some _ _ (sym c.finds_none.ensures ∙ c.if-finds_none.false)).1

pub returns : goal.returns
unfolding gathered
returns c =
    let a = c.args in
    let f = c.requires.fit in
    let k = kept_bounded a.query.now a.range _ _ _ c.in-Between.is f.1 c.of-2.result c.of-2.ensures.words (search rules) a.table.now f.0 c.of-2.ensures.names_words (search rules) (sym c.finds_none.ensures ∙ c.if-finds_none.false) (λ i. omega (arith, c.type_inv.table i)) in
    record {
      value = rw (c.records-recs.ensures, c.width-k.ensures.is) at c.list-2.ensures.value ∙ ap (λ t. up_to (length t)) k;
      out_after = rw (c.records-recs.ensures, c.width-k.ensures.is) at c.list-2.ensures.out_after ∙ ap (λ t. written a.out.now 0 (flat (take max_list t))) k;
    }
