-- `writing::change` meets its contract, for an insert and for a delete. Assumes nothing.
use Rattle.std.proofs.Common.{◌≡◌, Bool, eqb, cond, length, take, sym, ap, ◌∙◌, refl, rules}
use Rattle.std.proofs.lemmas.List.{length-take-le}
use denote.Enum.Bare.{sameb}
use borrow.Author.Tests.{eq-eqb, ne_eqb}
use Rattle.rules.specs.Layout.{inserts}
use Rattle.hall.specs.declared.kind.Kind.{Kind}
use Rattle.hall.specs.declared.kind.Kind.TheVariants.{Read, Insert, Delete}
use Rattle.hall.specs.contracts.kind.Kind.{the_type}
use Rattle.hall.specs.Kind.{kind_number}
use Rattle.writing.specs.WriteContracts.{report_of}
use Rattle.writing.specs.declared.Report.TheVariants.{Changed, Unchanged}
use Rattle.writing.proofs.WriteSteps.{fit_wide, held_length, change_insert, change_delete}
use Rattle.writing.proofs.change.Goals as goal

by_number : (k : Kind) → eqb (kind_number k) inserts ≡ sameb the_type k Insert
by_number Read = refl
by_number Insert = refl
by_number Delete = refl

pub returns-then-eq : goal.returns-then-eq
returns-then-eq c =
    let said = c.insert.ensures in
    let x = change_insert c.args.h c.args.table.now (by_number c.args.h.kind ∙ sym c.eq.ensures ∙ c.if-eq.true) _ refl in
    let l : length (take c.args.h.query.k c.args.h.query.values) ≡ c.args.h.query.k = length-take-le _ _ (search rules) in
    record { said = c.from.ensures ∙ ap report_of (rw l at said.value) ∙ x.0; left = (rw l at said.table_after) ∙ x.1 }

pub delete-requires : goal.delete-requires
delete-requires c = fit_wide (ap length c.query.ensures ∙ held_length c.args.h) c.requires

pub returns-then-delete-eq0 : goal.returns-then-delete-eq0
returns-then-delete-eq0 c =
    let said = c.delete.ensures in
    let x = change_delete c.args.h c.args.table.now (by_number c.args.h.kind ∙ sym c.eq.ensures ∙ c.if-eq.false) _ c.query.ensures in
    record {
      said = ap (λ (b : Bool). cond b Unchanged Changed) (sym (ap (λ g. eqb g 0) (sym said.value) ∙ eq-eqb _ 0 c.if-delete-eq0.true)) ∙ x.0;
      left = said.table_after ∙ x.1;
    }

pub returns-else-delete-eq0 : goal.returns-else-delete-eq0
returns-else-delete-eq0 c =
    let said = c.delete.ensures in
    let x = change_delete c.args.h c.args.table.now (by_number c.args.h.kind ∙ sym c.eq.ensures ∙ c.if-eq.false) _ c.query.ensures in
    record {
      said = ap (λ (b : Bool). cond b Unchanged Changed) (sym (ap (λ g. eqb g 0) (sym said.value) ∙ ne_eqb _ 0 c.if-delete-eq0.false)) ∙ x.0;
      left = said.table_after ∙ x.1;
    }
