-- `writing::retire::can_retire` meets its contract: what the search of a label gives goes on, and its place is kept. Assumes nothing.
use Rattle.std.proofs.Common.{refl, arith, rules}
use Rattle.std.proofs.lemmas.List.{length-set}
use Rattle.writing.proofs.Retiring.{test_start, test_next, test_stop, test_end, place_there, place_missing, goes_on, goes_unsound, kept_none, kept_more, few_marked}
use Rattle.writing.proofs.retire.can_retire.Goals as goal

pub loop-j-init : goal.loop-j-init
loop-j-init c = record { left = test_start _ _ _ _ _ c.requires.within; kept = kept_none _ _ _; size = search rules }

pub returns-in_err-places-clause-found : goal.returns-in_err-places-clause-found
returns-in_err-places-clause-found c =
    let x = place_missing _ _ _ _ c.find_retirable.ensures _ c.in_err-places.was in
    goes_on _ c.in_err-places.field-0.0 (search rules) _ (test_stop _ _ _ _ _ _ _ c.loop-j.invariant.left _ _ c.write_label-label.ensures refl (omega arith) x.0)

pub returns-in_err-places-clause-refusal : goal.returns-in_err-places-clause-refusal
returns-in_err-places-clause-refusal c =
    goes_unsound _ _ (search rules) (place_missing _ _ _ _ c.find_retirable.ensures _ c.in_err-places.was).1

pub loop-j-preserved : goal.loop-j-preserved
loop-j-preserved c =
    let x = place_there _ _ _ _ c.find_retirable.ensures _ c.in_ok-places.was in
    record {
      left = test_next _ _ _ _ _ _ _ c.loop-j.invariant.left _ _ c.write_label-label.ensures refl (omega arith) x.0;
      kept = kept_more _ _ _ _ _ c.loop-j.invariant.kept (omega (arith, few_marked c.args.query.now)) _ _ c.write_label-label.ensures x.1;
      size = search (rules, length-set);
    }

pub returns-clause-found : goal.returns-clause-found
returns-clause-found c = test_end _ _ _ _ _ _ _ c.loop-j.invariant.left (omega arith)
