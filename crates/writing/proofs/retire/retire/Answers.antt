-- `writing::retire::retire` meets its contract: the places that the test gave are those of the write's nodes. Assumes nothing.
use Rattle.std.proofs.Common.{sym, arith, rules}
use Rattle.std.proofs.lemmas.List.{length-take-le}
use Rattle.writing.proofs.Retiring.{few_marked, can_take_off, took_off, took_nothing, took_none}
use Rattle.writing.proofs.retire.retire.Goals as goal

pub returns-then-n-eq0 : goal.returns-then-n-eq0
returns-then-n-eq0 c = took_nothing _ _ _ _ _ c.requires.fit c.if-n-eq0.true

pub returns-in_err-places : goal.returns-in_err-places
returns-in_err-places c =
    let x = c.in_err-places.ensures in
    took_none _ _ _ x.found x.refusal _ (search rules)

-- no more nodes than places
pub slice_bounds-take_off-end : goal.slice_bounds-take_off-end
slice_bounds-take_off-end c = sym (length-take-le _ _ (omega (arith, few_marked c.args.query.now)))

pub take_off-requires-clause-can_take_off : goal.take_off-requires-clause-can_take_off
take_off-requires-clause-can_take_off c =
    let x = c.in_ok-places.ensures in
    can_take_off _ _ _ _ (sym x.found) x.places

pub returns : goal.returns
returns c =
    let x = c.in_ok-places.ensures in
    took_off _ _ _ _ (sym x.found) x.places _ c.take_off.ensures
