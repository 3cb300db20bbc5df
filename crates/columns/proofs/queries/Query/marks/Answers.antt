-- `columns::queries::Query::marks` meets its contract: from the last column to the first. Assumes nothing.
use Rattle.std.proofs.Common.{◌≤◌, ◌∙◌, map, reverse, length, refl, ap, arith}
use Rattle.std.proofs.lemmas.List.{reverse-reverse, length-reverse}
use lib.ListN.{length-map}
use Rattle.std.proofs.lemmas.Iterator.Adapters.{YieldsList-from_rev_slice}
use Rattle.std.proofs.lemmas.Iterator.Consumers.{YieldsList-turn, YieldsList-end}
use Rattle.query.specs.Encoding.{marks}
use Rattle.columns.proofs.KeyLoops.{marks_more, marks_row, mark_most}
use Rattle.columns.proofs.queries.Query.marks.Goals as goal

few : (c : goal.After-mark_of) → c.loop-col.marks ≤ 15
few c =
    let q = c.columns.result.now in
    let t = YieldsList-turn (YieldsList-from_rev_slice q (cc)) c.loop-col.yielded _ c.loop-col.yielded_by _ _ _ c.in-Some.is c.next.ensures.steps in
    let l : length (reverse (map (λ y. y.now) c.loop-col.yielded)) ≤ 4 = rw (length-reverse, length-map) (omega (arith, t.0, length-reverse q, c.columns.ensures.few)) in
    rw c.loop-col.invariant.2 (marks_row (reverse (map (λ y. y.now) c.loop-col.yielded)) l)

pub loop-col-init : goal.loop-col-init
unfolding marks
loop-col-init c = (tt, tt, refl)

pub overflow_mul-marks : goal.overflow_mul-marks
overflow_mul-marks c = omega (arith, few c)

pub overflow_add-marks : goal.overflow_add-marks
overflow_add-marks c = omega (arith, few c, mark_most c.in-Some.col.now)

pub loop-col-preserved : goal.loop-col-preserved
loop-col-preserved c = (tt, tt, marks_more c.loop-col.yielded c.in-Some.col _ _ c.loop-col.invariant.2 c.mark_of.ensures)

pub returns : goal.returns
returns c =
    let q = c.columns.result.now in
    let t = YieldsList-end (YieldsList-from_rev_slice q (cc)) c.loop-col.yielded _ c.loop-col.yielded_by _ _ c.in-None.is c.next.ensures.steps in
    c.loop-col.invariant.2 ∙ ap (λ t. marks (reverse t)) t.0 ∙ ap marks (reverse-reverse q ∙ c.columns.ensures.is)
