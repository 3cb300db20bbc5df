-- `table::passes::count_in` meets its contract: record by record. Assumes nothing.
use Rattle.std.proofs.Common.{◌≡◌, ◌+◌, ◌/◌, ◌≤◌, length, refl, sym, ap, ◌∙◌, arith}
use Rattle.std.proofs.Math.Nat.{div-le_self}
use lib.ListN.{length-map}
use Rattle.std.proofs.lemmas.Iterator.Consumers.{YieldsList-turn, YieldsList-end}
use Rattle.lists.specs.Lists.{keep}
use Rattle.laws.proofs.RowLaws.{length_rows}
use Rattle.table.specs.TableContracts.{records_of}
use Rattle.columns.proofs.ChunkLaws.{YieldsList-from_chunks_exact}
use Rattle.table.proofs.Passing.{met, met_more, kept_more, kept_few, bit_most}
use Rattle.table.proofs.passes.count_in.Goals as goal

pub loop-rec-init : goal.loop-rec-init
unfolding keep
loop-rec-init g c = refl

pub overflow_add-j : goal.overflow_add-j
overflow_add-j g c =
    let a = c.args.recs.now in
    let ys = met c.loop-rec.yielded in
    let t = YieldsList-turn (YieldsList-from_chunks_exact g.row.K c.requires.columns.0 a (cc) (cc)) c.loop-rec.yielded _ c.loop-rec.yielded_by _ _ _ c.in-Some.is c.next.ensures.steps in
    let n : length ys ≡ length c.loop-rec.yielded = length-map c.loop-rec.yielded (λ y. y.now) in
    let m = kept_few (g.T.RecordTest.says c.args.test.now) ys in
    let d : length a / g.row.K ≤ length a = div-le_self (length a) g.row.K in
    let b = c.requires.few in
    let j = c.loop-rec.invariant in
    omega (arith, t.0, length_rows g.row.K (length a / g.row.K) a, bit_most c.lies.result c.from-j.result c.from-j.ensures)

pub loop-rec-preserved : goal.loop-rec-preserved
loop-rec-preserved g c =
    let p = g.T.RecordTest.says c.args.test.now in
    rw (met_more c.loop-rec.yielded c.in-Some.rec) (ap (λ n. n + c.from-j.result) c.loop-rec.invariant ∙ sym (kept_more p (met c.loop-rec.yielded) c.in-Some.rec.now c.lies.result c.from-j.result c.lies.ensures c.from-j.ensures))

pub returns : goal.returns
unfolding records_of
returns g c =
    let t = YieldsList-end (YieldsList-from_chunks_exact g.row.K (c.requires.columns.0) c.args.recs.now (cc) (cc)) c.loop-rec.yielded _ c.loop-rec.yielded_by _ _ c.in-None.is c.next.ensures.steps in
    c.loop-rec.invariant ∙ ap (λ t. length (keep (g.T.RecordTest.says c.args.test.now) t)) t.0
