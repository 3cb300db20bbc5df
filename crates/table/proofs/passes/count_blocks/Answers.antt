-- `table::passes::count_blocks` meets its contract: block by block. Assumes nothing.
use Rattle.std.proofs.Common.{◌≡◌, ◌*◌, ◌≤◌, length, refl, arith, rules}
use Rattle.table.proofs.Counting.{counted_none, counted_more, counted_few, counted_rest, counted_all, kept_few}
use Rattle.table.proofs.passes.count_blocks.Goals as goal

pub loop-rest-init : goal.loop-rest-init
loop-rest-init g c = counted_none _ _ _ c.requires.stretch

pub overflow_add-result : goal.overflow_add-result
overflow_add-result g c =
    let f = c.requires.stretch.few in
    omega (arith, counted_rest _ _ _ _ _ c.loop-rest.invariant _ c.count_in.ensures, kept_few (g.T.RecordTest.says c.args.test.now) g.row.K c.args.recs.now)

pub overflow_add-j : goal.overflow_add-j
overflow_add-j g c =
    let f = c.requires.stretch.few in
    let e = c.split_at.ensures in
    let h : g.row.BLOCK * g.row.K ≤ length c.loop-rest.rest.now = search rules in
    omega (arith, counted_few _ _ _ _ _ (counted_more _ _ _ _ _ c.loop-rest.invariant g.row.BLOCK _ _ refl h (rw e.front at c.count_in-j.ensures)))

pub loop-rest-preserved : goal.loop-rest-preserved
loop-rest-preserved g c =
    let e = c.split_at.ensures in
    let h : g.row.BLOCK * g.row.K ≤ length c.loop-rest.rest.now = search rules in
    rw e.back (counted_more _ _ _ _ _ c.loop-rest.invariant g.row.BLOCK _ _ refl h (rw e.front at c.count_in-j.ensures))

pub returns : goal.returns
returns g c =
    let e : length c.loop-rest.rest.now ≡ 0 = search rules in
    counted_all _ _ _ _ _ c.loop-rest.invariant e
