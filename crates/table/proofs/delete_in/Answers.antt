-- `table::delete_in` meets its contract: record by record, and then the freed part is cleared. Assumes nothing.
use Rattle.std.proofs.Common.{◌+◌, ◌*◌, not, take, drop, ap, ◌∙◌, ℕ, List, arith, rules}
use Rattle.table.proofs.Deleting.{delete_none, turn_stays, turn_goes, in_table, here_room, here_is, here_long, here_test, delete_all}
use Rattle.table.proofs.delete_in.Goals as goal
use Rattle.table.proofs.delete_in.Goals.{then-stays, else-stays}

pub loop-i-init : goal.loop-i-init
loop-i-init g c = delete_none _ _ _ _

pub loop-i-preserved : goal.loop-i-preserved
loop-i-preserved g c =
    let l = c.loop-i in
    let f = c.requires in
    let s = c.args.table.now in
    let x : List ℕ = take g.row.K (drop (8 + l.i * g.row.K) l.table) in
    let h = l.invariant in
    let t = here_test g.row.K s l.table l.i l.j _ f h c.loop-i-test.true c.args.test.now _ c.lies-stays.ensures in
    let n = in_table g.row.K s l.table l.i l.j _ f h c.loop-i-test.true in
    let y = here_is g.row.K s l.table l.i l.j _ f h c.loop-i-test.true in
    let w = here_long g.row.K s l.table l.i l.j _ f h c.loop-i-test.true in
    let r = here_room g.row.K s l.table l.i l.j _ f h c.loop-i-test.true in
    rw c.from-j.ensures
    (elim c.if-stays.branch [
      | then-stays b ↦ rw b.if-stays.true (turn_stays _ _ _ _ _ _ _ h n x y _ w r (t ∙ ap not b.if-stays.true) (b.table-is ∙ b.settle.ensures))
      | else-stays b ↦ rw b.if-stays.false (turn_goes _ _ _ _ _ _ _ h n x y _ (t ∙ ap not b.if-stays.false) b.table-is)
    ])

pub returns : goal.returns
returns g c =
    let l = c.loop-i in
    let x = delete_all _ _ _ _ _ _ _ c.requires l.invariant (omega arith) (c.fill.ensures.after (λ y h. search rules)) in
    record { value = x.0; table_after = x.1 }
