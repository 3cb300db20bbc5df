-- `table::passes::list_in` meets its contract: block by block, each behind those without a record that passes the test. Assumes nothing.
use Rattle.std.proofs.Common.{◌≡◌, ◌<◌, Some, None, length, refl, ◌∙◌, arith, rules}
use Rattle.table.proofs.Passing.{block_wide}
use Rattle.table.proofs.Listing.{searched_none, searched_more, searched_full, searched_all}
use Rattle.table.proofs.passes.list_in.Goals as goal

pub loop-rest-init : goal.loop-rest-init
loop-rest-init g c = searched_none _ _ _ _ c.requires.stretch

pub loop-rest-preserved : goal.loop-rest-preserved
loop-rest-preserved g c =
    let l = c.loop-rest in
    let f = c.skip-found.ensures in
    let e = c.split_at.ensures in
    rw e.back
    (searched_more _ _ _ _ _ _ _ l.invariant c.requires.out_len _ f.kept f.stretch g.row.BLOCK _ c.min.ensures (Some c.in_ok-j.j) _ (rw e.front at c.in_ok-j.ensures.value) (rw e.front at c.in_ok-j.ensures.out_after) _ refl)

pub loop-rest-smaller : goal.loop-rest-smaller
loop-rest-smaller g c =
    let w = (block_wide g.row.BLOCK g.row.K c.requires.block c.requires.stretch.columns).0 in
    let h : length c.loop-rest.rest.now ≡ 0 → ⊥ = search rules in
    let n : 0 < length c.loop-rest.rest.now = omega arith in
    omega (arith, c.split_at.ensures.back_len, c.min.ensures, c.skip-found.ensures.short)

pub returns-in_err-j : goal.returns-in_err-j
returns-in_err-j g c =
    let l = c.loop-rest in
    let f = c.skip-found.ensures in
    let e = c.split_at.ensures in
    let r : c.from_residual.result ≡ None = search rules in
    let x = searched_full _ _ _ _ _ _ _ l.invariant c.requires.out_len _ f.kept f.stretch g.row.BLOCK _ c.min.ensures None _ (rw e.front at c.in_err-j.ensures.value) (rw e.front at c.in_err-j.ensures.out_after) refl in
    record { value = r ∙ x.0; out_after = x.1 }

pub returns : goal.returns
returns g c =
    let e : length c.loop-rest.rest.now ≡ 0 = search rules in
    let x = searched_all _ _ _ _ _ _ _ c.loop-rest.invariant e in
    record { value = x.0; out_after = x.1 }
