-- `table::settle` meets its contract: number by number. Assumes nothing.
use Rattle.std.proofs.Common.{◌≡◌, length, take, drop, ap, ◌∙◌, arith, rules}
use Rattle.lists.specs.Lists.{written}
use Rattle.table.proofs.Deleting.{settle_none, settle_more, settle_all}
use Rattle.table.proofs.settle.Goals as goal

pub loop-i-init : goal.loop-i-init
loop-i-init g c = settle_none _ c.copy_from_slice.new.self c.args.to

pub loop-i-preserved : goal.loop-i-preserved
loop-i-preserved g c =
    let l : length c.copy_from_slice.new.self ≡ g.row.K = search rules in
    settle_more _ _ _ _ _ c.loop-i.invariant (omega arith) (omega arith)

pub returns-after-loop-i : goal.returns-after-loop-i
returns-after-loop-i g c =
    let l : length c.copy_from_slice.new.self ≡ g.row.K = search rules in
    let r : c.copy_from_slice.new.self ≡ take g.row.K (drop c.args.from c.args.table.now) = search rules in
    settle_all _ _ _ _ _ c.loop-i.invariant (omega arith) ∙ ap (written c.args.table.now c.args.to) r
