-- `words::compare` meets its contract: number by number. Assumes nothing.
use Rattle.std.proofs.Common.{length, sym, refl, ◌∙◌, arith}
use Rattle.std.proofs.lemmas.List.{length_push}
use Rattle.std.proofs.lemmas.Slice.Zip.{zip_turn, zip_end}
use Rattle.words.proofs.CompareLaws.{order_before, order_after, order_on, order_end}
use Rattle.words.proofs.compare.Goals as goal

pub loop-x-init : goal.loop-x-init
loop-x-init c = refl

pub returns-then-x-y : goal.returns-then-x-y
returns-then-x-y c =
    let t = zip_turn c.args.a.now c.args.b.now c.loop-x.yielded c.into_iter-x-iterator.result c.loop-x.x-iterator c.next.new.self c.next.result (cc) (cc) c.loop-x.yielded_by _ c.in-Some.is c.next.ensures.steps in
    order_before _ _ _ _ _ (t.0, t.1, t.2 0, t.3 0) c.if-x-y.true ∙ sym c.loop-x.invariant

pub returns-then-y-x : goal.returns-then-y-x
returns-then-y-x c =
    let t = zip_turn c.args.a.now c.args.b.now c.loop-x.yielded c.into_iter-x-iterator.result c.loop-x.x-iterator c.next.new.self c.next.result (cc) (cc) c.loop-x.yielded_by _ c.in-Some.is c.next.ensures.steps in
    order_after _ _ _ _ _ (t.0, t.1, t.2 0, t.3 0) c.if-y-x.true ∙ sym c.loop-x.invariant

pub loop-x-preserved : goal.loop-x-preserved
loop-x-preserved c =
    let t = zip_turn c.args.a.now c.args.b.now c.loop-x.yielded c.into_iter-x-iterator.result c.loop-x.x-iterator c.next.new.self c.next.result (cc) (cc) c.loop-x.yielded_by _ c.in-Some.is c.next.ensures.steps in
    rw length_push (c.loop-x.invariant ∙ order_on _ _ _ _ _ (t.0, t.1, t.2 0, t.3 0) c.if-x-y.false c.if-y-x.false)

pub returns : goal.returns
returns c =
    let t = zip_end c.args.a.now c.args.b.now c.loop-x.yielded c.into_iter-x-iterator.result c.loop-x.x-iterator c.next.new.self c.next.result (cc) (cc) c.loop-x.yielded_by c.in-None.is c.next.ensures.steps in
    order_end c.args.a.now c.args.b.now (length c.loop-x.yielded) c.requires (omega (arith, t, c.requires)) ∙ sym c.loop-x.invariant
