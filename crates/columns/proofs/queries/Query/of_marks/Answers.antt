-- `columns::queries::Query::of_marks` meets its contract: by the columns read so far. Assumes nothing.
use Rattle.std.proofs.Common.{◌%◌, ◌<◌, ◌∙◌, ap, arith, length-take-le, get_or-take}
use Rattle.query.specs.Encoding.{column_of}
use Rattle.columns.proofs.KeyLoops.{reading_more, reading_front}
use Rattle.columns.proofs.queries.Query.of_marks.Goals as goal

pub loop-i-preserved : goal.loop-i-preserved
loop-i-preserved c =
    let a = c.args in
    let h : c.loop-i.i < a.k = omega (arith, length-take-le a.k a.values.now c.requires.long) in
    reading_more _ _ _ _ _ _ _ c.loop-i.invariant (c.column_of.ensures ∙ ap (column_of (c.loop-i.left % 2)) (get_or-take a.k a.values.now c.loop-i.i 0 h)) h c.requires.few

pub returns : goal.returns
returns c = reading_front _ _ _ _ _ _ c.loop-i.invariant (omega (arith, length-take-le c.args.k c.args.values.now c.requires.long))
