-- `columns::queries::Query::of_asked` meets its contract: pair after pair is a column more. Assumes nothing.
use Rattle.std.proofs.Common.{◌/◌, length, arith}
use Rattle.std.proofs.lemmas.List.{length_push}
use Rattle.std.proofs.lemmas.Iterator.Consumers.{YieldsList-from_enumerate, YieldsList-turn, YieldsList-end}
use Rattle.std.proofs.lemmas.List.FromFn.{length-enumerate_from}
use Rattle.lists.specs.Lists.{rows}
use Rattle.laws.proofs.RowLaws.{length_rows}
use Rattle.query.specs.declared.Column.TheVariants.{Wildcard}
use Rattle.columns.proofs.ChunkLaws.{YieldsList-from_chunks_exact, counted_turn}
use Rattle.columns.proofs.FillLoop.{fill_front}
use Rattle.columns.proofs.ColumnLoops.{pair_more, length_query}
use Rattle.columns.proofs.queries.Query.of_asked.Goals as goal

pub loop-i-preserved : goal.loop-i-preserved
loop-i-preserved c =
    let a = c.args.asked.now in
    let t = YieldsList-turn (YieldsList-from_enumerate (YieldsList-from_chunks_exact 2 (omega arith) a (cc) (cc)) (cc)) c.loop-i.yielded _ c.loop-i.yielded_by _ _ _ c.in-Some.is c.next.ensures.steps in
    rw length_push (pair_more a c.loop-i.columns _ _ c.in-Some.pair.now _ c.loop-i.invariant (counted_turn _ _ _ _ t) c.column_of.ensures c.requires)

pub returns : goal.returns
returns c =
    let a = c.args.asked.now in
    let t = YieldsList-end (YieldsList-from_enumerate (YieldsList-from_chunks_exact 2 (omega arith) a (cc) (cc)) (cc)) c.loop-i.yielded _ c.loop-i.yielded_by _ _ c.in-None.is c.next.ensures.steps in
    fill_front 4 Wildcard _ (length c.loop-i.yielded) c.loop-i.columns c.loop-i.invariant _ (length_query a) (omega (arith, t.1, length-enumerate_from 0 (rows 2 (length a / 2) a), length_rows 2 (length a / 2) a))
