-- `table::passes::some_in` meets its contract: record by record. Assumes nothing.
use Rattle.std.proofs.Common.{refl, ap, ◌∙◌}
use Rattle.std.proofs.lemmas.Iterator.Consumers.{YieldsList-end}
use Rattle.table.specs.TableContracts.{some, records_of}
use Rattle.columns.proofs.ChunkLaws.{YieldsList-from_chunks_exact}
use Rattle.table.proofs.Passing.{met_more, some_more}
use Rattle.table.proofs.passes.some_in.Goals as goal

pub loop-rec-init : goal.loop-rec-init
unfolding some
loop-rec-init g c = refl

pub loop-rec-preserved : goal.loop-rec-preserved
loop-rec-preserved g c =
    let p = g.T.RecordTest.says c.args.test.now in
    rw (met_more c.loop-rec.yielded c.in-Some.rec) (some_more p _ _ _ _ c.loop-rec.invariant c.lies-any.ensures)

pub returns : goal.returns
unfolding records_of
returns g c =
    let t = YieldsList-end (YieldsList-from_chunks_exact g.row.K (c.requires.columns.0) c.args.recs.now (cc) (cc)) c.loop-rec.yielded _ c.loop-rec.yielded_by _ _ c.in-None.is c.next.ensures.steps in
    c.loop-rec.invariant ∙ ap (some (g.T.RecordTest.says c.args.test.now)) t.0
