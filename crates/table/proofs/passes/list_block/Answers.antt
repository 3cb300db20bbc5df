-- `table::passes::list_block` meets its contract: record by record. Assumes nothing.
use Rattle.std.proofs.Common.{sym, ◌∙◌}
use Rattle.std.proofs.lemmas.Iterator.Consumers.{YieldsList-so_far, YieldsList-turn, YieldsList-end}
use Rattle.columns.proofs.ChunkLaws.{YieldsList-from_chunks_exact}
use Rattle.table.proofs.Passing.{met_more, met_split, chunk_long, records_are}
use Rattle.table.proofs.Listing.{listed_none, list_found, list_other, list_full, list_all}
use Rattle.table.proofs.passes.list_block.Goals as goal
use Rattle.table.proofs.passes.list_block.Goals.{then-fits+else-j-eq-LIST, else-fits}

pub loop-rec-init : goal.loop-rec-init
loop-rec-init g c = listed_none _ _ _ _ c.requires.few

pub loop-rec-preserved : goal.loop-rec-preserved
loop-rec-preserved g c =
    let l = c.loop-rec in
    let f = c.requires in
    let t = YieldsList-turn (YieldsList-from_chunks_exact g.row.K f.stretch.columns.0 c.args.recs.now (cc) (cc)) l.yielded _ l.yielded_by _ _ _ c.in-Some.is c.next.ensures.steps in
    rw (met_more l.yielded c.in-Some.rec, c.from-j.ensures)
    (elim c.if-fits.branch [
      | then-fits+else-j-eq-LIST w ↦ rw w.if-fits.true (list_found _ _ _ _ _ _ _ l.invariant c.in-Some.rec.now w.if-j-eq-LIST.false f.stretch.columns.1 f.out_len (chunk_long g.row.K c.args.recs.now _ _ t) (sym c.lies-fits.ensures ∙ w.if-fits.true) _ (w.out-is ∙ w.write.ensures))
      | else-fits w ↦ rw w.if-fits.false (list_other _ _ _ _ _ _ _ l.invariant c.in-Some.rec.now (sym c.lies-fits.ensures ∙ w.if-fits.false) _ w.out-is)
    ])

pub returns-then-j-eq-LIST : goal.returns-then-j-eq-LIST
returns-then-j-eq-LIST g c =
    let l = c.loop-rec in
    let a = c.args.recs.now in
    let k = c.requires.stretch.columns.0 in
    let t = YieldsList-turn (YieldsList-from_chunks_exact g.row.K k a (cc) (cc)) l.yielded _ l.yielded_by _ _ _ c.in-Some.is c.next.ensures.steps in
    let e = YieldsList-so_far (YieldsList-from_chunks_exact g.row.K k a (cc) (cc)) l.yielded _ l.yielded_by in
    let s = sym (records_are g.row.K a) ∙ met_split _ l.yielded c.in-Some.rec.now e t in
    let f = list_full _ _ _ _ _ _ _ l.invariant c.in-Some.rec.now _ _ s (sym c.lies-fits.ensures ∙ c.if-fits.true) c.if-j-eq-LIST.true in
    record { value = f.0; out_after = f.1 }

pub returns : goal.returns
returns g c =
    let l = c.loop-rec in
    let t = YieldsList-end (YieldsList-from_chunks_exact g.row.K c.requires.stretch.columns.0 c.args.recs.now (cc) (cc)) l.yielded _ l.yielded_by _ _ c.in-None.is c.next.ensures.steps in
    let f = rw (t.0, records_are g.row.K c.args.recs.now) at (list_all _ _ _ _ _ _ _ l.invariant) in
    record { value = f.0; out_after = f.1 }
