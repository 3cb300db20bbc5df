-- `table::seek_in` meets its contract: record by record. Assumes nothing.
use Rattle.std.proofs.Common.{◌/◌, length, sym, ap, ◌∙◌}
use Rattle.std.proofs.lemmas.List.{length_push}
use Rattle.std.proofs.lemmas.List.FromFn.{length-enumerate_from}
use Rattle.std.proofs.lemmas.Iterator.Consumers.{YieldsList-from_enumerate, YieldsList-turn, YieldsList-end}
use Rattle.laws.proofs.RowLaws.{length_rows}
use Rattle.table.specs.TableContracts.{lent}
use Rattle.columns.proofs.ChunkLaws.{YieldsList-from_chunks_exact}
use Rattle.table.proofs.Passing.{records_are}
use Rattle.table.proofs.Stretches.{lent_records}
use Rattle.table.proofs.Seeking.{seek_none, turn_less, turn_greater, seek_there, seek_all, scan_at}
use Rattle.table.proofs.seek_in.Goals as goal

pub loop-i-init : goal.loop-i-init
loop-i-init g c =
    let k = g.row.K in
    let l = lent k c.args.table.now in
    seek_none _ _ _ (rw c.records-recs.ensures (sym (length_rows k (length l / k) l) ∙ ap length (records_are k l ∙ lent_records k c.args.table.now c.requires.fit)))

pub returns-in-Equal : goal.returns-in-Equal
returns-in-Equal g c =
    let k = g.row.K in
    let t = YieldsList-turn (YieldsList-from_enumerate (YieldsList-from_chunks_exact k c.requires.fit.columns.0 (lent k c.args.table.now) (cc) (cc)) (cc)) c.loop-i.yielded _ c.loop-i.yielded_by _ _ _ c.in-Some.is c.next.ensures.steps in
    let h = scan_at k c.args.table.now c.requires.fit _ _ c.in-Some.x.now t in
    seek_there _ _ _ _ c.loop-i.invariant h.0 c.in-Some.x.now h.2 (h.3 ∙ sym c.requires.width) (sym c.compare.ensures ∙ c.in-Equal.is)

pub loop-i-preserved-in-Less : goal.loop-i-preserved-in-Less
loop-i-preserved-in-Less g c =
    let k = g.row.K in
    let t = YieldsList-turn (YieldsList-from_enumerate (YieldsList-from_chunks_exact k c.requires.fit.columns.0 (lent k c.args.table.now) (cc) (cc)) (cc)) c.loop-i.yielded _ c.loop-i.yielded_by _ _ _ c.in-Some.is c.next.ensures.steps in
    let h = scan_at k c.args.table.now c.requires.fit _ _ c.in-Some.x.now t in
    rw length_push (turn_less _ _ _ _ c.loop-i.invariant h.0 c.in-Some.x.now h.2 (h.3 ∙ sym c.requires.width) (sym c.compare.ensures ∙ c.in-Less.is))

pub loop-i-preserved : goal.loop-i-preserved
loop-i-preserved g c =
    let k = g.row.K in
    let t = YieldsList-turn (YieldsList-from_enumerate (YieldsList-from_chunks_exact k c.requires.fit.columns.0 (lent k c.args.table.now) (cc) (cc)) (cc)) c.loop-i.yielded _ c.loop-i.yielded_by _ _ _ c.in-Some.is c.next.ensures.steps in
    let h = scan_at k c.args.table.now c.requires.fit _ _ c.in-Some.x.now t in
    rw length_push (turn_greater _ _ _ _ c.loop-i.invariant h.0 c.in-Some.x.now h.2 (h.3 ∙ sym c.requires.width) (sym c.compare.ensures ∙ c.in-Greater.is) _ (rw h.1 at c.min-spot.ensures))

pub returns : goal.returns
returns g c =
    let k = g.row.K in
    let s = lent k c.args.table.now in
    let t = YieldsList-end (YieldsList-from_enumerate (YieldsList-from_chunks_exact k c.requires.fit.columns.0 s (cc) (cc)) (cc)) c.loop-i.yielded _ c.loop-i.yielded_by _ _ c.in-None.is c.next.ensures.steps in
    let e = records_are k s ∙ lent_records k c.args.table.now c.requires.fit in
    seek_all _ _ _ _ c.loop-i.invariant (rw e at (t.1 ∙ length-enumerate_from 0 _))
