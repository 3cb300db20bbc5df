-- `table::passes::skip` meets its contract: block by block. Assumes nothing.
use Rattle.std.proofs.Common.{◌*◌}
use Rattle.std.proofs.lemmas.List.{length_push}
use Rattle.std.proofs.lemmas.Iterator.Consumers.{YieldsList-turn, YieldsList-end}
use Rattle.columns.proofs.ChunkLaws.{YieldsList-from_chunks_exact}
use Rattle.table.proofs.Passing.{block_wide, passed_none, passed_more, passed_rest}
use Rattle.table.proofs.Skipping.{skip_found, skip_end}
use Rattle.table.proofs.passes.skip.Goals as goal

pub loop-block-init : goal.loop-block-init
loop-block-init g c = passed_none _ _ _ _

pub loop-block-preserved : goal.loop-block-preserved
loop-block-preserved g c =
    let w = (block_wide g.row.BLOCK g.row.K c.requires.block c.requires.stretch.columns).0 in
    let t = YieldsList-turn (YieldsList-from_chunks_exact (g.row.BLOCK * g.row.K) w c.args.recs.now (cc) (cc)) c.loop-block.yielded _ c.loop-block.yielded_by _ _ _ c.in-Some.is c.next.ensures.steps in
    rw length_push (passed_more _ g.row.K c.requires.stretch.columns.0 g.row.BLOCK _ _ _ c.loop-block.invariant c.in-Some.block.now t _ c.some_in.ensures c.if-some_in.false)

pub returns-then-some_in-clause-kept : goal.returns-then-some_in-clause-kept
returns-then-some_in-clause-kept g c = passed_rest _ g.row.K c.requires.stretch.columns.0 g.row.BLOCK _ _ _ c.loop-block.invariant

pub returns-then-some_in-clause-place : goal.returns-then-some_in-clause-place
returns-then-some_in-clause-place g c =
    let w = (block_wide g.row.BLOCK g.row.K c.requires.block c.requires.stretch.columns).0 in
    let t = YieldsList-turn (YieldsList-from_chunks_exact (g.row.BLOCK * g.row.K) w c.args.recs.now (cc) (cc)) c.loop-block.yielded _ c.loop-block.yielded_by _ _ _ c.in-Some.is c.next.ensures.steps in
    skip_found _ g.row.K c.requires.stretch.columns.0 g.row.BLOCK _ _ _ c.loop-block.invariant c.in-Some.block.now t _ c.some_in.ensures c.if-some_in.true

pub returns-clause-kept : goal.returns-clause-kept
returns-clause-kept g c = passed_rest _ g.row.K c.requires.stretch.columns.0 g.row.BLOCK _ _ _ c.loop-block.invariant

pub returns-clause-place : goal.returns-clause-place
returns-clause-place g c =
    let w = (block_wide g.row.BLOCK g.row.K c.requires.block c.requires.stretch.columns).0 in
    let t = YieldsList-end (YieldsList-from_chunks_exact (g.row.BLOCK * g.row.K) w c.args.recs.now (cc) (cc)) c.loop-block.yielded _ c.loop-block.yielded_by _ _ c.in-None.is c.next.ensures.steps in
    skip_end _ g.row.K c.requires.stretch.columns.0 g.row.BLOCK _ _ _ c.loop-block.invariant w t.1
