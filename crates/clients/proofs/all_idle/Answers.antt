-- `clients::all_idle` meets its contract: each client is asked in turn. Assumes nothing.
use Rattle.std.proofs.Common.{◌≡◌, sym, arith}
use Rattle.laws.proofs.ListLaws.{below_none}
use Rattle.clients.proofs.ClientReads.{idle_next, idle_stops}
use Rattle.clients.proofs.all_idle.Goals as goal

pub loop-d-init : goal.loop-d-init
loop-d-init c = below_none _

pub returns-then-not-is_idle : goal.returns-then-not-is_idle
returns-then-not-is_idle c = idle_stops _ _ _ _ c.is_idle.ensures c.if-not-is_idle.true (omega arith)

pub loop-d-preserved : goal.loop-d-preserved
loop-d-preserved c = idle_next _ _ _ c.is_idle.ensures c.if-not-is_idle.false c.loop-d.invariant

pub returns : goal.returns
returns c =
    let n : c.loop-d.d ≡ 12 = omega arith in
    rw n at (sym c.loop-d.invariant)
