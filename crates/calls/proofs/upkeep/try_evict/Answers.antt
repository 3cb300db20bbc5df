-- `calls::upkeep::try_evict` meets its contract: past its check, the memories are sound, and the place is below the count. Assumes nothing.
use Rattle.std.proofs.Common.{arith}
use Rattle.rules.specs.Refusals.{evict_answer_code, evict_node_code}
use Rattle.rules.proofs.PassedChecks.{evict_answer_passed, evict_node_passed}
use Rattle.checks.specs.CheckContracts.{evict_code}
use Rattle.checks.proofs.SoundMemories.{nodes_fit, answers_fit}
use Rattle.calls.proofs.CallLaws.{passed}
use Rattle.calls.proofs.upkeep.try_evict.Goals as goal

pub evict-requires : goal.evict-requires
unfolding evict_code
evict-requires c =
    let t = evict_answer_passed _ c.args.place (passed c.view.ensures (λ m. evict_answer_code m c.args.place) (rw c.in-Answer.is at c.in_ok-evict_check.ensures)) in
    (answers_fit t.0, omega (arith, t.1))

pub evict-requires-in-Node : goal.evict-requires-in-Node
unfolding evict_code
evict-requires-in-Node c =
    let t = evict_node_passed _ c.args.place (passed c.view.ensures (λ m. evict_node_code m c.args.place) (rw c.in-Node.is at c.in_ok-evict_check.ensures)) in
    (nodes_fit t.0, omega (arith, t.1))
