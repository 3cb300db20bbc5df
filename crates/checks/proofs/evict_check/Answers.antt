-- `checks::evict_check` meets its contract: sound memories have a number of answers, and their nodes are as many as it says. Assumes nothing.
use Rattle.std.proofs.Common.{sym, arith}
use Rattle.hall.specs.Memories.{lent}
use Rattle.checks.proofs.SoundMemories.{nodes_fit, sound_memories}
use Rattle.checks.proofs.evict_check.Goals as goal

pub answer_check-requires : goal.answer_check-requires
answer_check-requires c = omega (arith, sound_memories (lent c.args.memories) (sym c.in_ok-sound_check.ensures))

pub node_check-requires : goal.node_check-requires
node_check-requires c = nodes_fit (sound_memories (lent c.args.memories) (sym c.in_ok-sound_check.ensures))
