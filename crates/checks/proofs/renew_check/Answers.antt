-- `checks::renew_check` meets its contract: sound memories have all clients. Assumes nothing.
use Rattle.std.proofs.Common.{sym, arith}
use Rattle.hall.specs.Memories.{lent}
use Rattle.checks.proofs.SoundMemories.{sound_memories}
use Rattle.checks.proofs.renew_check.Goals as goal

pub all_idle-requires : goal.all_idle-requires
all_idle-requires c = omega (arith, sound_memories (lent c.args.memories) (sym c.in_ok-sound_check.ensures))
