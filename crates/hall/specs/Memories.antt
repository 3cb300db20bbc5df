-- The four lent memories as the rules see them. Leans on the rules (Memory). Definitions only. Assumes nothing.
use Rattle.std.specs.Prelude.{◌≡◌}
use Rattle.rules.specs.Memory.{Mem, mem}
use Rattle.hall.specs.declared.memories.Memories.{Memories}
use Rattle.hall.specs.declared.memories.MemoriesMut.{MemoriesMut}

-- what they hold: lent to be read, and lent to be altered
abbrev pub lent : Memories → Mem
lent m = mem m.table.now m.nodes.now m.answers.now m.clients.now

abbrev pub lent_mut : MemoriesMut → Mem
lent_mut m = mem m.table.now m.nodes.now m.answers.now m.clients.now

-- the four places are those that the caller lent: what is written behind n is written there
pub record SamePlaces (m n : MemoriesMut) : Type 0 where
  pub table : n.table.ghost_name ≡ m.table.ghost_name
  pub nodes : n.nodes.ghost_name ≡ m.nodes.ghost_name
  pub answers : n.answers.ghost_name ≡ m.answers.ghost_name
  pub clients : n.clients.ghost_name ≡ m.clients.ghost_name
