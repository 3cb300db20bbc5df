-- The two evictions as one, by what goes out, where crates/rules/specs has no name for it. Leans on rules and checks. Definitions only.
-- Assumes nothing.
use Rattle.std.specs.Prelude.{ℕ}
use Rattle.rules.specs.Memory.{Mem}
use Rattle.rules.specs.Outcome.{Result}
use Rattle.rules.specs.Calls.{evict_answer_result, evict_node_result}
use Rattle.checks.specs.declared.Kept.{Kept}
use Rattle.checks.specs.declared.Kept.TheVariants.{Answer, Node}

unfoldable pub evict_result : Mem → Kept → ℕ → Result
evict_result m Answer i = evict_answer_result m i
evict_result m Node i = evict_node_result m i
