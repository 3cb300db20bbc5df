-- What sound memories are to the functions over each of them, and what the check of them tells. Leans on what rules' codes tell. Assumes
-- nothing.
use mathlib.Core.Path.{◌≡◌}
use mathlib.Core.List.{List}
use Prim.Native.Nat.{ℕ, ◌<◌}
use native.Mathlib.Omega.{arith}
use Rattle.laws.proofs.TestLaws.{passed}
use Rattle.rules.specs.Memory.{Mem, mem}
use Rattle.rules.specs.Refusals.{shape, is_short, is_unsound}
use Rattle.rules.specs.Sound.{Sound}
use Rattle.rules.proofs.PassedChecks.{sound}
use Rattle.nodes.specs.NodeContracts as nodes
use Rattle.answers.specs.AnswerContracts as answers
use Rattle.clients.specs.ClientContracts as client_contracts
use Rattle.checks.specs.CheckContracts.{sound_code}
use Rattle.rules.specs.Layout.{max_clients}

module _ {tb nd an cl : List ℕ} (s : Sound (mem tb nd an cl)) where
  pub nodes_fit : nodes.Fit nd
  nodes_fit = record { long = s.long.nodes; few = s.nodes }

  pub answers_fit : answers.Fit an
  answers_fit = record { long = (let l = s.long.answers in omega arith); few = s.answers }

  pub client_fit : (d : ℕ) → d < max_clients → client_contracts.Fit cl d
  client_fit d h = record { long = (let l = s.long.clients in omega arith); below = h }

pub sound_memories : (m : Mem) → sound_code m ≡ 0 → Sound m
sound_memories m e =
    let p = passed (is_short (shape m) m) 0 _ e in
    sound m p.0 (passed (is_unsound m) 2 _ p.1).0
