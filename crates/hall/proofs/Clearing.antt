-- A law of the clearing, on plain lists. Leans on the rules. Assumes nothing.
use mathlib.Core.Path.{◌≡◌, ap}
use mathlib.Core.List.{List, ◌++◌}
use Prim.Native.Nat.{ℕ}
use lib.ListN.{drop, set, replicate}
use Rattle.rules.specs.Memory.{cleared}

-- a memory is cleared, and its first number set
pub done_set : (n : ℕ) (s t : List ℕ) → t ≡ replicate n 0 ++ drop n s → (x : ℕ) → set t 0 x ≡ set (cleared n s) 0 x
unfolding cleared
done_set n s t e x = ap (λ (u : List ℕ). set u 0 x) e
