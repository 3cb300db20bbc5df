-- Laws of the refusals' numbers. Assumes nothing.
use mathlib.Core.Path.{◌≡◌, refl}
use native.Mathlib.Omega.{arith}
use Rattle.rules.specs.Layout.{refused_idle}
use Rattle.hall.specs.declared.refusal.Refusal.{Refusal}
use Rattle.hall.specs.declared.refusal.Refusal.TheVariants.{Short, Columns, Unsound, NoClient, Taken, Idle, NoEntry, Pending, Worn, Occupied, Reversed, TallyFull}
use Rattle.hall.specs.Refusal.{number_of}

-- none is 0
pub number_some : (r : Refusal) → number_of r ≡ 0 → ⊥
number_some Short e = omega arith
number_some Columns e = omega arith
number_some Unsound e = omega arith
number_some NoClient e = omega arith
number_some Taken e = omega arith
number_some Idle e = omega arith
number_some NoEntry e = omega arith
number_some Pending e = omega arith
number_some Worn e = omega arith
number_some Occupied e = omega arith
number_some Reversed e = omega arith
number_some TallyFull e = omega arith

-- 6 is one refusal's
pub number_idle : (r : Refusal) → number_of r ≡ refused_idle → r ≡ Idle
number_idle Short e = absurd (omega arith)
number_idle Columns e = absurd (omega arith)
number_idle Unsound e = absurd (omega arith)
number_idle NoClient e = absurd (omega arith)
number_idle Taken e = absurd (omega arith)
number_idle Idle e = refl
number_idle NoEntry e = absurd (omega arith)
number_idle Pending e = absurd (omega arith)
number_idle Worn e = absurd (omega arith)
number_idle Occupied e = absurd (omega arith)
number_idle Reversed e = absurd (omega arith)
number_idle TallyFull e = absurd (omega arith)
