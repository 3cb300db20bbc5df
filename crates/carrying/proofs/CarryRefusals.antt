-- The refusals of a carrying, in their order. Leans on Carrying. Assumes nothing.
use mathlib.Core.Path.{◌≡◌, refl, ap}
use mathlib.Core.Bool.{Bool, true, false, cond, not}
use mathlib.Core.List.{List}
use Prim.Native.Nat.{ℕ}
use native.Mathlib.Omega.{arith}
use lib.ListN.{get_or}
use borrow.Author.Tests.{eqb-true, ne_eqb}
use Rattle.lists.specs.Lists.{all_below}
use Rattle.laws.proofs.ListLaws.{all_below_law, below_not}
use Rattle.query.specs.Shape.{narrow, wide}
use Rattle.rules.specs.Layout.{max_clients, form_offset}
use Rattle.rules.specs.Client.{is_bad}
use Rattle.rules.specs.Memory.{Mem}
use Rattle.rules.specs.Refusals.{shape, client, is_unsound}
use Rattle.carrying.specs.Carrying.{tells, carry_code, Refuses}

-- an old hall does not tell that it is wide
narrow_not_wide : (s : List ℕ) → tells narrow s ≡ true → tells wide s ≡ false
unfolding tells
narrow_not_wide s e = let z : get_or s form_offset 0 ≡ 0 = eqb-true _ 0 e in ne_eqb (get_or s form_offset 0) 1 (λ k. omega (arith, z, k))

-- one 3 behind another: the second or the third alone will do
second : (a c : Bool) → ◌≡◌ {A = ℕ} (cond a 3 (cond true 3 (cond c 3 0))) 3
second true c = refl
second false c = refl

third : (a b : Bool) → ◌≡◌ {A = ℕ} (cond a 3 (cond b 3 (cond true 3 0))) 3
third true b = refl
third false true = refl
third false false = refl

pub carry_refuses : (o n : Mem) → Refuses o n
unfolding carry_code
carry_refuses o n =
    let desks : Bool = all_below max_clients (λ d. not (is_bad (shape o) (client o d))) in
    let told : Bool = not (tells narrow o.clients) in
    record {
      short = λ s. rw s refl;
      already = λ s w. rw (s, w) refl;
      unsound = λ s w u. rw (s, w, u) (second told (not desks));
      desk = λ s w d h b. rw (s, w, below_not max_clients (λ d. not (is_bad (shape o) (client o d))) d h (ap not b)) (third told (is_unsound o));
      none = λ s t u k. rw (s, narrow_not_wide o.clients t, t, u, all_below_law max_clients (λ d. not (is_bad (shape o) (client o d))) (λ d h. ap not (k d h))) refl;
    }
