-- What a carrying leaves, of memories of any contents. Leans on Carried and on rules' PassedChecks. Assumes nothing.
use mathlib.Core.Path.{◌≡◌, refl, sym, ap, subst, ◌∙◌}
use mathlib.Core.Bool.{Bool, true, false, not, ◌||◌, false≢true}
use lib.Dec.{eqb}
use borrow.Author.Tests.{eqb-true, eq-eqb}
use Rattle.laws.proofs.TestLaws.{by_test, or_false, passed}
use Rattle.query.specs.Shape.{narrow, wide, Shape}
use Rattle.rules.specs.declared.Outcome.{Outcome}
use Rattle.rules.specs.declared.Outcome.TheVariants.{Refused, Accepted, Answered, Long, Ended, Full}
use Rattle.rules.specs.Outcome.{Result, result_of}
use Rattle.rules.specs.Calls.{unless}
use Rattle.rules.specs.Memory.{Mem}
use Rattle.rules.specs.Refusals.{form, shape, is_short, is_unsound}
use Rattle.rules.specs.Sound as memories
use Rattle.rules.proofs.PassedChecks.{long, sound, not_short, not_unsound}
use Rattle.carrying.specs.Alike.{Alike}
use Rattle.carrying.specs.Carrying.{tells, carried, carry_code, carry_result, Carries}
use Rattle.carrying.proofs.Carried.{alike_carried, carried_sound, carried_form, carried_shape}

-- what an accepted carrying has found
carry_passed : (o n : Mem) → carry_code o n ≡ 0 → memories.Sound o × memories.Long n
unfolding carry_code
carry_passed o n e =
    let p = passed (is_short (shape o) o || is_short (shape o) n) 0 _ e in
    let s = or_false _ _ p.0 in
    let q = passed (tells wide o.clients) 15 _ p.1 in
    let r = passed (not (tells narrow o.clients)) 2 _ q.1 in
    let u = passed (is_unsound o) 2 _ r.1 in
    (sound o s.0 u.0, long (shape o) n s.1)

-- accepted or not, by its number
goes : (o n : Mem) → eqb (carry_code o n) 0 ≡ true → carry_result o n ≡ result_of Accepted (carried o n)
unfolding carry_result unless
goes o n e = rw e refl

stops : (o n : Mem) → eqb (carry_code o n) 0 ≡ false → carry_result o n ≡ result_of (Refused (carry_code o n)) n
unfolding carry_result unless
stops o n e = rw e refl

is_taken : Outcome → Bool
is_taken (Refused n) = false
is_taken Accepted = true
is_taken (Answered n b) = true
is_taken Long = true
is_taken (Ended b) = true
is_taken Full = true

taken : (o n : Mem) → (carry_result o n).out ≡ Accepted → carry_code o n ≡ 0
unfolding is_taken
taken o n e =
    by_test (eqb (carry_code o n) 0)
    (λ t. eqb-true (carry_code o n) 0 t)
    (λ t. absurd (false≢true (ap is_taken (sym (ap (λ (r : Result). r.out) (stops o n t)) ∙ e))))

pub carry_leaves : (o n : Mem) → Carries o n
carry_leaves o n = record {
  alike = λ a. let p = carry_passed o n (taken o n a) in subst (λ (r : Result). Alike o r.mem) (sym (gone a)) (alike_carried o n p.0 p.1);
  sound = λ a. let p = carry_passed o n (taken o n a) in let s = carried_sound o n p.0 p.1 in
      subst (λ (r : Result). (is_short (shape o) r.mem ≡ false) × (is_unsound r.mem ≡ false)) (sym (gone a))
      (subst (λ (sh : Shape). is_short sh (carried o n) ≡ false) (carried_shape o n p.0 p.1) (not_short (carried o n) s.long), not_unsound (carried o n) s);
  form = by_test (eqb (carry_code o n) 0)
      (λ t. let p = carry_passed o n (eqb-true (carry_code o n) 0 t) in ap (λ (r : Result). form r.mem) (goes o n t) ∙ carried_form o n p.0 p.1)
      (λ t. ap (λ (r : Result). form r.mem) (stops o n t));
  refused = λ k. by_test (eqb (carry_code o n) 0)
      (λ t. absurd (k (ap (λ (r : Result). r.out) (goes o n t))))
      (λ t. (ap (λ (r : Result). r.out) (stops o n t), ap (λ (r : Result). r.mem) (stops o n t)));
}
  where
    gone : (carry_result o n).out ≡ Accepted → carry_result o n ≡ result_of Accepted (carried o n)
    gone a = goes o n (eq-eqb (carry_code o n) 0 (taken o n a))
