-- Laws of a call that is lent a tally, by value: what it leaves where 15 applies and where it does not, one law each for every call; and which count
-- it raises, by what it leaves without a tally. Leans on the rules' Tally and PassedChecks. Assumes nothing.
use mathlib.Core.Path.{◌≡◌, ap, subst, ◌∙◌}
use mathlib.Core.Bool.{Bool, true, false}
use mathlib.Core.List.{List, []}
use Rattle.std.specs.Prelude.{Option, None, Some}
use Prim.Native.Nat.{ℕ}
use lib.Dec.{eqb}
use borrow.Author.Tests.{eqb-true, eq-eqb, ne_eqb}
use Rattle.laws.proofs.TestLaws.{by_test}
use Rattle.query.specs.Shape.{Shape}
use Rattle.rules.specs.declared.Outcome.{Outcome}
use Rattle.rules.specs.declared.Outcome.TheVariants.{Refused}
use Rattle.rules.specs.declared.Tally.{Tally}
use Rattle.rules.specs.declared.Count.{Count}
use Rattle.rules.specs.declared.Count.TheVariants.{ReadAbandoned, WriteAbandoned}
use Rattle.rules.specs.Layout.{refused_tally_full, reads}
use Rattle.rules.specs.Work.{Request, work_in}
use Rattle.rules.specs.Client.{Client, kind, work_at}
use Rattle.rules.specs.Memory.{Mem}
use Rattle.rules.specs.Outcome.{Result, StepResult, result_with}
use Rattle.rules.specs.Refusals.{client, begin_code, step_code, abandon_code}
use Rattle.rules.specs.Calls.{unless, begin_result, step_result, abandon_result}
use Rattle.rules.specs.History.{Call, begin, step, abandon, untrayed, call_result, tray_of}
use Rattle.rules.specs.Tally.{count_of, begun_count, abandoned_count, accepted_count, would_raise, is_full, raised, is_full_for, is_tally_full, made_result, tally_after}
use Rattle.rules.specs.Tally.{tallied, tallied_result}
use Rattle.rules.proofs.PassedChecks.{abandon_passed}
use Rattle.tallied.specs.TalliedContracts.{LeavesCount}

-- ---- Whether the count that the call would raise stands at its largest, as the code finds it: v are the memories as they are lent to be read
pub told : {v m : Mem} (t : Tally) (c : Call) {k : Option Count} {b x : Bool} → v ≡ m → k ≡ would_raise v c → b ≡ is_full t k → b ≡ x → is_full t (would_raise m c) ≡ x
told t c e f g h = rw (← e, ← f, ← g) h

-- ---- What the call leaves
module _ (m : Mem) (t : Tally) (c : Call) where
  -- 15: nothing is altered, the tally included
  pub turned_down : is_full t (would_raise m c) ≡ true → {o : Outcome} {u : Tally} → (o ≡ Refused refused_tally_full) × (u ≡ t) → tallied o m (tray_of c) u ≡ tallied_result m t c
  unfolding tallied_result made_result is_tally_full is_full_for tally_after
  turned_down h f = rw (h, f.0, f.1)

  -- or the call without a tally, and one more at the count k that it raises
  pub goes_on : is_full t (would_raise m c) ≡ false → (k : Option Count) → k ≡ would_raise m c → {x : StepResult} → x ≡ call_result m c
      → {o : Outcome} {u : Tally} → (o ≡ x.out) × (u ≡ raised t k) → tallied o x.mem x.tray u ≡ tallied_result m t c
  unfolding tallied_result made_result is_tally_full is_full_for tally_after
  goes_on h k f {x} g v = rw (v.0, v.1) (ap (λ (y : StepResult). tallied y.out y.mem y.tray (raised t k)) g ∙ rw (h, f))

-- ---- Which count it raises, by the number that it is turned down with
module _ (m : Mem) (d : ℕ) (r : Request) where
  pub begin_none : (begin_code m d r ≡ 0 → ⊥) → would_raise m (begin d r) ≡ None
  unfolding would_raise accepted_count call_result untrayed begin_result unless count_of
  begin_none h = rw (ne_eqb (begin_code m d r) 0 h)

  pub begin_some : begin_code m d r ≡ 0 → would_raise m (begin d r) ≡ Some (begun_count r)
  unfolding would_raise accepted_count call_result untrayed begin_result unless count_of
  begin_some h = rw h

pub step_none : (m : Mem) (d : ℕ) (tray : List ℕ) → (step_code m tray d ≡ 0 → ⊥) → would_raise m (step d tray) ≡ None
unfolding would_raise accepted_count call_result step_result count_of
step_none m d tray h = rw (ne_eqb (step_code m tray d) 0 h)

pub abandon_none : (m : Mem) (d : ℕ) → (abandon_code m d ≡ 0 → ⊥) → would_raise m (abandon d) ≡ None
unfolding would_raise accepted_count call_result untrayed abandon_result unless count_of
abandon_none m d h = rw (ne_eqb (abandon_code m d) 0 h)

-- ---- Which count it raises: j is what the code has for an accepted call that ends nothing, k what it makes of the outcome
module _ (m : Mem) (d : ℕ) (r : Request) {x : Result} (e : x ≡ begin_result m d r) where
  -- it is lent no tray
  pub begin_made : result_with x.out x.mem [] ≡ call_result m (begin d r)
  unfolding call_result untrayed
  begin_made = ap untrayed e

  pub begin_raises : {j : Count} {k : Option Count} → j ≡ begun_count r → k ≡ count_of (Some j) x.out → k ≡ would_raise m (begin d r)
  unfolding would_raise accepted_count call_result untrayed
  begin_raises f g = g ∙ rw (f, e)

pub step_raises : (m : Mem) (tray : List ℕ) (d : ℕ) {x : StepResult} → x ≡ step_result m tray d → {k : Option Count} → k ≡ count_of None x.out
    → k ≡ would_raise m (step d tray)
unfolding would_raise accepted_count call_result
step_raises m tray d e g = g ∙ rw e

-- a refused abandoning raises none, whatever stands at the desk
left_raises : (m : Mem) (d : ℕ) (j i : Option Count) → (abandon_code m d ≡ 0 → j ≡ i) → count_of j (abandon_result m d).out ≡ count_of i (abandon_result m d).out
unfolding abandon_result unless count_of
left_raises m d j i f =
    by_test (eqb (abandon_code m d) 0) (λ z. rw (f (eqb-true (abandon_code m d) 0 z))) (λ z. rw z)

module _ (m : Mem) (d : ℕ) {x : Result} (e : x ≡ abandon_result m d) where
  pub abandon_made : result_with x.out x.mem [] ≡ call_result m (abandon d)
  unfolding call_result untrayed
  abandon_made = ap untrayed e

  pub abandon_raises : {j k : Option Count} {v : Mem} → v ≡ m → LeavesCount j v d → k ≡ count_of j x.out → k ≡ would_raise m (abandon d)
  unfolding would_raise accepted_count call_result untrayed client
  abandon_raises {j} {k} {v} w f g =
      let l : LeavesCount j m d = subst (λ (y : Mem). LeavesCount j y d) w f in
      g ∙ ap (λ (y : Result). count_of j y.out) e
      ∙ left_raises m d j _ (λ z. let a = abandon_passed m d z in l a.1 a.0.long.clients)

-- by the kind x at the desk
module _ (sh : Shape) (c : Client) (x : ℕ) (e : x ≡ kind c) where
  pub reader_left : x ≡ reads → Some ReadAbandoned ≡ Some (abandoned_count (work_at sh c))
  unfolding work_at work_in abandoned_count
  reader_left h = rw (← e, eq-eqb x reads h)

  pub writer_left : (x ≡ reads → ⊥) → Some WriteAbandoned ≡ Some (abandoned_count (work_at sh c))
  unfolding work_at work_in abandoned_count
  writer_left h = rw (← e, ne_eqb x reads h)
