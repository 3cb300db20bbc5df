-- S-8's theorem about the definitions: a hall carried over answers every later call as the old one would have, up to the old one's first 10.
-- Leans on Carried and AlikeCalls. Assumes nothing.
use mathlib.Core.Path.{◌≡◌, refl, sym, ap, subst, ◌∙◌}
use mathlib.Core.Bool.{true, false, cond, not}
use Rattle.std.specs.Prelude.{Option, None, Some}
use mathlib.Core.List.{List, [], ◌∷◌}
use Prim.Native.Nat.{ℕ}
use native.Mathlib.Omega.{arith}
use lib.Dec.{eqb}
use lib.ListN.{get_or}
use borrow.Author.Tests.{eqb-true, eq-eqb}
use Rattle.laws.proofs.TestLaws.{by_test}
use Rattle.laws.proofs.ListLaws.{all_below_law}
use Rattle.query.specs.Shape.{Form, narrow, wide, shape_of}
use Rattle.rules.specs.Layout.{refused_worn, max_clients, form_offset, tells_wide}
use Rattle.rules.specs.declared.Outcome.{Outcome}
use Rattle.rules.specs.declared.Outcome.TheVariants.{Refused, Accepted}
use Rattle.rules.specs.declared.Tally.{Tally}
use Rattle.rules.specs.declared.Count.{Count}
use Rattle.rules.specs.Client.{work_at, is_bad}
use Rattle.rules.specs.Memory.{Mem, opened}
use Rattle.rules.specs.Refusals.{form, shape, client, open_code, abandon_code, is_short}
use Rattle.rules.specs.Outcome.{Result, result_of}
use Rattle.rules.specs.Calls.{unless, abandon_result}
use Rattle.rules.specs.History.{Call, begin, step, abandon, evict_answer, evict_node, renew, untrayed, call_result}
use Rattle.rules.specs.Tally.{count_of, abandoned_count, accepted_count, would_raise, is_full, Made, is_full_for, is_tally_full, made_result, raised, tally_after, mem_after}
use Rattle.rules.specs.Sound.{Long}
use Rattle.rules.proofs.PassedChecks.{long, open_passed, abandon_passed}
use Rattle.machine.specs.Machine as machine
use Rattle.machine.proofs.StateInv.{StateInv, opened_inv}
use Rattle.machine.proofs.Headroom.{Headroom, opened_headroom}
use Rattle.refinement.proofs.Abstraction.{Fits}
use Rattle.rules.proofs.OpenedLaws.{opened_form, opened_narrow}
use Rattle.refinement.proofs.Opening.{opened_fits}
use Rattle.refinement.proofs.SoundCodes.{sound_of, not_short, sound}
use Rattle.refinement.proofs.Refinement.{form_stays}
use Rattle.refinement.proofs.NeverRefused.{Lasting, once, lasting_next}
use Rattle.carrying.specs.Alike.{Alike, AlikeResult, Wider, SameAnswers}
use Rattle.carrying.specs.Carrying.{carried, tells, carry_code, carry_result, CarriedOver}
use Rattle.carrying.proofs.AlikeParts.{alike_cond}
use Rattle.carrying.proofs.Carried.{alike_carried, carried_form, carried_lasting, told_carried}
use Rattle.carrying.proofs.FormStays.{stays_after}
use Rattle.carrying.proofs.AlikeCalls.{alike_call}

-- ---- The tally goes by the outcome and by the work read
refused_count : (c c' : Option Count) (o : Outcome) (k : ℕ) → o ≡ Refused k → count_of c o ≡ count_of c' o
unfolding count_of
refused_count c c' o k e = rw e refl

refused_none : (c : Option Count) (o : Outcome) (k : ℕ) → o ≡ Refused k → count_of c o ≡ None
unfolding count_of
refused_none c o k e = rw e refl

full_none : (t : Option Tally) → is_full_for t None ≡ false
unfolding is_full_for is_full
full_none None = refl
full_none (Some t) = refl

abandon_refused : (m : Mem) (d : ℕ) → eqb (abandon_code m d) 0 ≡ false → (call_result m (abandon d)).out ≡ Refused (abandon_code m d)
unfolding call_result abandon_result untrayed unless
abandon_refused m d t = rw t refl

-- a call's 10 is given with a tally too
made_worn : (m : Mem) (x : Made) → (call_result m x.call).out ≡ Refused refused_worn → (made_result m x).out ≡ Refused refused_worn
unfolding made_result is_tally_full would_raise
made_worn m x e = rw (refused_none (accepted_count m x.call) (call_result m x.call).out refused_worn e, full_none x.tally) e

module _ (m n : Mem) (lm : Lasting m) (ln : Lasting n) (a : Alike m n) (w : Wider (form m) (form n)) where
  would_same : (c : Call) → AlikeResult (call_result m c) (call_result n c) → would_raise m c ≡ would_raise n c
  unfolding would_raise accepted_count
  would_same (begin d r) k = ap (count_of _) k.out
  would_same (step d tray) k = ap (count_of _) k.out
  would_same (abandon d) k =
      by_test (eqb (abandon_code m d) 0)
      (λ t. let h = (abandon_passed m d (eqb-true _ 0 t)).1 in λ i. count_of (Some (abandoned_count (work_at (a.shape i) (a.clients d h i)))) (k.out i))
      (λ t. refused_count _ _ (call_result m (abandon d)).out _ (abandon_refused m d t) ∙ ap (count_of (Some (abandoned_count (work_at (shape n) (client n d))))) k.out)
  would_same (evict_answer i) k = ap (count_of _) k.out
  would_same (evict_node i) k = ap (count_of _) k.out
  would_same renew k = ap (count_of _) k.out

  -- ---- One call, with a tally or without
  module _ (x : Made) (k : (made_result m x).out ≡ Refused refused_worn → ⊥) where
    call_alike : AlikeResult (call_result m x.call) (call_result n x.call)
    call_alike = alike_call m n lm ln a w x.call (λ e. k (made_worn m x e))

    pub alike_made : AlikeResult (made_result m x) (made_result n x)
    unfolding made_result is_tally_full
    alike_made = alike_cond _ _ (ap (is_full_for x.tally) (would_same x.call call_alike)) (record { out = refl; tray = refl; mem = a }) call_alike

    pub same_tally : (t : Tally) → tally_after n x.call t ≡ tally_after m x.call t
    unfolding tally_after
    same_tally t = ap (λ (c : Option Count). cond (is_full t c) t (raised t c)) (sym (would_same x.call call_alike))

-- ---- One call after another
wider_next : (m n : Mem) → Lasting m → Lasting n → Wider (form m) (form n) → (x : Made) → Wider (form (made_result m x).mem) (form (made_result n x).mem)
wider_next m n lm ln w x =
    subst (λ (f : Form). Wider f (form (made_result n x).mem)) (sym (form_stays m x lm.fits (once m lm)))
    (subst (λ (f : Form). Wider (form m) f) (sym (form_stays n x ln.fits (once n ln))) w)

pub same_later : (m n : Mem) → Lasting m → Lasting n → Alike m n → Wider (form m) (form n) → (xs : List Made) → SameAnswers m n xs
unfolding SameAnswers
same_later m n lm ln a w [] = tt
same_later m n lm ln a w (x ∷ xs) = λ k.
    let r = alike_made m n lm ln a w x k in
    (sym r.out, sym r.tray, same_tally m n lm ln a w x k, same_later (made_result m x).mem (made_result n x).mem (lasting_next m x lm) (lasting_next n x ln) r.mem (wider_next m n lm ln w x) xs)

-- ---- A hall carried over
pub carried_answers_same : (o n : Mem) → Lasting o → Long n → Wider (form o) (form n) → (xs : List Made) → SameAnswers o (carried o n) xs
carried_answers_same o n g l w xs =
    same_later o (carried o n) g (carried_lasting o n g l w) (alike_carried o n (sound_of o g.fits) l) (subst (λ (f : Form). Wider (form o) f) (sym (carried_form o n (sound_of o g.fits) l)) w) xs

-- ---- Since an opening
pub opened_lasting : (m : Mem) (k : ℕ) → open_code m k ≡ 0 → Lasting (opened (shape_of k) m)
unfolding opened
opened_lasting m k e =
    let t = open_passed m k e in
    let o = opened_fits m k e in
    record {
      fits = o.0;
      inv = subst StateInv (sym o.1) (opened_inv (shape_of k) t.1.1);
      room = subst (λ (s : machine.State). Headroom (form m) s) (sym o.1) (opened_headroom (form m) (shape_of k));
    }

pub lasting_after : (m : Mem) → Lasting m → (xs : List Made) → Lasting (mem_after m xs)
unfolding mem_after
lasting_after m g [] = g
lasting_after m g (x ∷ xs) = lasting_after (made_result m x).mem (lasting_next m x g) xs

pub form_after : (m : Mem) → Lasting m → (xs : List Made) → form (mem_after m xs) ≡ form m
unfolding mem_after
form_after m g [] = refl
form_after m g (x ∷ xs) = form_after (made_result m x).mem (lasting_next m x g) xs ∙ form_stays m x g.fits (once m g)

pub narrow_wide : Wider narrow wide
narrow_wide = record { worn = λ sh. omega arith; most = omega arith }

-- ---- The carrying is accepted
pub carry_taken : (o n : Mem) → Fits o → get_or o.clients form_offset 0 ≡ 0 → is_short (shape o) n ≡ false → carry_code o n ≡ 0
unfolding carry_code tells
carry_taken o n f e l =
    let a = all_below_law max_clients (λ d. not (is_bad (shape o) (client o d))) (λ d h. ap not (f.sound d h)) in
    rw (not_short o f, l, e, sound o f, a) refl

carry_goes : (o n : Mem) → carry_code o n ≡ 0 → carry_result o n ≡ result_of Accepted (carried o n)
unfolding carry_result unless
carry_goes o n e = rw e refl

-- ---- S-8: an old hall is opened, has any calls, and is carried over into memories n that are long enough in the wide form, whatever they hold;
-- then come any calls
pub carrying_holds : (m : Mem) (k : ℕ) → form m ≡ narrow → open_code m k ≡ 0 → (xs : List Made) (n : Mem) → form n ≡ wide
    → is_short (shape (mem_after (opened (shape_of k) m) xs)) n ≡ false → (ys : List Made) → CarriedOver (mem_after (opened (shape_of k) m) xs) n ys
unfolding tells
carrying_holds m k e z xs n g l ys =
    let s : Mem = opened (shape_of k) m in
    let h = opened_lasting m k z in
    let o : Mem = mem_after s xs in
    let p : form o ≡ narrow = form_after s h xs ∙ opened_form m (shape_of k) (open_passed m k z).0 ∙ e in
    let v = subst (λ (f : Form). Wider f (form n)) (sym p) (subst (λ (f : Form). Wider narrow f) (sym g) narrow_wide) in
    let t = lasting_after s h xs in
    let c = carry_goes o n (carry_taken o n t.fits (stays_after s h xs ∙ opened_narrow m (shape_of k) (open_passed m k z).0 e) l) in
    let q = long (shape o) n l in
    let y : Mem = carried o n in
    record {
      accepted = ap (λ (r : Result). r.out) c;
      same = subst (λ (r : Result). SameAnswers o r.mem ys) (sym c) (carried_answers_same o n t q v ys);
      form = subst (λ (r : Result). eqb (get_or (mem_after r.mem ys).clients form_offset 0) tells_wide ≡ true) (sym c)
          (eq-eqb _ tells_wide (stays_after y (carried_lasting o n t q v) ys ∙ told_carried o n (sound_of o t.fits) q g));
    }

-- ---- And the two halls hold the same as long as the old one has not given 10
unfoldable pub NeverWorn : Mem → List Made → Type 0
NeverWorn m [] = Unit
NeverWorn m (x ∷ xs) = ((made_result m x).out ≡ Refused refused_worn → ⊥) × NeverWorn (made_result m x).mem xs

pub alike_later : (m n : Mem) → Lasting m → Lasting n → Alike m n → Wider (form m) (form n) → (xs : List Made) → NeverWorn m xs → Alike (mem_after m xs) (mem_after n xs)
unfolding NeverWorn mem_after
alike_later m n lm ln a w [] k = a
alike_later m n lm ln a w (x ∷ xs) k =
    alike_later (made_result m x).mem (made_result n x).mem (lasting_next m x lm) (lasting_next n x ln) (alike_made m n lm ln a w x k.0).mem (wider_next m n lm ln w x) xs k.1
