-- A history call by call: its memories are states of the machine, its calls are steps of it, and its plain table is the machine's.
-- Leans on refinement and on machine's Claims and Histories. Assumes nothing.
use mathlib.Core.Path.{◌≡◌, refl, sym, ap, ◌∙◌, subst}
use mathlib.Core.Bool.{true, false}
use mathlib.Core.List.{List, [], ◌∷◌, ◌++◌}
use Rattle.std.specs.Prelude.{None}
use Prim.Native.Nat.{ℕ, zero, suc, ◌≤◌, ◌<◌}
use native.Mathlib.Omega.{arith}
use lib.ListN.{length, get_or, take}
use Rattle.rules.specs.Memory.{Mem, store_in, opened}
use Rattle.rules.specs.Outcome.{number}
use Rattle.rules.specs.Refusals.{form, shape}
use Rattle.rules.specs.History.{Call, begin, step, abandon, evict_answer, evict_node, renew, call_result, is_accepted, Note, nothing, doing, note_at}
use Rattle.rules.specs.History.{one_step, plain_at_opening, fed, fed_accepted}
use Rattle.rules.specs.Tally.{Made, made, is_tally_full, made_result, mem_after, plain_after}
use Rattle.rules.specs.declared.Outcome.TheVariants.{Refused}
use Rattle.rules.specs.Layout.{refused_tally_full}
use Rattle.laws.proofs.TestLaws.{by_test, clash}
use Rattle.revisions.specs.EffectiveRevision.{NoDup}
use Rattle.machine.specs.Machine.{State, Response, is_refused}
use Rattle.machine.specs.Transition.{Transition}
use Rattle.machine.proofs.StateInv.{StateInv}
use Rattle.machine.proofs.Claims.{Hist, next, fresh, Good, good_next, opened_good}
use Rattle.machine.proofs.Log.{Entry, entry, after}
use Rattle.machine.proofs.Histories.{Run, after_append}
use Rattle.refinement.proofs.Abstraction.{state_of, call_of, response_in, response_of, counts_at, Fits}
use Rattle.refinement.proofs.Refinement.{refines, shape_stays, number_is}
use Rattle.refinement.proofs.Opening.{opened_fits}
use Rattle.demands.specs.WholeHistory.{History, shape_at, mem_at, plain_at, made_at, call_at, result_at, accepted_at, HasRoom}
use Rattle.query.specs.Shape.{Shape, max_columns}
use Rattle.machine.specs.Machine as machine
use Rattle.machine.proofs.Plain as plain
use Rattle.rules.specs.History.{Plain}

-- ---- One call more
mem_more : (xs : List Made) (m : Mem) (n : ℕ) → n < length xs → mem_after m (take (suc n) xs) ≡ (made_result (mem_after m (take n xs)) (get_or xs n (made renew None))).mem
unfolding mem_after
mem_more [] m n l = absurd (omega arith)
mem_more (x ∷ xs) m zero l = refl
mem_more (x ∷ xs) m (suc n) l = mem_more xs (made_result m x).mem n (omega arith)

plain_more : (xs : List Made) (m : Mem) (p : Plain) (n : ℕ) → n < length xs → plain_after m p (take (suc n) xs)
    ≡ fed (plain_after m p (take n xs)) (get_or xs n (made renew None)).call (number (made_result (mem_after m (take n xs)) (get_or xs n (made renew None))).out)
unfolding mem_after plain_after
plain_more [] m p n l = absurd (omega arith)
plain_more (x ∷ xs) m p zero l = refl
plain_more (x ∷ xs) m p (suc n) l = plain_more xs (made_result m x).mem (fed p x.call (number (made_result m x).out)) n (omega arith)

pub next_mem : (h : History) (n : ℕ) → n < length h.calls → mem_at h (suc n) ≡ (result_at h n).mem
unfolding mem_at result_at made_at
next_mem h n l = mem_more h.calls (opened (shape_at h) h.lent) n l

next_plain : (h : History) (n : ℕ) → n < length h.calls → plain_at h (suc n) ≡ fed (plain_at h n) (call_at h n) (number (result_at h n).out)
unfolding mem_at plain_at result_at call_at made_at
next_plain h n l = plain_more h.calls (opened (shape_at h) h.lent) (plain_at_opening (shape_at h)) n l

-- ---- With a tally and without
-- where 15 does not apply a call does what it does without a tally
pub plain_result : (h : History) (n : ℕ) → HasRoom h n → result_at h n ≡ call_result (mem_at h n) (call_at h n)
unfolding result_at call_at made_result
plain_result h n e = rw e refl

-- the same of a call that is known
pub call_result_law : (h : History) (n : ℕ) (c : Call) → HasRoom h n → call_at h n ≡ c → result_at h n ≡ call_result (mem_at h n) c
call_result_law h n c k e = plain_result h n k ∙ ap (call_result (mem_at h n)) e

-- where it does the call is refused
pub full_result : (h : History) (n : ℕ) → is_tally_full (mem_at h n) (made_at h n) ≡ true → (result_at h n).out ≡ Refused refused_tally_full
unfolding result_at made_result
full_result h n e = rw e refl

-- so an accepted call had room
pub room_accepted : (h : History) (n : ℕ) → accepted_at h n ≡ true → HasRoom h n
unfolding accepted_at is_accepted number
room_accepted h n a = by_test (is_tally_full (mem_at h n) (made_at h n)) (λ t. clash a (ap (λ o. is_accepted (number o)) (full_result h n t))) (λ t. t)

-- ---- The machine's log of a history
-- what the machine answers to call n
unfoldable pub response_at : History → ℕ → Response
response_at h n = response_of (shape (mem_at h n)) (counts_at (mem_at h n) (call_of (shape_at h) (call_at h n))) (result_at h n)

-- and had room where that is no refusal
pub room_taken : (h : History) (n : ℕ) → is_refused (response_at h n) ≡ false → HasRoom h n
unfolding response_at response_of response_in is_refused
room_taken h n a = by_test (is_tally_full (mem_at h n) (made_at h n))
    (λ t. clash (ap (λ o. is_refused (response_in (shape (mem_at h n)) (counts_at (mem_at h n) (call_of (shape_at h) (call_at h n))) (result_at h n).tray o)) (full_result h n t)) a)
    (λ t. t)

unfoldable pub entry_at : History → ℕ → Entry
entry_at h n = entry (call_of (shape_at h) (call_at h n)) (response_at h n)

unfoldable pub log_to : History → ℕ → List Entry
log_to h zero = []
log_to h (suc n) = log_to h n ++ (entry_at h n ∷ [])

pub after_to : (h : History) (n : ℕ) → after (fresh (shape_at h)) (log_to h (suc n)) ≡ next (after (fresh (shape_at h)) (log_to h n)) (call_of (shape_at h) (call_at h n)) (response_at h n)
unfolding log_to entry_at
after_to h n = after_append (log_to h n) (fresh (shape_at h)) (entry_at h n)

-- ---- After n calls
pub record Sound (h : History) (n : ℕ) : Type 0 where
  pub fits : Fits (mem_at h n)
  pub shape : shape (mem_at h n) ≡ shape_at h
  pub good : Good (state_of (mem_at h n)) (after (fresh (shape_at h)) (log_to h n))
  pub run : Run (machine.opened (shape_at h)) (log_to h n) (state_of (mem_at h n))

once : (m : Mem) → StateInv (state_of m) → NoDup (store_in (form m) m.nodes).nodes
unfolding state_of
once m t = t.once

-- the shape of the state
shape_is : (m : Mem) → (state_of m).shape ≡ shape m
unfolding state_of
shape_is m = refl

opened_is : (sh : Shape) → (machine.opened sh).shape ≡ sh
unfolding machine.opened
opened_is sh = refl

-- as the opening has left it
opened_shape : (h : History) → shape (opened (shape_at h) h.lent) ≡ shape_at h
opened_shape h =
    let z = opened_fits h.lent h.k h.accepted in
    sym (shape_is (opened (shape_at h) h.lent)) ∙ ap (λ (s : State). s.shape) z.1 ∙ opened_is (shape_at h)

pub few_columns : (h : History) → h.k ≤ max_columns
few_columns h =
    let a = ap (λ (sh : Shape). sh.columns) (opened_shape h) in
    let b = (opened_fits h.lent h.k h.accepted).0.few in
    omega arith

sound_opened : (h : History) → Sound h 0
unfolding mem_at mem_after log_to after
sound_opened h =
    let z = opened_fits h.lent h.k h.accepted in
    record {
      fits = z.0;
      shape = opened_shape h;
      good = rw z.1 (opened_good (shape_at h) (few_columns h));
      run = z.1;
    }

run_more : (l : List Entry) (s m t : State) (c : machine.Call) (a : Response) → Run s l m → Transition m c a t → Run s (l ++ (entry c a ∷ [])) t
run_more [] s m t c a r o = (t, subst (λ x. Transition x c a t) r o, refl)
run_more (e ∷ l) s m t c a r o = (r.0, r.1, run_more l r.0 m t c a r.2 o)

-- a call of the history is a step of the machine
transition_then : (h : History) (n : ℕ) → n < length h.calls → Sound h n
    → Transition (state_of (mem_at h n)) (call_of (shape_at h) (call_at h n)) (response_at h n) (state_of (mem_at h (suc n))) × Fits (mem_at h (suc n))
unfolding response_at result_at call_at
transition_then h n l s = rw (next_mem h n l, sym s.shape) (refines (mem_at h n) (made_at h n) s.fits (once (mem_at h n) s.good.inv))

sound_next : (h : History) (n : ℕ) → n < length h.calls → Sound h n → Sound h (suc n)
unfolding result_at log_to entry_at
sound_next h n l s =
    let d = transition_then h n l s in
    record {
      fits = d.1;
      shape = ap (λ (m : Mem). shape m) (next_mem h n l) ∙ shape_stays (mem_at h n) (made_at h n) s.fits (once (mem_at h n) s.good.inv) ∙ s.shape;
      good = rw (after_to h n) (good_next (state_of (mem_at h n)) (after (fresh (shape_at h)) (log_to h n)) s.good d.0);
      run = run_more (log_to h n) (machine.opened (shape_at h)) (state_of (mem_at h n)) (state_of (mem_at h (suc n))) (call_of (shape_at h) (call_at h n)) (response_at h n) s.run d.0;
    }

pub sound : (h : History) (n : ℕ) → n ≤ length h.calls → Sound h n
sound h zero l = sound_opened h
sound h (suc n) l = sound_next h n (omega arith) (sound h n (omega arith))

pub transition_at : (h : History) (n : ℕ) → n < length h.calls → Transition (state_of (mem_at h n)) (call_of (shape_at h) (call_at h n)) (response_at h n) (state_of (mem_at h (suc n)))
transition_at h n l = (transition_then h n l (sound h n (omega arith))).0

-- ---- The plain table
fed_same : (p : Plain) (c : Call) (n : ℕ) → plain.fed p (call_of p.shape c) n ≡ fed p c n
unfolding plain.fed plain.fed_accepted fed fed_accepted call_of
fed_same p (begin d r) n = refl
fed_same p (step d tray) n = refl
fed_same p (abandon d) n = refl
fed_same p (evict_answer i) n = refl
fed_same p (evict_node i) n = refl
fed_same p renew n = refl

-- it keeps its shape
step_shape : (p : Plain) (d : ℕ) (x : Note) → (one_step p d x).shape ≡ p.shape
unfolding one_step note_at
step_shape p d nothing = refl
step_shape p d (doing x n) = refl

accepted_shape : (p : Plain) (c : Call) → (fed_accepted p c).shape ≡ p.shape
unfolding fed_accepted note_at
accepted_shape p (begin d r) = refl
accepted_shape p (step d tray) = step_shape p d (p.notes d)
accepted_shape p (abandon d) = refl
accepted_shape p (evict_answer i) = refl
accepted_shape p (evict_node i) = refl
accepted_shape p renew = refl

fed_shape : (p : Plain) (c : Call) (n : ℕ) → (fed p c n).shape ≡ p.shape
unfolding fed
fed_shape p c n = by_test (is_accepted n) (λ e. rw e (accepted_shape p c)) (λ e. rw e refl)

plain_shape : (h : History) (n : ℕ) → n ≤ length h.calls → (plain_at h n).shape ≡ shape_at h
plain_shape h zero l = start h
  where
    start : (h : History) → (plain_at h 0).shape ≡ shape_at h
    start h = unfold plain_at in unfold plain_after in unfold plain_at_opening in refl
plain_shape h (suc n) l =
    ap (λ (p : Plain). p.shape) (next_plain h n (omega arith)) ∙ fed_shape (plain_at h n) (call_at h n) _ ∙ plain_shape h n (omega arith)

pub number_at : (h : History) (n : ℕ) → machine.number (response_at h n) ≡ number (result_at h n).out
unfolding response_at
number_at h n = number_is (shape (mem_at h n)) (counts_at (mem_at h n) (call_of (shape_at h) (call_at h n))) (result_at h n)

next_is : (g : Hist) (c : machine.Call) (a : Response) → (next g c a).plain ≡ plain.fed g.plain c (machine.number a)
unfolding next
next_is g c a = refl

pub plain_at_law : (h : History) (n : ℕ) → n ≤ length h.calls → (after (fresh (shape_at h)) (log_to h n)).plain ≡ plain_at h n
plain_at_law h zero l = start h
  where
    start : (h : History) → (after (fresh (shape_at h)) (log_to h 0)).plain ≡ plain_at h 0
    start h = unfold log_to in unfold after in unfold fresh in unfold plain_at in unfold plain_after in refl
plain_at_law h (suc n) l =
    let g = after (fresh (shape_at h)) (log_to h n) in
    ap (λ (x : Hist). x.plain) (after_to h n)
    ∙ next_is g (call_of (shape_at h) (call_at h n)) (response_at h n)
    ∙ ap (λ p. plain.fed p (call_of (shape_at h) (call_at h n)) (machine.number (response_at h n))) (plain_at_law h n (omega arith))
    ∙ ap (λ (sh : Shape). plain.fed (plain_at h n) (call_of sh (call_at h n)) (machine.number (response_at h n))) (sym (plain_shape h n (omega arith)))
    ∙ fed_same (plain_at h n) (call_at h n) (machine.number (response_at h n))
    ∙ ap (fed (plain_at h n) (call_at h n)) (number_at h n)
    ∙ sym (next_plain h n (omega arith))
