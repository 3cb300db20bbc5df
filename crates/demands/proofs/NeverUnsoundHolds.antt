-- No call of a history returns 3, every step of a busy desk with room in the tray is accepted, and every read and write can go on to its
-- end. Leans on HistoryRuns, on refinement's NeverRefused and StepsLeft and on machine's StepsToGo. Assumes nothing.
use mathlib.Core.Path.{◌≡◌, refl, sym, ap, ◌∙◌, subst}
use mathlib.Core.Bool.{true, false, true≢false}
use mathlib.Core.Option.{none, some, IsSome}
use Rattle.std.specs.Prelude.{None}
use mathlib.Core.List.{List, [], ◌++◌, map}
use Prim.Native.Nat.{ℕ, zero, suc, ◌+◌, ◌≤◌, ◌<◌}
use native.Mathlib.Omega.{arith}
use lib.ListN.{length, get_or, take, length-append, length-map}
use lib.Seq.{length-take-le, take_at, get_or-append-add}
use lib.Dec.{eqb, ltb}
use borrow.Author.Tests.{not-true, eqb-true, eqb-false, eq-eqb, ltb-true, ltb-false, lt-ltb, le-ltb}
use Rattle.laws.proofs.ListLaws.{get_d_map}
use Rattle.laws.proofs.TestLaws.{by_test, clash}
use Rattle.rules.specs.Layout.{max_clients, tray_least}
use Rattle.rules.specs.Client.{is_idle}
use Rattle.rules.specs.Work.{Work, asking, writing, Request, work_of, steps_in_all}
use Rattle.rules.specs.Memory.{opened}
use Rattle.rules.specs.Refusals.{form, client}
use Rattle.rules.specs.History.{step, abandon, renew, untrayed, call_result, is_accepted}
use Rattle.rules.specs.Tally.{Made, made, is_full_for, is_tally_full, unlent, mem_after}
use Rattle.machine.specs.Machine as machine
use Rattle.machine.specs.Machine.{State, Phase, idle, looking, tabling, filing, announcing, raising, at_client, with_store, Response, is_refused, is_end}
use Rattle.machine.specs.Transition.{Transition}
use Rattle.machine.proofs.Sums.{upd_same}
use Rattle.machine.proofs.Log.{stepped}
use Rattle.machine.proofs.Frames.{phase_work, transition_accepted}
use Rattle.machine.proofs.StateInv.{opened_inv}
use Rattle.machine.proofs.Headroom.{opened_headroom}
use Rattle.machine.proofs.StepsToGo.{to_go, rests, Nearer, transition_nearer, transition_goes_on}
use Rattle.refinement.proofs.Abstraction.{state_of, call_of, response_of}
use Rattle.refinement.proofs.Opening.{opened_fits}
use Rattle.refinement.proofs.NeverRefused.{Lasting, made_passes, lasting_next, step_accepted, abandon_accepted}
use Rattle.refinement.proofs.StepsLeft.{to_go_at, rests_at, some_to_go}
use Rattle.demands.specs.WholeHistory.{History, shape_at, mem_at, call_at, result_at, accepted_at, ends_at, UnderWay, steps_in, made_at, HasRoom}
use Rattle.demands.specs.NeverUnsound.{NeverThree, IsBusy, StepsGo, AbandonsGo, stepped_on, Roomy, EndsWithin, UnderWayBusy, steps_left_at, WorkEnds, BusyEnds, NeverUnsound}
use Rattle.demands.proofs.HistoryRuns.{next_mem, response_at, few_columns, transition_at, number_at, call_result_law}
use Rattle.demands.proofs.LogPlaces.{accepted_at_law, work_ends, stepped_at}
use Rattle.demands.proofs.Works.{Since, begin_taken, goes_on, work_since, not_begun}

idle_rests : rests idle ≡ true
unfolding rests
idle_rests = refl

-- ---- The memories of a history
lasting_opened : (h : History) → Lasting (mem_at h 0)
unfolding mem_at mem_after
lasting_opened h =
    let z = opened_fits h.lent h.k h.accepted in
    record { fits = z.0; inv = rw z.1 (opened_inv (shape_at h) (few_columns h)); room = rw z.1 (opened_headroom (form (opened (shape_at h) h.lent)) (shape_at h)) }

lasting_more : (h : History) (n : ℕ) → n < length h.calls → Lasting (mem_at h n) → Lasting (mem_at h (suc n))
unfolding result_at
lasting_more h n l g = rw (next_mem h n l) (lasting_next (mem_at h n) (made_at h n) g)

lasting_at : (h : History) (n : ℕ) → n ≤ length h.calls → Lasting (mem_at h n)
lasting_at h zero l = lasting_opened h
lasting_at h (suc n) l = lasting_more h n (omega arith) (lasting_at h n (omega arith))

-- ---- Never 3
never_three : (h : History) → NeverThree h
unfolding result_at
never_three h n l = (made_passes (mem_at h n) (lasting_at h n (omega arith)) (made_at h n)).sound

-- ---- Every step goes on
steps_go : (h : History) → StepsGo h
unfolding accepted_at call_result
steps_go h n d tray l e b t k =
    rw (call_result_law h n (step d tray) k e) (step_accepted (mem_at h n) (lasting_at h n (omega arith)) tray d t b.below b.busy)

-- ---- Every busy desk can be abandoned
abandon_rests : (s : State) (d : ℕ) {a : Response} {t : State} → Transition s (machine.abandon d) a t → is_refused a ≡ false → rests (t.clients d) ≡ true
unfolding at_client with_store is_refused
abandon_rests s d (Transition.nothing e) r = absurd (true≢false r)
abandon_rests s d (Transition.abandoned_read l e) r = rw (upd_same s.clients d idle) idle_rests
abandon_rests s d (Transition.write_abandoned l e m) r = rw (upd_same s.clients d idle) idle_rests
abandon_rests s d (Transition.abandoned_raising l e m) r = rw (upd_same s.clients d idle) idle_rests

abandons_go : (h : History) → AbandonsGo h
unfolding call_of accepted_at call_result untrayed
abandons_go h n d l e b k =
    let s = state_of (mem_at h n) in
    let u = state_of (mem_at h (suc n)) in
    let a : accepted_at h n ≡ true = rw (call_result_law h n (abandon d) k e) (abandon_accepted (mem_at h n) (lasting_at h n (omega arith)) d b.below b.busy) in
    let o : Transition s (call_of (shape_at h) (abandon d)) (response_at h n) u = subst (λ c. Transition s (call_of (shape_at h) c) (response_at h n) u) e (transition_at h n l) in
    let g = lasting_at h (suc n) l in
    (a, sym (rests_at (mem_at h (suc n)) g.fits d b.below) ∙ abandon_rests s d o (not-true (is_refused (response_at h n)) (sym (accepted_at_law h n l) ∙ a)))

-- ---- Every read and write can go on to its end
-- a step is accepted, so the desk has fewer steps to go
nearer_at : (h : History) (n d : ℕ) (tray : List ℕ) → n < length h.calls → call_at h n ≡ step d tray → IsBusy (mem_at h n) d → tray_least ≤ length tray
    → HasRoom h n → Nearer (state_of (mem_at h n)) d (response_at h n) (state_of (mem_at h (suc n)))
unfolding call_of accepted_at
nearer_at h n d tray l e b t k =
    let s = state_of (mem_at h n) in
    let u = state_of (mem_at h (suc n)) in
    let o : Transition s (call_of (shape_at h) (step d tray)) (response_at h n) u = subst (λ c. Transition s (call_of (shape_at h) c) (response_at h n) u) e (transition_at h n l) in
    let a : is_accepted (machine.number (response_at h n)) ≡ true = ap is_accepted (number_at h n) ∙ steps_go h n d tray l e b t k in
    transition_nearer s (lasting_at h n (omega arith)).inv o (not-true (is_refused (response_at h n)) (sym (transition_accepted s o) ∙ a))

-- it ends what is under way there where the machine says so
step_ends : (h : History) (n d : ℕ) (tray : List ℕ) → call_at h n ≡ step d tray → ends_at d (call_at h n) (result_at h n).out ≡ is_end (response_at h n)
unfolding ends_at response_at response_of
step_ends h n d tray e = rw (e, eq-eqb d d refl) (sym (work_ends _ _ (result_at h n).tray (result_at h n).out))

-- the next calls are steps of desk d, so many of them, to which 15 does not apply
abbrev NextSteps : History → ℕ → ℕ → ℕ → Type 0
NextSteps h n d most = (i : ℕ) → i < most → (tray : List ℕ) × (call_at h (n + i) ≡ step d tray) × (tray_least ≤ length tray) × HasRoom h (n + i)

module _ (h : History) (n d most : ℕ) (within : n + most ≤ length h.calls) (below : d < max_clients) (next : NextSteps h n d most) where
  idle_after : (i : ℕ) → i < most → rests ((state_of (mem_at h (suc (n + i)))).clients d) ≡ is_idle (client (mem_at h (suc (n + i))) d)
  idle_after i l = rests_at (mem_at h (suc (n + i))) (lasting_at h (suc (n + i)) (omega arith)).fits d below

  ends_from : (fuel i : ℕ) → i + fuel ≡ most → is_idle (client (mem_at h (n + i)) d) ≡ false → to_go ((state_of (mem_at h (n + i))).clients d) ≤ fuel → EndsWithin h n d most
  ends_from zero i l b g =
      let a = some_to_go (mem_at h (n + i)) (lasting_at h (n + i) (omega arith)).fits d below b in absurd (omega arith)
  ends_from (suc fuel) i l b g =
      let t = next i (omega arith) in
      let k = nearer_at h (n + i) d t.0 (omega arith) t.1 (record { below = below; busy = b }) t.2 t.3 in
      let f = k.fewer in
      let z : n + suc i ≡ suc (n + i) = omega arith in
      let e : ends_at d (call_at h (n + i)) (result_at h (n + i)).out ≡ is_idle (client (mem_at h (suc (n + i))) d) =
      step_ends h (n + i) d t.0 t.1 ∙ k.ends ∙ idle_after i (omega arith) in
      by_test (is_idle (client (mem_at h (suc (n + i))) d))
      (λ y. record { before = i; few = omega arith; ends = e ∙ y; idle = rw z y })
      (λ y. ends_from fuel (suc i) (omega arith) (rw z y) (rw z (omega arith)))

-- the history that has the steps as its next calls
module _ (h : History) (n d : ℕ) (trays : List (List ℕ)) (l : n ≤ length h.calls) where
  first_calls : length (take n h.calls) ≡ n
  first_calls = length-take-le n h.calls l

  on_length : length (stepped_on h n d trays).calls ≡ n + length trays
  unfolding stepped_on
  on_length =
      length-append (take n h.calls) (unlent (map (step d) trays))
      ∙ rw (first_calls, length-map (map (step d) trays) (λ c. made c None), length-map trays (step d)) refl

  on_mem : mem_at (stepped_on h n d trays) n ≡ mem_at h n
  unfolding stepped_on mem_at
  on_mem = ap (mem_after (opened (shape_at h) h.lent)) (take_at (take n h.calls) (unlent (map (step d) trays)) n first_calls)

  on_made : (i : ℕ) → i < length trays → made_at (stepped_on h n d trays) (n + i) ≡ made (step d (get_or trays i [])) None
  unfolding stepped_on made_at
  on_made i k =
      let cs = map (step d) trays in
      let few = length-map trays (step d) in
      let a : get_or (take n h.calls ++ unlent cs) (n + i) (made renew None) ≡ get_or (unlent cs) i (made renew None) =
      rw first_calls at (get_or-append-add (take n h.calls) (unlent cs) i (made renew None)) in
      a ∙ get_d_map (λ c. made c None) cs i (made renew None) renew (omega arith) ∙ ap (λ c. made c None) (get_d_map (step d) trays i renew [] k)

  on_call : (i : ℕ) → i < length trays → call_at (stepped_on h n d trays) (n + i) ≡ step d (get_or trays i [])
  unfolding call_at
  on_call i k = ap (λ (x : Made). x.call) (on_made i k)

  on_room : (i : ℕ) → i < length trays → HasRoom (stepped_on h n d trays) (n + i)
  unfolding is_tally_full is_full_for
  on_room i k = rw (on_made i k) refl

-- a busy desk with so many steps to go at the most
ends_in : (h : History) (n d most : ℕ) (trays : List (List ℕ)) → n ≤ length h.calls → IsBusy (mem_at h n) d → Roomy trays
    → to_go ((state_of (mem_at h n)).clients d) ≤ most → most ≤ length trays → EndsWithin (stepped_on h n d trays) n d most
ends_in h n d most trays l b roomy go few =
    let t = stepped_on h n d trays in
    let c = on_length h n d trays l in
    let e : mem_at t (n + 0) ≡ mem_at h n = (let z : n + 0 ≡ n = omega arith in rw z (on_mem h n d trays l)) in
    ends_from t n d most (omega arith) b.below (λ i k. (get_or trays i [], on_call h n d trays l i (omega arith), roomy i (omega arith), on_room h n d trays l i (omega arith))) most 0 (omega arith)
    (rw e b.busy) (rw e go)

busy_ends : (h : History) → BusyEnds h
unfolding steps_left_at
busy_ends h n d trays l b roomy few =
    let a = to_go_at (mem_at h n) (lasting_at h n l).fits d b.below b.busy in
    ends_in h n d _ trays l b roomy (omega arith) few

-- ---- What is under way
-- it stands at its desk
phase_busy : (x : Phase) {w : Work} → phase_work x ≡ some w → rests x ≡ false
unfolding phase_work rests
phase_busy idle e = absurd (none_some e)
  where
    none_some : {A : Type 0} {a : A} → none ≡ some a → ⊥
    none_some e = subst IsSome (sym e) tt
phase_busy (looking q ns saw) e = refl
phase_busy (tabling q ns saw) e = refl
phase_busy (filing q ns l) e = refl
phase_busy (announcing w i) e = refl
phase_busy (raising w j c f) e = refl

busy_since : (h : History) (x : Work) (d b n : ℕ) → Since h x d b n → IsBusy (mem_at h n) d
busy_since h x d b n s =
    let m = mem_at h n in
    let g = lasting_at h n s.within in
    let y = phase_busy ((state_of m).clients d) (work_since h x d b n s n s.runs.earlier (omega arith)) in
    let l : d < max_clients = by_test (ltb d max_clients) (ltb-true d max_clients)
    (λ e. let z : rests ((state_of m).clients d) ≡ true = rw (g.inv.high d (ltb-false d max_clients e)) idle_rests in clash z y) in
    record { below = l; busy = sym (rests_at m g.fits d l) ∙ y }

-- its steps to go, and those that it has made
begun_to_go : (s : State) (d : ℕ) (x : Work) {a : Response} {t : State} → Transition s (machine.begin d x) a t → is_refused a ≡ false → to_go (t.clients d) ≡ steps_in_all x
unfolding at_client is_refused to_go steps_in_all
begun_to_go s d (asking q) (Transition.nothing e) r = absurd (true≢false r)
begun_to_go s d (asking q) (Transition.began l i k) r = rw (upd_same s.clients d (looking q [] false)) (omega arith)
begun_to_go s d (writing w) (Transition.nothing e) r = absurd (true≢false r)
begun_to_go s d (writing w) (Transition.began_write l i k) r = rw (upd_same s.clients d (announcing w 0)) (omega arith)

none_made : (h : History) (d b n : ℕ) → n ≤ suc b → steps_in h d b n ≡ 0
unfolding steps_in
none_made h d b zero l = refl
none_made h d b (suc n) l = let a = none_made h d b n (omega arith) in rw (le-ltb b n (omega arith)) (let z : 0 + steps_in h d b n ≡ 0 = omega arith in z)

one_made : (h : History) (d b n : ℕ) → b < n → n < length h.calls
    → steps_in h d b (suc n) ≡ stepped d (call_of (shape_at h) (call_at h n)) (response_at h n) + steps_in h d b n
unfolding steps_in
one_made h d b n l k = rw (lt-ltb b n l, stepped_at h d n k) refl

to_go_begun : (h : History) (x : Work) (d b n : ℕ) → Since h x d b n → to_go ((state_of (mem_at h (suc b))).clients d) ≡ steps_in_all x
to_go_begun h x d b n s =
    let w = s.within in
    let e = s.runs.earlier in
    let z = begin_taken h x d b n s in
    begun_to_go (state_of (mem_at h b)) d x
    (subst (λ y. Transition (state_of (mem_at h b)) y (response_at h b) (state_of (mem_at h (suc b)))) z.0 (transition_at h b (omega arith))) z.1

to_go_since : (h : History) (x : Work) (d b n : ℕ) → Since h x d b n → (i : ℕ) → b < i → i ≤ n
    → to_go ((state_of (mem_at h i)).clients d) + steps_in h d b i ≤ steps_in_all x
to_go_since h x d b n s zero l m = absurd (omega arith)
to_go_since h x d b n s (suc i) l m =
    let w = s.within in
    by_test (eqb i b)
    (λ e. let z = none_made h d b (suc i) (let y = eqb-true i b e in omega arith) in
    let y : to_go ((state_of (mem_at h (suc i))).clients d) ≡ steps_in_all x = rw (eqb-true i b e) (to_go_begun h x d b n s) in
    omega arith)
    (λ e. let ne : i ≡ b → ⊥ = eqb-false i b e in
    let a = to_go_since h x d b n s i (omega arith) (omega arith) in
    let k = one_made h d b i (omega arith) (omega arith) in
    let o = transition_goes_on (state_of (mem_at h i)) d (lasting_at h i (omega arith)).inv (transition_at h i (omega arith))
    (goes_on h x d b n i s (omega arith) m) (not_begun h x d b n s i (omega arith) m) in
    omega arith)

since : (h : History) (r : Request) (d b n : ℕ) → n ≤ length h.calls → UnderWay h r d b n → Since h (work_of (shape_at h) r) d b n
since h r d b n l u = record { request = r; is = refl; within = l; runs = u }

under_way_busy : (h : History) → UnderWayBusy h
under_way_busy h r d b n l u = busy_since h _ d b n (since h r d b n l u)

ends : (h : History) → WorkEnds h
ends h r d b n trays l u roomy few =
    let a = to_go_since h _ d b n (since h r d b n l u) n u.earlier (omega arith) in
    ends_in h n d _ trays l (under_way_busy h r d b n l u) roomy (omega arith) few

-- ---- All of it, of every history
pub never_unsound : (h : History) → NeverUnsound h
never_unsound h = record {
  never_three = never_three h;
  steps_go = steps_go h;
  abandons_go = abandons_go h;
  under_way_busy = under_way_busy h;
  work_ends = ends h;
  busy_ends = busy_ends h;
}
