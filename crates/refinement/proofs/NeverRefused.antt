-- Memories that a history leaves: they fit, and their state keeps the invariant and has headroom. On them no call returns 3, every step of a
-- busy desk with room in the tray is accepted, and what a call leaves is such again. Leans on SoundCodes, Refinement and machine's
-- Headroom, and on revisions' OperationsGo and RevisionBounds. Assumes nothing.
use mathlib.Core.Path.{◌≡◌, refl, sym, ap, subst}
use mathlib.Core.Option.{Option, none, some, IsSome}
use mathlib.Core.Bool.{Bool, true, false, not, ◌&&◌, false≢true}
use mathlib.Core.List.{List, [], ◌∷◌}
use Prim.Native.Nat.{ℕ, ◌+◌, ◌-◌, ◌≤◌, ◌<◌}
use native.Mathlib.Omega.{arith}
use lib.Dec.{eqb, ltb}
use lib.ListN.{length, get_or, length-drop}
use borrow.Author.Tests.{ltb-true, ltb-false, eqb-true, eqb-false, eq-eqb}
use Rattle.laws.proofs.TestLaws.{by_test, clash}
use Rattle.query.specs.Shape.{Shape}
use Rattle.rules.specs.Layout.{max_clients, max_nodes, tray_least, refused_unsound, refused_tally_full}
use Rattle.rules.specs.declared.Outcome.{Outcome}
use Rattle.rules.specs.declared.Outcome.TheVariants.{Refused, Accepted, Answered, Long}
use Rattle.rules.specs.Work.{Request, read_of, insert_of, delete_of, is_write, work_of, ask_of, Ask, Value, Work, asking, writing, Write, read_labels, write_labels, may_answer}
use Rattle.rules.specs.Nodes.{Words, Store, ensured, announced, retired}
use Rattle.rules.specs.Client.{Client, saw_pending, did_change, found_full, entry_of, is_idle}
use Rattle.rules.specs.Memory.{Mem, store_in, with_store, answers_in, renewed}
use Rattle.rules.specs.Refusals.{form, client, shape, step_code, begin_code, abandon_code, evict_answer_code, evict_node_code, renew_code}
use Rattle.rules.specs.Outcome.{Result, result_of, StepResult, result_with, number}
use Rattle.rules.specs.Steps.{now_at, store_back, answered, look_result, fetch_result, table_result, file_result, read_result, announce_result, write_table_result, end_of}
use Rattle.rules.specs.Steps.{raise_result, write_result, progress_of, progress}
use Rattle.rules.specs.Calls.{unless, begin_result, step_result, past_table, announced_labels, labels_left, retire_result, abandoned_write, abandoned_of, abandoned, abandon_result, evict_answer_result, evict_node_result, renew_result}
use Rattle.rules.specs.History.{Call, begin, step, abandon, evict_answer, evict_node, renew, tray_of, call_result, is_accepted, untrayed}
use Rattle.rules.specs.Tally.{Made, is_tally_full, made_result}
use Rattle.rules.specs.Sound.{Busy}
use Rattle.rules.proofs.PassedChecks.{begin_passed, step_passed, abandon_passed, evict_node_passed}
use Rattle.rules.proofs.WorkLaws.{read_label_wide, write_label_wide}
use Rattle.revisions.specs.EffectiveRevision.{NoDup}
use Rattle.laws.proofs.RowLaws.{wide_nil}
use Rattle.rules.specs.Layout.{node_width}
use Rattle.revisions.proofs.NodeRows.{AllRows, Each}
use Rattle.revisions.proofs.NodeOperations.{EnsuredOk, ensured_ok, AnnouncedOk, announced_ok, RetiredOk, retired_ok, evict_ok}
use Rattle.revisions.proofs.RevisionBounds.{Below, BelowIn, below_more, ensured_bound, announced_bound, retired_bound, released_all_bound, evict_bound}
use Rattle.revisions.proofs.OperationsGo.{ensured_some, announced_some, retired_some}
use Rattle.machine.specs.Machine as machine
use Rattle.machine.specs.Machine.{WriteFits, announcing, raising}
use Rattle.machine.proofs.PendingLabels.{holds, Leaves, one_leaves, all_leave}
use Rattle.machine.proofs.StateInv.{StateInv, fit_at, transition_inv}
use Rattle.machine.proofs.Headroom.{Headroom, Fresh, lift_at, lift_all, lift_of, Lifted, transition_headroom, few_marks, held_marked, raises_go, all_held, marks_held, held_few}
use Rattle.refinement.proofs.Abstraction.{state_of, call_of, response_in, response_of, counts_at, Fits}
use Rattle.refinement.proofs.ClientPhases.{fits_at}
use Rattle.rules.proofs.MemoryLaws.{length_nodes, store_with}
use Rattle.refinement.proofs.Abstraction.{rows_held}
use Rattle.refinement.proofs.StepFrame.{steps_at, announcing_at, raising_at}
use Rattle.refinement.proofs.Refinement.{refines, form_stays}
use Rattle.refinement.proofs.SoundCodes.{begin_sound, step_sound, abandon_sound, evict_answer_sound, evict_node_sound, renew_sound, step_taken, abandon_taken}

pub record Lasting (m : Mem) : Type 0 where
  pub fits : Fits m
  pub inv : StateInv (state_of m)
  pub room : Headroom (form m) (state_of m)

-- the nodes of such memories
abbrev pub nodes_of : Mem → Store
nodes_of m = store_in (form m) m.nodes

module _ (m : Mem) (g : Lasting m) where
  pub once : NoDup (nodes_of m).nodes
  unfolding state_of
  once = g.inv.once

  pub few_nodes : length (nodes_of m).nodes ≤ max_nodes
  few_nodes = let n = length_nodes (form m) m.nodes in let y = g.fits.nodes in omega arith

  -- "no unmarked node to put out" (3) is never met
  ensured_goes : (p : Words) → IsSome (ensured p (nodes_of m))
  unfolding state_of
  ensured_goes p =
      let l = held_few (state_of m) g.inv in
      ensured_some p (nodes_of m) (all_held 12 (state_of m).clients) once (marks_held (state_of m) g.inv) (omega arith)

-- ---- What a call that goes on leaves: it is accepted, and where no revision was above b, none is above b + n
pub record Went (b n : ℕ) (x : StepResult) : Type 0 where
  pub accepted : is_accepted (number x.out) ≡ true
  pub below : Below (b + n) (store_in (form x.mem) x.mem.nodes)

module _ (m : Mem) (g : Lasting m) (b n : ℕ) (low : Below b (store_in (form m) m.nodes)) where
  -- the nodes stay
  quiet : (o : Outcome) (t : Mem) (tray : List ℕ) → is_accepted (number o) ≡ true → store_in (form t) t.nodes ≡ nodes_of m → Went b n (result_with o t tray)
  quiet o t tray a e = record { accepted = a; below = rw e (below_more (nodes_of m) (omega arith) low) }

  -- or become t
  stored : (o : Outcome) (t : Store) (x : Mem) (tray : List ℕ) → is_accepted (number o) ≡ true → store_in (form x) x.nodes ≡ store_in (form m) (with_store (form m) m.nodes t)
      → AllRows t.nodes → length t.nodes ≤ max_nodes → Below (b + n) t → Went b n (result_with o x tray)
  stored o t x tray a e r most l = record {
    accepted = a;
    below = rw (e, store_with (form m) m.nodes g.fits.long.nodes g.fits.nodes t (record { wide = r; few = most })) l;
  }

  -- ---- A read
  look_goes : (tray : List ℕ) (d j : ℕ) (p : Words) (o : Option Store) → IsSome o → EnsuredOk p (nodes_of m) o → BelowIn b o → Went b n (look_result m tray d j p o)
  unfolding look_result now_at store_back is_accepted number
  look_goes tray d j p none i k l = absurd i
  look_goes tray d j p (some t) i k l = stored Accepted t _ tray refl refl k.2 (k.3 (few_nodes m g)) (below_more t (omega arith) l)

  answer_goes : (tray : List ℕ) (d : ℕ) (v : Value) (cached : Bool) (t : Mem) → store_in (form t) t.nodes ≡ nodes_of m → Went b n (answered t tray d v cached)
  unfolding answered now_at is_accepted number
  answer_goes tray d v cached t e = quiet (Answered v.count cached) _ _ refl e

  fetch_goes : (tray : List ℕ) (d i : ℕ) → Went b n (fetch_result m tray d i)
  unfolding fetch_result now_at is_accepted number
  fetch_goes tray d i =
      by_test (not (saw_pending (client m d)) && ltb i (length (answers_in (form m) m.answers)))
      (λ t. rw t (answer_goes tray d _ true m refl))
      (λ t. rw t (quiet Accepted _ tray refl refl))

  table_goes : (tray : List ℕ) (d : ℕ) (x : Ask) (v : Value) → Went b n (table_result m tray d x v)
  unfolding table_result now_at is_accepted number
  table_goes tray d x v =
      by_test (may_answer x v)
      (λ t. by_test (saw_pending (client m d))
      (λ s. rw (t, s) (answer_goes tray d v false m refl))
      (λ s. rw (t, s) (quiet Accepted _ tray refl refl)))
      (λ t. rw t (quiet Long _ tray refl refl))

  file_goes : (tray : List ℕ) (d : ℕ) → Went b n (file_result m tray d (entry_of (client m d)))
  unfolding file_result
  file_goes tray d = answer_goes tray d _ false _ refl

  read_goes : (tray : List ℕ) (d : ℕ) {x : Ask} → Busy (shape m) (client m d) (asking x) → Went b n (read_result m tray d x (steps_at m d))
  unfolding read_result
  read_goes tray d {x} y =
      let i : ℕ = steps_at m d in
      let l : ℕ = length (read_labels x) in
      by_test (ltb i l)
      (λ t. let p : Words = get_or (read_labels x) i [] in
      let k = read_label_wide x i (let c = (fits_at y).columns in let z = y.most in omega arith) (ltb-true i l t) in
      rw t (look_goes tray d i p _ (ensured_goes m g p) (ensured_ok p (nodes_of m) k (once m g) (rows_held m g.fits)) (ensured_bound b p (nodes_of m) k low)))
      (λ t. rw t (by_test (eqb i l)
      (λ u. rw u (fetch_goes tray d _))
      (λ u. rw u (by_test (eqb i (l + 1))
      (λ v. rw v (table_goes tray d x _))
      (λ v. rw v (file_goes tray d))))))

  -- ---- A write
  announce_goes : (tray : List ℕ) (d : ℕ) (p : Words) (o : Option Store) → IsSome o → AnnouncedOk p (nodes_of m) o → BelowIn b o → Went b n (announce_result m tray d o)
  unfolding announce_result now_at store_back is_accepted number
  announce_goes tray d p none i k l = absurd i
  announce_goes tray d p (some t) i k l = stored Accepted t _ tray refl refl k.1 (k.2 (few_nodes m g)) (below_more t (omega arith) l)

  end_accepted : (c : Client) → is_accepted (number (end_of c)) ≡ true
  unfolding end_of is_accepted number
  end_accepted c = by_test (found_full c) (λ e. rw e refl) (λ e. rw e refl)

  raise_goes : (tray : List ℕ) (d : ℕ) (is_last lift : Bool) (ps : List Words) (o : Option Store) → IsSome o → RetiredOk lift ps (nodes_of m) o → BelowIn (b + n) o
      → Went b n (raise_result m tray d is_last o)
  unfolding raise_result now_at store_back is_accepted number
  raise_goes tray d is_last lift ps none i k l = absurd i
  raise_goes tray d true lift ps (some t) i k l = let z = few_nodes m g in let y = k.2 in stored (end_of (client m d)) t _ tray (end_accepted (client m d)) refl k.1 (omega arith) l
  raise_goes tray d false lift ps (some t) i k l = let z = few_nodes m g in let y = k.2 in stored Accepted t _ tray refl refl k.1 (omega arith) l

  -- marks taken off by an abandoning
  retire_goes : (d : ℕ) (lift : Bool) (ps : List Words) (out : Outcome) (o : Option Store) → is_accepted (number out) ≡ true → IsSome o → RetiredOk lift ps (nodes_of m) o → BelowIn (b + n) o
      → Went b n (untrayed (retire_result m d out o))
  unfolding retire_result untrayed now_at store_back
  retire_goes d lift ps out none a i k l = absurd i
  retire_goes d lift ps out (some t) a i k l = let z = few_nodes m g in let y = k.2 in stored out t _ [] a refl k.1 (omega arith) l

-- ---- A step of a write: only a raise lifts
module _ (m : Mem) (g : Lasting m) (b : ℕ) (low : Below b (store_in (form m) m.nodes)) (tray : List ℕ) (d : ℕ) (h : d < max_clients)
    {w : Write} (y : Busy (shape m) (client m d) (writing w)) where
  abbrev labels : ℕ
  labels = length (write_labels w)

  mark_goes : (n : ℕ) → steps_at m d < labels → Went b n (announce_result m tray d (announced (get_or (write_labels w) (steps_at m d) []) (nodes_of m)))
  unfolding state_of
  mark_goes n z =
      let p : Words = get_or (write_labels w) (steps_at m d) [] in
      let five = write_label_wide w (steps_at m d) (let c : WriteFits (shape m) w = fits_at y in let e = c.columns in let z = y.most in omega arith) z in
      let once = once m g in
      let rows = rows_held m g.fits in
      announce_goes m g b n low tray d p _
      (announced_some p (nodes_of m) (ensured_ok p (nodes_of m) five once rows)
      (few_marks (state_of m) d w (steps_at m d) g.inv h (announcing_at m d h y (omega arith)) z) (ensured_goes m g p))
      (announced_ok p (nodes_of m) five once rows) (announced_bound b p (nodes_of m) five low)

  abbrev raises : ℕ
  raises = steps_at m d - (labels + 1)

  -- one of the raises that are left, or all of them
  raised_goes : (ps rest : List Words) {c f : Bool} → (state_of m).clients d ≡ raising w raises c f → Leaves w raises ps rest → IsSome (retired (form m) c ps (nodes_of m))
  unfolding state_of
  raised_goes ps rest {c} {f} e lv =
      let k = raises_go (form m) (state_of m) d w raises c f ps rest g.inv g.room h e lv in
      retired_some (form m) c ps (nodes_of m) (once m g) (rows_held m g.fits) (λ q. (k q).0) (λ t q. (k q).1)

  raising_goes : (is_last : Bool) {c f : Bool} → (state_of m).clients d ≡ raising w raises c f
      → Went b (lift_at ((state_of m).clients d)) (raise_result m tray d is_last (retired (form m) c (get_or (write_labels w) raises [] ∷ []) (nodes_of m)))
  raising_goes is_last {c} {f} e =
      let ps : List Words = get_or (write_labels w) raises [] ∷ [] in
      let o = (fit_at (state_of m) d (raising w raises c f) g.inv e).1 in
      rw e (raise_goes m g b 1 low tray d is_last c ps _ (raised_goes ps _ e (one_leaves w raises o))
      (retired_ok (form m) c ps (nodes_of m) (once m g) (rows_held m g.fits)) (retired_bound (form m) c ps b (nodes_of m) low))

  -- ---- Its abandoning: all raises that are left, or the marks taken back
  raises_left_go : labels < steps_at m d → Went b (lift_all ((state_of m).clients d)) (untrayed (retire_result m d (end_of (client m d)) (retired (form m) (did_change (client m d)) (labels_left w (steps_at m d)) (nodes_of m))))
  raises_left_go z =
      let ps : List Words = labels_left w (steps_at m d) in
      let e = raising_at m d h y z in
      let c : Bool = did_change (client m d) in
      let k = retired_bound (form m) c ps b (nodes_of m) low in
      rw e (retire_goes m g b (labels - raises) low d c ps _ _ (end_accepted m g b 0 low (client m d)) (raised_goes ps [] e (all_leave w raises))
      (retired_ok (form m) c ps (nodes_of m) (once m g) (rows_held m g.fits)) (subst (λ i. BelowIn (b + i) (retired (form m) c ps (nodes_of m))) (length-drop raises (write_labels w)) k))

  release_goes : steps_at m d ≤ labels → Went b (lift_all ((state_of m).clients d)) (untrayed (retire_result m d Accepted (retired (form m) false (announced_labels w (steps_at m d)) (nodes_of m))))
  unfolding state_of holds is_accepted number
  release_goes z =
      let ps : List Words = announced_labels w (steps_at m d) in
      let e = announcing_at m d h y z in
      rw e (retire_goes m g b 0 low d false ps Accepted _ refl
      (retired_some (form m) false ps (nodes_of m) (once m g) (rows_held m g.fits) (λ q. held_marked (state_of m) d (announcing w (steps_at m d)) q g.inv h e) (λ t. absurd (false≢true t)))
      (retired_ok (form m) false ps (nodes_of m) (once m g) (rows_held m g.fits)) (released_all_bound (form m) ps (b + 0) (nodes_of m) (below_more (nodes_of m) (omega arith) low)))

  abandoned_write_goes : Went b (lift_all ((state_of m).clients d)) (untrayed (abandoned_write m d w (steps_at m d)))
  unfolding abandoned_write past_table
  abandoned_write_goes =
      by_test (ltb labels (steps_at m d)) (λ t. rw t (raises_left_go (ltb-true labels _ t))) (λ t. rw t (release_goes (ltb-false labels _ t)))

  write_goes : Went b (lift_at ((state_of m).clients d)) (write_result m tray d w (steps_at m d))
  unfolding write_result write_table_result now_at is_accepted number
  write_goes =
      let i : ℕ = steps_at m d in
      by_test (ltb i labels)
      (λ t. rw t (mark_goes _ (ltb-true i labels t)))
      (λ t. let z = ltb-false i labels t in rw t (by_test (eqb i labels)
      (λ u. rw u (quiet m g b _ low Accepted _ tray refl refl))
      (λ u. let v = eqb-false i labels u in rw u (raising_goes _ (raising_at m d h y (omega arith))))))

-- ---- A step
progress_goes : (m : Mem) → Lasting m → (b : ℕ) → Below b (store_in (form m) m.nodes) → (tray : List ℕ) (d : ℕ) → d < max_clients → (w : Work)
    → Busy (shape m) (client m d) w → Went b (lift_at ((state_of m).clients d)) (progress_of m tray d w)
unfolding progress_of
progress_goes m g b low tray d h (asking x) y = read_goes m g b _ low tray d y
progress_goes m g b low tray d h (writing w) y = write_goes m g b low tray d h y

taken_goes : (m : Mem) → Lasting m → (b : ℕ) → Below b (store_in (form m) m.nodes) → (tray : List ℕ) (d : ℕ) → step_code m tray d ≡ 0
    → Went b (lift_at ((state_of m).clients d)) (progress m tray d)
unfolding progress
taken_goes m g b low tray d e = let s = step_passed m tray d e in progress_goes m g b low tray d s.1.1 _ s.1.2

-- ---- What every call does: it does not return 3, and lifts no revision further than a raise does
pub record Passed (m : Mem) (c : machine.Call) (x : StepResult) : Type 0 where
  pub sound : number x.out ≡ refused_unsound → ⊥
  pub lifted : Lifted (state_of m) c (state_of x.mem)

accepted_sound : (n : ℕ) → is_accepted n ≡ true → n ≡ refused_unsound → ⊥
unfolding is_accepted
accepted_sound n a e = clash a (rw e refl)

refused_passed : (m : Mem) (c : machine.Call) (n : ℕ) (tray : List ℕ) → (n ≡ refused_unsound → ⊥) → Passed m c (result_with (Refused n) m tray)
unfolding number
refused_passed m c n tray k = record { sound = k; lifted = λ b l. below_more (state_of m).store (omega arith) l }

went_passed : (m : Mem) (c : machine.Call) (x : StepResult) → Lasting m → ((b : ℕ) → Below b (store_in (form m) m.nodes) → Went b (lift_of (state_of m) c) x) → Passed m c x
unfolding state_of
went_passed m c x g h = record { sound = accepted_sound (number x.out) (h g.room.0 g.room.1).accepted; lifted = λ b l. (h b l).below }

unless_passed : (m : Mem) (c : machine.Call) (code : ℕ) (x : Result) → (code ≡ refused_unsound → ⊥) → (code ≡ 0 → Passed m c (untrayed x)) → Passed m c (untrayed (unless code m x))
unfolding unless untrayed
unless_passed m c code x k h =
    by_test (eqb code 0)
    (λ e. rw e (h (eqb-true code 0 e)))
    (λ e. rw e (refused_passed m c code [] k))

step_passes : (m : Mem) → Lasting m → (tray : List ℕ) (d : ℕ) → Passed m (machine.step d) (step_result m tray d)
unfolding step_result
step_passes m g tray d =
    by_test (eqb (step_code m tray d) 0)
    (λ e. rw e (went_passed m (machine.step d) _ g (λ b low. taken_goes m g b low tray d (eqb-true (step_code m tray d) 0 e))))
    (λ e. rw e (refused_passed m (machine.step d) (step_code m tray d) tray (step_sound m g.fits tray d)))

-- an abandoning takes off marks that are there
abandoned_goes : (m : Mem) → Lasting m → (b : ℕ) → Below b (store_in (form m) m.nodes) → (d : ℕ) → d < max_clients → (w : Work) → Busy (shape m) (client m d) w
    → Went b (lift_all ((state_of m).clients d)) (untrayed (abandoned_of m d w))
unfolding abandoned_of untrayed now_at is_accepted number
abandoned_goes m g b low d h (asking x) y = quiet m g b _ low Accepted _ [] refl refl
abandoned_goes m g b low d h (writing w) y = abandoned_write_goes m g b low [] d h y

abandoning_goes : (m : Mem) → Lasting m → (b : ℕ) → Below b (store_in (form m) m.nodes) → (d : ℕ) → abandon_code m d ≡ 0
    → Went b (lift_all ((state_of m).clients d)) (untrayed (abandoned m d))
unfolding abandoned
abandoning_goes m g b low d e = let t = abandon_passed m d e in abandoned_goes m g b low d t.1 _ t.2

abandon_passes : (m : Mem) → Lasting m → (d : ℕ) → Passed m (machine.abandon d) (untrayed (abandon_result m d))
unfolding abandon_result
abandon_passes m g d = unless_passed m _ (abandon_code m d) _ (abandon_sound m g.fits d) (λ e.
    went_passed m _ _ g (λ b low. abandoning_goes m g b low d e))

-- the nodes stay
still_passes : (m : Mem) → Lasting m → (c : machine.Call) (t : Mem) → store_in (form t) t.nodes ≡ nodes_of m → Passed m c (untrayed (result_of Accepted t))
unfolding untrayed is_accepted number
still_passes m g c t e = went_passed m c _ g (λ b low. quiet m g b _ low Accepted t [] refl e)

evict_node_passes : (m : Mem) → Lasting m → (i : ℕ) → Passed m (machine.evicts_node i) (untrayed (evict_node_result m i))
unfolding evict_node_result untrayed store_back is_accepted number
evict_node_passes m g i = unless_passed m _ (evict_node_code m i) _ (evict_node_sound m g.fits i) (λ e.
    let t = evict_node_passed m i e in
    let n = length_nodes (form m) m.nodes in
    let a = t.1 in
    let z = few_nodes m g in
    let k = evict_ok i (nodes_of m) (once m g) (rows_held m g.fits) (omega arith) t.2 in
    let l = k.2 in
    went_passed m _ _ g (λ b low. stored m g b 0 low Accepted _ _ [] refl refl k.1 (omega arith) (below_more _ (omega arith) (evict_bound b i (nodes_of m) low))))

renew_passes : (m : Mem) → Lasting m → Passed m machine.renew (untrayed (renew_result m))
unfolding renew_result untrayed renewed is_accepted number Below Each
renew_passes m g = unless_passed m _ (renew_code m) _ (renew_sound m g.fits) (λ e.
    went_passed m _ _ g (λ b low. stored m g b 1 low Accepted _ _ [] refl refl (wide_nil node_width) (omega arith) (omega arith, tt)))

-- ---- Every call
call_passes : (m : Mem) → Lasting m → (c : Call) → Passed m (call_of (shape m) c) (call_result m c)
unfolding call_result call_of begin_result evict_answer_result now_at
call_passes m g (begin d r) = unless_passed m _ (begin_code m d r) _ (begin_sound m g.fits d r) (λ e. still_passes m g _ _ refl)
call_passes m g (step d tray) = step_passes m g tray d
call_passes m g (abandon d) = abandon_passes m g d
call_passes m g (evict_answer i) = unless_passed m _ (evict_answer_code m i) _ (evict_answer_sound m g.fits i) (λ e. still_passes m g _ _ refl)
call_passes m g (evict_node i) = evict_node_passes m g i
call_passes m g renew = renew_passes m g

-- with a tally it is the call, or refused by 15
pub made_passes : (m : Mem) → Lasting m → (x : Made) → Passed m (call_of (shape m) x.call) (made_result m x)
unfolding made_result
made_passes m g x = by_test (is_tally_full m x)
    (λ t. rw t (refused_passed m _ refused_tally_full (tray_of x.call) (λ e. absurd (omega arith))))
    (λ t. rw t (call_passes m g x.call))

is_ask : Work → Bool
is_ask (asking x) = true
is_ask (writing w) = false

work_apart : {x : Ask} {w : Write} → asking x ≡ writing w → ⊥
unfolding is_ask
work_apart q = false≢true (sym (ap is_ask q))

refused_apart : {n : ℕ} → machine.refused n ≡ machine.went → ⊥
unfolding machine.is_refused
refused_apart q = false≢true (sym (ap machine.is_refused q))

is_begin : machine.Call → Bool
is_begin (machine.begin d w) = true
is_begin (machine.step d) = false
is_begin (machine.abandon d) = false
is_begin (machine.evicts_answer i) = false
is_begin (machine.evicts_node i) = false
is_begin machine.renew = false

call_apart : {c : machine.Call} {d : ℕ} {w : Work} → c ≡ machine.begin d w → is_begin c ≡ true
unfolding is_begin
call_apart q = ap is_begin q

-- a write that begins finds no revision above the worn number
fresh_begin : (m : Mem) (d : ℕ) (r : Request) (e : ℕ) (w : Write) → machine.begin d (work_of (shape m) r) ≡ machine.begin e (writing w) → is_write r ≡ true
unfolding work_of is_write
fresh_begin m d (read_of counts range a) e w q = absurd (let z : asking (ask_of (shape m) counts range a) ≡ writing w = cc in work_apart z)
fresh_begin m d (insert_of a) e w q = refl
fresh_begin m d (delete_of a) e w q = refl

fresh_unless : (m : Mem) (sh : Shape) (b : Bool) (code : ℕ) (x : Result) → response_of sh b (untrayed (unless code m x)) ≡ machine.went → code ≡ 0
unfolding response_of response_in untrayed unless
fresh_unless m sh b code x q = by_test (eqb code 0) (λ e. eqb-true code 0 e) (λ e. absurd (let z : machine.refused code ≡ machine.went = rw e at q in refused_apart z))

fresh_call : (m : Mem) (b : Bool) (c : Call) → Fresh (form m) (state_of m) (call_of (shape m) c) (response_of (shape m) b (call_result m c))
unfolding call_of call_result begin_result state_of
fresh_call m b (begin d r) e w q h = (begin_passed m d r (fresh_unless m (shape m) b (begin_code m d r) _ h)).fresh (fresh_begin m d r e w q)
fresh_call m b (step d tray) e w q h = absurd (false≢true (unfold is_begin in call_apart q))
fresh_call m b (abandon d) e w q h = absurd (false≢true (unfold is_begin in call_apart q))
fresh_call m b (evict_answer i) e w q h = absurd (false≢true (unfold is_begin in call_apart q))
fresh_call m b (evict_node i) e w q h = absurd (false≢true (unfold is_begin in call_apart q))
fresh_call m b renew e w q h = absurd (false≢true (unfold is_begin in call_apart q))

begun_fresh : (m : Mem) (x : Made) → Fresh (form m) (state_of m) (call_of (shape m) x.call) (response_of (shape m) (counts_at m (call_of (shape m) x.call)) (made_result m x))
unfolding made_result response_of response_in
begun_fresh m x e w q h = by_test (is_tally_full m x)
    (λ t. absurd (let z : machine.refused refused_tally_full ≡ machine.went = rw t at h in refused_apart z))
    (λ t. fresh_call m _ x.call e w q (rw t at h))

pub lasting_next : (m : Mem) (x : Made) → Lasting m → Lasting (made_result m x).mem
lasting_next m x g =
    let r = refines m x g.fits (once m g) in
    let v = transition_inv (state_of m) g.inv r.0 in
    record { fits = r.1; inv = v; room = rw (form_stays m x g.fits (once m g)) (transition_headroom (form m) (state_of m) (begun_fresh m x) g.inv v (made_passes m g x).lifted g.room r.0) }

pub step_accepted : (m : Mem) → Lasting m → (tray : List ℕ) (d : ℕ) → tray_least ≤ length tray → d < max_clients → is_idle (client m d) ≡ false
    → is_accepted (number (step_result m tray d).out) ≡ true
unfolding step_result
step_accepted m g tray d h l e =
    let z = step_taken m g.fits tray d h l e in
    rw (eq-eqb (step_code m tray d) 0 z) (taken_goes m g g.room.0 (unfold state_of in g.room.1) tray d z).accepted

-- an abandoning of a busy desk goes through, whatever is under way there
pub abandon_accepted : (m : Mem) → Lasting m → (d : ℕ) → d < max_clients → is_idle (client m d) ≡ false → is_accepted (number (abandon_result m d).out) ≡ true
unfolding abandon_result unless untrayed
abandon_accepted m g d l e =
    let z = abandon_taken m g.fits d l e in
    rw (eq-eqb (abandon_code m d) 0 z) (abandoning_goes m g g.room.0 (unfold state_of in g.room.1) d z).accepted
