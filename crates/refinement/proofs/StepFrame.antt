-- What every step leans on: the desk that goes, marks taken off, and the tray. Leans on StatesAfter and ClientPhases. Assumes nothing.
use mathlib.Core.Path.{◌≡◌, sym, ◌∙◌}
use mathlib.Core.Option.{Option, none, some}
use mathlib.Core.Bool.{Bool, true, false}
use mathlib.Core.List.{List}
use Prim.Native.Nat.{ℕ, ◌+◌, ◌-◌, ◌*◌, ◌≤◌, ◌<◌}
use native.Mathlib.Omega.{arith}
use lib.ListN.{length}
use borrow.Author.Tests.{lt-ltb}
use Rattle.lists.specs.Lists.{written}
use Rattle.laws.proofs.TestLaws.{by_test}
use Rattle.laws.proofs.WrittenLaws.{written_read}
use Rattle.query.specs.Shape.{Shape}
use Rattle.rules.specs.Layout.{max_clients}
use Rattle.rules.specs.declared.Outcome.TheVariants.{Answered}
use Rattle.rules.specs.Work.{Value, Write, writing, write_labels}
use Rattle.rules.specs.Answers.{Entry}
use Rattle.rules.specs.Client.{Client, steps, did_change, found_full, entry_of, is_idle, work_at}
use Rattle.rules.specs.Client as rules_client
use Rattle.rules.specs.Memory.{Mem, store_in}
use Rattle.rules.specs.Refusals.{form, client, shape}
use Rattle.rules.specs.Nodes.{Words, Store, retired}
use Rattle.rules.specs.Outcome.{result_with}
use Rattle.rules.specs.Steps.{now_at, store_back, end_of}
use Rattle.rules.specs.Steps as rules_steps
use Rattle.rules.specs.Sound.{Busy}
use Rattle.rules.proofs.ClientLaws.{busy_of, client_room, client_wide}
use Rattle.rules.proofs.HoldingLaws.{Whole}
use Rattle.revisions.specs.EffectiveRevision.{NoDup, Retired}
use Rattle.revisions.proofs.NodeOperations.{RetiredOk, retired_ok}
use Rattle.machine.specs.Machine.{idle, State, Call, answered, write_end, at_client, with_store, announcing, raising}
use Rattle.machine.specs.Transition.{Transition}
use Rattle.refinement.proofs.Abstraction.{phase_of, phases_of, state_of, said, response_in, counts_at, Fits}
use Rattle.refinement.proofs.ClientPhases.{announcing_phase, raising_phase}
use Rattle.refinement.proofs.Abstraction.{rows_held}
use Rattle.refinement.proofs.StatesAfter.{After, Simulated, simulated, at_store, then_idle}

-- ---- What stands at a desk: how many steps it has made, and its entry
abbrev pub steps_at : Mem → ℕ → ℕ
steps_at m d = steps (client m d)

abbrev pub entry_at : Mem → ℕ → Entry
entry_at m d = entry_of (client m d)

-- ---- A desk that is busy
pub busy_at : (m : Mem) → Fits m → (d : ℕ) → d < max_clients → is_idle (client m d) ≡ false
    → Busy (shape m) (client m d) (work_at (shape m) (client m d))
unfolding client
busy_at m f d h e =
    let w = client_wide (form m) m.clients d (client_room (form m) (shape m) m.clients d h f.long.clients) in
    busy_of (shape m) (client m d) f.some f.few w (f.sound d h) e

pub client_at : (m : Mem) (d : ℕ) → d < max_clients → (state_of m).clients d ≡ phase_of (shape m) (client m d)
unfolding state_of phases_of
client_at m d h = rw (lt-ltb d max_clients h)

-- a write before its table step
pub announcing_at : (m : Mem) (d : ℕ) {w : Write} → d < max_clients → Busy (shape m) (client m d) (writing w) → steps_at m d ≤ length (write_labels w)
    → (state_of m).clients d ≡ announcing w (steps_at m d)
announcing_at m d low b h = client_at m d low ∙ announcing_phase b h

-- and past it, by the raises that it has made
pub raising_at : (m : Mem) (d : ℕ) {w : Write} → d < max_clients → Busy (shape m) (client m d) (writing w) → length (write_labels w) < steps_at m d
    → (state_of m).clients d ≡ raising w (steps_at m d - (length (write_labels w) + 1)) (did_change (client m d)) (found_full (client m d))
raising_at m d low b h = client_at m d low ∙ raising_phase b h

-- ---- Marks taken off, or a refusal
pub by_retired : (m : Mem) → Fits m → NoDup (store_in (form m) m.nodes).nodes → (lift : Bool) (ps : List Words) (P : Option Store → Type 0) → P none
    → ((t : Store) → Retired lift ps (store_in (form m) m.nodes) t → After m (store_back m t) (with_store (state_of m) t) → P (some t))
    → P (retired (form m) lift ps (store_in (form m) m.nodes))
by_retired m f once lift ps P z s =
    go (retired (form m) lift ps (store_in (form m) m.nodes)) (retired_ok (form m) lift ps (store_in (form m) m.nodes) once (rows_held m f))
  where
    go : (o : Option Store) → RetiredOk lift ps (store_in (form m) m.nodes) o → P o
    go none k = z
    go (some t) k = s t k.0 (at_store m f t k.1 (λ l. let e = k.2 in omega arith))

-- ---- A write's end, by its last raise or by an abandoning
end_is : (sh : Shape) (counts : Bool) (tray : List ℕ) (c : Client) → response_in sh counts tray (end_of c) ≡ write_end (did_change c) (found_full c)
unfolding response_in end_of write_end
end_is sh counts tray c = by_test (found_full c) (λ e. rw e) (λ e. rw e)

pub ended_simulated : {m n : Mem} {s : State} {c : Call} (tray : List ℕ) (d : ℕ) → After m n s → d < max_clients
    → Transition (state_of m) c (write_end (did_change (client m d)) (found_full (client m d))) (at_client s d idle)
    → Simulated m c (result_with (end_of (client m d)) (now_at n d rules_client.idle) tray)
ended_simulated {m} {c = c} tray d a h y =
    simulated (end_of (client m d)) tray (then_idle a d h) (rw (end_is (shape m) (counts_at m c) tray (client m d)) y)

-- ---- An answer
-- what the tray says of what was written there
pub told : (sh : Shape) (b : Bool) (tray : List ℕ) (v : Value) → Whole sh b v → said sh b (written tray 0 v.numbers) v.count ≡ v
told sh true tray v e = λ i. record { count = v.count; numbers = sym e i }
told sh false tray v e = λ i. record { count = v.count; numbers = written_read tray v.numbers (v.count * sh.columns) e i }

pub answered_simulated : {m n : Mem} {s : State} {c : Call} (tray : List ℕ) (d : ℕ) (v : Value) (cached : Bool) → After m n s → d < max_clients → Whole (shape m) (counts_at m c) v
    → Transition (state_of m) c (answered v cached) (at_client s d idle) → Simulated m c (rules_steps.answered n tray d v cached)
unfolding rules_steps.answered response_in
answered_simulated {m} {c = c} tray d v cached a h e y =
    simulated (Answered v.count cached) (written tray 0 v.numbers) (then_idle a d h) (rw (told (shape m) (counts_at m c) tray v e) y)
