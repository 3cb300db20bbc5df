-- Each step of a write is a step of the machine: mark, table, raise. Leans on StepFrame and PhaseSteps. Assumes nothing.
use mathlib.Core.Path.{◌≡◌, refl}
use mathlib.Core.Logic.{inl}
use mathlib.Core.Option.{Option, none, some}
use mathlib.Core.Bool.{Bool, true, false}
use mathlib.Core.List.{List, [], ◌∷◌}
use Prim.Native.Nat.{ℕ, suc, ◌+◌, ◌-◌, ◌<◌}
use native.Mathlib.Omega.{arith}
use lib.Dec.{eqb, ltb}
use lib.ListN.{length, get_or}
use borrow.Author.Tests.{ltb-true, ltb-false, eqb-true, eqb-false}
use Rattle.laws.proofs.TestLaws.{by_test}
use Rattle.rules.specs.Layout.{max_clients}
use Rattle.rules.specs.declared.Outcome.TheVariants.{Accepted}
use Rattle.rules.specs.Table.{Table, effect, changes, no_room, Change}
use Rattle.rules.specs.Work.{Write, write_labels, writing, steps_in_all}
use Rattle.rules.specs.Nodes.{Store, retired}
use Rattle.rules.specs.Client.{did_change}
use Rattle.rules.specs.Memory.{Mem, records_in, store_in}
use Rattle.rules.specs.Refusals.{form, shape, columns, client}
use Rattle.rules.specs.Steps.{store_back, announce_result, write_table_result, raise_result, write_result}
use Rattle.rules.specs.Sound.{Busy}
use Rattle.rules.proofs.WorkLaws.{write_label_wide}
use Rattle.records.proofs.RecordWrites.{of_width, effect_wide, effect_few}
use Rattle.revisions.specs.EffectiveRevision.{NoDup, Retired}
use Rattle.revisions.proofs.NodeOperations.{AnnouncedOk, announced_ok}
use Rattle.machine.specs.Machine.{step, with_store, WriteFits}
use Rattle.machine.specs.Transition as transition
use Rattle.refinement.proofs.Abstraction.{state_of, response_in, Fits}
use Rattle.refinement.proofs.ClientPhases.{fits_at}
use Rattle.refinement.proofs.PhaseSteps.{announced_left, wrote_left, raised_left}
use Rattle.rules.proofs.MemoryLaws.{length_records}
use Rattle.refinement.proofs.Abstraction.{records_held, rows_held}
use Rattle.refinement.proofs.StatesAfter.{After, Simulated, simulated, at_store, at_table, then_now}
use Rattle.refinement.proofs.RefusedCalls.{refused_simulated}
use Rattle.refinement.proofs.StepFrame.{steps_at, by_retired, ended_simulated, announcing_at, raising_at}

module _ (m : Mem) (f : Fits m) (once : NoDup (store_in (form m) m.nodes).nodes) (tray : List ℕ) (d : ℕ) (low : d < max_clients)
    {w : Write} (b : Busy (shape m) (client m d) (writing w)) where
  -- what it writes is of the hall
  fits : WriteFits (shape m) w
  fits = fits_at b

  -- how many nodes it has, and how many raises it has made
  abbrev labels : ℕ
  labels = length (write_labels w)

  abbrev raises : ℕ
  raises = steps_at m d - (labels + 1)

  -- ---- A mark
  announce_simulated : (o : Option Store) → steps_at m d < labels → AnnouncedOk (get_or (write_labels w) (steps_at m d) []) (store_in (form m) m.nodes) o
      → Simulated m (step d) (announce_result m tray d o)
  unfolding announce_result response_in state_of
  announce_simulated none h k = refused_simulated m (step d) 3 tray f (inl (omega arith)) (λ z. omega arith)
  announce_simulated (some t) h k =
      simulated Accepted tray
      (then_now (at_store m f t k.1 k.2) d low (announced_left b h))
      (transition.announced low (announcing_at m d low b (omega arith)) h k.0)

  -- ---- The table step
  write_table_simulated : steps_at m d ≡ labels → Simulated m (step d) (write_table_result m tray d w.change)
  unfolding write_table_result response_in state_of
  write_table_simulated e =
      let c : Change = w.change in
      let t : Table = records_in (columns m) m.table in
      let n = length_records (columns m) m.table in
      let y = f.records in
      let a = at_table m f (effect c t) (effect_wide (columns m) c t (of_width (columns m) c fits.columns) (records_held m f)) (effect_few c t (omega arith)) in
      simulated Accepted tray
      (then_now a d low (wrote_left b (changes c t) (no_room c t) e))
      (transition.wrote low (announcing_at m d low b (omega arith)) (omega arith))

  -- ---- A raise
  raised_simulated : (is_last : Bool) (t : Store) → labels < steps_at m d → eqb (steps_at m d) (labels + labels) ≡ is_last
      → Retired (did_change (client m d)) (get_or (write_labels w) raises [] ∷ []) (store_in (form m) m.nodes) t
      → After m (store_back m t) (with_store (state_of m) t) → Simulated m (step d) (raise_result m tray d is_last (some t))
  unfolding raise_result response_in state_of steps_in_all
  raised_simulated true t h l k a =
      let z = eqb-true (steps_at m d) (labels + labels) l in
      ended_simulated tray d a low (transition.last low (raising_at m d low b h) (omega arith) k)
  raised_simulated false t h l k a =
      let z = eqb-false (steps_at m d) (labels + labels) l in
      let y = b.going in
      let j : suc raises < labels = omega arith in
      simulated Accepted tray
      (then_now a d low (raised_left b h j))
      (transition.raised low (raising_at m d low b h) j k)

  raise_simulated : (is_last : Bool) → labels < steps_at m d → eqb (steps_at m d) (labels + labels) ≡ is_last
      → Simulated m (step d) (raise_result m tray d is_last (retired (form m) (did_change (client m d)) (get_or (write_labels w) raises [] ∷ []) (store_in (form m) m.nodes)))
  raise_simulated is_last h l =
      by_retired m f once _ (get_or (write_labels w) raises [] ∷ []) (λ o. Simulated m (step d) (raise_result m tray d is_last o))
      (unfold raise_result in refused_simulated m (step d) 3 tray f (inl (omega arith)) (λ z. omega arith))
      (λ t k a. raised_simulated is_last t h l k a)

  -- ---- A step of a write
  pub write_simulated : Simulated m (step d) (write_result m tray d w (steps_at m d))
  unfolding write_result
  write_simulated =
      let i : ℕ = steps_at m d in
      by_test (ltb i labels)
      (λ t. let z = ltb-true i labels t in
      let k = write_label_wide w i (let c = fits.columns in let y = b.most in omega arith) z in
      rw t (announce_simulated _ z (announced_ok _ (store_in (form m) m.nodes) k once (rows_held m f))))
      (λ t. let z = ltb-false i labels t in rw t (by_test (eqb i labels)
      (λ u. rw u (write_table_simulated (eqb-true i labels u)))
      (λ u. let y = eqb-false i labels u in rw u (raise_simulated _ (omega arith) refl))))
