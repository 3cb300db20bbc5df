-- The same call on two halls alike, both as a history leaves them, gives the same outcome and tray and leaves them alike, unless the first gives 10.
-- Leans on AlikeParts, AlikeCodes and on what a history's memories keep to. Assumes nothing.
use mathlib.Core.Path.{◌≡◌, refl, sym, ap, subst, ◌∙◌}
use mathlib.Core.Bool.{Bool, true, false, cond, ◌&&◌}
use mathlib.Core.Option.{Option, none, some, IsSome}
use mathlib.Core.List.{List, [], ◌∷◌}
use Prim.Native.Nat.{ℕ, ◌+◌, ◌-◌, ◌<◌}
use native.Mathlib.Omega.{arith}
use lib.Dec.{eqb, ltb}
use lib.ListN.{length, get_or}
use borrow.Author.Tests.{ltb-true, ltb-false, eqb-true, eqb-false}
use Rattle.lists.specs.Lists.{without}
use Rattle.laws.proofs.TestLaws.{by_test}
use Rattle.laws.proofs.ListLaws.{length_without}
use Rattle.laws.proofs.RowLaws.{wide_without, wide_nil}
use Rattle.query.specs.Shape.{Form, Shape}
use Rattle.rules.specs.Layout.{max_clients, node_width, entry_width, refused_worn}
use Rattle.rules.specs.declared.Outcome.{Outcome}
use Rattle.rules.specs.declared.Outcome.TheVariants.{Refused, Accepted, Long}
use Rattle.rules.specs.Nodes.{Words, Store, store, ensured, announced, may_retire, is_pending, released, lifted, retired}
use Rattle.rules.specs.Nodes as nodes
use Rattle.rules.specs.Work.{Ask, Value, value_of, may_answer, read_labels, Write, write_labels, Work, asking, writing, Request, work_of}
use Rattle.rules.specs.Answers.{Entry, fetch_place}
use Rattle.rules.specs.Table.{Table, Change}
use Rattle.rules.specs.Client.{idle, begun, steps, did_change, found_full, entry_of, work_at}
use Rattle.rules.specs.Memory.{Mem, records_in, answers_in, with_filed, with_answers, renewed}
use Rattle.rules.specs.Refusals.{form, shape, columns, client, begin_code, step_code}
use Rattle.rules.specs.Steps.{now_at, store_back, look_result, fetch_result, table_result, read_result, announce_result, write_table_result, raise_result, write_result, end_of, progress_of, progress}
use Rattle.rules.specs.Calls.{unless, begin_result, step_result, past_table, announced_labels, labels_left, retire_result, abandoned_write, abandoned_of, abandoned, abandon_result, evict_answer_result, evict_node_result, renew_result}
use Rattle.rules.specs.History.{Call, begin, step, abandon, evict_answer, evict_node, renew, untrayed, call_result}
use Rattle.rules.specs.Sound.{Busy}
use Rattle.rules.proofs.PassedChecks.{begin_passed, step_passed, abandon_passed, evict_answer_passed}
use Rattle.rules.proofs.WorkLaws.{read_label_wide, write_label_wide}
use Rattle.records.proofs.RecordWrites.{of_width, effect_wide, effect_few}
use Rattle.rules.proofs.NodeSizes.{Sized, AllSized, sized_none, sized_evict, sized_ensured, sized_announced, sized_retired}
use Rattle.revisions.proofs.OperationsGo.{retired_some}
use Rattle.machine.specs.Machine.{State, WriteFits, raising}
use Rattle.machine.proofs.PendingLabels.{Leaves, one_leaves, all_leave}
use Rattle.machine.proofs.StateInv.{fit_at}
use Rattle.machine.proofs.Headroom.{Headroom, raises_go}
use Rattle.refinement.proofs.Abstraction.{Fits, state_of}
use Rattle.refinement.proofs.ClientPhases.{fits_at, begun_left}
use Rattle.refinement.proofs.PhaseSteps.{value_room}
use Rattle.rules.proofs.MemoryLaws.{length_records, length_answers}
use Rattle.refinement.proofs.Abstraction.{rows_held, records_held, answers_held}
use Rattle.refinement.proofs.StatesAfter.{at_store}
use Rattle.refinement.proofs.StepFrame.{steps_at, raising_at}
use Rattle.refinement.proofs.ReadRefined.{whole_listed, may_short}
use Rattle.refinement.proofs.OthersRefined.{request_fits}
use Rattle.refinement.proofs.NeverRefused.{Lasting, nodes_of, once, few_nodes}
use Rattle.rules.proofs.ClientLaws.{idle_wide}
use Rattle.carrying.specs.Alike.{Alike, AlikeResult, Wider}
use Rattle.carrying.proofs.AlikeParts.{alike_at, alike_stored, alike_now, alike_store, alike_filed, alike_state, alike_look, alike_fetch, alike_table, alike_file}
use Rattle.carrying.proofs.AlikeParts.{alike_mark, alike_raise, alike_write, alike_unless}
use Rattle.carrying.proofs.AlikeCodes.{begin_same, step_same, abandon_same, evict_answer_same, evict_node_same, renew_same}

-- ---- Marks taken off: the form decides only whether they can be
retired_forms : (f g : Form) (c : Bool) (ps : List Words) (s : Store) → IsSome (retired f c ps s) → IsSome (retired g c ps s) → retired f c ps s ≡ retired g c ps s
unfolding retired
retired_forms f g c [] s h k = refl
retired_forms f g c (p ∷ ps) s h k =
    by_test (may_retire f c p s)
    (λ t. by_test (may_retire g c p s)
    (λ u. rw (t, u) (retired_forms f g c ps (released p (lifted c p s)) (rw t at h) (rw u at k)))
    (λ u. absurd (rw u at k)))
    (λ t. absurd (rw t at h))

released_forms : (f g : Form) (ps : List Words) (s : Store) → retired f false ps s ≡ retired g false ps s
unfolding retired may_retire
released_forms f g [] s = refl
released_forms f g (p ∷ ps) s = ap (λ (o : Option Store). cond (is_pending p s && true) o none) (released_forms f g ps (released p (lifted false p s)))

module _ (m n : Mem) (lm : Lasting m) (ln : Lasting n) (a : Alike m n) where
  abbrev f : Fits m
  f = lm.fits

  abbrev g : Fits n
  g = ln.fits

  -- the second hall's headroom is one of the first's state
  room_too : Headroom (form n) (state_of m)
  room_too = subst (λ (s : State). Headroom (form n) s) (sym (alike_state m n a)) ln.room

  sized : Sized (nodes_of m)
  sized = record { wide = rows_held m f; few = few_nodes m lm }

  -- ---- A read
  module _ (tray : List ℕ) (d : ℕ) (h : d < max_clients) where
    table_alike : {x : Ask} → Busy (shape m) (client m d) (asking x)
        → AlikeResult (table_result m tray d x (value_of x (records_in (columns m) m.table))) (table_result n tray d x (value_of x (records_in (columns m) m.table)))
    unfolding table_result state_of
    table_alike {x} y =
        let v : Value = value_of x (records_in (columns m) m.table) in
        by_test (may_answer x v)
        (λ t. alike_table m n f g a tray d h x v (value_room (shape m) x.counts v f.few (whole_listed m f (once m lm) tray d h y) (may_short m f (once m lm) tray d h y t)))
        (λ t. rw t (alike_at m n f g a tray d h Long idle idle refl idle_wide))

    read_alike : {x : Ask} → Busy (shape m) (client m d) (asking x) → AlikeResult (read_result m tray d x (steps_at m d)) (read_result n tray d x (steps_at m d))
    unfolding read_result
    read_alike {x} y =
        let i : ℕ = steps_at m d in
        let l : ℕ = length (read_labels x) in
        by_test (ltb i l)
        (λ t. let p : Words = get_or (read_labels x) i [] in
        let k = read_label_wide x i (let c = (fits_at y).columns in let z = y.most in omega arith) (ltb-true i l t) in
        rw t (subst (λ (s : Store). AlikeResult (look_result m tray d i p (ensured p (nodes_of m))) (look_result n tray d i p (ensured p s))) a.store
        (alike_look m n f g a tray d h i p (ensured p (nodes_of m)) (sized_ensured p (nodes_of m) k sized))))
        (λ t. rw t (by_test (eqb i l)
        (λ u. rw u (subst (λ (j : ℕ). AlikeResult (fetch_result m tray d (fetch_place l (entry_of (client m d)) (answers_in (form m) m.answers))) (fetch_result n tray d j))
        (λ k. fetch_place l (entry_of (a.clients d h k)) (a.answers k)) (alike_fetch m n f g a tray d h (fetch_place l (entry_of (client m d)) (answers_in (form m) m.answers)))))
        (λ u. rw u (by_test (eqb i (l + 1))
        (λ v. rw v (subst (λ (b : Table). AlikeResult (table_result m tray d x (value_of x (records_in (columns m) m.table))) (table_result n tray d x (value_of x b))) a.table (table_alike y)))
        (λ v. rw v (alike_file m n f g a tray d h))))))

    -- ---- A write
    module _ {w : Write} (y : Busy (shape m) (client m d) (writing w)) where
      abbrev labels : ℕ
      labels = length (write_labels w)

      abbrev raises : ℕ
      raises = steps_at m d - (labels + 1)

      raised_goes : (k : Form) → Headroom k (state_of m) → (ps rest : List Words) {c b : Bool} → (state_of m).clients d ≡ raising w raises c b → Leaves w raises ps rest
          → IsSome (retired k c ps (nodes_of m))
      unfolding state_of
      raised_goes k r ps rest {c} {b} e lv =
          let z = raises_go k (state_of m) d w raises c b ps rest lm.inv r h e lv in
          retired_some k c ps (nodes_of m) (once m lm) (rows_held m f) (λ q. (z q).0) (λ t q. (z q).1)

      -- raises, one or all that are left: both halls make the same of them
      raised_same : (ps rest : List Words) → labels < steps_at m d → Leaves w raises ps rest
          → retired (form m) (did_change (client m d)) ps (nodes_of m) ≡ retired (form n) (did_change (client n d)) ps (nodes_of n)
      raised_same ps rest l lv =
          let e = raising_at m d h y l in
          retired_forms (form m) (form n) (did_change (client m d)) ps (nodes_of m) (raised_goes (form m) lm.room ps rest e lv) (raised_goes (form n) room_too ps rest e lv)
          ∙ (λ k. retired (form n) (did_change (a.clients d h k)) ps (a.store k))

      released_same : (ps : List Words) → retired (form m) false ps (nodes_of m) ≡ retired (form n) false ps (nodes_of n)
      released_same ps = released_forms (form m) (form n) ps (nodes_of m) ∙ (λ k. retired (form n) false ps (a.store k))

      kept_retired : (c : Bool) (ps : List Words) → AllSized (retired (form m) c ps (nodes_of m))
      kept_retired c ps = sized_retired (form m) c ps (nodes_of m) sized

      mark_alike : steps_at m d < labels
          → AlikeResult (announce_result m tray d (announced (get_or (write_labels w) (steps_at m d) []) (nodes_of m))) (announce_result n tray d (announced (get_or (write_labels w) (steps_at m d) []) (nodes_of n)))
      mark_alike z =
          let p : Words = get_or (write_labels w) (steps_at m d) [] in
          let five = write_label_wide w (steps_at m d) (let c : WriteFits (shape m) w = fits_at y in let e = c.columns in let z = y.most in omega arith) z in
          subst (λ (s : Store). AlikeResult (announce_result m tray d (announced p (nodes_of m))) (announce_result n tray d (announced p s))) a.store
          (alike_mark m n f g a tray d h (announced p (nodes_of m)) (sized_announced p (nodes_of m) five sized))

      write_table_alike : AlikeResult (write_table_result m tray d w.change) (write_table_result n tray d w.change)
      write_table_alike =
          let c : Change = w.change in
          let t : Table = records_in (columns m) m.table in
          let k = length_records (columns m) m.table in
          let z = f.records in
          let u : WriteFits (shape m) w = fits_at y in
          alike_write m n f g a tray d h c (effect_wide (columns m) c t (of_width (columns m) c u.columns) (records_held m f)) (effect_few c t (omega arith))

      raise_alike : (is_last : Bool) → labels < steps_at m d
          → AlikeResult (raise_result m tray d is_last (retired (form m) (did_change (client m d)) (get_or (write_labels w) raises [] ∷ []) (nodes_of m)))
          (raise_result n tray d is_last (retired (form n) (did_change (client n d)) (get_or (write_labels w) raises [] ∷ []) (nodes_of n)))
      raise_alike is_last l =
          let ps : List Words = get_or (write_labels w) raises [] ∷ [] in
          let o = (fit_at (state_of m) d (raising w raises (did_change (client m d)) (found_full (client m d))) lm.inv (raising_at m d h y l)).1 in
          subst (λ (x : Option Store). AlikeResult (raise_result m tray d is_last (retired (form m) (did_change (client m d)) ps (nodes_of m))) (raise_result n tray d is_last x))
          (raised_same ps _ l (one_leaves w raises o))
          (alike_raise m n f g a tray d h is_last (retired (form m) (did_change (client m d)) ps (nodes_of m)) (kept_retired (did_change (client m d)) ps))

      write_alike : AlikeResult (write_result m tray d w (steps_at m d)) (write_result n tray d w (steps_at m d))
      unfolding write_result
      write_alike =
          let i : ℕ = steps_at m d in
          by_test (ltb i labels)
          (λ t. rw t (mark_alike (ltb-true i labels t)))
          (λ t. let z = ltb-false i labels t in rw t (by_test (eqb i labels)
          (λ u. rw u write_table_alike)
          (λ u. let v = eqb-false i labels u in rw u (raise_alike _ (omega arith)))))

      -- ---- Its abandoning
      retire_alike : (o o' : Outcome) → o ≡ o' → (x : Option Store) → AllSized x → AlikeResult (untrayed (retire_result m d o x)) (untrayed (retire_result n d o' x))
      unfolding retire_result untrayed
      retire_alike o o' e none k = record { out = refl; tray = refl; mem = a }
      retire_alike o o' e (some t) k = alike_stored m n f g a [] d h o o' t k e idle idle refl idle_wide

      abandoned_write_alike : AlikeResult (untrayed (abandoned_write m d w (steps_at m d))) (untrayed (abandoned_write n d w (steps_at m d)))
      unfolding abandoned_write past_table
      abandoned_write_alike =
          let c : Bool = did_change (client m d) in
          let ps : List Words = labels_left w (steps_at m d) in
          let qs : List Words = announced_labels w (steps_at m d) in
          by_test (ltb labels (steps_at m d))
          (λ t. rw t (subst (λ (x : Option Store). AlikeResult (untrayed (retire_result m d (end_of (client m d)) (retired (form m) c ps (nodes_of m)))) (untrayed (retire_result n d (end_of (client n d)) x)))
          (raised_same ps [] (ltb-true labels _ t) (all_leave w raises))
          (retire_alike (end_of (client m d)) (end_of (client n d)) (ap end_of (a.clients d h)) (retired (form m) c ps (nodes_of m)) (kept_retired c ps))))
          (λ t. rw t (subst (λ (x : Option Store). AlikeResult (untrayed (retire_result m d Accepted (retired (form m) false qs (nodes_of m)))) (untrayed (retire_result n d Accepted x)))
          (released_same qs)
          (retire_alike Accepted Accepted refl (retired (form m) false qs (nodes_of m)) (kept_retired false qs))))

    -- ---- A step
    progress_alike : (w : Work) → Busy (shape m) (client m d) w → AlikeResult (progress_of m tray d w) (progress_of n tray d w)
    unfolding progress_of
    progress_alike (asking x) y =
        subst (λ (i : ℕ). AlikeResult (read_result m tray d x (steps_at m d)) (read_result n tray d x i)) (ap steps (a.clients d h)) (read_alike y)
    progress_alike (writing w) y =
        subst (λ (i : ℕ). AlikeResult (write_result m tray d w (steps_at m d)) (write_result n tray d w i)) (ap steps (a.clients d h)) (write_alike y)

    going_alike : Busy (shape m) (client m d) (work_at (shape m) (client m d)) → AlikeResult (progress m tray d) (progress n tray d)
    unfolding progress
    going_alike y =
        subst (λ (w : Work). AlikeResult (progress_of m tray d (work_at (shape m) (client m d))) (progress_of n tray d w)) (λ i. work_at (a.shape i) (a.clients d h i))
        (progress_alike (work_at (shape m) (client m d)) y)

    -- ---- An abandoning
    abandoned_of_alike : (w : Work) → Busy (shape m) (client m d) w → AlikeResult (untrayed (abandoned_of m d w)) (untrayed (abandoned_of n d w))
    unfolding abandoned_of untrayed
    abandoned_of_alike (asking x) y = alike_at m n f g a [] d h Accepted idle idle refl idle_wide
    abandoned_of_alike (writing w) y =
        subst (λ (i : ℕ). AlikeResult (untrayed (abandoned_write m d w (steps_at m d))) (untrayed (abandoned_write n d w i))) (ap steps (a.clients d h)) (abandoned_write_alike y)

    abandoned_alike : Busy (shape m) (client m d) (work_at (shape m) (client m d)) → AlikeResult (untrayed (abandoned m d)) (untrayed (abandoned n d))
    unfolding abandoned
    abandoned_alike y =
        subst (λ (w : Work). AlikeResult (untrayed (abandoned_of m d (work_at (shape m) (client m d)))) (untrayed (abandoned_of n d w))) (λ i. work_at (a.shape i) (a.clients d h i))
        (abandoned_of_alike (work_at (shape m) (client m d)) y)

  -- ---- The calls
  step_alike : (tray : List ℕ) (d : ℕ) → AlikeResult (step_result m tray d) (step_result n tray d)
  unfolding step_result
  step_alike tray d =
      let e = step_same m n f g a tray d in
      by_test (eqb (step_code m tray d) 0)
      (λ t. let t' : eqb (step_code n tray d) 0 ≡ true = ap (λ (z : ℕ). eqb z 0) (sym e) ∙ t in
      let s = step_passed m tray d (eqb-true (step_code m tray d) 0 t) in rw (t, t') (going_alike tray d s.1.1 s.1.2))
      (λ t. let t' : eqb (step_code n tray d) 0 ≡ false = ap (λ (z : ℕ). eqb z 0) (sym e) ∙ t in
      rw (t, t') (record { out = ap (λ (z : ℕ). Refused z) e; tray = refl; mem = a }))

  abandon_alike : (d : ℕ) → AlikeResult (untrayed (abandon_result m d)) (untrayed (abandon_result n d))
  unfolding abandon_result
  abandon_alike d = alike_unless m n a _ _ _ _ (abandon_same m n f g a d) (λ z. let t = abandon_passed m d z in abandoned_alike [] d t.1 t.2)

  begin_alike : Wider (form m) (form n) → (d : ℕ) (r : Request) → (begin_code m d r ≡ refused_worn → ⊥) → AlikeResult (untrayed (begin_result m d r)) (untrayed (begin_result n d r))
  unfolding begin_result untrayed
  begin_alike w d r k = alike_unless m n a _ _ _ _ (begin_same m n f g a w d r k) (λ z.
      let b = begin_passed m d r z in
      record {
        out = refl;
        tray = refl;
        mem = subst (λ (s : Shape). Alike (now_at m d (begun (work_of (shape m) r))) (now_at n d (begun (work_of s r)))) a.shape
            (alike_now m n f.long.clients g.long.clients a d b.below (begun (work_of (shape m) r)) (begun_left (shape m) f.some f.few (work_of (shape m) r) (request_fits (shape m) r b.good)).wide);
      })

  evict_answer_alike : (i : ℕ) → AlikeResult (untrayed (evict_answer_result m i)) (untrayed (evict_answer_result n i))
  unfolding evict_answer_result untrayed
  evict_answer_alike i = alike_unless m n a _ _ _ _ (evict_answer_same m n f g a i) (λ z.
      let es : List Entry = answers_in (form m) m.answers in
      let x = (evict_answer_passed m i z).1 in
      let y = f.answers in
      let k = length_answers (form m) m.answers in
      let l = length_without i es (omega arith) in
      record {
        out = refl;
        tray = refl;
        mem = subst (λ (u : List Entry). Alike (with_filed m (with_answers (form m) m.answers (without i es))) (with_filed n (with_answers (form n) n.answers (without i u)))) a.answers
            (alike_filed m n f g a (without i es) (wide_without entry_width i es (answers_held m f)) (omega arith));
      })

  evict_node_alike : (i : ℕ) → AlikeResult (untrayed (evict_node_result m i)) (untrayed (evict_node_result n i))
  unfolding evict_node_result untrayed
  evict_node_alike i = alike_unless m n a _ _ _ _ (evict_node_same m n f g a i) (λ z. record {
    out = refl;
    tray = refl;
    mem = subst (λ (s : Store). Alike (store_back m (nodes.evict_node i (nodes_of m))) (store_back n (nodes.evict_node i s))) a.store
        (alike_store m n f g a (nodes.evict_node i (nodes_of m)) (sized_evict i (nodes_of m) sized));
  })

  renewed_alike : Alike (renewed m) (renewed n)
  unfolding renewed store_back
  renewed_alike =
      let s : Store = store 1 [] in
      let w = wide_nil node_width in
      let b = alike_store m n f g a s (sized_none 1) in
      alike_filed (store_back m s) (store_back n s) (at_store m f s w (λ l. omega arith)).fits (at_store n g s w (λ l. omega arith)).fits b [] (wide_nil entry_width) (omega arith)

  renew_alike : AlikeResult (untrayed (renew_result m)) (untrayed (renew_result n))
  unfolding renew_result untrayed
  renew_alike = alike_unless m n a _ _ _ _ (renew_same m n f g a) (λ z. record { out = refl; tray = refl; mem = renewed_alike })

  worn_out : (d : ℕ) (r : Request) → begin_code m d r ≡ refused_worn → (untrayed (begin_result m d r)).out ≡ Refused refused_worn
  unfolding begin_result untrayed unless
  worn_out d r e = rw e refl

  pub alike_call : Wider (form m) (form n) → (c : Call) → ((call_result m c).out ≡ Refused refused_worn → ⊥) → AlikeResult (call_result m c) (call_result n c)
  unfolding call_result
  alike_call w (begin d r) k = begin_alike w d r (λ e. k (worn_out d r e))
  alike_call w (step d tray) k = step_alike tray d
  alike_call w (abandon d) k = abandon_alike d
  alike_call w (evict_answer i) k = evict_answer_alike i
  alike_call w (evict_node i) k = evict_node_alike i
  alike_call w renew k = renew_alike
