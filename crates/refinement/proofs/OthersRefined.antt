-- Begins, abandonings, puttings out and renewals are steps of the machine. Leans on StepFrame, RefusedCalls and AnswersRefined. Assumes nothing.
use mathlib.Core.Path.{◌≡◌, refl, ap, ◌∙◌}
use mathlib.Core.Logic.{inl}
use mathlib.Core.Bool.{Bool, true, false}
use mathlib.Core.List.{List, []}
use mathlib.Core.Option.{some}
use Prim.Native.Nat.{ℕ, ◌+◌, ◌<◌}
use native.Mathlib.Omega.{arith}
use lib.Dec.{eqb, ltb, leb}
use lib.ListN.{length, get_or, length-map}
use borrow.Author.Tests.{ltb-true, ltb-false}
use Rattle.lists.specs.Lists.{without}
use Rattle.laws.proofs.TestLaws.{by_test}
use Rattle.laws.proofs.ListLaws.{length_without}
use Rattle.laws.proofs.RowLaws.{wide_without, wide_nil}
use Rattle.laws.proofs.Members.{in_none}
use Rattle.query.specs.Encoding.{query_of}
use Rattle.query.specs.Shape.{Shape}
use Rattle.query.proofs.EncodingLaws.{is_query_length}
use Rattle.rules.specs.Layout.{max_clients, answer_count_offset, entry_width, node_width}
use Rattle.rules.specs.declared.Outcome.{Outcome}
use Rattle.rules.specs.declared.Outcome.TheVariants.{Accepted}
use Rattle.rules.specs.Work.{Write, write_labels, Ask, Work, ask_of, asking, delete_of, insert_of, read_labels, read_of, work_of, writing, is_write, Request}
use Rattle.rules.specs.Work.{fault_of}
use Rattle.rules.specs.Nodes.{Words, Store, store, retired, evict_node}
use Rattle.rules.specs.Answers.{Entry}
use Rattle.rules.specs.Client.{saw_pending, is_idle}
use Rattle.rules.specs.Memory.{Mem, with_filed, store_in, answers_in, with_answers, renewed}
use Rattle.rules.specs.Refusals.{form, client, begin_code, abandon_code, evict_answer_code, evict_node_code, renew_code, shape}
use Rattle.rules.specs.Outcome.{result_of}
use Rattle.rules.specs.Steps.{store_back}
use Rattle.rules.specs.Calls.{begin_result, past_table, announced_labels, labels_left, retire_result, abandoned_write, abandoned, abandon_result, evict_answer_result, evict_node_result, renew_result, abandoned_of}
use Rattle.rules.specs.History.{untrayed}
use Rattle.rules.specs.Sound.{Busy}
use Rattle.rules.proofs.PassedChecks.{Begins, begin_passed, abandon_passed, evict_answer_passed, evict_node_passed, renew_passed}
use Rattle.rules.proofs.PassedChecks.{read_good, insert_good, delete_good}
use Rattle.rules.proofs.WorkLaws.{target_insert, target_delete}
use Rattle.revisions.specs.EffectiveRevision.{NoDup, Retired}
use Rattle.revisions.proofs.NodeOperations.{evict_ok}
use Rattle.machine.specs.Machine.{idle, State, begin, abandon, evicts_answer, evicts_node, renew, with_store, with_filing, cut, WorkFits, went}
use Rattle.machine.specs.Machine.{at_client}
use Rattle.machine.specs.Transition as steps_of
use Rattle.refinement.proofs.Abstraction.{ans_of, reader_of, busy_phase, phases_of, filed_of, state_of, response_in, Fits}
use Rattle.refinement.proofs.ClientPhases.{busy_phase_law, idle_at, begun_left, start_of}
use Rattle.rules.proofs.MemoryLaws.{length_nodes, length_answers}
use Rattle.refinement.proofs.Abstraction.{rows_held, answers_held}
use Rattle.refinement.proofs.StatesAfter.{After, Simulated, simulated, as_it_was, at_store, at_filed, then_now, then_idle}
use Rattle.refinement.proofs.RefusedCalls.{refused_simulated, unless_simulated, begin_coded, abandon_low, evict_answer_low, evict_node_low}
use Rattle.refinement.proofs.RefusedCalls.{renew_low}
use Rattle.refinement.proofs.AnswersRefined.{map_without, in_without}
use Rattle.refinement.proofs.StepFrame.{steps_at, entry_at, client_at, by_retired, ended_simulated, announcing_at, raising_at}

-- ---- Begins
-- what a request asks or writes is of the hall
pub request_fits : (sh : Shape) (r : Request) → fault_of sh r ≡ 0 → WorkFits sh (work_of sh r)
unfolding work_of ask_of
request_fits sh (read_of counts range a) e =
    let k = read_good sh counts range a e in record { shape = refl; columns = is_query_length sh a k.0; range = k.1 }
request_fits sh (insert_of a) e =
    let k = insert_good sh a e in record { shape = refl; columns = ap length (target_insert (query_of a) k.1) ∙ is_query_length sh a k.0 }
request_fits sh (delete_of a) e = record { shape = refl; columns = ap length (target_delete (query_of a)) ∙ is_query_length sh a (delete_good sh a e) }

started : (m : Mem) (d : ℕ) (r : Request) → Begins m d r → (state_of m).clients d ≡ idle
    → steps_of.Transition (state_of m) (begin d (work_of (shape m) r)) went (at_client (state_of m) d (start_of (work_of (shape m) r)))
unfolding work_of is_write state_of
started m d (read_of counts range a) b i = steps_of.began b.below i (request_fits (shape m) (read_of counts range a) b.good)
started m d (insert_of a) b i = steps_of.began_write b.below i (request_fits (shape m) (insert_of a) b.good)
started m d (delete_of a) b i = steps_of.began_write b.below i (request_fits (shape m) (delete_of a) b.good)

pub begin_simulated : (m : Mem) (d : ℕ) (r : Request) → Fits m → Simulated m (begin d (work_of (shape m) r)) (untrayed (begin_result m d r))
unfolding begin_result untrayed response_in
begin_simulated m d r f = unless_simulated m _ (begin_code m d r) _ f (begin_coded m d r) (λ e.
    let b = begin_passed m d r e in
    simulated Accepted []
    (then_now (as_it_was m f) d b.below (begun_left (shape m) f.some f.few (work_of (shape m) r) (request_fits (shape m) r b.good)))
    (started m d r b (client_at m d b.below ∙ idle_at (shape m) (client m d) b.rests)))

-- ---- Abandonings
reader_is : (sh : Shape) (x : Ask) (e : Entry) (i : ℕ) (saw : Bool) → steps_of.is_reader (reader_of sh x e i saw) ≡ true
unfolding reader_of
reader_is sh x e i saw =
    by_test (leb i (length (read_labels x))) (λ t. rw t) (λ t. rw t (by_test (eqb i (length (read_labels x) + 1)) (λ u. rw u) (λ u. rw u)))

module _ (m : Mem) (f : Fits m) (once : NoDup (store_in (form m) m.nodes).nodes) (d : ℕ) (low : d < max_clients) where
  reader_at : {x : Ask} → Busy (shape m) (client m d) (asking x) → steps_of.is_reader ((state_of m).clients d) ≡ true
  unfolding busy_phase
  reader_at {x} b = rw (client_at m d low, busy_phase_law b) (reader_is (shape m) x (entry_at m d) (steps_at m d) (saw_pending (client m d)))

  -- marks taken off, with a lift or without
  retired_simulated : (lift : Bool) (ps : List Words) (o : Outcome)
      → ((t : Store) → Retired lift ps (store_in (form m) m.nodes) t → After m (store_back m t) (with_store (state_of m) t) → Simulated m (abandon d) (untrayed (retire_result m d o (some t))))
      → Simulated m (abandon d) (untrayed (retire_result m d o (retired (form m) lift ps (store_in (form m) m.nodes))))
  retired_simulated lift ps o h =
      by_retired m f once lift ps (λ x. Simulated m (abandon d) (untrayed (retire_result m d o x)))
      (unfold retire_result in unfold untrayed in refused_simulated m (abandon d) 3 [] f (inl (omega arith)) (λ z. omega arith)) h

  writer_simulated : (w : Write) → Busy (shape m) (client m d) (writing w) → Simulated m (abandon d) (untrayed (abandoned_write m d w (steps_at m d)))
  unfolding abandoned_write past_table retire_result untrayed response_in state_of
  writer_simulated w b =
      by_test (ltb (length (write_labels w)) (steps_at m d))
      (λ e. rw e (retired_simulated _ (labels_left w (steps_at m d)) _ (λ t k a.
      ended_simulated [] d a low (steps_of.abandoned_raising low (raising_at m d low b (ltb-true _ _ e)) k))))
      (λ e. rw e (retired_simulated false (announced_labels w (steps_at m d)) _ (λ t k a.
      simulated Accepted [] (then_idle a d low) (steps_of.write_abandoned low (announcing_at m d low b (ltb-false _ _ e)) k))))

  abandoned_simulated : (w : Work) → Busy (shape m) (client m d) w → Simulated m (abandon d) (untrayed (abandoned_of m d w))
  unfolding abandoned_of untrayed response_in
  abandoned_simulated (asking x) b = simulated Accepted [] (then_idle (as_it_was m f) d low) (steps_of.abandoned_read low (reader_at b))
  abandoned_simulated (writing w) b = writer_simulated w b

pub abandon_simulated : (m : Mem) (d : ℕ) → Fits m → NoDup (store_in (form m) m.nodes).nodes → Simulated m (abandon d) (untrayed (abandon_result m d))
unfolding abandon_result abandoned
abandon_simulated m d f once = unless_simulated m _ (abandon_code m d) _ f (inl (abandon_low m d)) (λ e.
    let t = abandon_passed m d e in abandoned_simulated m f once d t.1 _ t.2)

-- ---- Puttings out
evicted_simulated : (m : Mem) (i : ℕ) → Fits m → i < get_or m.answers answer_count_offset 0
    → Simulated m (evicts_answer i) (untrayed (result_of Accepted (with_filed m (with_answers (form m) m.answers (without i (answers_in (form m) m.answers))))))
unfolding untrayed response_in state_of filed_of cut
evicted_simulated m i f h =
    let es : List Entry = answers_in (form m) m.answers in
    let n = length_answers (form m) m.answers in
    let y = f.answers in
    let l = length_without i es (omega arith) in
    let z = length-map es (ans_of (shape m)) in
    simulated Accepted []
    (at_filed m f (without i es) (wide_without entry_width i es (answers_held m f)) (omega arith) (λ e j. f.kept e (in_without i es j)))
    (rw (map_without (ans_of (shape m)) i es) (steps_of.evicted_answer {i = i} (omega arith)))

pub evict_answer_simulated : (m : Mem) (i : ℕ) → Fits m → Simulated m (evicts_answer i) (untrayed (evict_answer_result m i))
unfolding evict_answer_result
evict_answer_simulated m i f = unless_simulated m _ (evict_answer_code m i) _ f (inl (evict_answer_low m i)) (λ e. evicted_simulated m i f (evict_answer_passed m i e).1)

pub evict_node_simulated : (m : Mem) (i : ℕ) → Fits m → NoDup (store_in (form m) m.nodes).nodes → Simulated m (evicts_node i) (untrayed (evict_node_result m i))
unfolding evict_node_result untrayed response_in state_of
evict_node_simulated m i f once = unless_simulated m _ (evict_node_code m i) _ f (inl (evict_node_low m i)) (λ e.
    let t = evict_node_passed m i e in
    let n = length_nodes (form m) m.nodes in
    let a = t.1 in
    let k = evict_ok i (store_in (form m) m.nodes) once (rows_held m f) (omega arith) t.2 in
    simulated Accepted [] (at_store m f (evict_node i (store_in (form m) m.nodes)) k.1 (λ l. let z = k.2 in omega arith)) (steps_of.evicted_node (omega arith) k.0))

-- ---- Renewals
pub all_idle_law : (m : Mem) → ((d : ℕ) → d < max_clients → is_idle (client m d) ≡ true) → (d : ℕ) → (state_of m).clients d ≡ idle
unfolding state_of phases_of
all_idle_law m h d = by_test (ltb d max_clients) (λ t. rw t (idle_at (shape m) (client m d) (h d (ltb-true d max_clients t)))) (λ t. rw t)

renewed_after : (m : Mem) → Fits m → After m (renewed m) (with_filing (with_store (state_of m) (store 1 [])) [])
unfolding renewed store_back
renewed_after m f =
    let a = at_store m f (store 1 []) (wide_nil node_width) (λ l. omega arith) in
    let b = at_filed (store_back m (store 1 [])) a.fits [] (wide_nil entry_width) (omega arith) (λ e i. in_none i) in
    record { state = b.state ∙ ap (λ (s : State). with_filing s []) a.state; fits = b.fits; same = b.same ∙ a.same; kept = b.kept ∙ a.kept }

pub renew_simulated : (m : Mem) → Fits m → Simulated m renew (untrayed (renew_result m))
unfolding renew_result untrayed response_in
renew_simulated m f = unless_simulated m _ (renew_code m) _ f (inl (renew_low m)) (λ e.
    simulated Accepted [] (renewed_after m f) (steps_of.renewed (all_idle_law m (renew_passed m e).1)))
