-- Each step of a read is a step of the machine: look, fetch, table, file. Leans on StepFrame, PhaseSteps and AnswersRefined. Assumes nothing.
use mathlib.Core.Path.{◌≡◌, refl, sym, ap, ◌∙◌}
use mathlib.Core.Logic.{◌⊎◌, inl, inr}
use mathlib.Core.Option.{Option, none, some}
use mathlib.Core.Bool.{Bool, true, false, cond, ◌||◌}
use mathlib.Core.List.{List, [], ◌∷◌, ◌++◌, map}
use Prim.Native.Nat.{ℕ, ◌+◌, ◌≤◌, ◌<◌}
use native.Mathlib.Omega.{arith}
use lib.Dec.{eqb, ltb, leb}
use lib.ListN.{length, get_or}
use borrow.Author.Tests.{ltb-true, ltb-false, eqb-true, eqb-false, leb-true}
use Rattle.lists.specs.Lists.{In, place}
use Rattle.laws.proofs.TestLaws.{by_test}
use Rattle.laws.proofs.SearchLaws.{place_at, place_before}
use Rattle.laws.proofs.Members.{in_at, in_place}
use Rattle.query.specs.Query.{Record}
use Rattle.rules.specs.Layout.{max_records, max_list, max_clients, entry_width}
use Rattle.rules.specs.declared.Outcome.TheVariants.{Accepted, Long}
use Rattle.rules.specs.Nodes.{Words, Store, node_of, revision, pending}
use Rattle.rules.specs.Answers.{revisions_in, Entry, key_in, is_count, is_long, serves, fetch_place, filed, value_in}
use Rattle.rules.specs.Client.{saw_pending, stepped, noted, ask_at}
use Rattle.rules.specs.Memory.{Mem, with_filed, records_in, store_in, answers_in, with_answers}
use Rattle.rules.specs.Refusals.{form, columns, client, shape}
use Rattle.rules.specs.Outcome.{result_with}
use Rattle.rules.specs.Steps.{now_at, answered, look_result, fetch_result, table_result, file_result, read_result}
use Rattle.rules.specs.Work.{Ask, value_of, may_answer, read_labels, Value, asking, of_records, of_number, value_for, list_within, ask_in}
use Rattle.rules.specs.Sound.{Busy}
use Rattle.rules.proofs.WorkLaws.{read_label_wide}
use Rattle.rules.proofs.ClientLaws.{asks_at, asked_counts, busy_ask}
use Rattle.rules.proofs.HoldingLaws.{Whole}
use Rattle.records.proofs.RecordLists.{list_numbers, list_few}
use Rattle.revisions.specs.EffectiveRevision.{NoDup, has, effective, pending_of}
use Rattle.revisions.proofs.NodeOperations.{EnsuredOk, ensured_ok, node_effective, node_pending_of}
use Rattle.machine.specs.Machine.{looking, tabling, Ans, step, node, with_filing, holds_for, filed_in}
use Rattle.machine.specs.Transition as transition
use Rattle.refinement.proofs.Abstraction.{ans_of, filed_of, state_of, response_in, counts_at, Kept, Fits, noted_of}
use Rattle.rules.proofs.ClientParts.{length_entry}
use Rattle.refinement.proofs.ClientPhases.{Left, fits_at, looking_eq, looking_phase, tabling_phase, filing_phase}
use Rattle.refinement.proofs.PhaseSteps.{noted_count, noted_left, missed_left, holding_left, most_of}
use Rattle.laws.proofs.RowLaws.{wide_in}
use Rattle.rules.proofs.MemoryLaws.{length_records, length_answers}
use Rattle.refinement.proofs.Abstraction.{records_held, rows_held, answers_held}
use Rattle.refinement.proofs.StatesAfter.{After, Simulated, simulated, as_it_was, at_store, at_filed, then_now, then_idle}
use Rattle.refinement.proofs.RefusedCalls.{refused_simulated}
use Rattle.refinement.proofs.AnswersRefined.{in_map, map_in, serves_counts, serves_holds, map_filed, wide_filed, in_filed, length_filed}
use Rattle.rules.proofs.AnswerLaws.{whole_entry}
use Rattle.refinement.proofs.StepFrame.{entry_at, steps_at, client_at, answered_simulated}

module _ (m : Mem) (f : Fits m) (once : NoDup (store_in (form m) m.nodes).nodes) (tray : List ℕ) (d : ℕ) (low : d < max_clients)
    {x : Ask} (b : Busy (shape m) (client m d) (asking x)) where
  -- what it asks
  asks : ask_in (shape m) (key_in (entry_at m d)) ≡ x
  unfolding ask_at
  asks = asks_at b

  -- what it wants; an entry that wants the same is whole by that
  counts_is : counts_at m (step d) ≡ x.counts
  unfolding counts_at
  counts_is = asked_counts b

  whole_served : (e : Entry) → length e ≡ entry_width → is_long e ≡ false → is_count e ≡ is_count (entry_at m d)
      → Whole (shape m) (counts_at m (step d)) (value_in (shape m) e)
  unfolding counts_at
  whole_served e w s i = rw (← i) (whole_entry (shape m) e w f.few s)

  -- how many nodes it has; the revisions noted so far, and at all of them
  abbrev looks : ℕ
  looks = length (read_labels x)

  abbrev seen : List ℕ
  seen = revisions_in (steps_at m d) (entry_at m d)

  abbrev all_noted : List ℕ
  all_noted = noted_of x (entry_at m d)

  -- the entries filed
  abbrev entries : List Entry
  entries = answers_in (form m) m.answers

  -- ---- A look
  look_label : steps_at m d < looks → get_or (read_labels x) (steps_at m d) [] ≡ node x (length seen)
  unfolding node
  look_label h = ap (λ (i : ℕ). get_or (read_labels x) i []) (sym (noted_count b (steps_at m d) (omega arith)))

  -- what the look leaves at its desk
  look_left : (p : Words) (t : Store) → p ≡ node x (length seen) → has t.nodes p ≡ true → steps_at m d < looks
      → Left (shape m) (noted (steps_at m d) (revision (node_of p t)) (pending (node_of p t)) (client m d))
      (looking x (seen ++ (effective t (node x (length seen)) ∷ [])) (saw_pending (client m d) || ltb 0 (pending_of t (node x (length seen)))))
  look_left p t e k h =
      let l = noted_left b (revision (node_of p t)) (pending (node_of p t)) h in
      record { sound = l.sound; wide = l.wide; phase = l.phase ∙ rw (node_effective p t k, node_pending_of p t k, e) refl }

  look_simulated : (p : Words) (o : Option Store) → p ≡ node x (length seen) → steps_at m d < looks → EnsuredOk p (store_in (form m) m.nodes) o
      → Simulated m (step d) (look_result m tray d (steps_at m d) p o)
  unfolding look_result response_in state_of
  look_simulated p none e h k = refused_simulated m (step d) 3 tray f (inl (omega arith)) (λ z. omega arith)
  look_simulated p (some t) e h k =
      let n = noted_count b (steps_at m d) (omega arith) in
      simulated Accepted tray
      (then_now (at_store m f t k.2 k.3) d low (look_left p t e k.1 h))
      (transition.looked low (client_at m d low ∙ looking_phase b (omega arith)) (omega arith) k.0 (rw e at k.1))

  -- ---- A fetch
  -- the reader has noted all its nodes
  fetch_phase : (saw : Bool) → steps_at m d ≡ looks → saw_pending (client m d) ≡ saw → (state_of m).clients d ≡ looking x all_noted saw
  fetch_phase saw e s =
      client_at m d low ∙ looking_phase b (omega arith)
      ∙ looking_eq (ap (λ (i : ℕ). revisions_in i (entry_at m d)) e) s

  looks_done : looks ≤ length all_noted
  looks_done = let n = noted_count b looks (omega arith) in omega arith

  missed_simulated : steps_at m d ≡ looks
      → (saw_pending (client m d) ≡ true) ⊎ ((a : Ans) → In a (state_of m).filed → holds_for x all_noted a ≡ false)
      → Simulated m (step d) (result_with Accepted (now_at m d (stepped (client m d))) tray)
  unfolding response_in
  missed_simulated e out =
      simulated Accepted tray
      (then_now (as_it_was m f) d low (missed_left b e))
      (transition.missed low (fetch_phase (saw_pending (client m d)) e refl) looks_done out)

  -- whether an entry serves it
  abbrev served : Entry → Bool
  served = serves looks (entry_at m d)

  served_holds : (e : Entry) → In e entries → holds_for x all_noted (ans_of (shape m) e) ≡ served e
  served_holds e i = serves_holds (shape m) (entry_at m d) x asks (busy_ask b) e (f.kept e i).key

  -- none serves
  none_holds : length entries ≤ place served entries → (a : Ans) → In a (state_of m).filed → holds_for x all_noted a ≡ false
  unfolding state_of filed_of
  none_holds h a i =
      let j = in_map (ans_of (shape m)) entries i in
      let o = in_place [] j.1 in
      let z : served (get_or entries o.0 []) ≡ false = place_before served entries [] o.0 (let y = o.1 in omega arith) in
      rw j.2 (served_holds j.0 j.1 ∙ (rw o.2 at z))

  -- the entry nearest the start that serves
  hit_simulated : (i : ℕ) → i ≡ place served entries → steps_at m d ≡ looks → saw_pending (client m d) ≡ false → i < length entries
      → Simulated m (step d) (answered m tray d (value_in (shape m) (get_or entries i [])) true)
  unfolding state_of filed_of ans_of
  hit_simulated i is e s h =
      let j : In (get_or entries i []) entries = in_at [] entries i h in
      let w = wide_in entry_width (answers_held m f) j in
      let z : served (get_or entries i []) ≡ true = rw is (place_at served entries [] (rw is at h)) in
      answered_simulated tray d (value_in (shape m) (get_or entries i [])) true (as_it_was m f) low
      (whole_served (get_or entries i []) w (f.kept (get_or entries i []) j).short (serves_counts looks (entry_at m d) (get_or entries i []) z))
      (transition.hit low (fetch_phase false e s) looks_done (map_in (ans_of (shape m)) j) (served_holds (get_or entries i []) j ∙ z))

  fetch_simulated : steps_at m d ≡ looks
      → Simulated m (step d) (fetch_result m tray d (fetch_place looks (entry_at m d) entries))
  unfolding fetch_result fetch_place
  fetch_simulated e =
      let i : ℕ = place served entries in
      by_test (saw_pending (client m d))
      (λ s. rw s (missed_simulated e (inl s)))
      (λ s. by_test (ltb i (length entries))
      (λ t. rw (s, t) (hit_simulated i refl e s (ltb-true i (length entries) t)))
      (λ t. rw (s, t) (missed_simulated e (inr (none_holds (ltb-false i (length entries) t))))))

  -- ---- A table step
  table_phase : (saw : Bool) → steps_at m d ≡ looks + 1 → saw_pending (client m d) ≡ saw → (state_of m).clients d ≡ tabling x all_noted saw
  table_phase saw e s = client_at m d low ∙ rw s at (tabling_phase b e)

  -- what the table has for it
  abbrev pub listed : Value
  listed = value_of x (state_of m).tab

  abbrev matching : List Record
  matching = list_within x.range x.query (records_in (columns m) m.table)

  whole_of : (counts : Bool) → Whole (shape m) counts (value_for counts matching)
  unfolding of_number of_records
  whole_of true = refl
  whole_of false = list_numbers x.range x.query (records_in (columns m) m.table) (columns m) (records_held m f)

  pub whole_listed : Whole (shape m) x.counts listed
  unfolding value_of state_of
  whole_listed = whole_of x.counts

  -- no more than the table has, and of a list no more than may be answered
  few_records : length matching ≤ max_records
  few_records =
      let a = list_few x.range x.query (records_in (columns m) m.table) in
      let b = length_records (columns m) m.table in
      let c = f.records in
      omega arith

  short_of : (counts : Bool) → counts || leb (value_for counts matching).count max_list ≡ true
      → (value_for counts matching).count ≤ cond counts max_records max_list
  unfolding of_number of_records
  short_of true e = few_records
  short_of false e = leb-true _ _ e

  pub may_short : may_answer x listed ≡ true → listed.count ≤ most_of x
  unfolding may_answer value_of state_of
  may_short e = short_of x.counts e

  table_simulated : steps_at m d ≡ looks + 1 → Simulated m (step d) (table_result m tray d x listed)
  unfolding table_result response_in
  table_simulated e =
      by_test (may_answer x listed)
      (λ t. by_test (saw_pending (client m d))
      (λ s. rw (t, s) (answered_simulated tray d listed false (as_it_was m f) low (rw (counts_is) whole_listed) (transition.listed low (table_phase true e s) t)))
      (λ s. rw (t, s) (simulated Accepted tray
      (then_now (as_it_was m f) d low (holding_left b listed whole_listed (may_short t) e))
      (transition.took low (table_phase false e s) t))))
      (λ t. rw t (simulated Long tray (then_idle (as_it_was m f) d low)
      (transition.too_long low (table_phase (saw_pending (client m d)) e refl) t)))

  -- ---- A file step
  -- what it got, and the entries with its own filed
  abbrev held : Value
  held = value_in (shape m) (entry_at m d)

  abbrev refiled : List Entry
  refiled = filed (entry_at m d) entries

  kept_filed : (e : Entry) → In e refiled → Kept (shape m) e
  kept_filed e i = elim (in_filed (entry_at m d) entries e i) [
    | inl j ↦ f.kept e j
    | inr j ↦ rw j (record { key = busy_ask b; short = b.short })
  ]

  filed_is : map (ans_of (shape m)) refiled ≡ filed_in x all_noted held (state_of m).filed
  unfolding state_of filed_of
  filed_is = map_filed (shape m) (entry_at m d) x asks (busy_ask b) entries (λ e i. (f.kept e i).key)

  filed_after : After m (with_filed m (with_answers (form m) m.answers refiled)) (with_filing (state_of m) (filed_in x all_noted held (state_of m).filed))
  filed_after =
      let e : Entry = entry_at m d in
      let n = length_answers (form m) m.answers in
      let y = f.answers in
      rw (← filed_is)
      (at_filed m f refiled (wide_filed e entries (answers_held m f) (length_entry (client m d) b.wide)) (length_filed e entries (omega arith)) kept_filed)

  file_simulated : looks + 1 < steps_at m d → Simulated m (step d) (file_result m tray d (entry_at m d))
  unfolding file_result
  file_simulated h =
      answered_simulated tray d held false filed_after low
      (whole_served (entry_at m d) (length_entry (client m d) b.wide) b.short refl)
      (transition.filed low (client_at m d low ∙ filing_phase b h))

  -- ---- A step of a read
  pub read_simulated : Simulated m (step d) (read_result m tray d x (steps_at m d))
  unfolding read_result state_of
  read_simulated =
      let i : ℕ = steps_at m d in
      by_test (ltb i looks)
      (λ t. let z = ltb-true i looks t in
      let k = read_label_wide x i (let c = (fits_at b).columns in let y = b.most in omega arith) z in
      rw t (look_simulated _ _ (look_label z) z (ensured_ok _ (store_in (form m) m.nodes) k once (rows_held m f))))
      (λ t. let z = ltb-false i looks t in rw t (by_test (eqb i looks)
      (λ u. rw u (fetch_simulated (eqb-true i looks u)))
      (λ u. let y = eqb-false i looks u in rw u (by_test (eqb i (looks + 1))
      (λ v. rw v (table_simulated (eqb-true i (looks + 1) v)))
      (λ v. let w = eqb-false i (looks + 1) v in rw v (file_simulated (omega arith)))))))
