-- Demand 1: of any memories and any arguments, every call leaves each memory unaltered past its least length, and all of them where it is
-- refused. Leans on UnalteredMemories, on rules' PassedChecks and on refinement's RefusedCalls. Assumes nothing.
use mathlib.Core.Path.{◌≡◌, refl, ap}
use mathlib.Core.Logic.{◌⊎◌, inl, inr}
use mathlib.Core.Bool.{Bool, true, false, cond, not, ◌&&◌, ◌||◌}
use mathlib.Core.List.{List, []}
use mathlib.Core.Option.{Option, none, some}
use Rattle.std.specs.Prelude.{Option as Possible, Some}
use Prim.Native.Nat.{ℕ, ◌+◌, ◌*◌, ◌≤◌, ◌<◌}
use native.Mathlib.Omega.{arith}
use lib.Dec.{eqb, ltb, leb}
use lib.ListN.{length, get_or}
use borrow.Author.Tests.{ltb-true, eqb-true, eqb-false, leb-true}
use Rattle.laws.proofs.TestLaws.{by_test, clash}
use Rattle.laws.proofs.ListLaws.{length_without, and_right}
use Rattle.laws.proofs.RowLaws.{wide_nil, wide_without, wide_at}
use Rattle.query.specs.Query.{Record}
use Rattle.query.specs.Shape.{Shape, shape_of}
use Rattle.rules.specs.Layout.{max_clients, list_room, tray_least, entry_width, client_width, max_list, refused_short, refused_occupied, refused_reversed, refused_tally_full}
use Rattle.rules.specs.declared.Outcome.{Outcome}
use Rattle.rules.specs.declared.Outcome.TheVariants.{Refused, Accepted, Answered, Long, Ended, Full}
use Rattle.rules.specs.Work.{Ask, Value, of_records, value_of, may_answer, read_labels, Write, write_labels, Work, asking, writing, Request, work_of, of_number, value_for, list_within}
use Rattle.rules.specs.Nodes.{Words, Store, store}
use Rattle.rules.specs.Answers.{Entry}
use Rattle.rules.specs.Client.{Client, steps, saw_pending, found_full, entry_of}
use Rattle.rules.specs.Memory.{Mem, store_in, answers_in, renewed, records_in}
use Rattle.rules.specs.Outcome.{Result, result_with, number}
use Rattle.rules.specs.Refusals.{form, shape, columns, client, bad_columns, is_short, open_code, begin_code, step_code, abandon_code, evict_answer_code, evict_node_code, renew_code}
use Rattle.rules.specs.Steps.{now_at, answered, look_result, fetch_result, table_result, file_result, read_result, announce_result, write_table_result, end_of, raise_result, write_result, progress_of, progress}
use Rattle.rules.specs.Calls.{unless, open_result, begin_result, step_result, past_table, retire_result, abandoned_write, abandoned_of, abandoned, abandon_result, evict_answer_result, evict_node_result, renew_result}
use Rattle.rules.specs.History.{Call, begin, step, abandon, evict_answer, evict_node, renew, tray_of, untrayed, call_result, is_accepted}
use Rattle.rules.specs.declared.Tally.{Tally}
use Rattle.rules.specs.declared.Count.{Count}
use Rattle.rules.specs.Tally.{raised, count_of, accepted_count, would_raise, is_full, Made, made, is_full_for, is_tally_full, made_result, tally_after}
use Rattle.rules.specs.Sound.{Sound, Busy}
use Rattle.rules.proofs.PassedChecks.{open_passed, begin_passed, step_passed, abandon_passed, evict_answer_passed, evict_node_passed, renew_passed}
use Rattle.rules.proofs.WorkLaws.{read_label_wide, write_label_wide}
use Rattle.rules.proofs.TallyLaws.{raised_none}
use Rattle.rules.proofs.NodeSizes.{AllSized, sized_none, sized_evict, sized_ensured, sized_announced, sized_retired}
use Rattle.rules.proofs.ClientLaws.{list_room_law, wrote_wide, idle_wide}
use Rattle.records.proofs.RecordLists.{list_numbers}
use Rattle.records.proofs.RecordWrites.{of_width, effect_wide, effect_few}
use Rattle.refinement.proofs.ClientPhases.{fits_at, begun_left}
use Rattle.refinement.proofs.OthersRefined.{request_fits}
use Rattle.rules.proofs.ClientParts.{length_entry, stepped_next, noted_wide, holding_wide}
use Rattle.rules.proofs.AnswerLaws.{value_room as entry_room}
use Rattle.rules.proofs.MemoryLaws.{length_nodes, length_answers}
use Rattle.refinement.proofs.AnswersRefined.{wide_filed, length_filed}
use Rattle.refinement.proofs.RefusedCalls.{IsCode, begin_coded, step_low, abandon_low, evict_answer_low, evict_node_low, renew_low}
use Rattle.demands.specs.Demand1.{Unaltered, Leaves, Demand1}
use Rattle.demands.proofs.UnalteredMemories.{unaltered_same, unaltered_written, unaltered_store, unaltered_answers}
use Rattle.demands.proofs.UnalteredMemories.{AllUnaltered, all_same, all_now, all_store, all_filed, all_table, all_opened, sized_in, wide_held, wide_filed_in}
use Rattle.lists.specs.Lists.{flat}
use Rattle.demands.proofs.CountTray.{made_tray}

-- ---- A refused call
-- what is not 0 of the codes is 1 to 11, 14 or 15
refusal : (n : ℕ) → IsCode n → (n ≡ 0 → ⊥) → ((refused_short ≤ n) × (n ≤ refused_occupied)) ⊎ ((n ≡ refused_reversed) ⊎ (n ≡ refused_tally_full))
refusal n (inl l) ne = inl (omega arith, l)
refusal n (inr e) ne = inr e

pub refused_leaves : (sh : Shape) (m : Mem) (tray : List ℕ) (n : ℕ) → IsCode n → (n ≡ 0 → ⊥) → Leaves sh m tray (result_with (Refused n) m tray)
unfolding number
refused_leaves sh m tray n h ne = record {
  table = unaltered_same _ _;
  nodes = unaltered_same _ _;
  answers = unaltered_same _ _;
  clients = unaltered_same _ _;
  tray = unaltered_same _ _;
  refused = λ e. (refl, refl);
  numbers = λ k e. let z : n ≡ k = ap number e in rw (← z) (refusal n h ne);
}

-- ---- A call that goes on
is_refused : Outcome → Bool
is_refused (Refused n) = true
is_refused Accepted = false
is_refused (Answered n b) = false
is_refused Long = false
is_refused (Ended b) = false
is_refused Full = false

-- an outcome that is no refusal
abbrev Went : Outcome → Type 0
Went o = (is_accepted (number o) ≡ true) × (is_refused o ≡ false)

is_refused_law : (o : Outcome) (n : ℕ) → o ≡ Refused n → is_refused o ≡ true
unfolding is_refused
is_refused_law o n e = rw e

went_leaves : (sh : Shape) (m n : Mem) (tray t : List ℕ) (o : Outcome) → Went o → AllUnaltered sh m n → Unaltered tray_least tray t → Leaves sh m tray (result_with o n t)
went_leaves sh m n tray t o w a b = record {
  table = a.table;
  nodes = a.nodes;
  answers = a.answers;
  clients = a.clients;
  tray = b;
  refused = λ e. clash w.0 e;
  numbers = λ k e. clash (is_refused_law o k e) w.1;
}

accepted_went : Went Accepted
unfolding is_accepted number is_refused
accepted_went = (refl, refl)

end_went : (c : Client) → Went (end_of c)
unfolding end_of is_accepted number is_refused
end_went c = by_test (found_full c) (λ e. rw e (refl, refl)) (λ e. rw e (refl, refl))

accepted_leaves : (sh : Shape) (m n : Mem) (tray : List ℕ) → AllUnaltered sh m n → Leaves sh m tray (result_with Accepted n tray)
accepted_leaves sh m n tray a = went_leaves sh m n tray tray Accepted accepted_went a (unaltered_same _ _)

unless_leaves : (sh : Shape) (m : Mem) (code : ℕ) (x : Result) → IsCode code → (code ≡ 0 → Leaves sh m [] (untrayed x)) → Leaves sh m [] (untrayed (unless code m x))
unfolding unless untrayed
unless_leaves sh m code x l g =
    by_test (eqb code 0)
    (λ e. rw e (g (eqb-true code 0 e)))
    (λ e. rw e (refused_leaves sh m [] code l (eqb-false code 0 e)))

-- ---- Opening
open_low : (short bad : Bool) → IsCode (cond short 1 (cond bad 2 0))
open_low true bad = inl (omega arith)
open_low false true = inl (omega arith)
open_low false false = inl (omega arith)

pub open_leaves : (m : Mem) (k : ℕ) → Leaves (shape_of k) m [] (untrayed (open_result m k))
unfolding open_result open_code untrayed
open_leaves m k = unless_leaves (shape_of k) m (open_code m k) _ (open_low (is_short (shape_of k) m) (bad_columns k)) (λ e.
    accepted_leaves (shape_of k) m _ [] (all_opened m (shape_of k) (open_passed m k e).0))

-- ---- Begins
pub begin_leaves : (m : Mem) (d : ℕ) (r : Request) → Leaves (shape m) m [] (untrayed (begin_result m d r))
unfolding begin_result untrayed
begin_leaves m d r = unless_leaves (shape m) m (begin_code m d r) _ (begin_coded m d r) (λ e.
    let b = begin_passed m d r e in
    let w = begun_left (shape m) b.memories.least b.memories.most (work_of (shape m) r) (request_fits (shape m) r b.good) in
    accepted_leaves (shape m) m _ [] (all_now (shape m) m m d _ (all_same (shape m) m) b.memories.long.clients b.below w.wide))

-- ---- A step of a busy client
module _ (m : Mem) (s : Sound m) (tray : List ℕ) (room : tray_least ≤ length tray) (d : ℕ) (low : d < max_clients) where
  -- the client becomes c after another change
  now : (n : Mem) (c : List ℕ) → AllUnaltered (shape m) m n → length c ≡ client_width → AllUnaltered (shape m) m (now_at n d c)
  now n c a w = all_now (shape m) m n d c a s.long.clients low w

  unsound_leaves : Leaves (shape m) m tray (result_with (Refused 3) m tray)
  unsound_leaves = refused_leaves (shape m) m tray 3 (inl (omega arith)) (λ e. omega arith)

  answered_leaves : (n : Mem) (v : Value) (cached : Bool) → AllUnaltered (shape m) m n → length v.numbers ≤ list_room → Leaves (shape m) m tray (answered n tray d v cached)
  unfolding answered is_accepted number is_refused
  answered_leaves n v cached a h =
      went_leaves (shape m) m _ tray _ (Answered v.count cached) (refl, refl) (now n _ a idle_wide) (unaltered_written 128 tray 0 v.numbers (omega arith) room)

  module _ {w : Work} (b : Busy (shape m) (client m d) w) where
    look_leaves : (j : ℕ) (p : Words) (o : Option Store) → AllSized o → Leaves (shape m) m tray (look_result m tray d j p o)
    unfolding look_result
    look_leaves j p none z = unsound_leaves
    look_leaves j p (some t) z = accepted_leaves (shape m) m _ tray (now _ _ (all_store m t s z) (noted_wide (client m d) b.wide j _ _))

    fetch_leaves : (i : ℕ) → Leaves (shape m) m tray (fetch_result m tray d i)
    unfolding fetch_result
    fetch_leaves i =
        let es : List Entry = answers_in (form m) m.answers in
        by_test (not (saw_pending (client m d)) && ltb i (length es))
        (λ e. rw e (answered_leaves m _ true (all_same (shape m) m)
        (entry_room (shape m) (get_or es i []) (wide_at entry_width es i (wide_filed_in m s).0 (ltb-true i (length es) (and_right (not (saw_pending (client m d))) _ e))))))
        (λ e. rw e (accepted_leaves (shape m) m _ tray (now m _ (all_same (shape m) m) (stepped_next (client m d) b.wide).wide)))

    -- what may be answered has no more numbers than there is room for
    table_leaves : (x : Ask) (v : Value) → (may_answer x v ≡ true → length v.numbers ≤ list_room) → Leaves (shape m) m tray (table_result m tray d x v)
    unfolding table_result is_accepted number is_refused
    table_leaves x v l =
        by_test (may_answer x v)
        (λ t. rw t (by_test (saw_pending (client m d))
        (λ u. rw u (answered_leaves m v false (all_same (shape m) m) (l t)))
        (λ u. rw u (accepted_leaves (shape m) m _ tray (now m _ (all_same (shape m) m) (holding_wide (client m d) b.wide (shape m) v (l t)))))))
        (λ t. rw t (went_leaves (shape m) m _ tray tray Long (refl, refl) (now m _ (all_same (shape m) m) idle_wide) (unaltered_same _ _)))

    file_leaves : Leaves (shape m) m tray (file_result m tray d (entry_of (client m d)))
    unfolding file_result
    file_leaves =
        let e : Entry = entry_of (client m d) in
        let wide = length_entry (client m d) b.wide in
        let es = wide_filed_in m s in
        answered_leaves _ _ false (all_filed m _ s (wide_filed e _ es.0 wide) (length_filed e _ es.1)) (entry_room (shape m) e wide)

    announce_leaves : (o : Option Store) → AllSized o → Leaves (shape m) m tray (announce_result m tray d o)
    unfolding announce_result
    announce_leaves none z = unsound_leaves
    announce_leaves (some t) z = accepted_leaves (shape m) m _ tray (now _ _ (all_store m t s z) (stepped_next (client m d) b.wide).wide)

    raise_leaves : (is_last : Bool) (o : Option Store) → AllSized o → Leaves (shape m) m tray (raise_result m tray d is_last o)
    unfolding raise_result
    raise_leaves is_last none z = unsound_leaves
    raise_leaves false (some t) z = accepted_leaves (shape m) m _ tray (now _ _ (all_store m t s z) (stepped_next (client m d) b.wide).wide)
    raise_leaves true (some t) z = went_leaves (shape m) m _ tray tray (end_of (client m d)) (end_went (client m d)) (now _ _ (all_store m t s z) idle_wide) (unaltered_same _ _)

  -- the numbers of a value that may be answered
  value_room : (counts : Bool) (l : List Record) → length (flat l) ≡ length l * columns m → counts || leb (value_for counts l).count max_list ≡ true
      → length (value_for counts l).numbers ≤ list_room
  unfolding of_records of_number
  value_room true l w t = omega arith
  value_room false l w t = let h = list_room_law (length l) (columns m) (leb-true _ _ t) s.most in omega arith

  taken_room : (x : Ask) → may_answer x (value_of x (records_in (columns m) m.table)) ≡ true → length (value_of x (records_in (columns m) m.table)).numbers ≤ list_room
  unfolding may_answer value_of
  taken_room x e =
      let t = records_in (columns m) m.table in
      value_room x.counts (list_within x.range x.query t) (list_numbers x.range x.query t (columns m) (wide_held m s).0) e

  read_leaves : {x : Ask} → Busy (shape m) (client m d) (asking x) → Leaves (shape m) m tray (read_result m tray d x (steps (client m d)))
  unfolding read_result
  read_leaves {x} b =
      let i : ℕ = steps (client m d) in
      let n : ℕ = length (read_labels x) in
      let f = fits_at b in
      let few : length x.query ≤ 4 = (let a = f.columns in let c = s.most in omega arith) in
      by_test (ltb i n)
      (λ t. rw t (look_leaves b i _ _ (sized_ensured _ _ (read_label_wide x i few (ltb-true i n t)) (sized_in m s))))
      (λ t. rw t (by_test (eqb i n)
      (λ u. rw u (fetch_leaves b _))
      (λ u. rw u (by_test (eqb i (n + 1))
      (λ v. rw v (table_leaves b x (value_of x (records_in (columns m) m.table)) (taken_room x)))
      (λ v. rw v (file_leaves b))))))

  write_table_leaves : {w : Write} → Busy (shape m) (client m d) (writing w) → Leaves (shape m) m tray (write_table_result m tray d w.change)
  unfolding write_table_result
  write_table_leaves {w} b =
      let f = fits_at b in
      let r = wide_held m s in
      accepted_leaves (shape m) m _ tray
      (now _ _
      (all_table m _ s (effect_wide (columns m) w.change _ (of_width (columns m) w.change f.columns) r.0) (effect_few w.change _ r.1))
      (wrote_wide (client m d) b.wide _ _))

  write_leaves : {w : Write} → Busy (shape m) (client m d) (writing w) → Leaves (shape m) m tray (write_result m tray d w (steps (client m d)))
  unfolding write_result
  write_leaves {w} b =
      let i : ℕ = steps (client m d) in
      let n : ℕ = length (write_labels w) in
      let f = fits_at b in
      by_test (ltb i n)
      (λ t. rw t (announce_leaves b _ (sized_announced _ _ (write_label_wide w i (let a = f.columns in let c = s.most in omega arith) (ltb-true i n t)) (sized_in m s))))
      (λ t. rw t (by_test (eqb i n)
      (λ u. rw u (write_table_leaves b))
      (λ u. rw u (raise_leaves b _ _ (sized_retired _ _ _ _ (sized_in m s))))))

  progress_leaves : (w : Work) → Busy (shape m) (client m d) w → Leaves (shape m) m tray (progress_of m tray d w)
  unfolding progress_of
  progress_leaves (asking x) b = read_leaves b
  progress_leaves (writing w) b = write_leaves b

pub step_leaves : (m : Mem) (tray : List ℕ) (d : ℕ) → Leaves (shape m) m tray (step_result m tray d)
unfolding step_result progress
step_leaves m tray d =
    by_test (eqb (step_code m tray d) 0)
    (λ e. let p = step_passed m tray d (eqb-true (step_code m tray d) 0 e) in rw e (progress_leaves m p.1.0 tray p.0 d p.1.1 _ p.1.2))
    (λ e. rw e (refused_leaves (shape m) m tray (step_code m tray d) (inl (step_low m tray d)) (eqb-false (step_code m tray d) 0 e)))

-- ---- Abandonings
retire_leaves : (m : Mem) (d : ℕ) (out : Outcome) (o : Option Store) → Went out → Sound m → d < max_clients → AllSized o → Leaves (shape m) m [] (untrayed (retire_result m d out o))
unfolding retire_result untrayed
retire_leaves m d out none w s h z = refused_leaves (shape m) m [] 3 (inl (omega arith)) (λ e. omega arith)
retire_leaves m d out (some t) w s h z =
    went_leaves (shape m) m _ [] [] out w (all_now (shape m) m _ d _ (all_store m t s z) s.long.clients h idle_wide) (unaltered_same _ _)

abandoned_leaves : (m : Mem) (d : ℕ) (w : Work) → Sound m → d < max_clients → Leaves (shape m) m [] (untrayed (abandoned_of m d w))
unfolding abandoned_of abandoned_write untrayed
abandoned_leaves m d (asking x) s h = accepted_leaves (shape m) m _ [] (all_now (shape m) m m d _ (all_same (shape m) m) s.long.clients h idle_wide)
abandoned_leaves m d (writing w) s h =
    by_test (past_table w (steps (client m d)))
    (λ t. rw t (retire_leaves m d _ _ (end_went (client m d)) s h (sized_retired _ _ _ _ (sized_in m s))))
    (λ t. rw t (retire_leaves m d _ _ accepted_went s h (sized_retired _ false _ _ (sized_in m s))))

pub abandon_leaves : (m : Mem) (d : ℕ) → Leaves (shape m) m [] (untrayed (abandon_result m d))
unfolding abandon_result abandoned
abandon_leaves m d = unless_leaves (shape m) m (abandon_code m d) _ (inl (abandon_low m d)) (λ e.
    let p = abandon_passed m d e in abandoned_leaves m d _ p.0 p.1)

-- ---- Evictions and renewals
pub evict_answer_leaves : (m : Mem) (i : ℕ) → Leaves (shape m) m [] (untrayed (evict_answer_result m i))
unfolding evict_answer_result untrayed
evict_answer_leaves m i = unless_leaves (shape m) m (evict_answer_code m i) _ (inl (evict_answer_low m i)) (λ e.
    let p = evict_answer_passed m i e in
    let es : List Entry = answers_in (form m) m.answers in
    let w = wide_filed_in m p.0 in
    let n = length_answers (form m) m.answers in
    let h = p.1 in
    let k = w.1 in
    let l = length_without i es (omega arith) in
    accepted_leaves (shape m) m _ [] (all_filed m _ p.0 (wide_without entry_width i es w.0) (omega arith)))

pub evict_node_leaves : (m : Mem) (i : ℕ) → Leaves (shape m) m [] (untrayed (evict_node_result m i))
unfolding evict_node_result untrayed
evict_node_leaves m i = unless_leaves (shape m) m (evict_node_code m i) _ (inl (evict_node_low m i)) (λ e.
    let p = evict_node_passed m i e in
    let n = length_nodes (form m) m.nodes in
    let h = p.1 in
    accepted_leaves (shape m) m _ [] (all_store m _ p.0 (sized_evict i (store_in (form m) m.nodes) (sized_in m p.0))))

pub renew_leaves : (m : Mem) → Leaves (shape m) m [] (untrayed (renew_result m))
unfolding renew_result untrayed renewed
renew_leaves m = unless_leaves (shape m) m (renew_code m) _ (inl (renew_low m)) (λ e.
    let s = (renew_passed m e).0 in
    accepted_leaves (shape m) m _ [] (record {
      kept = refl;
      table = unaltered_same _ _;
      nodes = unaltered_store m (store 1 []) s (sized_none 1);
      answers = unaltered_answers m [] s (wide_nil entry_width) (omega arith);
      clients = unaltered_same _ _;
    }))

-- ---- All calls
call_leaves : (m : Mem) (c : Call) → Leaves (shape m) m (tray_of c) (call_result m c)
unfolding call_result tray_of
call_leaves m (begin d r) = begin_leaves m d r
call_leaves m (step d tray) = step_leaves m tray d
call_leaves m (abandon d) = abandon_leaves m d
call_leaves m (evict_answer i) = evict_answer_leaves m i
call_leaves m (evict_node i) = evict_node_leaves m i
call_leaves m renew = renew_leaves m

-- with a tally a call is the call, or refused by 15
made_leaves : (m : Mem) (x : Made) → Leaves (shape m) m (tray_of x.call) (made_result m x)
unfolding made_result
made_leaves m x = by_test (is_tally_full m x)
    (λ t. rw t (refused_leaves (shape m) m (tray_of x.call) refused_tally_full (inr (inr refl)) (λ e. omega arith)))
    (λ t. rw t (call_leaves m x.call))

-- a refused call raises no count
outcome_kept : (t : Tally) (c : Possible Count) (o : Outcome) → is_accepted (number o) ≡ false → raised t (count_of c o) ≡ t
unfolding is_accepted number count_of
outcome_kept t c (Refused n) e = raised_none t
outcome_kept t c Accepted e = clash refl e
outcome_kept t c (Answered n b) e = clash refl e
outcome_kept t c Long e = clash refl e
outcome_kept t c (Ended b) e = clash refl e
outcome_kept t c Full e = clash refl e

refused_keeps : (m : Mem) (c : Call) (t : Tally) → is_accepted (number (made_result m (made c (Some t))).out) ≡ false → tally_after m c t ≡ t
unfolding made_result is_tally_full is_full_for tally_after would_raise
refused_keeps m c t e = by_test (is_full t (count_of (accepted_count m c) (call_result m c).out))
    (λ k. rw k refl)
    (λ k. rw k (outcome_kept t (accepted_count m c) (call_result m c).out (rw k at e)))

pub demand_1 : Demand1
unfolding tray_of
demand_1 = record { opening = open_leaves; calls = made_leaves; tallies = refused_keeps; counts = λ m tray d t. made_tray m (made (step d tray) t) tray d refl }
