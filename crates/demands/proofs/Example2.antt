-- A second history that meets the premises of demand 2's last sentence, and what it then gets: k 2, the table has (5,7). The read that
-- fetches begins before the read that files, both of (5,*), their looks mix, and a node of another query is put out between them. As in
-- Example the premises are computed in one pass over the calls, and the answer is the theorem's: the read gets (5,7) from file.
-- Leans on HistoryRuns, Unlent and Demand2WholeHolds. Assumes nothing.
use mathlib.Core.Path.{◌≡◌, refl, sym, ap, ◌∙◌, subst}
use mathlib.Core.Bool.{Bool, true, false, not, ◌&&◌, ◌||◌, true≢false}
use mathlib.Core.List.{List, [], ◌∷◌}
use Prim.Native.Nat.{ℕ, ◌+◌, min, ◌<◌}
use native.Mathlib.Omega.{arith}
use lib.Dec.{eqb, leb, ltb}
use borrow.Author.Tests.{eqb-true, eq-eqb, ne_eqb, lt-leb, le-ltb, not-true}
use lib.ListN.{length, get_or, replicate}
use Rattle.lists.specs.Lists.{same, before, keep, place, without, all_below, listed, padded, written, rows, flat, entries_in, with_entries}
use Rattle.lists.specs.Lists.{stretch, with_stretch, joined, parts_in, with_parts, kept_in, with_kept, wholes, halves, wholes_at, halves_at}
use Rattle.laws.proofs.ListLaws.{and_left, and_right, same_eq}
use Rattle.query.specs.declared.Column.TheVariants.{Is, Wildcard}
use Rattle.query.specs.declared.Range.TheVariants.{None}
use Rattle.query.specs.Query.{admits, lies, naming, pick, read_node, write_node, named, read_nodes, write_nodes, read_count, write_count}
use Rattle.query.specs.Range.{within, is_range, is_reversed}
use Rattle.query.specs.Encoding.{column_of, query_of, well_marked, is_query, names_all, record_of, term_value, column_value, tag, tags, label_words, marks, key_words, counts_in, count_key, range_of, range_in, range_key, wanted_key, unranged, bare_key}
use Rattle.query.specs.Encoding.{columns_in, query_in}
use Rattle.rules.specs.declared.Outcome.TheVariants.{Answered}
use Rattle.rules.specs.Table.{list_of, has, put_in, target, is_full, effect, no_room, changes}
use Rattle.rules.specs.Nodes.{label_in, pending, revision, with_pending, with_revision, has_label, node_place, is_present, node_of, with_node, evict_node}
use Rattle.rules.specs.Nodes.{new_node, added, is_free, oldest_free, make_room, added_in, ensured, announced_in, announced, is_pending, released, lifted, may_retire, retired, is_high, is_worn}
use Rattle.rules.specs.Answers.{Entry, key_in, length_in, revision_in, list_in, value_in, has_key_of, at_least, serves, fetch_place, key_place, filed, is_long, some_long, is_count, most_in}
use Rattle.rules.specs.Client.{kind, steps, saw_pending, did_change, found_full, entry_of, idle, is_idle, begun, ask_at, write_at, work_at, is_bad, stepped, flag, noted, holding, wrote}
use Rattle.query.specs.Shape.{shape_of}
use Rattle.rules.specs.Layout.{table_least, nodes_least, answers_least, clients_least, tray_least, reads}
use Rattle.rules.specs.Memory.{Mem, mem, records_in, with_records, store_in, with_store, answers_in, with_answers, client_in, with_client, cleared, opened}
use Rattle.rules.specs.Memory.{current, wide_floor, with_wide_floor, node_from, node_to, entry_from, entry_to, told}
use Rattle.rules.specs.Checks.{check_of, misfit, labelled, bared, check_for}
use Rattle.rules.specs.Outcome.{number}
use Rattle.rules.specs.Refusals.{form, client, is_short, bad_columns, is_unsound, no_client, open_code, begin_code, at_client, step_code, evict_node_code, shape}
use Rattle.rules.specs.Steps.{now_at, store_back, answered, look_result, fetch_result, table_result, file_result, read_result, announce_result, write_table_result}
use Rattle.rules.specs.Steps.{end_of, raise_result, write_result, progress_of, progress}
use Rattle.rules.specs.Calls.{unless, begin_result, step_result, evict_node_result}
use Rattle.rules.specs.History.{Call, begin, step, abandon, evict_answer, evict_node as drop_node, renew, untrayed}
use Rattle.rules.specs.History.{call_result, is_accepted}
use Rattle.rules.specs.Tally.{unlent}
use Rattle.machine.specs.Machine.{same_ask, same_shape, same_query, same_column, same_wanted, same_range}
use Rattle.machine.proofs.Asks.{same_ask_eq}
use Rattle.refinement.proofs.ClientPhases.{asking_at}
use Rattle.demands.specs.WholeHistory.{History, mem_at, made_at, call_at, result_at, accepted_at, ends_work, ends_at, UnderWay}
use Rattle.demands.specs.Demand2.{is_open, none_open, is_quiet, still_there, keeps_nodes, Quiescent, AllQuiet, Reads, Filed, Fetches, LastFiled}
use Rattle.demands.proofs.HistoryRuns.{next_mem}
use Rattle.demands.proofs.Unlent.{room_unlent, result_unlent, all_pass, passes_at}
use Rattle.demands.proofs.Demand2WholeHolds.{demand_2}
use Rattle.demands.proofs.EndsUnchanged.{quiet_suffices}
use Rattle.rules.specs.Work.{Ask, ask_fault, list_within, read_of, insert_of, of_records, value_of, may_answer, read_labels, write_labels, ask_key, ask_in, change_kind, kind_of, key_of, change_in, write_in}
use Rattle.rules.specs.Work.{work_in, work_fault, steps_in_all, is_write, ask_of, work_of, fault_of, asking, of_number}

abbrev pub tray : List ℕ
tray = replicate tray_least 9

abbrev pub asked : List ℕ
asked = 1 ∷ 5 ∷ 0 ∷ 0 ∷ []

-- Calls 0 to 9, desk 2: (5,7) is inserted. Call 10, desk 1, begins the read that fetches; call 11, desk 0, the one that files. Call 16 puts
-- out node 1, which is (*,7). Call 18 files, call 20 fetches.
abbrev pub played : List Call
played =
    begin 2 (insert_of (1 ∷ 5 ∷ 1 ∷ 7 ∷ [])) ∷ step 2 tray ∷ step 2 tray ∷ step 2 tray ∷ step 2 tray ∷ step 2 tray
    ∷ step 2 tray ∷ step 2 tray ∷ step 2 tray ∷ step 2 tray
    ∷ begin 1 (read_of false None asked) ∷ begin 0 (read_of false None asked) ∷ step 0 tray ∷ step 0 tray ∷ step 1 tray ∷ step 0 tray
    ∷ drop_node 1 ∷ step 0 tray ∷ step 0 tray ∷ step 1 tray ∷ step 1 tray ∷ []

abbrev pub lent : Mem
lent = mem (replicate table_least 7) (replicate (nodes_least current) 7) (replicate (answers_least current (shape_of 2)) 7) (replicate (clients_least current (shape_of 2)) 7)

pub may_open : open_code lent 2 ≡ 0
unfolding open_code is_short bad_columns
may_open = refl

abbrev pub example : History
example = record { lent = lent; k = 2; accepted = may_open; calls = unlent played }

abbrev q : Ask
q = record { shape = shape_of 2; query = Is 5 ∷ Wildcard ∷ []; counts = false; range = None }

-- ---- The tests of a call: its number, the memories that it finds, and the call
-- the client at desk d is a reader that asks q and has made so many steps, and its next is taken
ready : Mem → ℕ → ℕ → Bool
ready m d n =
    eqb (step_code m tray d) 0
    && (not (is_idle (client m d)) && (eqb (kind (client m d)) reads && (same_ask (ask_at (shape m) (client m d)) q && eqb (steps (client m d)) n)))

-- the answer (5,7) to q is on file, at place 0
on_file : Mem → Bool
on_file m =
    eqb (length (answers_in (form m) m.answers)) 1
    && (same (key_in (get_or (answers_in (form m) m.answers) 0 [])) (ask_key q)
    && (eqb (length_in (get_or (answers_in (form m) m.answers) 0 [])) 1 && same (list_in (shape_of 2) (get_or (answers_in (form m) m.answers) 0 [])) (5 ∷ 7 ∷ [])))

quiescent_at : Mem → Call → Bool
quiescent_at m c = is_quiet q m && keeps_nodes q m (call_result m c).mem

-- it is a step with as many behind it as a file step of q
may_file : Call → Mem → Bool
may_file (begin d r) m = false
may_file (step d t) m = eqb (steps (client m d)) (length (read_labels q) + 2)
may_file (abandon d) m = false
may_file (evict_answer i) m = false
may_file (drop_node i) m = false
may_file renew m = false

-- it ends nothing at desk d
goes : ℕ → Mem → Call → Bool
goes d m c = not (ends_at d c (call_result m c).out)

accepts : Mem → Call → Bool
accepts m c = is_accepted (number (call_result m c).out)

-- of every call; of those after call 10; of call 18 and those after it; and of calls 10, 11, 18 and 20
tests : ℕ → Mem → Call → Bool
tests i m c =
    ((leb i 10 || quiescent_at m c) && ((leb i 18 || not (may_file c m)) && ((ltb i 11 || (eqb i 20 || goes 1 m c)) && (ltb i 12 || (leb 18 i || goes 0 m c)))))
    && ((not (eqb i 10) || accepts m c)
    && ((not (eqb i 11) || accepts m c)
    && ((not (eqb i 18) || ready m 0 (length (read_labels q) + 2)) && (not (eqb i 20) || (ready m 1 (length (read_labels q)) && on_file m)))))

computed : all_pass tests 0 (opened (shape_of 2) lent) played ≡ true
unfolding same before keep place without all_below listed padded written rows flat entries_in with_entries stretch with_stretch joined parts_in with_parts kept_in with_kept wholes halves wholes_at halves_at check_of misfit labelled bared check_for wide_floor with_wide_floor node_from node_to entry_from entry_to told admits lies naming pick read_node write_node named read_nodes write_nodes read_count write_count column_of query_of well_marked is_query names_all record_of term_value column_value tag tags label_words marks key_words columns_in query_in counts_in count_key range_of range_in range_key wanted_key unranged bare_key within is_range is_reversed list_of has put_in target is_full effect no_room changes label_in pending revision with_pending with_revision has_label node_place is_present node_of with_node evict_node new_node added is_free oldest_free make_room added_in ensured announced_in announced is_pending released lifted may_retire retired is_high is_worn key_in length_in revision_in is_count most_in list_in value_in has_key_of at_least serves fetch_place key_place filed is_long some_long kind steps saw_pending did_change found_full entry_of idle is_idle begun ask_at write_at work_at is_bad stepped flag noted holding wrote records_in with_records store_in with_store answers_in with_answers client_in with_client cleared opened client is_short bad_columns is_unsound no_client open_code begin_code at_client step_code evict_node_code now_at store_back answered look_result fetch_result table_result file_result read_result announce_result write_table_result end_of raise_result write_result progress_of progress unless begin_result step_result evict_node_result untrayed call_result is_accepted ends_work ends_at is_open none_open is_quiet still_there keeps_nodes number same_ask same_wanted same_range same_query same_column same_shape of_records of_number ask_fault list_within value_of may_answer read_labels write_labels ask_key ask_in change_kind kind_of key_of change_in write_in work_in work_fault steps_in_all is_write ask_of work_of fault_of ready on_file quiescent_at may_file goes accepts tests all_pass
computed = refl

-- ---- What they say of each call
record Passed (i : ℕ) (m : Mem) (c : Call) : Type 0 where
  quiescent : (leb i 10 || quiescent_at m c) ≡ true
  last : (leb i 18 || not (may_file c m)) ≡ true
  on_one : (ltb i 11 || (eqb i 20 || goes 1 m c)) ≡ true
  on_nought : (ltb i 12 || (leb 18 i || goes 0 m c)) ≡ true
  begun_first : (not (eqb i 10) || accepts m c) ≡ true
  begun_second : (not (eqb i 11) || accepts m c) ≡ true
  files : (not (eqb i 18) || ready m 0 (length (read_labels q) + 2)) ≡ true
  fetches : (not (eqb i 20) || (ready m 1 (length (read_labels q)) && on_file m)) ≡ true

given : (i : ℕ) (m : Mem) (c : Call) → tests i m c ≡ true → Passed i m c
unfolding tests
given i m c t =
    let quiet = leb i 10 || quiescent_at m c in
    let last = leb i 18 || not (may_file c m) in
    let one = ltb i 11 || (eqb i 20 || goes 1 m c) in
    let a = and_left (quiet && (last && (one && (ltb i 12 || (leb 18 i || goes 0 m c))))) _ t in
    let b = and_right quiet _ a in
    let d = and_right last _ b in
    let e = and_right (quiet && (last && (one && (ltb i 12 || (leb 18 i || goes 0 m c))))) _ t in
    let f = and_right (not (eqb i 10) || accepts m c) _ e in
    let g = and_right (not (eqb i 11) || accepts m c) _ f in
    record {
      quiescent = and_left quiet _ a;
      last = and_left last _ b;
      on_one = and_left one _ d;
      on_nought = and_right one _ d;
      begun_first = and_left (not (eqb i 10) || accepts m c) _ e;
      begun_second = and_left (not (eqb i 11) || accepts m c) _ f;
      files = and_left (not (eqb i 18) || ready m 0 (length (read_labels q) + 2)) _ g;
      fetches = and_right (not (eqb i 18) || ready m 0 (length (read_labels q) + 2)) _ g;
    }

at : (i : ℕ) → i < 21 → Passed i (mem_at example i) (call_at example i)
at i l = given i (mem_at example i) (call_at example i) (passes_at tests example played refl computed i l)

-- no call is lent a tally: each returns and leaves what the tests go by
does : (i : ℕ) → result_at example i ≡ call_result (mem_at example i) (call_at example i)
does i = result_unlent example played refl i

-- ---- The premises
is_ready : (m : Mem) (d n : ℕ) → d < 12 → ready m d n ≡ true → (step_code m tray d ≡ 0) × Reads m d q n
unfolding ready
is_ready m d n l e =
    let a = and_right (eqb (step_code m tray d) 0) _ e in
    let b = and_right (not (is_idle (client m d))) _ a in
    let c = and_right (eqb (kind (client m d)) reads) _ b in
    let k = same_ask (ask_at (shape m) (client m d)) q in (
      eqb-true (step_code m tray d) 0 (and_left (eqb (step_code m tray d) 0) _ e),
      record {
        below = l;
        busy = not-true (is_idle (client m d)) (and_left (not (is_idle (client m d))) _ a);
        works = asking_at (shape m) (client m d) (eqb-true (kind (client m d)) reads (and_left (eqb (kind (client m d)) reads) _ b))
            ∙ ap asking (same_ask_eq (ask_at (shape m) (client m d)) q (and_left k _ c));
        made = eqb-true (steps (client m d)) n (and_right k _ c);
      },
    )

first_begun : accepted_at example 10 ≡ true
unfolding accepted_at accepts
first_begun = rw (does 10) (at 10 (omega arith)).begun_first

second_begun : accepted_at example 11 ≡ true
unfolding accepted_at accepts
second_begun = rw (does 11) (at 11 (omega arith)).begun_second

first_call : call_at example 10 ≡ begin 1 (read_of false None asked)
unfolding call_at made_at
first_call = refl

second_call : call_at example 11 ≡ begin 0 (read_of false None asked)
unfolding call_at made_at
second_call = refl

file_call : call_at example 18 ≡ step 0 tray
unfolding call_at made_at
file_call = refl

fetch_call : call_at example 20 ≡ step 1 tray
unfolding call_at made_at
fetch_call = refl

fetching_runs : UnderWay example (read_of false None asked) 1 10 20
unfolding goes
fetching_runs = record {
  begins = first_call;
  accepted = first_begun;
  earlier = omega arith;
  still = λ i o p.
      let z = (at i (omega arith)).on_one in
      rw (does i) (not-true _ (rw (le-ltb i 11 (omega arith), ne_eqb i 20 (λ y. omega arith)) at z));
}

filing_runs : UnderWay example (read_of false None asked) 0 11 18
unfolding goes
filing_runs = record {
  begins = second_call;
  accepted = second_begun;
  earlier = omega arith;
  still = λ i o p.
      let z = (at i (omega arith)).on_nought in
      rw (does i) (not-true _ (rw (le-ltb i 12 (omega arith), lt-leb 18 i p) at z));
}

was_filed : Filed example q 11 18
was_filed =
    let r = is_ready (mem_at example 18) 0 (length (read_labels q) + 2) (omega arith) (at 18 (omega arith)).files in
    record { client = 0; request = read_of false None asked; tray = tray; calls = file_call; takes = r.0; room = room_unlent example played refl 18; files = r.1; runs = filing_runs }

abbrev e : Entry
e = get_or (answers_in (form (mem_at example 20)) (mem_at example 20).answers) 0 []

record OnFile (m : Mem) : Type 0 where
  one : length (answers_in (form m) m.answers) ≡ 1
  key : key_in (get_or (answers_in (form m) m.answers) 0 []) ≡ ask_key q
  count : length_in (get_or (answers_in (form m) m.answers) 0 []) ≡ 1
  list : list_in (shape_of 2) (get_or (answers_in (form m) m.answers) 0 []) ≡ 5 ∷ 7 ∷ []

is_filed : (m : Mem) → on_file m ≡ true → OnFile m
unfolding on_file
is_filed m e =
    let es = answers_in (form m) m.answers in
    let x = get_or es 0 [] in
    let a = and_right (eqb (length es) 1) _ e in
    let b = and_right (same (key_in x) (ask_key q)) _ a in
    record {
      one = eqb-true (length es) 1 (and_left (eqb (length es) 1) _ e);
      key = same_eq (key_in x) (ask_key q) (and_left (same (key_in x) (ask_key q)) _ a);
      count = eqb-true (length_in x) 1 (and_left (eqb (length_in x) 1) _ b);
      list = same_eq (list_in (shape_of 2) x) (5 ∷ 7 ∷ []) (and_right (eqb (length_in x) 1) _ b);
    }

filed_there : OnFile (mem_at example 20)
filed_there = is_filed (mem_at example 20) (and_right (ready (mem_at example 20) 1 (length (read_labels q))) _ (at 20 (omega arith)).fetches)

unfoldable fetched : Fetches example q 10 20 e
fetched =
    let r = is_ready (mem_at example 20) 1 (length (read_labels q)) (omega arith)
    (and_left (ready (mem_at example 20) 1 (length (read_labels q))) _ (at 20 (omega arith)).fetches) in
    record {
      client = 1;
      request = read_of false None asked;
      tray = tray;
      within = omega arith;
      calls = fetch_call;
      takes = r.0;
      room = room_unlent example played refl 20;
      fetches = r.1;
      runs = fetching_runs;
      place = 0;
      there = let z = filed_there.one in omega arith;
      is = refl;
      key = filed_there.key;
    }

may_file_law : (g b : ℕ) → Filed example q b g → may_file (call_at example g) (mem_at example g) ≡ true
unfolding may_file
may_file_law g b x = ap (λ c. may_file c (mem_at example g)) x.calls ∙ eq-eqb (steps (client (mem_at example g) x.client)) (length (read_labels q) + 2) x.files.made

last_filed : LastFiled example q 18 20
last_filed = (
  omega arith,
  (λ g b l m x.
      let z = (at g (omega arith)).last in
      let y : not (may_file (call_at example g) (mem_at example g)) ≡ true = rw (lt-leb g 18 l) at z in
      true≢false (sym (may_file_law g b x) ∙ not-true _ y)),
)

was_quiet : AllQuiet example q 10 20
unfolding quiescent_at
was_quiet = record {
  quiet = λ i l m. let z = (at i (omega arith)).quiescent in and_left (is_quiet q (mem_at example i)) _ (rw (lt-leb i 10 l) at z);
  kept = λ i l m. let z = (at i (omega arith)).quiescent in
      rw (next_mem example i (omega arith), does i) (and_right (is_quiet q (mem_at example i)) _ (rw (lt-leb i 10 l) at z));
}

-- ---- What the theorem gives
pub mixed_reads : ((result_at example 20).out ≡ Answered 1 true) × ((result_at example 20).tray ≡ written tray 0 (5 ∷ 7 ∷ []))
unfolding value_in fetched
mixed_reads =
    let g = (demand_2 example).gets_filed q 10 20 e fetched in
    let o = g.only 11 18 was_filed last_filed in
    let b : min 10 g.begun ≡ 10 = let i = o.0 in omega arith in
    let z = g.gets (subst (λ c. Quiescent example q c 10 20) (sym b) (quiet_suffices example q 10 10 20 (omega arith) was_quiet)) in
    (z.0 ∙ ap (λ n. Answered n true) filed_there.count, z.1 ∙ ap (written tray 0) filed_there.list)
