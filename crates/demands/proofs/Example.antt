-- The premises of demand 2's last sentence can be met, and what it then gives: case 6 of document 01, k 1 and an empty table. A read of 5
-- answers at its fifth step and files that; read again, it gets it from file at its third. The premises are computed, in one pass over the
-- calls; the answer is the theorem's. Leans on HistoryRuns, Unlent and Demand2Holds. Assumes nothing.
use mathlib.Core.Path.{◌≡◌, refl, sym, ap, ◌∙◌}
use mathlib.Core.Logic.{inr}
use mathlib.Core.Bool.{Bool, true, false, not, ◌&&◌, ◌||◌, true≢false}
use mathlib.Core.List.{List, [], ◌∷◌}
use Prim.Native.Nat.{ℕ, ◌+◌, ◌≤◌, ◌<◌}
use native.Mathlib.Omega.{arith}
use lib.Dec.{eqb, leb}
use borrow.Author.Tests.{eqb-true, eq-eqb, ne_eqb, lt-leb, not-true}
use lib.ListN.{length, get_or, replicate}
use Rattle.lists.specs.Lists.{same, keep, place, without, all_below, listed, padded, written, rows, flat, entries_in, with_entries}
use Rattle.lists.specs.Lists.{stretch, with_stretch, joined, parts_in, with_parts, kept_in, with_kept, wholes, halves, wholes_at, halves_at}
use Rattle.laws.proofs.ListLaws.{and_left, and_right, same_eq}
use Rattle.query.specs.declared.Column.TheVariants.{Is}
use Rattle.query.specs.declared.Range.TheVariants.{None}
use Rattle.query.specs.Query.{admits, lies, pick, read_node, named, read_nodes, read_count}
use Rattle.query.specs.Range.{within, is_range, is_reversed}
use Rattle.query.specs.Encoding.{column_of, query_of, well_marked, is_query, names_all, term_value, column_value, tag, tags, label_words, marks, key_words, counts_in, count_key, range_of, range_in, range_key, wanted_key, unranged, bare_key}
use Rattle.query.specs.Encoding.{columns_in, query_in}
use Rattle.rules.specs.declared.Outcome.TheVariants.{Answered}
use Rattle.rules.specs.Table.{list_of}
use Rattle.rules.specs.Nodes.{label_in, pending, revision, with_pending, with_revision, has_label, node_place, is_present, node_of, with_node, evict_node}
use Rattle.rules.specs.Nodes.{new_node, added, is_free, oldest_free, make_room, added_in, ensured, is_high, is_worn}
use Rattle.rules.specs.Answers.{Entry, key_in, length_in, revision_in, list_in, value_in, has_key_of, at_least, serves, fetch_place, key_place, filed, is_long, some_long, is_count, most_in}
use Rattle.rules.specs.Client.{kind, steps, saw_pending, entry_of, idle, is_idle, begun, ask_at, work_at, is_bad, stepped, noted, holding}
use Rattle.query.specs.Shape.{shape_of}
use Rattle.rules.specs.Layout.{table_least, nodes_least, answers_least, clients_least, tray_least, reads}
use Rattle.rules.specs.Memory.{Mem, mem, records_in, store_in, with_store, answers_in, with_answers, client_in, with_client, cleared, opened}
use Rattle.rules.specs.Memory.{current, wide_floor, with_wide_floor, node_from, node_to, entry_from, entry_to, told}
use Rattle.rules.specs.Checks.{check_of, misfit, labelled, bared, check_for}
use Rattle.rules.specs.Outcome.{number}
use Rattle.rules.specs.Refusals.{form, client, is_short, bad_columns, is_unsound, no_client, open_code, begin_code, at_client, step_code, shape}
use Rattle.rules.specs.Steps.{now_at, store_back, answered, look_result, fetch_result, table_result, file_result, read_result, progress_of, progress}
use Rattle.rules.specs.Calls.{unless, begin_result, step_result}
use Rattle.rules.specs.History.{Call, begin, step, abandon, evict_answer, evict_node as drop_node, renew, untrayed}
use Rattle.rules.specs.History.{call_result, is_accepted}
use Rattle.rules.specs.Tally.{unlent}
use Rattle.machine.specs.Machine.{same_ask, same_shape, same_query, same_column, same_wanted, same_range}
use Rattle.machine.proofs.Asks.{same_ask_eq}
use Rattle.refinement.proofs.ClientPhases.{asking_at}
use Rattle.demands.specs.WholeHistory.{History, mem_at, made_at, call_at, result_at, accepted_at, ends_work, ends_at, UnderWay}
use Rattle.demands.specs.Demand2.{is_open, none_open, is_quiet, still_there, keeps_nodes, AllQuiet, Reads, Filed, Fetches, LastFiled}
use Rattle.demands.proofs.HistoryRuns.{next_mem}
use Rattle.demands.proofs.Unlent.{room_unlent, result_unlent, all_pass, passes_at}
use Rattle.demands.proofs.Demand2Holds.{demand_2_gets}
use Rattle.demands.proofs.EndsUnchanged.{quiet_suffices}
use Rattle.rules.specs.Work.{Ask, ask_fault, list_within, read_of, of_records, value_of, may_answer, read_labels, ask_key, ask_in, kind_of, key_of, work_in, work_fault, steps_in_all, is_write, ask_of, work_of, fault_of}
use Rattle.rules.specs.Work.{asking, of_number}

abbrev pub tray : List ℕ
tray = replicate tray_least 9

-- calls 0 to 5: a read of 5, which files; 6 to 9: another, up to its fetch
abbrev pub asked : List ℕ
asked = 1 ∷ 5 ∷ []

abbrev pub played : List Call
played =
    begin 0 (read_of false None asked) ∷ step 0 tray ∷ step 0 tray ∷ step 0 tray ∷ step 0 tray ∷ step 0 tray
    ∷ begin 0 (read_of false None asked) ∷ step 0 tray ∷ step 0 tray ∷ step 0 tray ∷ []

abbrev pub lent : Mem
lent = mem (replicate table_least 7) (replicate (nodes_least current) 7) (replicate (answers_least current (shape_of 1)) 7) (replicate (clients_least current (shape_of 1)) 7)

pub may_open : open_code lent 1 ≡ 0
unfolding open_code is_short bad_columns
may_open = refl

abbrev pub example : History
example = record { lent = lent; k = 1; accepted = may_open; calls = unlent played }

abbrev q : Ask
q = record { shape = shape_of 1; query = Is 5 ∷ []; counts = false; range = None }

-- ---- The tests of a call: its number, the memories that it finds, and the call
-- the client at desk 0 is a reader that asks q and has made so many steps, and its next is taken
ready : Mem → ℕ → Bool
ready m n =
    eqb (step_code m tray 0) 0
    && (not (is_idle (client m 0)) && (eqb (kind (client m 0)) reads && (same_ask (ask_at (shape m) (client m 0)) q && eqb (steps (client m 0)) n)))

-- an answer of no records to q is on file, at place 0
on_file : Mem → Bool
on_file m =
    eqb (length (answers_in (form m) m.answers)) 1
    && (same (key_in (get_or (answers_in (form m) m.answers) 0 [])) (ask_key q) && eqb (length_in (get_or (answers_in (form m) m.answers) 0 [])) 0)

quiescent_at : Mem → Call → Bool
quiescent_at m c = is_quiet q m && keeps_nodes q m (call_result m c).mem

-- it is no file step, or not after call 5
may_file : Call → Mem → Bool
may_file (begin d r) m = false
may_file (step d t) m = eqb (steps (client m d)) (length (read_labels q) + 2)
may_file (abandon d) m = false
may_file (evict_answer i) m = false
may_file (drop_node i) m = false
may_file renew m = false

-- it ends nothing at desk 0, but for calls 5 and 9
goes : Mem → Call → Bool
goes m c = not (ends_at 0 c (call_result m c).out)

tests : ℕ → Mem → Call → Bool
tests i m c =
    quiescent_at m c
    && ((leb i 5 || not (may_file c m))
    && ((eqb i 5 || (eqb i 9 || goes m c))
    && ((not (eqb i 0) || is_accepted (number (call_result m c).out))
    && ((not (eqb i 6) || is_accepted (number (call_result m c).out))
    && ((not (eqb i 5) || ready m (length (read_labels q) + 2))
    && (not (eqb i 9) || (ready m (length (read_labels q)) && on_file m)))))))

computed : all_pass tests 0 (opened (shape_of 1) lent) played ≡ true
unfolding same keep place without all_below listed padded written rows flat entries_in with_entries stretch with_stretch joined parts_in with_parts kept_in with_kept wholes halves wholes_at halves_at check_of misfit labelled bared check_for wide_floor with_wide_floor node_from node_to entry_from entry_to told pick read_node named read_count column_of query_of well_marked is_query names_all term_value column_value tag tags label_words marks key_words columns_in query_in counts_in count_key range_of range_in range_key wanted_key unranged bare_key within is_range is_reversed list_of label_in pending revision with_pending with_revision has_label node_place is_present node_of with_node evict_node new_node added is_free oldest_free make_room added_in ensured is_high is_worn key_in length_in revision_in is_count most_in list_in value_in has_key_of at_least serves fetch_place key_place filed is_long some_long kind steps saw_pending entry_of idle is_idle begun work_at ask_at is_bad stepped noted holding records_in store_in with_store answers_in with_answers client_in with_client cleared opened client is_short bad_columns is_unsound no_client open_code begin_code at_client step_code now_at store_back answered look_result fetch_result table_result file_result read_result progress_of progress unless begin_result step_result untrayed call_result is_accepted ends_work ends_at is_open none_open is_quiet still_there keeps_nodes number lies admits same_ask same_wanted same_range same_query same_column read_nodes of_records of_number ask_fault list_within value_of may_answer read_labels ask_key ask_in kind_of key_of work_in work_fault steps_in_all is_write ask_of work_of fault_of same_shape ready on_file quiescent_at may_file goes tests all_pass
computed = refl

-- ---- What they say of each call
record Passed (i : ℕ) (m : Mem) (c : Call) : Type 0 where
  quiescent : quiescent_at m c ≡ true
  last : (leb i 5 || not (may_file c m)) ≡ true
  on : (eqb i 5 || (eqb i 9 || goes m c)) ≡ true
  begun : (not (eqb i 0) || is_accepted (number (call_result m c).out)) ≡ true
  begun_again : (not (eqb i 6) || is_accepted (number (call_result m c).out)) ≡ true
  files : (not (eqb i 5) || ready m (length (read_labels q) + 2)) ≡ true
  fetches : (not (eqb i 9) || (ready m (length (read_labels q)) && on_file m)) ≡ true

given : (i : ℕ) (m : Mem) (c : Call) → tests i m c ≡ true → Passed i m c
unfolding tests
given i m c t =
    let a = and_right (quiescent_at m c) _ t in
    let b = and_right (leb i 5 || not (may_file c m)) _ a in
    let d = and_right (eqb i 5 || (eqb i 9 || goes m c)) _ b in
    let e = and_right (not (eqb i 0) || is_accepted (number (call_result m c).out)) _ d in
    let f = and_right (not (eqb i 6) || is_accepted (number (call_result m c).out)) _ e in
    record {
      quiescent = and_left (quiescent_at m c) _ t;
      last = and_left (leb i 5 || not (may_file c m)) _ a;
      on = and_left (eqb i 5 || (eqb i 9 || goes m c)) _ b;
      begun = and_left (not (eqb i 0) || is_accepted (number (call_result m c).out)) _ d;
      begun_again = and_left (not (eqb i 6) || is_accepted (number (call_result m c).out)) _ e;
      files = and_left (not (eqb i 5) || ready m (length (read_labels q) + 2)) _ f;
      fetches = and_right (not (eqb i 5) || ready m (length (read_labels q) + 2)) _ f;
    }

at : (i : ℕ) → i < 10 → Passed i (mem_at example i) (call_at example i)
at i l = given i (mem_at example i) (call_at example i) (passes_at tests example played refl computed i l)

-- no call is lent a tally: each returns and leaves what the tests go by
does : (i : ℕ) → result_at example i ≡ call_result (mem_at example i) (call_at example i)
does i = result_unlent example played refl i

-- ---- The premises
is_ready : (m : Mem) (n : ℕ) → ready m n ≡ true → (step_code m tray 0 ≡ 0) × Reads m 0 q n
unfolding ready
is_ready m n e =
    let a = and_right (eqb (step_code m tray 0) 0) _ e in
    let b = and_right (not (is_idle (client m 0))) _ a in
    let c = and_right (eqb (kind (client m 0)) reads) _ b in
    let k = same_ask (ask_at (shape m) (client m 0)) q in (
      eqb-true (step_code m tray 0) 0 (and_left (eqb (step_code m tray 0) 0) _ e),
      record {
        below = omega arith;
        busy = not-true (is_idle (client m 0)) (and_left (not (is_idle (client m 0))) _ a);
        works = asking_at (shape m) (client m 0) (eqb-true (kind (client m 0)) reads (and_left (eqb (kind (client m 0)) reads) _ b))
            ∙ ap asking (same_ask_eq (ask_at (shape m) (client m 0)) q (and_left k _ c));
        made = eqb-true (steps (client m 0)) n (and_right k _ c);
      },
    )

-- a read that call b began at desk 0 is under way up to call n, where no call between is 5 or 9
runs : (b n : ℕ) → b < n → n ≤ 9 → ((i : ℕ) → b < i → i < n → i ≡ 5 → ⊥) → call_at example b ≡ begin 0 (read_of false None asked) → accepted_at example b ≡ true
    → UnderWay example (read_of false None asked) 0 b n
unfolding goes
runs b n l m f c a = record {
  begins = c;
  accepted = a;
  earlier = l;
  still = λ i o p.
      let z = (at i (omega arith)).on in
      rw (does i) (not-true _ (rw (ne_eqb i 5 (f i o p), ne_eqb i 9 (λ y. omega arith)) at z));
}

first_begun : accepted_at example 0 ≡ true
unfolding accepted_at
first_begun = rw (does 0) (at 0 (omega arith)).begun

second_begun : accepted_at example 6 ≡ true
unfolding accepted_at
second_begun = rw (does 6) (at 6 (omega arith)).begun_again

first_call : call_at example 0 ≡ begin 0 (read_of false None asked)
unfolding call_at made_at
first_call = refl

second_call : call_at example 6 ≡ begin 0 (read_of false None asked)
unfolding call_at made_at
second_call = refl

file_call : call_at example 5 ≡ step 0 tray
unfolding call_at made_at
file_call = refl

fetch_call : call_at example 9 ≡ step 0 tray
unfolding call_at made_at
fetch_call = refl

was_filed : Filed example q 0 5
was_filed =
    let r = is_ready (mem_at example 5) (length (read_labels q) + 2) (at 5 (omega arith)).files in
    record {
      client = 0;
      request = read_of false None asked;
      tray = tray;
      calls = file_call;
      takes = r.0;
      room = room_unlent example played refl 5;
      files = r.1;
      runs = runs 0 5 (omega arith) (omega arith) (λ i a b c. omega arith) first_call first_begun;
    }

abbrev e : Entry
e = get_or (answers_in (form (mem_at example 9)) (mem_at example 9).answers) 0 []

record OnFile (m : Mem) : Type 0 where
  one : length (answers_in (form m) m.answers) ≡ 1
  key : key_in (get_or (answers_in (form m) m.answers) 0 []) ≡ ask_key q
  none : length_in (get_or (answers_in (form m) m.answers) 0 []) ≡ 0

is_filed : (m : Mem) → on_file m ≡ true → OnFile m
unfolding on_file
is_filed m e =
    let x = get_or (answers_in (form m) m.answers) 0 [] in
    let a = and_right (eqb (length (answers_in (form m) m.answers)) 1) _ e in
    record {
      one = eqb-true (length (answers_in (form m) m.answers)) 1 (and_left (eqb (length (answers_in (form m) m.answers)) 1) _ e);
      key = same_eq (key_in x) (ask_key q) (and_left (same (key_in x) (ask_key q)) _ a);
      none = eqb-true (length_in x) 0 (and_right (same (key_in x) (ask_key q)) _ a);
    }

filed_there : OnFile (mem_at example 9)
filed_there = is_filed (mem_at example 9) (and_right (ready (mem_at example 9) (length (read_labels q))) _ (at 9 (omega arith)).fetches)

fetched : Fetches example q 6 9 e
fetched =
    let r = is_ready (mem_at example 9) (length (read_labels q)) (and_left (ready (mem_at example 9) (length (read_labels q))) _ (at 9 (omega arith)).fetches) in
    record {
      client = 0;
      request = read_of false None asked;
      tray = tray;
      within = omega arith;
      calls = fetch_call;
      takes = r.0;
      room = room_unlent example played refl 9;
      fetches = r.1;
      runs = runs 6 9 (omega arith) (omega arith) (λ i a b c. omega arith) second_call second_begun;
      place = 0;
      there = let z = filed_there.one in omega arith;
      is = refl;
      key = filed_there.key;
    }

may_file_law : (g b : ℕ) → Filed example q b g → may_file (call_at example g) (mem_at example g) ≡ true
unfolding may_file
may_file_law g b x = ap (λ c. may_file c (mem_at example g)) x.calls ∙ eq-eqb (steps (client (mem_at example g) x.client)) (length (read_labels q) + 2) x.files.made

last_filed : LastFiled example q 5 9
last_filed = (
  omega arith,
  (λ g b l m x.
      let z = (at g (omega arith)).last in
      let y : not (may_file (call_at example g) (mem_at example g)) ≡ true = rw (lt-leb g 5 l) at z in
      true≢false (sym (may_file_law g b x) ∙ not-true _ y)),
)

was_quiet : AllQuiet example q 0 9
unfolding quiescent_at
was_quiet = record {
  quiet = λ i l m. and_left (is_quiet q (mem_at example i)) _ (at i (omega arith)).quiescent;
  kept = λ i l m. rw (next_mem example i (omega arith), does i) (and_right (is_quiet q (mem_at example i)) _ (at i (omega arith)).quiescent);
}

-- ---- What the theorem gives
pub case_6 : (result_at example 9).out ≡ Answered 0 true
unfolding value_in
case_6 =
    (demand_2_gets example q 6 9 e fetched 0 5 was_filed last_filed 0 (omega arith) (omega arith) (inr refl) (quiet_suffices example q 0 6 9 (omega arith) was_quiet)).0
    ∙ ap (λ n. Answered n true) filed_there.none
