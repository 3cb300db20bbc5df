-- S-6 at work, and why it says "before a read began". k 1, the table has 5, and an insert of 5 ends unchanged. One that overlaps the filing read
-- and ends before the next read begins is excused: by demand 2's last sentence that read gets the answer from file (`spared`), where the
-- sentence as it stood before S-6 says nothing (`not_all_quiet`). One that is open while a read looks is not: were it excused too, for ending
-- unchanged later, the sentence would be false (`never_would_fail`). What the calls return is computed, in one pass over them; the rest follows
-- from the theorems. Leans on Unlent, Demand2Holds, StepsMade and on Example, whose memories it opens. Assumes nothing.
use mathlib.Core.Path.{◌≡◌, refl, sym, ap, ◌∙◌}
use mathlib.Core.Logic.{◌⊎◌, inl, inr}
use mathlib.Core.Bool.{Bool, true, false, cond, not, ◌&&◌, ◌||◌}
use mathlib.Core.List.{List, [], ◌∷◌}
use Prim.Native.Nat.{ℕ, ◌+◌, ◌≤◌, ◌<◌}
use native.Mathlib.Omega.{arith}
use lib.Dec.{eqb, leb}
use borrow.Author.Tests.{eqb-true, eq-eqb, lt-leb, not-true}
use lib.ListN.{length, get_or}
use Rattle.lists.specs.Lists.{same, keep, place, all_below, listed, padded, written, rows, flat, entries_in, with_entries, is_in, any_in}
use Rattle.lists.specs.Lists.{stretch, with_stretch, joined, parts_in, with_parts, kept_in, with_kept, wholes, halves, wholes_at, halves_at}
use Rattle.laws.proofs.ListLaws.{and_left, and_right, same_eq, below_at}
use Rattle.laws.proofs.TestLaws.{by_test, clash}
use Rattle.query.specs.declared.Range.TheVariants.{None}
use Rattle.query.specs.Query.{admits, lies, naming, pick, read_node, write_node, named, read_nodes, write_nodes, read_count, write_count}
use Rattle.query.specs.Range.{within, is_range, is_reversed}
use Rattle.query.specs.Encoding.{column_of, query_of, well_marked, is_query, names_all, record_of, term_value, column_value, tag, tags, label_words, marks, key_words, counts_in, count_key, range_of, range_in, range_key, wanted_key, unranged, bare_key}
use Rattle.query.specs.Encoding.{columns_in, query_in}
use Rattle.query.specs.Shape.{shape_of}
use Rattle.rules.specs.declared.Outcome.TheVariants.{Answered}
use Rattle.rules.specs.Table.{list_of, has, put_in, target, is_full, effect, no_room, changes}
use Rattle.rules.specs.Nodes.{label_in, pending, revision, with_pending, with_revision, has_label, node_place, is_present, node_of, with_node}
use Rattle.rules.specs.Nodes.{new_node, added, make_room, added_in, ensured, announced_in, announced, is_pending, released, lifted, may_retire, retired, is_high, is_worn}
use Rattle.rules.specs.Answers.{Entry, key_in, length_in, revision_in, value_in, has_key_of, at_least, serves, fetch_place, key_place, filed, is_long, some_long, is_count, most_in}
use Rattle.rules.specs.Client.{kind, steps, saw_pending, did_change, found_full, entry_of, idle, is_idle, begun, write_at, work_at, is_bad, stepped, flag, noted, holding, wrote}
use Rattle.rules.specs.Layout.{max_clients}
use Rattle.rules.specs.Memory.{Mem, records_in, with_records, store_in, with_store, answers_in, with_answers, client_in, with_client, cleared, opened}
use Rattle.rules.specs.Memory.{wide_floor, with_wide_floor, node_from, node_to, entry_from, entry_to, told}
use Rattle.rules.specs.Checks.{check_of, misfit, labelled, bared, check_for}
use Rattle.rules.specs.Outcome.{number}
use Rattle.rules.specs.Refusals.{form, client, is_short, bad_columns, is_unsound, no_client, begin_code, at_client, step_code}
use Rattle.rules.specs.Steps.{now_at, store_back, answered, look_result, fetch_result, table_result, file_result, read_result, announce_result, write_table_result}
use Rattle.rules.specs.Steps.{end_of, raise_result, write_result, progress_of, progress}
use Rattle.rules.specs.Calls.{unless, begin_result, step_result}
use Rattle.rules.specs.History.{Call, begin, step, abandon, evict_answer, evict_node, renew, untrayed, call_result, is_accepted}
use Rattle.rules.specs.Tally.{unlent}
use Rattle.rules.specs.Work.{Ask, ask_fault, list_within, of_records, value_of, may_answer, read_labels, ask_key, ask_in, Write, write_labels, Shares, shares, change_kind, kind_of, key_of, change_in, write_in}
use Rattle.rules.specs.Work.{work_in, work_fault, steps_in_all, Work, asking, writing, Request, read_of, insert_of, is_write, ask_of, work_of, fault_of}
use Rattle.refinement.proofs.SoundCodes.{step_taken}
use Rattle.demands.specs.WholeHistory.{History, mem_at, made_at, call_at, result_at, accepted_at, ends_work, ends_at, UnderWay, is_step_at, steps_in}
use Rattle.demands.specs.OneWork.{Ending}
use Rattle.demands.specs.Demand2.{is_open, Open, none_open, is_quiet, still_there, keeps_nodes, KeptNodes, is_unchanged, EndedUnchanged, Quiescent, AllQuiet, Reads, Filed, Fetches, LastFiled, value_at}
use Rattle.demands.proofs.HistoryRuns.{next_mem, sound}
use Rattle.demands.proofs.Unlent.{room_unlent, result_unlent, all_pass, passes_at}
use Rattle.demands.proofs.Demand2Holds.{demand_2_gets}
use Rattle.demands.proofs.StepsMade.{reads_tell}
use Rattle.demands.proofs.Example.{asked, tray, lent, may_open}

-- ---- The history
abbrev pub reading : Request
reading = read_of false None asked

abbrev pub inserting : Request
inserting = insert_of asked

-- Calls 0 to 5, desk 2: 5 is inserted. Calls 6 to 17, desk 0: the read of 5 that files; within it calls 9 to 14, desk 1: an insert of 5, whose
-- end is unchanged. Calls 18 to 21, desk 0: a read of 5 up to its fetch. Calls 22 to 31, desk 1: again an insert of 5 that ends unchanged, and
-- within it, after one mark, calls 24 to 27, desk 0: a read of 5 up to its fetch.
abbrev pub played : List Call
played =
    begin 2 inserting ∷ step 2 tray ∷ step 2 tray ∷ step 2 tray ∷ step 2 tray ∷ step 2 tray
    ∷ begin 0 reading ∷ step 0 tray ∷ step 0 tray
    ∷ begin 1 inserting ∷ step 1 tray ∷ step 1 tray ∷ step 1 tray ∷ step 1 tray ∷ step 1 tray
    ∷ step 0 tray ∷ step 0 tray ∷ step 0 tray
    ∷ begin 0 reading ∷ step 0 tray ∷ step 0 tray ∷ step 0 tray
    ∷ begin 1 inserting ∷ step 1 tray
    ∷ begin 0 reading ∷ step 0 tray ∷ step 0 tray ∷ step 0 tray
    ∷ step 1 tray ∷ step 1 tray ∷ step 1 tray ∷ step 1 tray ∷ []

abbrev pub example : History
example = record { lent = lent; k = 1; accepted = may_open; calls = unlent played }

abbrev pub x : Ask
x = ask_of (shape_of 1) false None asked

-- ---- The tests of a call: its number, the memories that it finds, and the call
-- what is on file: how many answers, and of the first how many records and its key; for x there is one, of one record
abbrev answer_in : Mem → Entry
answer_in m = get_or (answers_in (form m) m.answers) 0 []

abbrev on_file : Mem → List ℕ
on_file m = length (answers_in (form m) m.answers) ∷ length_in (answer_in m) ∷ key_in (answer_in m)

-- the calls that may end what is under way at desk 0, and at desk 1: whether call 21 does is for the theorem to say
abbrev may_end : ℕ → ℕ → Bool
may_end d i = cond (eqb d 0) (eqb i 17 || eqb i 21) (eqb i 14 || eqb i 31)

abbrev is_writing : Work → Bool
is_writing (asking y) = false
is_writing (writing w) = true

writes : Call → Bool
writes (begin d r) = is_writing (work_of (shape_of 1) r)
writes (step d t) = false
writes (abandon d) = false
writes (evict_answer i) = false
writes (evict_node i) = false
writes renew = false

-- of single calls: 5 ends the write at desk 2, 14 and 31 end theirs unchanged; 10 finds a write open that shares a node of x, 21 and 27 find the
-- answer to x
single : ℕ → Mem → Call → Bool
single i m c =
    cond (eqb i 5) (ends_at 2 c (call_result m c).out) (cond (eqb i 10) (not (is_quiet x m))
    (cond (eqb i 14 || eqb i 31) (ends_at 1 c (call_result m c).out && is_unchanged (call_result m c).out)
    (cond (eqb i 21 || eqb i 27) (same (on_file m) (1 ∷ 1 ∷ ask_key x)) true)))

-- The six by number. 0: it is accepted. 1: it puts out no node of x. 2: it ends nothing at desk 0 or 1, but where it may. 3: it begins no write,
-- but for calls 0, 9 and 22. 4: from call 18 to call 26 no client has made the steps that a read of x makes before it files. 5: those of single calls.
tests : ℕ → Mem → Call → ℕ → Bool
tests i m c j =
    get_or (is_accepted (number (call_result m c).out) ∷ keeps_nodes x m (call_result m c).mem ∷ all_below 2 (λ d. may_end d i || not (ends_at d c (call_result m c).out))
    ∷ (not (writes c) || (eqb i 0 || (eqb i 9 || eqb i 22)))
    ∷ (leb i 17 || (leb 27 i || all_below max_clients (λ d. not (eqb (steps (client m d)) 4)))) ∷ single i m c ∷ []) j true

-- all of them
six : ℕ → Mem → Call → Bool
six i m c = all_below 6 (tests i m c)

computed : all_pass six 0 (opened (shape_of 1) lent) played ≡ true
unfolding same keep place all_below listed padded written rows flat entries_in with_entries stretch with_stretch joined parts_in with_parts kept_in with_kept wholes halves wholes_at halves_at check_of misfit labelled bared check_for wide_floor with_wide_floor node_from node_to entry_from entry_to told admits lies naming pick read_node write_node named read_nodes write_nodes read_count write_count column_of query_of well_marked is_query names_all record_of term_value column_value tag tags label_words marks key_words columns_in query_in counts_in count_key range_of range_in range_key wanted_key unranged bare_key within is_range is_reversed list_of has put_in target is_full effect no_room changes label_in pending revision with_pending with_revision has_label node_place is_present node_of with_node new_node added make_room added_in ensured announced_in announced is_pending released lifted may_retire retired is_high is_worn key_in length_in revision_in is_count most_in has_key_of at_least serves fetch_place key_place filed is_long some_long kind steps saw_pending did_change found_full entry_of idle is_idle begun write_at work_at is_bad stepped flag noted holding wrote records_in with_records store_in with_store answers_in with_answers client_in with_client cleared opened client is_short bad_columns is_unsound no_client begin_code at_client step_code now_at store_back answered look_result fetch_result table_result file_result read_result announce_result write_table_result end_of raise_result write_result progress_of progress unless begin_result step_result untrayed call_result is_accepted number ends_work ends_at still_there keeps_nodes is_open none_open is_quiet shares any_in is_in is_unchanged of_records ask_fault list_within value_of may_answer read_labels write_labels ask_key ask_in change_kind kind_of key_of change_in write_in work_in work_fault steps_in_all is_write ask_of work_of fault_of writes single tests six all_pass
computed = refl

-- ---- What they say of each call
at : (j i : ℕ) → j < 6 → i < 32 → tests i (mem_at example i) (call_at example i) j ≡ true
unfolding six
at j i k l = below_at 6 (tests i (mem_at example i) (call_at example i)) j (passes_at six example played refl computed i l) k

-- no call is lent a tally: each returns and leaves what the tests go by
does : (i : ℕ) → result_at example i ≡ call_result (mem_at example i) (call_at example i)
does i = result_unlent example played refl i

taken : (i : ℕ) → i < 32 → accepted_at example i ≡ true
unfolding accepted_at tests
taken i l = rw (does i) (at 0 i (omega arith) l)

kept : (n : ℕ) → n ≤ 27 → KeptNodes example x 6 n
unfolding tests
kept n m i l o = rw (next_mem example i (omega arith), does i) (at 1 i (omega arith) (omega arith))

alone : (i : ℕ) → i < 32 → single i (mem_at example i) (call_at example i) ≡ true
unfolding tests
alone i l = at 5 i (omega arith) l

-- what call b began at desk d is under way up to call n, where no call between may end it
abbrev stays : ℕ → ℕ → ℕ → Bool
stays d b n = all_below n (λ i. leb i b || not (may_end d i))

runs : (r : Request) (d b n : ℕ) → d < 2 → n < 32 → b < n → stays d b n ≡ true → call_at example b ≡ begin d r → UnderWay example r d b n
unfolding tests
runs r d b n l m o f e = record {
  begins = e;
  accepted = taken b (omega arith);
  earlier = o;
  still = λ i p q.
      let y = below_at n (λ i. leb i b || not (may_end d i)) i f q in
      let z = below_at 2 (λ d. may_end d i || not (ends_at d (call_at example i) (call_result (mem_at example i) (call_at example i)).out)) d (at 2 i (omega arith) (omega arith)) l in
      rw (does i) (not-true _ (rw (not-true (may_end d i) (rw (lt-leb i b p) at y)) at z));
}

-- ---- The reads
looks : length (read_labels x) ≡ 2
unfolding read_labels ask_of query_of column_of read_nodes read_count read_node named pick listed
looks = refl

-- a read of desk 0 has made so many steps, and its next is taken
stands : (b n k : ℕ) → n ≤ 27 → UnderWay example reading 0 b n → steps_in example 0 b n ≡ k → Reads (mem_at example n) 0 x k × (step_code (mem_at example n) tray 0 ≡ 0)
unfolding work_of
stands b n k m u e =
    let z = (reads_tell example reading 0 b n (omega arith) u x k).1 (refl, e) in
    (z, step_taken (mem_at example n) (sound example n (omega arith)).fits tray 0 (omega arith) z.below z.busy)

was_filed : Filed example x 6 17
unfolding call_at made_at steps_in is_step_at all_below
was_filed =
    let u = runs reading 0 6 17 (omega arith) (omega arith) (omega arith) refl refl in
    let z = stands 6 17 4 (omega arith) u (rw (taken 7 (omega arith), taken 8 (omega arith), taken 15 (omega arith), taken 16 (omega arith)) refl) in
    record { client = 0; request = reading; tray = tray; calls = refl; takes = z.1; room = room_unlent example played refl 17; files = rw looks z.0; runs = u }

last_filed : (n : ℕ) → 17 < n → n ≤ 27 → LastFiled example x 17 n
unfolding tests
last_filed n o p = (
  o,
  λ g b l m y.
      let s : ℕ → ℕ = λ d. steps (client (mem_at example g) d) in
      let z = at 4 g (omega arith) (omega arith) in
      let k = below_at max_clients (λ d. not (eqb (s d) 4)) y.client (rw (lt-leb g 17 l, lt-leb 27 g (omega arith)) at z) y.files.below in
      clash (eq-eqb (s y.client) 4 (y.files.made ∙ ap (λ j. j + 2) looks)) (not-true _ k),
)

-- such a read is at its fetch, and the answer is on file
fetched : (b n : ℕ) → n ≤ 27 → b < n → stays 0 b n ≡ true → call_at example b ≡ begin 0 reading → steps_in example 0 b n ≡ 2 → call_at example n ≡ step 0 tray
    → same (on_file (mem_at example n)) (1 ∷ 1 ∷ ask_key x) ≡ true → Fetches example x b n (answer_in (mem_at example n))
fetched b n m l f c s e t =
    let u = runs reading 0 b n (omega arith) (omega arith) l f c in
    let z = stands b n 2 m u s in
    let o = same_eq (on_file (mem_at example n)) (1 ∷ 1 ∷ ask_key x) t in
    let k : length (answers_in (form (mem_at example n)) (mem_at example n).answers) ≡ 1 = cc in
    record { client = 0; request = reading; tray = tray; within = omega arith; calls = e; takes = z.1; room = room_unlent example played refl n; fetches = rw looks z.0; runs = u; place = 0; there = omega arith; is = refl; key = cc }

fetch_21 : Fetches example x 18 21 (answer_in (mem_at example 21))
unfolding call_at made_at steps_in is_step_at single all_below
fetch_21 = fetched 18 21 (omega arith) (omega arith) refl refl (rw (taken 19 (omega arith), taken 20 (omega arith)) refl) refl (alone 21 (omega arith))

fetch_27 : Fetches example x 24 27 (answer_in (mem_at example 27))
unfolding call_at made_at steps_in is_step_at single all_below
fetch_27 = fetched 24 27 (omega arith) (omega arith) refl refl (rw (taken 25 (omega arith), taken 26 (omega arith)) refl) refl (alone 27 (omega arith))

-- ---- The writes
-- the insert that call a began at desk 1 ends unchanged by call n
abbrev Unchanged : ℕ → ℕ → Type 0
Unchanged a n = Ending example inserting 1 a n × (is_unchanged (result_at example n).out ≡ true)

unchanged : (a n : ℕ) → n < 32 → a < n → stays 1 a n ≡ true → call_at example a ≡ begin 1 inserting
    → (ends_at 1 (call_at example n) (result_at example n).out && is_unchanged (result_at example n).out) ≡ true → Unchanged a n
unchanged a n m l f c e =
    let ends = ends_at 1 (call_at example n) (result_at example n).out in
    (record { within = m; runs = runs inserting 1 a n (omega arith) m l f c; ends = and_left ends _ e }, and_right ends _ e)

both : Unchanged 9 14 × Unchanged 22 31
unfolding call_at made_at single all_below
both = (unchanged 9 14 (omega arith) (omega arith) refl refl (rw (does 14) (alone 14 (omega arith))), unchanged 22 31 (omega arith) (omega arith) refl refl (rw (does 31) (alone 31 (omega arith))))

-- the desk of a begin
client_of : (a b d e : ℕ) (r s : Request) → a ≡ b → call_at example b ≡ begin e s → call_at example a ≡ begin d r → d ≡ e
client_of a b d e r s i g f = let z : begin d r ≡ begin e s = sym f ∙ ap (call_at example) i ∙ g in cc

-- a write that is open after call 6 and up to call 27 was begun by call 9 or by call 22: that of call 0 ended at call 5
of_two : (P : ℕ → ℕ → Type 0) (i : ℕ) → 6 < i → i ≤ 27 → (w : Write) (d a : ℕ) → Open example w d a i → P 1 9 → (22 < i → P 1 22) → P d a
unfolding writes single call_at made_at tests
of_two P i l m w d a o p q =
    let u = o.runs in
    let r = o.request in
    let before = u.earlier in
    let z = at 3 a (omega arith) (omega arith) in
    let y : (eqb a 0 || (eqb a 9 || eqb a 22)) ≡ true = rw (u.begins, o.is) at z in
    by_test (eqb a 0)
    (λ t. let e = eqb-true a 0 t in clash (alone 5 (omega arith)) (rw (client_of a 0 d 2 r inserting e refl u.begins, does 5) at (u.still 5 (omega arith) (omega arith))))
    (λ t. by_test (eqb a 9)
    (λ s. let e = eqb-true a 9 s in rw (client_of a 9 d 1 r inserting e refl u.begins, e) p)
    (λ s. let e = eqb-true a 22 (rw (t, s) at y) in rw (client_of a 22 d 1 r inserting e refl u.begins, e) (q (omega arith))))

-- ---- What the theorem gives
was_quiescent : Quiescent example x 6 18 21
was_quiescent = record {
  quiet = λ i l m w d a o s. of_two (λ d a. EndedUnchanged example d a 18) i l (omega arith) w d a o
      (record { request = inserting; by = 14; before = omega arith; ending = both.0.0; says = inl both.0.1 })
      (λ y. absurd (omega arith));
  kept = kept 21 (omega arith);
}

pub spared : (result_at example 21).out ≡ Answered 1 true
unfolding value_in single
spared =
    let z = same_eq (on_file (mem_at example 21)) (1 ∷ 1 ∷ ask_key x) (alone 21 (omega arith)) in
    let one : length_in (answer_in (mem_at example 21)) ≡ 1 = cc in
    (demand_2_gets example x 18 21 _ fetch_21 6 17 was_filed (last_filed 21 (omega arith) (omega arith)) 6 (omega arith) (omega arith) (inr refl) was_quiescent).0
    ∙ ap (λ n. Answered n true) one

-- the first insert was open, and shares a node of x
pub not_all_quiet : AllQuiet example x 6 21 → ⊥
unfolding single
not_all_quiet k = clash (k.quiet 10 (omega arith) (omega arith)) (not-true _ (alone 10 (omega arith)))

-- ---- The other reading: a write that ends unchanged never counts, whenever it ends. Demand2's records without `before`
pub record EverUnchanged (h : History) (d a : ℕ) : Type 0 where
  pub request : Request
  pub by : ℕ
  pub ending : Ending h request d a by
  pub says : is_unchanged (result_at h by).out ≡ true

pub record NeverCounts (h : History) (x : Ask) (c n : ℕ) : Type 0 where
  pub quiet : (i : ℕ) → c < i → i ≤ n → (w : Write) (d a : ℕ) → Open h w d a i → Shares x w → EverUnchanged h d a
  pub kept : KeptNodes h x c n

-- Demand2's `GetsIt` with that condition
abbrev pub NeverCountsGets : History → Type 0
NeverCountsGets h = (x : Ask) (b n : ℕ) (e : Entry) (y : Fetches h x b n e) (b' f : ℕ) → Filed h x b' f → LastFiled h x f n
    → (c : ℕ) → c ≤ b → c ≤ b' → (c ≡ b) ⊎ (c ≡ b') → NeverCounts h x c n
    → ((result_at h n).out ≡ Answered (value_at h e).count true) × ((result_at h n).tray ≡ written y.tray 0 (value_at h e).numbers)

-- both inserts end unchanged, and the read of calls 24 to 27 finds the answer on file; but its fetch does not answer
pub never_would_fail : NeverCountsGets example → ⊥
unfolding call_at made_at ends_at ends_work all_below
never_would_fail f =
    let e = (f x 24 27 _ fetch_27 6 17 was_filed (last_filed 27 (omega arith) (omega arith)) 6 (omega arith) (omega arith) (inr refl) (record {
      quiet = λ i l m w d a o s. of_two (λ d a. EverUnchanged example d a) i l m w d a o
          (record { request = inserting; by = 14; ending = both.0.0; says = both.0.1 })
          (λ y. record { request = inserting; by = 31; ending = both.1.0; says = both.1.1 });
      kept = kept 27 (omega arith);
    })).0 in
    let u = runs reading 0 24 28 (omega arith) (omega arith) (omega arith) refl refl in
    clash refl (rw e at (u.still 27 (omega arith) (omega arith)))
