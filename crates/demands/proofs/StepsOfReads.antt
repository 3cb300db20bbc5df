-- Demand 2 of the steps of a read: the list that a table step takes, within the read's range, and the nodes that its looks look at. Leans on
-- StepsMade, NodeChanges and TableOrdered, and on records' RecordLists. Assumes nothing.
use mathlib.Core.Path.{◌≡◌, refl, sym, ap, ◌∙◌, subst}
use mathlib.Core.Bool.{Bool, true, false, ◌||◌, true≢false, cond}
use mathlib.Core.List.{List, [], ◌∷◌, ◌++◌}
use mathlib.Core.Option.{Option, none, some}
use Prim.Native.Nat.{ℕ, suc, ◌+◌, ◌*◌, ◌≤◌, ◌<◌}
use native.Mathlib.Omega.{arith}
use lib.Dec.{ltb, leb}
use lib.ListN.{length, get_or, take}
use lib.Seq.{get_or_at}
use borrow.Author.Tests.{lt-ltb, le-ltb, eq-eqb, ne_eqb, leb-true, leb-false}
use Rattle.lists.specs.Lists.{written, flat}
use Rattle.laws.proofs.TestLaws.{by_test, clash}
use Rattle.laws.proofs.WrittenLaws.{written_read, written_nil}
use Rattle.query.specs.declared.Range.{Range}
use Rattle.query.specs.Query.{Query, Record, Label, read_node, read_count}
use Rattle.query.specs.Encoding.{query_of, label_words, label_width}
use Rattle.query.specs.Graph.{E''}
use Rattle.query.specs.Shape.{Shape}
use Rattle.query.proofs.Agreement.{read_node_edge, read_edge_node}
use Rattle.rules.specs.declared.Outcome.TheVariants.{Accepted, Answered, Long}
use Rattle.rules.specs.Layout.{max_list, max_clients, look_room, max_records}
use Rattle.rules.specs.Table.{Table}
use Rattle.rules.specs.Nodes.{Store, is_present, node_of, revision, pending, ensured}
use Rattle.rules.specs.Answers.{revisions_in, Entry, revision_in, value_in, is_count}
use Rattle.rules.specs.Client.{Client, steps, entry_of, saw_pending, noted, holding}
use Rattle.rules.specs.Memory.{Mem, records_in, store_in}
use Rattle.rules.specs.Outcome.{StepResult, result_with}
use Rattle.rules.specs.Refusals.{form, shape, columns, client}
use Rattle.rules.specs.Steps.{now_at, answered, look_result, table_result, file_result, read_result}
use Rattle.query.specs.Range.{starred}
use Rattle.query.proofs.RangeLaws.{starred_same}
use Rattle.rules.specs.Sound.{Busy}
use Rattle.rules.specs.Work.{Ask, Value, of_records, value_of, may_answer, read_labels, Work, asking, Request, read_of, ask_of, work_of, of_number, value_for, list_within, work_fault}
use Rattle.rules.proofs.WorkLaws.{length_read_labels, read_label_at, read_label_wide, read_labels_most, fault_none}
use Rattle.records.proofs.RecordLists.{has_list, list_numbers, list_few}
use Rattle.refinement.proofs.Abstraction.{noted_of, state_of}
use Rattle.rules.proofs.HoldingLaws.{holding_value, Whole}
use Rattle.rules.proofs.ClientParts.{noted_revisions, noted_saw}
use Rattle.rules.proofs.AnswerLaws.{revision_at}
use Rattle.machine.specs.Machine.{looking, filing}
use Rattle.refinement.proofs.ClientPhases.{Left, fits_at, looking_phase, filing_phase}
use Rattle.refinement.proofs.StepFrame.{client_at}
use Rattle.refinement.proofs.Abstraction.{records_held, rows_held}
use Rattle.refinement.proofs.PhaseSteps.{noted_count, noted_left, holding_left}
use Rattle.demands.specs.WholeHistory.{History, shape_at, mem_at, result_at, accepted_at, ends_work, ends_at, UnderWay, steps_in, StepOf, call_at}
use Rattle.demands.specs.Demand2.{value_at}
use Rattle.demands.specs.Demand3.{IsAnswer}
use Rattle.demands.specs.Corollaries.{table_at}
use Rattle.demands.proofs.NodesWhole.{joined_of}
use Rattle.demands.specs.Demand2Whole.{nodes_at, entry_at, Joined, Disposes, long, answers, holds, ListsTaken, ListsFiled, LooksAt, Looks, ReadNodes, Answerable}
use Rattle.demands.proofs.HistoryRuns.{sound, next_mem}
use Rattle.demands.proofs.Works.{Since}
use Rattle.demands.proofs.TableOrdered.{demand_2_ascending, good_table}
use Rattle.demands.proofs.NodeChanges.{looked}
use Rattle.demands.proofs.NotesKept.{notes_in, Longer, notes_since}
use Rattle.demands.proofs.StepsMade.{standing, read_at, step_before, since_step, next_step, keeps_since, phase_since, no_twice, not_refused, nodes_after, client_after, client_now, few_nodes}
use Rattle.rules.specs.History.{tray_of}
use Rattle.rules.proofs.ClientLaws.{asked_counts}

-- ---- The reader
reader : (h : History) (counts : Bool) (range : Range) (a : List ℕ) (d b n i : ℕ) → StepOf h (read_of counts range a) d b n i
    → Busy (shape (mem_at h n)) (client (mem_at h n) d) (asking (ask_of (shape_at h) counts range a))
unfolding work_of
reader h counts range a d b n i s = (standing h (read_of counts range a) d b n i s).busy

looks_are : (h : History) (counts : Bool) (range : Range) (a : List ℕ) → length (read_labels (ask_of (shape_at h) counts range a)) ≡ read_count (query_of a)
unfolding ask_of
looks_are h counts range a = length_read_labels (ask_of (shape_at h) counts range a)

-- ---- The list taken
table_of : (m : Mem) (tray : List ℕ) (d : ℕ) (x : Ask) (i : ℕ) → i ≡ length (read_labels x) + 1
    → read_result m tray d x i ≡ table_result m tray d x (value_of x (records_in (columns m) m.table))
unfolding read_result
table_of m tray d x i e =
    rw (le-ltb i (length (read_labels x)) (omega arith), ne_eqb i (length (read_labels x)) (λ z. omega arith), eq-eqb i (length (read_labels x) + 1) e) refl

value_is : (sh : Shape) (counts : Bool) (range : Range) (a : List ℕ) (t : Table) → value_of (ask_of sh counts range a) t ≡ value_for counts (list_within range (query_of a) t)
unfolding value_of ask_of
value_is sh counts range a t = refl

-- what the list of a query is on the table, by the shape of the memories
listed : (h : History) (counts : Bool) (range : Range) (a : List ℕ) (n : ℕ) → n ≤ length h.calls
    → value_of (ask_of (shape_at h) counts range a) (records_in (columns (mem_at h n)) (mem_at h n).table) ≡ value_for counts (list_within range (query_of a) (table_at h n))
listed h counts range a n l =
    value_is (shape_at h) counts range a _ ∙ ap (λ (sh : Shape). value_for counts (list_within range (query_of a) (records_in sh.columns (mem_at h n).table))) (sound h n l).shape

table_result_law : (h : History) (counts : Bool) (range : Range) (a : List ℕ) (d b n : ℕ) (s : StepOf h (read_of counts range a) d b n (read_count (query_of a) + 1))
    → result_at h n ≡ table_result (mem_at h n) s.tray d (ask_of (shape_at h) counts range a) (value_for counts (list_within range (query_of a) (table_at h n)))
table_result_law h counts range a d b n s =
    let l = s.within in
    let c = looks_are h counts range a in
    read_at h counts range a d b n (read_count (query_of a) + 1) s
    ∙ table_of (mem_at h n) s.tray d (ask_of (shape_at h) counts range a) (read_count (query_of a) + 1) (omega arith)
    ∙ ap (table_result (mem_at h n) s.tray d (ask_of (shape_at h) counts range a)) (listed h counts range a n (omega arith))

whole : (h : History) (range : Range) (q : Query) (n : ℕ) → n ≤ length h.calls
    → length (flat (list_within range q (table_at h n))) ≡ length (list_within range q (table_at h n)) * h.k
whole h range q n l =
    let m = mem_at h n in
    let s = sound h n l in
    let k : columns m ≡ h.k = ap (λ (sh : Shape). sh.columns) s.shape in
    let w = records_held m s.fits in
    list_numbers range q (table_at h n) h.k (rw k at w)

out_of : {x y : StepResult} → x ≡ y → x.out ≡ y.out
out_of e = ap (λ (r : StepResult). r.out) e

tray_of_law : {x y : StepResult} → x ≡ y → x.tray ≡ y.tray
tray_of_law e = ap (λ (r : StepResult). r.tray) e

-- the three ways of a table step with the value v
module _ (m : Mem) (tray : List ℕ) (d : ℕ) (x : Ask) (v : Value) where
  goes_long : may_answer x v ≡ false → (table_result m tray d x v).out ≡ Long
  unfolding table_result
  goes_long e = rw e refl

  goes_answer : may_answer x v ≡ true → saw_pending (client m d) ≡ true
      → ((table_result m tray d x v).out ≡ Answered v.count false) × ((table_result m tray d x v).tray ≡ written tray 0 v.numbers)
  unfolding table_result answered
  goes_answer e s = rw (e, s) (refl, refl)

  goes_on : may_answer x v ≡ true → saw_pending (client m d) ≡ false
      → table_result m tray d x v ≡ result_with Accepted (now_at m d (holding (shape m) v (client m d))) tray
  unfolding table_result
  goes_on e s = rw (e, s) refl

-- a count may always be answered, a list of at most 32
may_is : (sh : Shape) (counts : Bool) (range : Range) (a : List ℕ) (l : List Record) (b : Bool) → may_answer (ask_of sh counts range a) (value_for counts l) ≡ b
    → counts || leb (length l) max_list ≡ b
unfolding may_answer ask_of of_records
may_is sh true range a l b e = e
may_is sh false range a l b e = e

may_few : (counts : Bool) (l : List Record) → counts || leb (length l) max_list ≡ true → Answerable counts l
may_few true l e f = absurd (true≢false f)
may_few false l e f = leb-true (length l) max_list e

may_not : (counts : Bool) (l : List Record) → counts || leb (length l) max_list ≡ false → (counts ≡ false) × (max_list < length l)
may_not true l e = absurd (true≢false e)
may_not false l e = (refl, leb-false (length l) max_list e)

answered_value : (counts : Bool) (l : List Record) (k : ℕ) (tray t : List ℕ) → length (flat l) ≡ length l * k → t ≡ written tray 0 (value_for counts l).numbers
    → IsAnswer counts k l (length l) tray t
unfolding of_records of_number
answered_value true l k tray t w e = record { counted = refl; untouched = e ∙ written_nil tray 0 }
answered_value false l k tray t w e = record { counted = refl; records = ap (take (length l * k)) e ∙ written_read tray (flat l) (length l * k) w }

count_of : (counts : Bool) (l : List Record) → (value_for counts l).count ≡ length l
unfolding of_records of_number
count_of true l = refl
count_of false l = refl

whole_of : (sh : Shape) (counts : Bool) (l : List Record) → length (flat l) ≡ length l * sh.columns → Whole sh counts (value_for counts l)
unfolding of_records of_number
whole_of sh true l e = refl
whole_of sh false l e = e

most_of : (counts : Bool) (l : List Record) → Answerable counts l → length l ≤ max_records → (value_for counts l).count ≤ cond counts max_records max_list
most_of true l f m = rw (count_of true l) m
most_of false l f m = rw (count_of false l) (f refl)

-- the tray that a step is lent
step_lent : (h : History) (r : Request) (d b n i : ℕ) (s : StepOf h r d b n i) → tray_of (call_at h n) ≡ s.tray
unfolding tray_of
step_lent h r d b n i s = ap tray_of s.calls

-- what the client's key says; no more records lie in a query than the table has; and what a table step that goes on leaves
asks_counts : (h : History) (counts : Bool) (range : Range) (a : List ℕ) (d b n i : ℕ) → StepOf h (read_of counts range a) d b n i → is_count (entry_of (client (mem_at h n) d)) ≡ counts
unfolding ask_of
asks_counts h counts range a d b n i s = asked_counts (reader h counts range a d b n i s)

short_list : (h : History) (range : Range) (q : Query) (n : ℕ) → n ≤ length h.calls → length (list_within range q (table_at h n)) ≤ max_records
short_list h range q n l = let a = list_few range q (table_at h n) in let b = (good_table h n l).most in omega arith

holding_read : (h : History) (counts : Bool) (range : Range) (a : List ℕ) (d b n i : ℕ) → StepOf h (read_of counts range a) d b n i → (v : Value) → Whole (shape (mem_at h n)) counts v
    → v.count ≤ cond counts max_records max_list → steps (client (mem_at h n) d) ≡ length (read_labels (ask_of (shape_at h) counts range a)) + 1
    → Left (shape (mem_at h n)) (holding (shape (mem_at h n)) v (client (mem_at h n) d))
    (filing (ask_of (shape_at h) counts range a) (noted_of (ask_of (shape_at h) counts range a) (entry_of (client (mem_at h n) d))) v)
unfolding ask_of
holding_read h counts range a d b n i s v w m e = holding_left (reader h counts range a d b n i s) v w m e

list_goes : (h : History) (counts : Bool) (range : Range) (a : List ℕ) (d b n : ℕ) → StepOf h (read_of counts range a) d b n (read_count (query_of a) + 1)
    → Disposes h counts d n (list_within range (query_of a) (table_at h n))
list_goes h counts range a d b n s =
    let low = s.within in
    let m = mem_at h n in
    let x = ask_of (shape_at h) counts range a in
    let l = list_within range (query_of a) (table_at h n) in
    let v = value_for counts l in
    let S = sound h n (omega arith) in
    let R = table_result_law h counts range a d b n s in
    let B = reader h counts range a d b n _ s in
    let st = standing h (read_of counts range a) d b n _ s in
    let k : columns m ≡ h.k = ap (λ (sh : Shape). sh.columns) S.shape in
    let c = looks_are h counts range a in
    let W : length (flat l) ≡ length l * h.k = whole h range (query_of a) n (omega arith) in
    let W' : Whole (shape m) counts v = whole_of (shape m) counts l (rw k W) in
    let G = is_count (entry_of (client m d)) in
    let I : G ≡ counts = asks_counts h counts range a d b n _ s in
    let most : length l ≤ max_records = short_list h range (query_of a) n (omega arith) in
    by_test (may_answer x v)
    (λ t. let few = may_few counts l (may_is (shape_at h) counts range a l true t) in
    by_test (saw_pending (client m d))
    (λ p. let z = goes_answer m s.tray d x v t p in
    answers few p (length l) (out_of R ∙ z.0 ∙ ap (λ i. Answered i false) (count_of counts l))
    (rw (step_lent h (read_of counts range a) d b n _ s) (answered_value counts l h.k s.tray _ W (tray_of_law R ∙ z.1))))
    (λ p. let z = goes_on m s.tray d x v t p in
    let H = holding (shape m) v (client m d) in
    let made = st.made in
    let L = holding_read h counts range a d b n _ s v W' (most_of counts l few most) (omega arith) in
    let after : client (mem_at h (suc n)) d ≡ H =
    ap (λ (t : Mem). client t d) (next_mem h n low ∙ ap (λ (r : StepResult). r.mem) (R ∙ z)) ∙ client_now m d H S.fits st.low L.wide in
    holds few p (out_of (R ∙ z))
    (ap (λ t. value_in (shape_at h) (entry_of t)) after ∙ ap (λ sh. value_in sh (entry_of H)) (sym S.shape) ∙ holding_value (client m d) B.wide (shape m) v (rw I W'))))
    (λ t. let f = may_not counts l (may_is (shape_at h) counts range a l false t) in long f.0 f.1 (out_of R ∙ goes_long m s.tray d x v t))

pub lists_taken : (h : History) → ListsTaken h
lists_taken h counts range a d b n s =
    let low = s.within in
    record {
      list = list_within range (query_of a) (table_at h n);
      is = refl;
      exact = has_list range (query_of a) (table_at h n);
      ascends = (demand_2_ascending h n (omega arith)).1 range (query_of a);
      goes = list_goes h counts range a d b n s;
    }

-- ---- The list filed
file_of : (m : Mem) (tray : List ℕ) (d : ℕ) (x : Ask) (i : ℕ) → i ≡ length (read_labels x) + 2 → read_result m tray d x i ≡ file_result m tray d (entry_of (client m d))
unfolding read_result
file_of m tray d x i e =
    let n = length (read_labels x) in
    rw (le-ltb i n (omega arith), ne_eqb i n (λ z. omega arith), ne_eqb i (n + 1) (λ z. omega arith)) refl

filed_value : {x y : Ask} {ns ms : List ℕ} {v u : Value} → filing x ns v ≡ filing y ms u → v ≡ u
filed_value e = cc

-- a read under way has not ended
on_way : {A : Type 0} (h : History) (r : Request) (d b n t i : ℕ) → UnderWay h r d b n → t < n → StepOf h r d b t i → ends_work (result_at h t).out ≡ true → A
unfolding ends_at
on_way h r d b n t i u l s e =
    clash (ap (λ c. ends_at d c (result_at h t).out) s.calls ∙ rw (eq-eqb d d refl, e) refl) (unfold ends_at in u.still t s.runs.earlier l)

goes_held : (h : History) (counts : Bool) (r : Request) (d b n t i : ℕ) (l : List Record) → UnderWay h r d b n → t < n → StepOf h r d b t i → Disposes h counts d t l
    → value_at h (entry_at h (suc t) d) ≡ value_for counts l
unfolding ends_work
goes_held h counts r d b n t i l u k s (long g f o) = on_way h r d b n t i u k s (unfold ends_work in ap ends_work o)
goes_held h counts r d b n t i l u k s (answers f p c o w) = on_way h r d b n t i u k s (unfold ends_work in ap ends_work o)
goes_held h counts r d b n t i l u k s (holds f p o v) = v

-- up to an earlier call
since_less : (h : History) (x : Work) (d b n i : ℕ) → Since h x d b n → b < i → i ≤ n → Since h x d b i
since_less h x d b n i s l m =
    let w = s.within in
    let u = s.runs in
    record {
      request = s.request;
      is = s.is;
      within = omega arith;
      runs = record { begins = u.begins; accepted = u.accepted; earlier = l; still = λ j o p. u.still j o (omega arith) };
    }

since_read_step : (h : History) (counts : Bool) (range : Range) (a : List ℕ) (d b n i : ℕ) → StepOf h (read_of counts range a) d b n i
    → Since h (asking (ask_of (shape_at h) counts range a)) d b n
unfolding work_of
since_read_step h counts range a d b n i s = since_step h (read_of counts range a) d b n i s

-- a read at its file step
filing_at : (h : History) (counts : Bool) (range : Range) (a : List ℕ) (d b n : ℕ) → Since h (asking (ask_of (shape_at h) counts range a)) d b n
    → steps_in h d b n ≡ read_count (query_of a) + 2
    → (state_of (mem_at h n)).clients d ≡ filing (ask_of (shape_at h) counts range a) (noted_of (ask_of (shape_at h) counts range a) (entry_at h n d)) (value_at h (entry_at h n d))
filing_at h counts range a d b n s e =
    let x = ask_of (shape_at h) counts range a in
    let k = keeps_since h (asking x) d b n _ s e in
    let c = looks_are h counts range a in
    let made = k.made in
    client_at (mem_at h n) d k.low ∙ filing_phase k.busy (omega arith)
    ∙ ap (λ sh. filing x (noted_of x (entry_at h n d)) (value_in sh (entry_at h n d))) (sound h n s.within).shape

held_from : (h : History) (counts : Bool) (range : Range) (a : List ℕ) (d b n t : ℕ) → StepOf h (read_of counts range a) d b n (read_count (query_of a) + 2) → t < n
    → StepOf h (read_of counts range a) d b t (read_count (query_of a) + 1) → value_at h (entry_at h n d) ≡ value_for counts (list_within range (query_of a) (table_at h t))
held_from h counts range a d b n t s l u =
    let x = ask_of (shape_at h) counts range a in
    let since = since_read_step h counts range a d b n _ s in
    let early = u.runs.earlier in
    let two : suc (read_count (query_of a) + 1) ≡ read_count (query_of a) + 2 = omega arith in
    let one : steps_in h d b (suc t) ≡ read_count (query_of a) + 2 = next_step h (read_of counts range a) d b t _ u ∙ two in
    let p = phase_since h (asking x) d b n (suc t) since (omega arith) (omega arith) (one ∙ sym s.made) n (omega arith) (omega arith) in
    filed_value (sym (filing_at h counts range a d b n since s.made) ∙ p
    ∙ filing_at h counts range a d b (suc t) (since_less h (asking x) d b n (suc t) since (omega arith) (omega arith)) one)
    ∙ goes_held h counts (read_of counts range a) d b n t _ _ s.runs l u (list_goes h counts range a d b t u)

file_says : (m : Mem) (tray : List ℕ) (d : ℕ) (e : Entry)
    → ((file_result m tray d e).out ≡ Answered (value_in (shape m) e).count false) × ((file_result m tray d e).tray ≡ written tray 0 (value_in (shape m) e).numbers)
unfolding file_result answered
file_says m tray d e = (refl, refl)

-- ---- The looks
look_of : (m : Mem) (tray : List ℕ) (d : ℕ) (x : Ask) (i : ℕ) → i < length (read_labels x)
    → read_result m tray d x i ≡ look_result m tray d i (get_or (read_labels x) i []) (ensured (get_or (read_labels x) i []) (store_in (form m) m.nodes))
unfolding read_result
look_of m tray d x i l = rw (lt-ltb i (length (read_labels x)) l) refl

-- what it notes
noted_there : {sh : Shape} {c : Client} {x : Ask} → Busy sh c (asking x) → (j r p : ℕ) → j < length (read_labels x) → j < look_room
    → (revision_in (entry_of (noted j r p c)) j ≡ r) × (saw_pending (noted j r p c) ≡ (saw_pending c || ltb 0 p))
noted_there {sh} {c} {x} b j r p l g = (
  sym (revision_at (suc j) (entry_of (noted j r p c)) j (omega arith)) ∙ ap (λ e. get_or e j 0) (noted_revisions c b.wide j r p g)
      ∙ get_or_at (revisions_in j (entry_of c)) r [] 0 j (noted_count b j (omega arith)),
  noted_saw c b.wide j r p g,
)

look_some : (h : History) (p : Label) (x : Ask) (d n i : ℕ) (tray : List ℕ) (t : Store) → n < length h.calls → d < max_clients
    → Busy (shape (mem_at h n)) (client (mem_at h n) d) (asking x) → steps (client (mem_at h n) d) ≡ i → i < length (read_labels x)
    → length (label_words p) ≡ label_width → ensured (label_words p) (nodes_at h n) ≡ some t
    → result_at h n ≡ look_result (mem_at h n) tray d i (label_words p) (some t) → LooksAt h p d n i
unfolding look_result
look_some h p x d n i tray t low dl B made il five e R =
    let m = mem_at h n in
    let S = sound h n (omega arith) in
    let c = client m d in
    let w = label_words p in
    let r = revision (node_of w t) in
    let q = pending (node_of w t) in
    let N = noted i r q c in
    let L = looked w (nodes_at h n) t five (no_twice h n (omega arith)) (rows_held m S.fits) e in
    let room : i < look_room = let a = read_labels_most x (let f = (fits_at B).columns in let y = B.most in omega arith) in omega arith in
    let mem = next_mem h n low ∙ ap (λ (k : StepResult). k.mem) R in
    let st : nodes_at h (suc n) ≡ t = ap (λ (k : Mem). store_in (form k) k.nodes) mem ∙ nodes_after m t d N S.fits L.ensured.2 (L.ensured.3 (few_nodes m S.fits)) in
    let left = subst (λ j. Left (shape m) (noted j r q c) (looking x (revisions_in (steps c) (entry_of c) ++ (r ∷ [])) (saw_pending c || ltb 0 q))) made (noted_left B r q (omega arith)) in
    let cl : client (mem_at h (suc n)) d ≡ N = ap (λ (k : Mem). client k d) mem ∙ client_after m t d N S.fits dl left.wide in
    let y = noted_there B i r q il room in
    record {
      whole = subst (λ k. Joined p (nodes_at h n) k) (sym st) (joined_of p (nodes_at h n) t e);
      there = ap (is_present w) st ∙ L.there;
      kept = λ j. st ∙ L.kept j;
      added = λ j. (ap (λ (k : Store). revision (node_of w k)) st ∙ (L.added j).0 ∙ ap (λ (k : Store). k.floor) (sym st), ap (λ (k : Store). pending (node_of w k)) st ∙ (L.added j).1);
      notes = ap (λ k. revision_in (entry_of k) i) cl ∙ y.0 ∙ ap (λ (k : Store). revision (node_of w k)) (sym st);
      sees = ap saw_pending cl ∙ y.1 ∙ ap (λ (k : Store). saw_pending c || ltb 0 (pending (node_of w k))) (sym st);
    }

look_case : (h : History) (p : Label) (x : Ask) (d n i : ℕ) (tray : List ℕ) (o : Option Store) → n < length h.calls → d < max_clients
    → Busy (shape (mem_at h n)) (client (mem_at h n) d) (asking x) → steps (client (mem_at h n) d) ≡ i → i < length (read_labels x)
    → length (label_words p) ≡ label_width → accepted_at h n ≡ true → ensured (label_words p) (nodes_at h n) ≡ o
    → result_at h n ≡ look_result (mem_at h n) tray d i (label_words p) o → LooksAt h p d n i
unfolding look_result
look_case h p x d n i tray none low dl B made il five a e R = not_refused h n (mem_at h n) tray a R
look_case h p x d n i tray (some t) low dl B made il five a e R = look_some h p x d n i tray t low dl B made il five e (unfold look_result in R)

ask_query : (sh : Shape) (counts : Bool) (range : Range) (a : List ℕ) → (ask_of sh counts range a).query ≡ query_of a
unfolding ask_of
ask_query sh counts range a = refl

pub looks : (h : History) → Looks h
looks h counts range a d b n i il s =
    let low = s.within in
    let m = mem_at h n in
    let x = ask_of (shape_at h) counts range a in
    let c = looks_are h counts range a in
    let B = reader h counts range a d b n i s in
    let st = standing h (read_of counts range a) d b n i s in
    let p = read_node (query_of a) i in
    let g = get_or (read_labels x) i [] in
    let is : g ≡ label_words p = read_label_at x i (omega arith) ∙ ap (λ q. label_words (read_node q i)) (ask_query (shape_at h) counts range a) in
    let five : length g ≡ label_width = read_label_wide x i (let f = (fits_at B).columns in let y = B.most in omega arith) (omega arith) in
    look_case h p x d n i s.tray (ensured (label_words p) (nodes_at h n)) low st.low B st.made (omega arith) (ap length (sym is) ∙ five) s.accepted refl
    (read_at h counts range a d b n i s ∙ look_of m s.tray d x i (omega arith) ∙ ap (λ k. look_result m s.tray d i k (ensured k (nodes_at h n))) is)

-- ---- The list filed, under what the looks noted
looking_at : (h : History) (counts : Bool) (range : Range) (a : List ℕ) (d b n i : ℕ) → Since h (asking (ask_of (shape_at h) counts range a)) d b n → steps_in h d b n ≡ i
    → i ≤ read_count (query_of a)
    → (saw : Bool) × ((state_of (mem_at h n)).clients d ≡ looking (ask_of (shape_at h) counts range a) (revisions_in i (entry_at h n d)) saw)
looking_at h counts range a d b n i s e l =
    let x = ask_of (shape_at h) counts range a in
    let k = keeps_since h (asking x) d b n i s e in
    let c = looks_are h counts range a in
    let made = k.made in
    let saw = saw_pending (client (mem_at h n) d) in
    (saw, client_at (mem_at h n) d k.low ∙ looking_phase k.busy (omega arith) ∙ ap (λ j. looking x (revisions_in j (entry_at h n d)) saw) made)

revisions_count : (h : History) (counts : Bool) (range : Range) (a : List ℕ) (d b n i : ℕ) → Since h (asking (ask_of (shape_at h) counts range a)) d b n → steps_in h d b n ≡ i
    → i ≤ read_count (query_of a)
    → length (revisions_in i (entry_at h n d)) ≡ i
revisions_count h counts range a d b n i s e l =
    let c = looks_are h counts range a in
    noted_count (keeps_since h (asking (ask_of (shape_at h) counts range a)) d b n i s e).busy i (omega arith)

noted_from : (h : History) (counts : Bool) (range : Range) (a : List ℕ) (d b n t i : ℕ) → StepOf h (read_of counts range a) d b n (read_count (query_of a) + 2) → t < n
    → i < read_count (query_of a)
    → StepOf h (read_of counts range a) d b t i → revision_in (entry_at h n d) i ≡ revision_in (entry_at h (suc t) d) i
unfolding notes_in
noted_from h counts range a d b n t i s l k u =
    let x = ask_of (shape_at h) counts range a in
    let since = since_read_step h counts range a d b n _ s in
    let early = u.runs.earlier in
    let before = since_less h (asking x) d b n (suc t) since (omega arith) (omega arith) in
    let one = next_step h (read_of counts range a) d b t i u in
    let c = looks_are h counts range a in
    let p = filing_at h counts range a d b n since s.made in
    let o = (looking_at h counts range a d b (suc t) (suc i) before one (omega arith)).1 in
    let r = revisions_count h counts range a d b (suc t) (suc i) before one (omega arith) in
    let g = notes_since h x d b n (suc t) since (omega arith) n (omega arith) (omega arith) in
    let y : Longer (revisions_in (suc i) (entry_at h (suc t) d)) (noted_of x (entry_at h n d)) =
    subst (λ z. Longer (revisions_in (suc i) (entry_at h (suc t) d)) z) (ap notes_in p)
    (subst (λ z. Longer z (notes_in ((state_of (mem_at h n)).clients d))) (ap notes_in o) (unfold notes_in in g)) in
    sym (revision_at (length (read_labels x)) (entry_at h n d) i (omega arith)) ∙ y.stay i (omega arith) ∙ revision_at (suc i) (entry_at h (suc t) d) i (omega arith)

pub lists_filed : (h : History) → ListsFiled h
lists_filed h counts range a d b n s =
    let low = s.within in
    let m = mem_at h n in
    let q = query_of a in
    let c = looks_are h counts range a in
    let y = step_before h (read_of counts range a) d b n (read_count q + 2) (read_count q + 1) s (omega arith) in
    let t = y.0 in
    let early = y.1 in
    let l = list_within range q (table_at h t) in
    let H = held_from h counts range a d b n t s early y.2 in
    let R = read_at h counts range a d b n (read_count q + 2) s ∙ file_of m s.tray d (ask_of (shape_at h) counts range a) (read_count q + 2) (omega arith) in
    let f = file_says m s.tray d (entry_at h n d) in
    let value : value_in (shape m) (entry_at h n d) ≡ value_for counts l = ap (λ sh. value_in sh (entry_at h n d)) (sound h n (omega arith)).shape ∙ H in
    record {
      at = t;
      before = early;
      takes = y.2;
      held = H;
      count = length l;
      says = out_of R ∙ f.0 ∙ ap (λ (v : Value). Answered v.count false) value ∙ ap (λ i. Answered i false) (count_of counts l);
      list = rw (step_lent h (read_of counts range a) d b n _ s) (answered_value counts l h.k s.tray _ (whole h range q t (omega arith))
          (tray_of_law R ∙ f.1 ∙ ap (λ (v : Value). written s.tray 0 v.numbers) value));
      noted = λ i k.
          let z = step_before h (read_of counts range a) d b n (read_count q + 2) i s (omega arith) in
          (z.0, z.1, z.2, noted_from h counts range a d b n z.0 i s z.1 k z.2 ∙ (looks h counts range a d b z.0 i k z.2).notes);
    }

-- ---- All of definition 11's nodes, and no others
-- a ranged column is a star of the query
star_is : (h : History) (counts : Bool) (range : Range) (a : List ℕ) (d b n i : ℕ) → StepOf h (read_of counts range a) d b n i → starred range (query_of a) ≡ query_of a
unfolding work_fault ask_of
star_is h counts range a d b n i s =
    starred_same (shape_at h) (query_of a) range (fault_none (ask_of (shape_at h) counts range a) (reader h counts range a d b n i s).fault).0

pub read_nodes : (h : History) → ReadNodes h
read_nodes h counts range a d b n i s l p = (
  (λ c. rw (star_is h counts range a d b n i s) (subst (λ k. E'' k (query_of a)) c.is (read_node_edge (query_of a) c.number))),
  (λ e. let z = read_edge_node (query_of a) p (rw (star_is h counts range a d b n i s) at e) in
      let low = z.1 in
      let y = step_before h (read_of counts range a) d b n i (0 + z.0) s (omega arith) in
      record { number = z.0; low = low; at = y.0; before = y.1; steps = y.2; is = z.2 }),
)
