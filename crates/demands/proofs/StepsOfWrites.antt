-- Demand 2 of the steps of a write: what its table step does to the table's records, that no other call changes them, and the nodes that it
-- marks and raises (how it raises them is in Raisings). Leans on StepsMade, NodeChanges, WriteEffects and machine's Transition. Assumes nothing.
use mathlib.Core.Path.{◌≡◌, refl, sym, ap, ◌∙◌, subst}
use mathlib.Core.Logic.{inl, inr}
use mathlib.Core.Bool.{Bool, true, false, not, false≢true, true≢false}
use mathlib.Core.List.{List, []}
use mathlib.Core.Option.{Option, none, some}
use Prim.Native.Nat.{ℕ, suc, ◌+◌, ◌-◌, ◌^◌, ◌≤◌, ◌<◌}
use native.Mathlib.Omega.{arith}
use lib.Dec.{eqb}
use lib.ListN.{length, get_or}
use borrow.Author.Tests.{lt-ltb, le-ltb, eq-eqb, eqb-true, eqb-false}
use Rattle.laws.proofs.TestLaws.{by_test}
use Rattle.query.specs.Query.{Record, Label, write_node, write_count}
use Rattle.query.specs.Encoding.{query_of, record_of, label_words, label_width}
use Rattle.query.specs.Graph.{E'}
use Rattle.query.specs.Shape.{Shape}
use Rattle.query.proofs.Agreement.{write_node_edge, write_edge_node}
use Rattle.rules.specs.Layout.{max_nodes}
use Rattle.rules.specs.Table.{Table, Change, insert, delete, target, has, effect, is_full, no_room}
use Rattle.rules.specs.Nodes.{has_label, Words, Store, is_present, node_of, revision, pending, announced, retired}
use Rattle.rules.specs.Client.{stepped}
use Rattle.rules.specs.Memory.{Mem, records_in, store_in}
use Rattle.rules.specs.Outcome.{StepResult}
use Rattle.rules.specs.Refusals.{form, shape, columns, client}
use Rattle.rules.specs.Steps.{now_at, announce_result, write_table_result, write_result}
use Rattle.rules.specs.Sound.{Busy}
use Rattle.rules.specs.Work.{Write, write_labels, Work, asking, writing, Request, read_of, insert_of, delete_of, work_of}
use Rattle.rules.proofs.WorkLaws.{length_write_labels, write_label_at, write_label_wide}
use Rattle.records.proofs.RecordWrites.{of_width, effect_wide, effect_few, effect_there, effect_full, effect_put}
use Rattle.records.proofs.RecordSets.{has_insert, has_delete}
use Rattle.revisions.proofs.NodeRows.{AllRows}
use Rattle.revisions.proofs.NodeOperations.{AnnouncedOk, announced_ok, RetiredOk, RetiredTo, retired_ok, present_has}
use Rattle.machine.specs.Machine.{State, announcing, Response, is_refused, at_client, with_store, with_filing, with_tab}
use Rattle.machine.specs.Transition.{Transition}
use Rattle.machine.proofs.StateInv.{fit_at}
use Rattle.machine.proofs.TraceInv.{JobOk}
use Rattle.machine.proofs.Claims.{fresh}
use Rattle.machine.proofs.Log.{after, JobFrom, linked}
use Rattle.refinement.proofs.Abstraction.{state_of, call_of, Fits}
use Rattle.rules.proofs.MemoryLaws.{length_records, records_with}
use Rattle.refinement.proofs.Abstraction.{records_held, rows_held}
use Rattle.demands.specs.WholeHistory.{History, shape_at, mem_at, call_at, result_at, accepted_at, StepOf}
use Rattle.demands.specs.Corollaries.{table_at, Begins, inserting, deleting}
use Rattle.demands.specs.Demand2Whole.{nodes_at, Inserts, Deletes, WritesTable, OnlyWrites, MarkedIn, OthersStay, Marks, MarksSet, MarkedNodes, RaisedNodes}
use Rattle.demands.proofs.HistoryRuns.{response_at, log_to, sound, next_mem, transition_at}
use Rattle.demands.proofs.LogPlaces.{accepted_at_law, Begun, under_places}
use Rattle.demands.proofs.Works.{Since}
use Rattle.demands.proofs.Demand3Holds.{table_is}
use Rattle.demands.proofs.WriteEffects.{of, write_begins}
use Rattle.demands.proofs.NodeChanges.{marked, marked_new, TakenOff, taken_off}
use Rattle.demands.proofs.NodesWhole.{Only, marked_of, retired_only}
use Rattle.revisions.specs.EffectiveRevision.{tally, lifts}
use Rattle.demands.proofs.StepsMade.{Under, under_step, keeps_since, write_at, step_before, no_twice, not_refused, nodes_after, few_nodes, nodes_count, made_in, made_since}
use Rattle.rules.specs.History as rules
use Rattle.machine.specs.Machine as machine

-- ---- The writer, and how many nodes it has
pub since_under : (h : History) (r : Request) (w : Change) → Begins r w → (d b n : ℕ) → Under h r d b n → Since h (writing (of h w)) d b n
since_under h r w B d b n u = record { request = r; is = write_begins h r w B; within = u.0; runs = u.1 }

pub writer : (h : History) (r : Request) (w : Change) → Begins r w → (d b n : ℕ) → Under h r d b n
    → Busy (shape (mem_at h n)) (client (mem_at h n) d) (writing (of h w))
writer h r w B d b n u = (keeps_since h (writing (of h w)) d b n _ (since_under h r w B d b n u) refl).busy

pub count : (h : History) (r : Request) (w : Change) → Begins r w → (d b n : ℕ) → Under h r d b n
    → (length (write_labels (of h w)) ≡ 2 ^ (shape_at h).columns) × (length (target w) ≡ (shape_at h).columns)
count h r w B d b n u = nodes_count h (of h w) d n u.0 (writer h r w B d b n u)

-- ---- The table step
table_of : (m : Mem) (tray : List ℕ) (d : ℕ) (w : Write) (i : ℕ) → i ≡ length (write_labels w) → write_result m tray d w i ≡ write_table_result m tray d w.change
unfolding write_result
table_of m tray d w i e = rw (le-ltb i (length (write_labels w)) (omega arith), eq-eqb i (length (write_labels w)) e) refl

written_table : (m : Mem) (tray : List ℕ) (d : ℕ) (c : Change) → Fits m → length (target c) ≡ columns m
    → records_in (columns m) (write_table_result m tray d c).mem.table ≡ effect c (records_in (columns m) m.table)
unfolding write_table_result now_at
written_table m tray d c f l =
    let t = records_in (columns m) m.table in
    let n = length_records (columns m) m.table in
    let y = f.records in
    records_with (columns m) m.table f.few f.long.table f.records (effect c t)
    (effect_wide (columns m) c t (of_width (columns m) c l) (records_held m f)) (effect_few c t (omega arith))

pub takes_effect : (h : History) (r : Request) (w : Change) → Begins r w → (d b n : ℕ) → StepOf h r d b n (2 ^ (shape_at h).columns)
    → table_at h (suc n) ≡ effect w (table_at h n)
takes_effect h r w B d b n s =
    let low = s.within in
    let m = mem_at h n in
    let S = sound h n (omega arith) in
    let k : columns m ≡ h.k = ap (λ (sh : Shape). sh.columns) S.shape in
    let c = count h r w B d b n (under_step s) in
    let N = c.0 in
    let R = write_at h r (of h w) d b n _ (write_begins h r w B) s ∙ table_of m s.tray d (of h w) (2 ^ (shape_at h).columns) (omega arith) in
    let z = written_table m s.tray d w S.fits (c.1 ∙ sym k) in
    ap (λ (t : Mem). records_in h.k t.table) (next_mem h n low ∙ ap (λ (x : StepResult). x.mem) R) ∙ (rw k at z)

no_room_law : (r : Record) (t : Table) → is_full r t ≡ false → no_room (insert r) t ≡ false
unfolding no_room
no_room_law r t e = e

pub inserts : (h : History) → Inserts h
inserts h a d b n s =
    let r = record_of (query_of a) in
    let t = table_at h n in
    let z = takes_effect h (insert_of a) (insert r) (inserting a) d b n s in
    record {
      there = λ e. z ∙ effect_there r t e;
      full = λ l. z ∙ effect_full r t l;
      put = λ e l. z ∙ effect_put r t e l;
      exact = λ e x. ap (has x) z ∙ has_insert x r t (no_room_law r t e);
    }

pub deletes : (h : History) → Deletes h
deletes h a d b n s =
    let z = takes_effect h (delete_of a) (delete (query_of a)) (deleting a) d b n s in
    record { is = z; exact = λ x. ap (has x) z ∙ has_delete x (query_of a) (table_at h n) }

-- ---- A mark
mark_of : (m : Mem) (tray : List ℕ) (d : ℕ) (w : Write) (i : ℕ) → i < length (write_labels w)
    → write_result m tray d w i ≡ announce_result m tray d (announced (get_or (write_labels w) i []) (store_in (form m) m.nodes))
unfolding write_result
mark_of m tray d w i l = rw (lt-ltb i (length (write_labels w)) l) refl

mark_some : (h : History) (p : Label) (d n : ℕ) (tray : List ℕ) (t : Store) → n < length h.calls → length (label_words p) ≡ label_width
    → announced (label_words p) (nodes_at h n) ≡ some t → result_at h n ≡ announce_result (mem_at h n) tray d (some t) → Marks h p n
unfolding announce_result
mark_some h p d n tray t low five e R =
    let m = mem_at h n in
    let S = sound h n (omega arith) in
    let w = label_words p in
    let once = no_twice h n (omega arith) in
    let rows = rows_held m S.fits in
    let A : AnnouncedOk w (nodes_at h n) (some t) = subst (λ o. AnnouncedOk w (nodes_at h n) o) e (announced_ok w (nodes_at h n) five once rows) in
    let L = marked w (nodes_at h n) t A.0 in
    let st : nodes_at h (suc n) ≡ t =
    ap (λ (k : Mem). store_in (form k) k.nodes) (next_mem h n low ∙ ap (λ (k : StepResult). k.mem) R)
    ∙ nodes_after m t d (stepped (client m d)) S.fits A.1 (A.2 (few_nodes m S.fits)) in
    record {
      whole = subst (λ k. MarkedIn p (nodes_at h n) k) (sym st) (marked_of p (nodes_at h n) t e);
      there = ap (is_present w) st ∙ L.there;
      marked = ap (λ (k : Store). pending (node_of w k)) st ∙ L.marked;
      kept = λ i. ap (λ (k : Store). revision (node_of w k)) st ∙ L.kept i;
      added = λ i. ap (λ (k : Store). revision (node_of w k)) st
          ∙ marked_new w (nodes_at h n) t five once rows e i (sym (present_has w t) ∙ L.there) ∙ ap (λ (k : Store). k.floor) (sym st);
    }

mark_case : (h : History) (p : Label) (d n : ℕ) (tray : List ℕ) (o : Option Store) → n < length h.calls → length (label_words p) ≡ label_width → accepted_at h n ≡ true
    → announced (label_words p) (nodes_at h n) ≡ o → result_at h n ≡ announce_result (mem_at h n) tray d o → Marks h p n
unfolding announce_result
mark_case h p d n tray none low five a e R = not_refused h n (mem_at h n) tray a R
mark_case h p d n tray (some t) low five a e R = mark_some h p d n tray t low five e (unfold announce_result in R)

-- the label of a write's node, as its numbers
pub node_words : (h : History) (r : Request) (w : Change) → Begins r w → (d b n j : ℕ) → Under h r d b n → j < 2 ^ (shape_at h).columns
    → (get_or (write_labels (of h w)) j [] ≡ label_words (write_node (target w) j)) × (length (label_words (write_node (target w) j)) ≡ label_width)
node_words h r w B d b n j u l =
    let N = count h r w B d b n u in
    let c = N.0 in
    let k = N.1 in
    let b4 = (writer h r w B d b n u).most in
    let e : columns (mem_at h n) ≡ (shape_at h).columns = ap (λ (sh : Shape). sh.columns) (sound h n u.0).shape in
    let is = write_label_at (of h w) j (omega arith) in
    (is, ap length (sym is) ∙ write_label_wide (of h w) j (omega arith) (omega arith))

pub marks_set : (h : History) → MarksSet h
marks_set h r w B d b n i l s =
    let m = mem_at h n in
    let c = (count h r w B d b n (under_step s)).0 in
    let k = node_words h r w B d b n i (under_step s) l in
    let p = write_node (target w) i in
    mark_case h p d n s.tray (announced (label_words p) (nodes_at h n)) s.within k.1 s.accepted refl
    (write_at h r (of h w) d b n i (write_begins h r w B) s ∙ mark_of m s.tray d (of h w) i (omega arith)
    ∙ ap (λ q. announce_result m s.tray d (announced q (nodes_at h n))) k.0)

-- ---- Marks taken off
-- call n takes them off the nodes of these labels: one off each that stands there once, and alters no other node
abbrev pub Off : History → ℕ → Bool → List Words → Label → Type 0
Off h n lift ps p = TakenOff (lifts lift ps (label_words p)) (label_words p) (nodes_at h n) (nodes_at h (suc n))

pub record OffTo (lift : Bool) (ps : List Words) (s t : Store) : Type 0 where
  pub each : (p : Label) → tally (label_words p) ps ≡ 1 → TakenOff (lifts lift ps (label_words p)) (label_words p) s t
  pub only : Only ps s t

abbrev pub AllOff : History → ℕ → Bool → List Words → Type 0
AllOff h n lift ps = OffTo lift ps (nodes_at h n) (nodes_at h (suc n))

-- what is left of the nodes but those of the labels from number `least` on
pub others : (node : ℕ → Label) (least end : ℕ) (ps : List Words) (s t : Store) → Only ps s t → length ps ≤ end - least
    → ((q : ℕ) → q < length ps → get_or ps q [] ≡ label_words (node (least + q))) → OthersStay node least end s t
others node least end ps s t o l are = record {
  floor = o.floor;
  count = o.count;
  same = λ i k. o.same i (λ q m. ap (λ w. has_label w (get_or s.nodes i [])) (are q m) ∙ k (least + q) (omega arith) (omega arith));
}

-- where it leaves x with the nodes t
pub off_in : (h : History) (n : ℕ) (lift : Bool) (ps : List Words) (t : Store) (x : StepResult) → n < length h.calls
    → retired (form (mem_at h n)) lift ps (nodes_at h n) ≡ some t → result_at h n ≡ x
    → (Fits (mem_at h n) → AllRows t.nodes → length t.nodes ≤ max_nodes → store_in (form x.mem) x.mem.nodes ≡ t) → AllOff h n lift ps
off_in h n lift ps t x low e R back =
    let m = mem_at h n in
    let S = sound h n (omega arith) in
    let A : RetiredTo lift ps (nodes_at h n) t =
    subst (λ o. RetiredOk lift ps (nodes_at h n) o) e (retired_ok (form m) lift ps (nodes_at h n) (no_twice h n (omega arith)) (rows_held m S.fits)) in
    let few = few_nodes m S.fits in
    let size = A.2 in
    let st : nodes_at h (suc n) ≡ t =
    ap (λ (k : Mem). store_in (form k) k.nodes) (next_mem h n low ∙ ap (λ (k : StepResult). k.mem) R) ∙ back S.fits A.1 (omega arith) in
    subst (λ y. OffTo lift ps (nodes_at h n) y) (sym st) (record {
      each = λ p one. taken_off lift (label_words p) ps (nodes_at h n) t one A.0;
      only = retired_only (form m) lift ps (nodes_at h n) t e;
    })

-- ---- All of definition 11's nodes, and no others
pub node_number : (h : History) (r : Request) (w : Change) → Begins r w → (d b n : ℕ) → Under h r d b n → (p : Label) → E' (target w) p
    → (j : ℕ) × (j < 2 ^ (shape_at h).columns) × (write_node (target w) j ≡ p)
unfolding write_count
node_number h r w B d b n u p e =
    let z = write_edge_node (target w) p e in
    let k : 2 ^ length (target w) ≡ 2 ^ (shape_at h).columns = ap (λ c. 2 ^ c) (count h r w B d b n u).1 in
    let y : z.0 < 2 ^ length (target w) = unfold write_count in z.1 in
    (z.0, rw k at y, z.2)

pub marked_nodes : (h : History) → MarkedNodes h
marked_nodes h r w B d b n i s l p = (
  (λ c. subst (λ k. E' (target w) k) c.is (write_node_edge (target w) c.number)),
  (λ e. let z = node_number h r w B d b n (under_step s) p e in
      let low = z.1 in
      let y = step_before h r d b n i (0 + z.0) s (omega arith) in
      record { number = z.0; low = low; at = y.0; before = y.1; steps = y.2; is = z.2 }),
)

step_upto : (h : History) (r : Request) (d b n i k : ℕ) → StepOf h r d b n i → k ≤ i → (j : ℕ) × (j < suc n) × StepOf h r d b j k
step_upto h r d b n i k s l = by_test (eqb k i)
    (λ e. (n, omega arith, subst (λ j. StepOf h r d b n j) (sym (eqb-true k i e)) s))
    (λ e. let ne : k ≡ i → ⊥ = eqb-false k i e in
    let y = step_before h r d b n i k s (omega arith) in
    let low = y.1 in
    (y.0, omega arith, y.2))

pub raised_all : (h : History) → RaisedNodes h
raised_all h r w B d b n s p = (
  (λ c. subst (λ k. E' (target w) k) c.is (write_node_edge (target w) c.number)),
  (λ e. let i = 2 ^ (shape_at h).columns + 2 ^ (shape_at h).columns in
      let z = node_number h r w B d b n (under_step s) p e in
      let low = z.1 in
      let y = step_upto h r d b n i (2 ^ (shape_at h).columns + 1 + z.0) s (omega arith) in
      record { number = z.0; low = low; at = y.0; before = y.1; steps = y.2; is = z.2 }),
)

-- ---- No other call changes the table
-- the machine's table stays, or the call is a write's table step
data TableTurn (s : State) (c : machine.Call) (a : Response) (t : State) : Type 0 where
  stays : t.tab ≡ s.tab → TableTurn s c a t
  writes : (d : ℕ) (w : Write) (i : ℕ) → c ≡ machine.step d → is_refused a ≡ false → s.clients d ≡ announcing w i → length (write_labels w) ≤ i → TableTurn s c a t

table_turn : (s : State) {c : machine.Call} {a : Response} {t : State} → Transition s c a t → TableTurn s c a t
unfolding at_client with_store with_filing with_tab is_refused
table_turn s (Transition.nothing e) = stays refl
table_turn s (Transition.began l e f) = stays refl
table_turn s (Transition.began_write l e f) = stays refl
table_turn s (Transition.looked l e f g p) = stays refl
table_turn s (Transition.missed l e f y) = stays refl
table_turn s (Transition.hit l e f i g) = stays refl
table_turn s (Transition.too_long l e f) = stays refl
table_turn s (Transition.listed l e f) = stays refl
table_turn s (Transition.took l e f) = stays refl
table_turn s (Transition.filed l e) = stays refl
table_turn s (Transition.announced l e f m) = stays refl
table_turn s (Transition.wrote {d} {w} {i} l e f) = writes d w i refl refl e f
table_turn s (Transition.raised l e g m) = stays refl
table_turn s (Transition.last l e g m) = stays refl
table_turn s (Transition.abandoned_read l e) = stays refl
table_turn s (Transition.write_abandoned l e m) = stays refl
table_turn s (Transition.abandoned_raising l e m) = stays refl
table_turn s (Transition.evicted_answer l) = stays refl
table_turn s (Transition.evicted_node l g) = stays refl
table_turn s (Transition.renewed i) = stays refl

abbrev is_step : machine.Call → Bool
is_step (machine.begin e x) = false
is_step (machine.step e) = true
is_step (machine.abandon e) = false
is_step (machine.evicts_answer i) = false
is_step (machine.evicts_node i) = false
is_step machine.renew = false

step_eq : {d e : ℕ} → machine.step d ≡ machine.step e → d ≡ e
step_eq i = cc

no_step : {A : Type 0} (c : machine.Call) (d : ℕ) → c ≡ machine.step d → is_step c ≡ false → A
no_step c d e f = absurd (true≢false (sym (ap is_step e) ∙ f))

stepped_by : (sh : Shape) (c : rules.Call) (d : ℕ) → call_of sh c ≡ machine.step d → (tray : List ℕ) × (c ≡ rules.step d tray)
unfolding call_of
stepped_by sh (rules.begin e r) d i = no_step _ d i refl
stepped_by sh (rules.step e tray) d i = (tray, ap (λ k. rules.step k tray) (step_eq i))
stepped_by sh (rules.abandon e) d i = no_step _ d i refl
stepped_by sh (rules.evict_answer j) d i = no_step _ d i refl
stepped_by sh (rules.evict_node j) d i = no_step _ d i refl
stepped_by sh rules.renew d i = no_step _ d i refl

-- the change that a request begins
abbrev is_writing : Work → Bool
is_writing (asking x) = false
is_writing (writing w) = true

begins_of : (sh : Shape) (r : Request) (w : Write) → work_of sh r ≡ writing w → (c : Change) × Begins r c
unfolding work_of
begins_of sh (read_of counts range a) w e = absurd (false≢true (ap is_writing e))
begins_of sh (insert_of a) w e = (insert (record_of (query_of a)), inserting a)
begins_of sh (delete_of a) w e = (delete (query_of a), deleting a)

-- the write at a desk that marks, and the call that began it
write_there : (h : History) (n d i : ℕ) (w : Write) → n ≤ length h.calls → (state_of (mem_at h n)).clients d ≡ announcing w i
    → (b : ℕ) × Begun h d n (writing w) b
write_there h n d i w l e =
    let B = (after (fresh (shape_at h)) (log_to h n)).trace in
    let j = subst (λ y. JobOk B d (B.jobs d) y) e ((sound h n l).good.trace.job d) in
    let f = (subst (λ x. JobFrom (log_to h n) d x) j.has.is (linked (shape_at h) (log_to h n) d)).0 in
    (length f.earlier, under_places h d n (writing w) l f)

shape_is : (m : Mem) → (state_of m).shape ≡ shape m
unfolding state_of
shape_is m = refl

writes_there : (h : History) (n d i : ℕ) (w : Write) → n < length h.calls → call_of (shape_at h) (call_at h n) ≡ machine.step d → is_refused (response_at h n) ≡ false
    → (state_of (mem_at h n)).clients d ≡ announcing w i → length (write_labels w) ≤ i → WritesTable h n
unfolding write_count made_in
writes_there h n d i w l c a e k =
    let S = sound h n (omega arith) in
    let z = write_there h n d i w (omega arith) e in
    let B = z.1 in
    let r = B.request in
    let t = stepped_by (shape_at h) (call_at h n) d c in
    let g = begins_of (shape_at h) r w B.is in
    let fit = fit_at (state_of (mem_at h n)) d (announcing w i) S.good.inv e in
    let most = fit.1 in
    let cols : length (target w.change) ≡ (shape_at h).columns =
    fit.0.columns ∙ ap (λ (sh : Shape). sh.columns) (shape_is (mem_at h n) ∙ S.shape) in
    let nodes : length (write_labels w) ≡ 2 ^ (shape_at h).columns = (unfold write_count in length_write_labels w) ∙ ap (λ j. 2 ^ j) cols in
    let since : Since h (writing w) d z.0 n = record { request = r; is = B.is; within = omega arith; runs = B.runs } in
    let made = ap made_in (sym e) ∙ made_since h (writing w) d z.0 n since in
    record {
      request = r;
      change = g.0;
      is = g.1;
      client = d;
      b = z.0;
      steps = record {
        tray = t.0;
        within = l;
        calls = t.1;
        accepted = accepted_at_law h n l ∙ ap not a;
        runs = B.runs;
        made = omega arith;
      };
    }

pub only_writes : (h : History) → OnlyWrites h
only_writes h n l = elim (table_turn (state_of (mem_at h n)) (transition_at h n l)) [
  | stays e ↦ inl (sym (table_is h (suc n) l) ∙ e ∙ table_is h n (omega arith))
  | writes d w i c a e k ↦ inr (writes_there h n d i w l c a e k)
]
