-- Laws of a write's steps and of its abandoning: what is known of a writer, and what each leaves, in the terms of the code.
-- Leans on rules and on the laws of clients, nodes, table and columns. Assumes nothing.
use mathlib.Core.Path.{◌≡◌, refl, sym, ap, ◌∙◌}
use mathlib.Core.Bool.{Bool, true, false, cond, not, ◌&&◌}
use mathlib.Core.List.{List, [], ◌∷◌, map}
use mathlib.Core.Option.{Option, some}
use Prim.Native.Nat.{ℕ, zero, suc, ◌+◌, ◌-◌, ◌≤◌, ◌<◌}
use native.Mathlib.Omega.{arith}
use lib.Dec.{eqb}
use lib.ListN.{length, get_or, take, drop, length-map, length-drop}
use lib.Seq.{drop-cons, take-take, take_all}
use borrow.Author.Tests.{eq-eqb, ne_eqb, lt-ltb, le-ltb}
use Rattle.lists.specs.Lists.{listed, padded}
use Rattle.laws.proofs.ListLaws.{same_eq, take_padded}
use Rattle.std.proofs.Common.{Result, Ok, Err}
use Rattle.query.specs.declared.Column.TheVariants.{Is, Wildcard}
use Rattle.query.specs.Query.{Query, Record, write_count}
use Rattle.query.specs.Encoding.{record_of, column_value, key_words, query_in, is_key, bare_key}
use Rattle.query.specs.Shape.{Shape, max_columns}
use Rattle.query.proofs.NodeLists.{write_count_least}
use Rattle.query.proofs.EncodingLaws.{columns_length, query_in_length}
use Rattle.rules.specs.declared.Outcome.{Outcome}
use Rattle.rules.specs.declared.Outcome.TheVariants.{Accepted}
use Rattle.rules.specs.Layout.{max_list, client_width, inserts}
use Rattle.rules.specs.Table.{Table, Change, insert, delete, effect, changes, no_room, SaysChanged}
use Rattle.rules.specs.Nodes.{Words, Store, announced, retired}
use Rattle.rules.specs.Work.{Write, write_labels, write_in, change_in, steps_in_all}
use Rattle.rules.specs.Answers.{key_in}
use Rattle.rules.specs.Client.{Client, entry_of, did_change, idle, query_at, write_at, stepped, wrote}
use Rattle.rules.specs.Memory.{current, shape_in, Mem, mem, records_in, with_records, store_in, with_store, client_in, with_client}
use Rattle.rules.specs.Outcome.{result_of, result_with}
use Rattle.rules.specs.Refusals.{client}
use Rattle.rules.specs.Steps.{now_at, store_back, announce_result, write_table_result, end_of, raise_result, write_result}
use Rattle.rules.specs.Calls.{announced_labels, labels_left, retire_result}
use Rattle.rules.proofs.ClientLaws.{busy_key, wrote_wide, wrote_change}
use Rattle.records.proofs.RecordWrites.{OfWidth}
use Rattle.records.proofs.RecordSets.{changes_says}
use Rattle.hall.specs.declared.refusal.Refusal.{Refusal}
use Rattle.hall.specs.Refusal.{outcome_of}
use Rattle.hall.specs.Kind.{kind_number}
use Rattle.table.specs.declared.Inserted.{Inserted}
use Rattle.table.specs.declared.Inserted.TheVariants.{Added, Present, Full as NoRoom}
use Rattle.table.specs.TableContracts
use Rattle.table.specs.TableContracts.{inserted_as, is_added, had_no_room, gone}
use Rattle.table.proofs.TableMemory.{write_records}
use Rattle.table.proofs.TableLists.{added_changes, full_no_room, gone_changes, delete_no_room}
use Rattle.nodes.specs.NodeContracts.{attempt, tried}
use Rattle.nodes.proofs.NodePresent.{went_well, went_not}
use Rattle.clients.specs.declared.Held.{Held}
use Rattle.clients.specs.ClientContracts.{held_query, written_at, Writer}
use Rattle.clients.specs.ClientContracts
use Rattle.clients.proofs.ClientMemory.{length_client, client_same}
use Rattle.clients.proofs.HeldLaws.{at_query, writer_bare, writer_announcements, writer_few, writer_label}
use Rattle.writing.specs.declared.Report.{Report}
use Rattle.writing.specs.declared.Report.TheVariants.{Changed, Unchanged, Full as WasFull}
use Rattle.writing.specs.WriteContracts.{step_at, labels_at, count_at, held_change, report_of, reported}
use Rattle.writing.specs.WriteContracts.{raise_end, raise_left, label_at, labels_from}

-- ---- a part of a list, number by number
listed_part : {A : Type 0} (f : ℕ → A) (l : List A) (d : A) → ((i : ℕ) → i < length l → f i ≡ get_or l i d) → (i n : ℕ) → i + n ≤ length l
    → listed f i n ≡ take n (drop i l)
unfolding listed
listed_part f l d e i zero h = refl
listed_part f l d e i (suc n) h =
    rw (drop-cons l i d (omega arith), e i (omega arith), listed_part f l d e (suc i) n (omega arith))

-- ---- an insert's record stands in its key
-- a query that names every column has its values for a record
record_values : (q : Query) → map column_value q ≡ record_of q
unfolding column_value record_of
record_values [] = refl
record_values (Is v ∷ q) = ap (λ (l : Record). v ∷ l) (record_values q)
record_values (Wildcard ∷ q) = ap (λ (l : Record). 0 ∷ l) (record_values q)

key_record : (q : Query) → length q ≤ max_columns → take (length q) (take max_columns (drop 1 (key_words q))) ≡ record_of q
unfolding key_words
key_record q l =
    let n : length (map column_value q) ≡ length q = length-map q column_value in
    take-take (length q) max_columns (padded 6 (map column_value q)) l
    ∙ ap (λ (m : ℕ). take m (padded 6 (map column_value q))) (sym n)
    ∙ take_padded 6 (map column_value q)
    ∙ record_values q

record_in : (sh : Shape) (key : List ℕ) → sh.columns ≤ max_columns → is_key sh key ≡ true
    → take sh.columns (take max_columns (drop 1 key)) ≡ record_of (query_in sh key)
unfolding is_key
record_in sh key l e =
    let n : length (query_in sh key) ≡ sh.columns = query_in_length sh key in
    let f : key ≡ key_words (query_in sh key) = same_eq key _ e in
    ap (λ (x : List ℕ). take sh.columns (take max_columns (drop 1 x))) f
    ∙ ap (λ (m : ℕ). take m (take max_columns (drop 1 (key_words (query_in sh key))))) (sym n)
    ∙ key_record (query_in sh key) (omega arith)

-- ---- what is known of a writer
module _ {h : Held} {s : List ℕ} {d : ℕ} (w : Writer h s d) where
  -- it has not made its last step yet
  pub step_most : step_at s d ≤ count_at s d + count_at s d
  unfolding steps_in_all
  step_most = let g = w.busy.going in omega arith

  pub step_small : step_at s d ≤ max_list
  step_small = omega (arith, step_most, writer_few w)

  -- what it does to the table
  record_held : take h.query.k h.query.values ≡ record_of (query_at (shape_in s) (client_in current s d))
  unfolding query_at
  record_held =
      let key : List ℕ = key_in (entry_of (client_in current s d)) in
      let k : is_key (shape_in s) key ≡ true = rw (writer_bare w) at (busy_key w.busy) in
      rw (w.held.columns, w.held.values, writer_bare w) (record_in (shape_in s) key w.busy.most k)

  pub held_change_law : held_change h ≡ (written_at s d).change
  unfolding held_change write_at write_in change_in query_at
  held_change_law = rw (w.held.kind, record_held, at_query w, writer_bare w)

  -- an insert's record has as many numbers as the table has columns
  pub held_width : OfWidth h.query.k (held_change h)
  unfolding held_change query_at
  held_width = go (eqb (kind_number h.kind) inserts)
    where
      q : Query
      q = query_in (shape_in s) (bare_key (key_in (entry_of (client_in current s d))))

      n : length (take h.query.k h.query.values) ≡ h.query.k
      n = ap length (record_held ∙ sym (record_values q)) ∙ length-map q column_value ∙ query_in_length (shape_in s) _ ∙ sym w.held.columns

      go : (b : Bool) → OfWidth h.query.k (cond b (insert (take h.query.k h.query.values)) (delete (held_query h)))
      go true = n
      go false = tt

  -- its nodes by what was read have the same labels
  labels_held : (i n : ℕ) → i + n ≤ count_at s d → labels_from (held_query h) i n ≡ take n (drop i (labels_at s d))
  unfolding labels_from
  labels_held i n l = listed_part (label_at (held_query h)) (labels_at s d) [] (writer_label w) i n l

  -- those from number i on are the rest of them
  labels_left_law : (i : ℕ) → i ≤ count_at s d → labels_from (held_query h) i (count_at s d - i) ≡ drop i (labels_at s d)
  labels_left_law i l =
      let n : length (drop i (labels_at s d)) ≡ count_at s d - i = length-drop i (labels_at s d) in
      labels_held i (count_at s d - i) (omega arith) ∙ take_all (count_at s d - i) (drop i (labels_at s d)) (omega arith)

  -- the label of the mark that is due
  pub announce_label : (p : Words) → p ≡ label_at (held_query h) h.steps → step_at s d < count_at s d → p ≡ get_or (labels_at s d) (step_at s d) []
  announce_label p g l = g ∙ ap (label_at (held_query h)) w.held.steps ∙ writer_label w (step_at s d) l

  -- those of the marks that were set
  pub marked_labels : step_at s d ≤ count_at s d → labels_from (held_query h) 0 h.steps ≡ announced_labels (written_at s d) (step_at s d)
  marked_labels l = rw w.held.steps (labels_held 0 (step_at s d) (omega arith))

  -- its last raise comes after its table step: it has at least one node
  pub last_past : step_at s d ≡ count_at s d + count_at s d → count_at s d < step_at s d
  last_past e = omega (arith, writer_announcements w, write_count_least (held_query h))

  -- after its table step: the label of the raise that is due, whether that is the last, and the labels of all that are left
  module _ (count : ℕ) (g : count ≡ write_count (held_query h)) where
    n : count ≡ count_at s d
    n = g ∙ writer_announcements w

    pub raise_label : count_at s d < step_at s d → labels_from (held_query h) (h.steps - (count + 1)) 1 ≡ get_or (labels_at s d) (step_at s d - (count_at s d + 1)) [] ∷ []
    raise_label past =
        let i : ℕ = step_at s d - (count_at s d + 1) in
        let j : i < count_at s d = omega (arith, step_most) in
        rw (w.held.steps, n) (labels_held i 1 (omega arith) ∙ ap (take 1) (drop-cons (labels_at s d) i [] j))

    pub is_last : eqb h.steps (count + count) ≡ eqb (step_at s d) (count_at s d + count_at s d)
    is_last = rw (w.held.steps, n)

    pub left_labels : count_at s d < step_at s d
        → labels_from (held_query h) (h.steps - (count + 1)) (count - (h.steps - (count + 1))) ≡ labels_left (written_at s d) (step_at s d)
    left_labels past = rw (w.held.steps, n) (labels_left_law (step_at s d - (count_at s d + 1)) (omega (arith, step_most)))

-- ---- the steps
module _ (t n a s y : List ℕ) (d : ℕ) (w : Write) (i : ℕ) (u : List ℕ) (st : Store) (v : List ℕ) where
  announce_stored : i < length (write_labels w) → announced (get_or (write_labels w) i []) (store_in current n) ≡ some st
      → u ≡ with_store current n st → v ≡ with_client current s d (stepped (client_in current s d))
      → result_with Accepted (mem t u a v) y ≡ write_result (mem t n a s) y d w i
  unfolding write_result announce_result now_at store_back client
  announce_stored h e f l = rw (lt-ltb i (length (write_labels w)) h, e, f, l)

  raise_stored : length (write_labels w) < i
      → retired current (did_change (client_in current s d)) (get_or (write_labels w) (i - (length (write_labels w) + 1)) [] ∷ []) (store_in current n) ≡ some st
      → u ≡ with_store current n st → (last : Bool) (o : Outcome) → last ≡ eqb i (length (write_labels w) + length (write_labels w))
      → (o ≡ raise_end last (client_in current s d)) × (v ≡ with_client current s d (raise_left last (client_in current s d)))
      → result_with o (mem t u a v) y ≡ write_result (mem t n a s) y d w i
  unfolding write_result raise_result now_at store_back client
  raise_stored h e f last o m l =
      rw (le-ltb i (length (write_labels w)) (omega arith), ne_eqb i (length (write_labels w)) (λ r. omega arith), e, ← m, f, l.0, l.1)
      (go last)
    where
      left : Client → Mem
      left c = mem t (with_store current n st) a (with_client current s d c)

      go : (f : Bool)
          → result_with (cond f (end_of (client_in current s d)) Accepted) (left (cond f idle (stepped (client_in current s d)))) y
          ≡ cond f (result_with (end_of (client_in current s d)) (left idle) y)
          (result_with Accepted (left (stepped (client_in current s d))) y)
      go true = refl
      go false = refl

module _ (t n a s y : List ℕ) (d : ℕ) (w : Write) (i : ℕ) (r : Result (Unit {0}) Refusal) (u : List ℕ) where
  module _
      (p : Words) (e : p ≡ get_or (write_labels w) i []) (g : attempt r u ≡ tried n (announced p (store_in current n)))
      (h : i < length (write_labels w)) where
    pub announce_refused : (x : Refusal) → r ≡ Err x → (q : Result Outcome Refusal) → q ≡ Err x
        → result_with (outcome_of q) (mem t u a s) y ≡ write_result (mem t n a s) y d w i
    unfolding write_result announce_result
    announce_refused x f q z =
        let m = went_not (λ t. tt) n (announced p (store_in current n)) r x u g f in
        rw (z, m.1, m.2, lt-ltb i (length (write_labels w)) h, ← e, m.0)

    pub announce_done : {o : Unit {0}} → r ≡ Ok o → (v : List ℕ) → v ≡ with_client current s d (stepped (client_in current s d))
        → result_with Accepted (mem t u a v) y ≡ write_result (mem t n a s) y d w i
    announce_done z v l =
        let x = went_well (λ t. tt) n (announced p (store_in current n)) r _ u g z in
        let o = ap (λ (m : Words). announced m (store_in current n)) (sym e) ∙ x.is in
        announce_stored t n a s y d w i u x.store v h o x.mem l

  module _
      (ps : List Words) (e : ps ≡ get_or (write_labels w) (i - (length (write_labels w) + 1)) [] ∷ []) (lift : Bool) (c : lift ≡ did_change (client_in current s d))
      (g : attempt r u ≡ tried n (retired current lift ps (store_in current n))) (h : length (write_labels w) < i) where
    pub raise_refused : (x : Refusal) → r ≡ Err x → (q : Result Outcome Refusal) → q ≡ Err x
        → result_with (outcome_of q) (mem t u a s) y ≡ write_result (mem t n a s) y d w i
    unfolding write_result raise_result client
    raise_refused x f q z =
        let m = went_not (λ t. tt) n (retired current lift ps (store_in current n)) r x u g f in
        rw (z, m.1, m.2, le-ltb i (length (write_labels w)) (omega arith), ne_eqb i (length (write_labels w)) (λ m. omega arith), ← e, ← c, m.0)

    pub raise_done : {k : Unit {0}} → r ≡ Ok k → (last : Bool) (o : Outcome) (v : List ℕ) → last ≡ eqb i (length (write_labels w) + length (write_labels w))
        → o ≡ raise_end last (client_in current s d) → v ≡ with_client current s d (raise_left last (client_in current s d))
        → result_with o (mem t u a v) y ≡ write_result (mem t n a s) y d w i
    raise_done z last o v m f l =
        let x = went_well (λ t. tt) n (retired current lift ps (store_in current n)) r _ u g z in
        let k = ap (λ (l : List Words). retired current (did_change (client_in current s d)) l (store_in current n)) (sym e)
        ∙ ap (λ (o : Bool). retired current o ps (store_in current n)) (sym c) ∙ x.is in
        raise_stored t n a s y d w i u x.store v h k x.mem last o m (f, l)

-- ---- the abandoning
-- marks are taken off the nodes of some labels, and the client is idle: with and without a lift, and with any outcome
off_stored : (t n a s : List ℕ) (d : ℕ) (o : Outcome) (r : Option Store) (u : List ℕ) (st : Store) (v : List ℕ) → r ≡ some st → u ≡ with_store current n st
    → v ≡ with_client current s d idle → result_of o (mem t u a v) ≡ retire_result (mem t n a s) d o r
unfolding retire_result now_at store_back
off_stored t n a s d o r u st v e f l = rw (e, f, l)

module _
    (t n a s : List ℕ) (d : ℕ) (lift must : Bool) (c : lift ≡ must) (r : Result (Unit {0}) Refusal) (u : List ℕ) (ps qs : List Words) (e : ps ≡ qs)
    (g : attempt r u ≡ tried n (retired current lift ps (store_in current n))) (o : Outcome) where
  pub off_refused : (x : Refusal) → r ≡ Err x → (q : Result Outcome Refusal) → q ≡ Err x
      → result_of (outcome_of q) (mem t u a s) ≡ retire_result (mem t n a s) d o (retired current must qs (store_in current n))
  unfolding retire_result
  off_refused x f q z =
      let m = went_not (λ t. tt) n (retired current lift ps (store_in current n)) r x u g f in
      rw (z, m.1, m.2, ← e, ← c, m.0)

  pub off_done : {k : Unit {0}} → r ≡ Ok k → (q : Outcome) (v : List ℕ) → q ≡ o → v ≡ with_client current s d idle
      → result_of q (mem t u a v) ≡ retire_result (mem t n a s) d o (retired current must qs (store_in current n))
  off_done z q v f l =
      let x = went_well (λ t. tt) n (retired current lift ps (store_in current n)) r _ u g z in
      rw (← e, ← c, f) (off_stored t n a s d o (retired current lift ps (store_in current n)) u x.store v x.is x.mem l)

-- ---- the table step
-- what an insert and a delete say
pub insert_said : (r : Record) (t : Table) → report_of (inserted_as r t) ≡ reported (insert r) t
unfolding reported
insert_said r t = rw (full_no_room r t, added_changes r t) (go (inserted_as r t))
  where
    go : (x : Inserted) → report_of x ≡ cond (had_no_room x) WasFull (cond (is_added x) Changed Unchanged)
    go Added = refl
    go Present = refl
    go NoRoom = refl

pub delete_said : (q : Query) (t : Table) → cond (eqb (gone q t) 0) Unchanged Changed ≡ reported (delete q) t
unfolding reported
delete_said q t = rw (delete_no_room q t, gone_changes q t) (go (eqb (gone q t) 0))
  where
    go : (b : Bool) → cond b Unchanged Changed ≡ cond (not b) Changed Unchanged
    go true = refl
    go false = refl

-- a table that was full did not change
full_stays : (c : Change) (t : Table) → no_room c t && changes c t ≡ false
full_stays (insert r) t = rw (full_no_room r t, added_changes r t) (go (inserted_as r t))
  where
    go : (x : Inserted) → had_no_room x && is_added x ≡ false
    go Added = refl
    go Present = refl
    go NoRoom = refl
full_stays (delete q) t = rw (delete_no_room q t)

-- what it says as the two tests that the client keeps
abbrev pub says_changed : Report → Bool
says_changed Changed = true
says_changed Unchanged = false
says_changed WasFull = false

abbrev pub says_full : Report → Bool
says_full Changed = false
says_full Unchanged = false
says_full WasFull = true

module _ (c : Change) (t : Table) where
  told_changed : says_changed (reported c t) ≡ changes c t
  unfolding reported
  told_changed = go (no_room c t) (changes c t) (full_stays c t)
    where
      go : (a b : Bool) → a && b ≡ false → says_changed (cond a WasFull (cond b Changed Unchanged)) ≡ b
      go true b e = sym e
      go false true e = refl
      go false false e = refl

  told_full : says_full (reported c t) ≡ no_room c t
  unfolding reported
  told_full = go (no_room c t) (changes c t)
    where
      go : (a b : Bool) → says_full (cond a WasFull (cond b Changed Unchanged)) ≡ a
      go true b = refl
      go false true = refl
      go false false = refl

module _
    (t s : List ℕ) (d k : ℕ) (c : Change) (x v : List ℕ) (r : Report) (f : r ≡ reported c (records_in k t)) (g : x ≡ with_records k t (effect c (records_in k t)))
    (m : v ≡ with_client current s d (wrote (says_changed r) (says_full r) (client_in current s d))) where
  pub table_done : (n a y : List ℕ) (w : Write) (i : ℕ) → i ≡ length (write_labels w) → k ≡ (shape_in s).columns → c ≡ w.change
      → result_with Accepted (mem x n a v) y ≡ write_result (mem t n a s) y d w i
  unfolding write_result write_table_result now_at client
  table_done n a y w i h e l =
      rw (le-ltb i (length (write_labels w)) (omega arith), eq-eqb i (length (write_labels w)) h, ← l, m, f, told_changed c (records_in k t), told_full c (records_in k t), g, e)

  -- the client keeps whether the two lists differ (S-6)
  pub table_says : ClientContracts.Fit s d → TableContracts.Fit k t → OfWidth k c → SaysChanged (did_change (client_in current v d)) (records_in k t) (records_in k x)
  table_says p q o =
      let b : Client = client_in current s d in
      let w : length b ≡ client_width = length_client s d p in
      let e : did_change (client_in current v d) ≡ changes c (records_in k t) =
      ap (λ (y : List ℕ). did_change (client_in current y d)) m
      ∙ ap did_change (client_same s d p (wrote (says_changed r) (says_full r) b) (wrote_wide b w (says_changed r) (says_full r))) ∙ wrote_change b w (says_changed r) (says_full r)
      ∙ ap says_changed f ∙ told_changed c (records_in k t) in
      rw (e, g, write_records k t c q o) (changes_says c (records_in k t))

-- ---- the table's change
pub fit_wide : {n k : ℕ} {t : List ℕ} → n ≡ k → TableContracts.Fit k t → TableContracts.Fit n t
fit_wide e f = rw e f

-- the columns of what was read
pub held_length : (h : Held) → length (held_query h) ≡ h.query.k
held_length h = columns_length h.query.k h.query.marks h.query.values

module _ (h : Held) (t : List ℕ) where
  pub change_insert : eqb (kind_number h.kind) inserts ≡ true → (r : Record) → r ≡ take h.query.k h.query.values
      → (report_of (inserted_as r (records_in h.query.k t)) ≡ reported (held_change h) (records_in h.query.k t))
      × (with_records h.query.k t (effect (insert r) (records_in h.query.k t)) ≡ with_records h.query.k t (effect (held_change h) (records_in h.query.k t)))
  unfolding held_change
  change_insert x r e = rw (x, ← e) (insert_said r (records_in h.query.k t), refl)

  pub change_delete : eqb (kind_number h.kind) inserts ≡ false → (q : Query) → q ≡ held_query h
      → (cond (eqb (gone q (records_in (length q) t)) 0) Unchanged Changed ≡ reported (held_change h) (records_in h.query.k t))
      × (with_records (length q) t (effect (delete q) (records_in (length q) t)) ≡ with_records h.query.k t (effect (held_change h) (records_in h.query.k t)))
  unfolding held_change
  change_delete x q e = rw (x, ← e, ← held_length h, ← e) (delete_said q (records_in (length q) t), refl)
