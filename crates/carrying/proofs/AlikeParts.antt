-- Two halls alike, changed alike: one desk, the nodes, the filed answers, the table; and what each step and each other call leaves. Leans on rules'
-- laws of the memories and on what a history's memories keep to. Assumes nothing.
use mathlib.Core.Path.{◌≡◌, refl, sym, ap, subst, fun_ext, ◌∙◌}
use mathlib.Core.Bool.{Bool, true, false, cond, not, ◌&&◌}
use mathlib.Core.Option.{Option, none, some}
use mathlib.Core.List.{List, [], map}
use Prim.Native.Nat.{ℕ, ◌+◌, ◌≤◌, ◌<◌}
use native.Mathlib.Omega.{arith}
use lib.Dec.{eqb, ltb}
use lib.ListN.{length, get_or}
use borrow.Author.Tests.{eqb-true, eqb-false, ltb-true}
use Rattle.lists.specs.Lists.{written}
use Rattle.laws.proofs.TestLaws.{by_test}
use Rattle.laws.proofs.RowLaws.{Wide}
use Rattle.query.specs.Shape.{Shape, shape_of}
use Rattle.rules.specs.Layout.{max_records, clients_least, list_room, max_clients, max_answers, entry_width, client_width, kept_client, client_offset}
use Rattle.rules.specs.declared.Outcome.{Outcome}
use Rattle.rules.specs.declared.Outcome.TheVariants.{Refused, Accepted, Answered, Long}
use Rattle.rules.specs.Nodes.{Words, Store, node_of, revision, pending}
use Rattle.rules.specs.Work.{Ask, Value, may_answer}
use Rattle.rules.specs.Answers.{Entry, value_in, filed}
use Rattle.rules.specs.Client.{Client, idle, noted, stepped, holding, saw_pending, entry_of, wrote}
use Rattle.rules.specs.Memory.{Mem, records_in, store_in, answers_in, with_answers, with_filed, with_table, with_records}
use Rattle.rules.specs.Refusals.{form, shape, columns, client}
use Rattle.rules.specs.Outcome.{StepResult, result_with, Result}
use Rattle.rules.specs.Calls.{unless}
use Rattle.rules.specs.History.{untrayed}
use Rattle.rules.specs.Steps.{now_at, store_back, answered, look_result, fetch_result, table_result, file_result, announce_result, raise_result, end_of, write_table_result}
use Rattle.rules.specs.Table.{Table, Change, effect, changes, no_room}
use Rattle.rules.proofs.NodeSizes.{Sized, AllSized}
use Rattle.rules.proofs.ClientLaws.{wrote_wide, idle_wide, client_room, client_wide, client_same, client_other, columns_with}
use Rattle.rules.proofs.ClientParts.{length_entry, stepped_next, noted_wide, holding_wide}
use Rattle.rules.proofs.MemoryLaws.{records_with, store_with, answers_with, length_answers}
use Rattle.refinement.proofs.Abstraction.{Fits, answers_room, answers_held, ans_of, phase_of, phases_of, filed_of, state_of}
use Rattle.refinement.proofs.AnswersRefined.{wide_filed, length_filed}
use Rattle.carrying.specs.Alike.{Alike, AlikeResult}

-- ---- One desk
-- the desks memory is long enough
abbrev pub Roomy : Mem → Type 0
Roomy m = clients_least (form m) (shape m) ≤ length m.clients

module _ (m : Mem) (f : Roomy m) (d : ℕ) (h : d < max_clients) (c : Client) (w : length c ≡ client_width) where
  room : client_offset (form m) d + kept_client (form m) ≤ length m.clients
  room = client_room (form m) (shape m) m.clients d h f

  now_shape : shape (now_at m d c) ≡ shape m
  unfolding now_at
  now_shape = ap shape_of (columns_with (form m) m.clients d c w room)

  now_here : client (now_at m d c) d ≡ c
  unfolding client now_at
  now_here = client_same (form m) m.clients d c w room

  now_there : (e : ℕ) → (e ≡ d → ⊥) → client (now_at m d c) e ≡ client m e
  unfolding client now_at
  now_there e ne = client_other (form m) m.clients d c w room e ne

  now_table : records_in (columns (now_at m d c)) (now_at m d c).table ≡ records_in (columns m) m.table
  unfolding now_at
  now_table = ap (λ (s : Shape). records_in s.columns m.table) now_shape

  now_store : store_in (form (now_at m d c)) (now_at m d c).nodes ≡ store_in (form m) m.nodes
  unfolding now_at
  now_store = refl

  now_answers : answers_in (form (now_at m d c)) (now_at m d c).answers ≡ answers_in (form m) m.answers
  unfolding now_at
  now_answers = refl

pub alike_now : (m n : Mem) → Roomy m → Roomy n → Alike m n → (d : ℕ) → d < max_clients → (c : Client) → length c ≡ client_width → Alike (now_at m d c) (now_at n d c)
alike_now m n f g a d h c w = record {
  shape = now_shape m f d h c w ∙ a.shape ∙ sym (now_shape n g d h c w);
  table = now_table m f d h c w ∙ a.table ∙ sym (now_table n g d h c w);
  store = now_store m f d h c w ∙ a.store ∙ sym (now_store n g d h c w);
  answers = now_answers m f d h c w ∙ a.answers ∙ sym (now_answers n g d h c w);
  clients = λ e l. by_test (eqb e d)
      (λ q. let z : e ≡ d = eqb-true e d q in ap (client (now_at m d c)) z ∙ now_here m f d h c w ∙ sym (now_here n g d h c w) ∙ ap (client (now_at n d c)) (sym z))
      (λ q. let z : e ≡ d → ⊥ = eqb-false e d q in now_there m f d h c w e z ∙ a.clients e l ∙ sym (now_there n g d h c w e z));
}

-- ---- The nodes
roomy_store : (m : Mem) (t : Store) → Roomy m → Roomy (store_back m t)
unfolding store_back
roomy_store m t r = r

pub alike_store : (m n : Mem) → Fits m → Fits n → Alike m n → (t : Store) → Sized t → Alike (store_back m t) (store_back n t)
unfolding store_back client
alike_store m n f g a t z = record {
  shape = a.shape;
  table = a.table;
  store = store_with (form m) m.nodes f.long.nodes f.nodes t z ∙ sym (store_with (form n) n.nodes g.long.nodes g.nodes t z);
  answers = a.answers;
  clients = a.clients;
}

-- ---- The filed answers
pub alike_filed : (m n : Mem) → Fits m → Fits n → Alike m n → (es : List Entry) → Wide entry_width es → length es ≤ max_answers
    → Alike (with_filed m (with_answers (form m) m.answers es)) (with_filed n (with_answers (form n) n.answers es))
unfolding client
alike_filed m n f g a es w most = record {
  shape = a.shape;
  table = a.table;
  store = a.store;
  answers = answers_with (form m) m.answers (answers_room m f) f.answers es w most ∙ sym (answers_with (form n) n.answers (answers_room n g) g.answers es w most);
  clients = a.clients;
}

-- ---- Results
pub alike_cond : (b b' : Bool) {x x' y y' : StepResult} → b ≡ b' → AlikeResult x x' → AlikeResult y y' → AlikeResult (cond b x y) (cond b' x' y')
alike_cond b b' {x} {x'} {y} {y'} e p q = subst (λ z. AlikeResult (cond b x y) (cond z x' y')) e (go b)
  where
    go : (z : Bool) → AlikeResult (cond z x y) (cond z x' y')
    go true = p
    go false = q

-- ---- The steps of a read
module _ (m n : Mem) (f : Fits m) (g : Fits n) (a : Alike m n) (tray : List ℕ) (d : ℕ) (h : d < max_clients) where
  pub desk_wide : length (client m d) ≡ client_width
  unfolding client
  desk_wide = client_wide (form m) m.clients d (client_room (form m) (shape m) m.clients d h f.long.clients)

  -- the same desk on both sides, changed alike
  pub alike_at : (o : Outcome) (c c' : Client) → c ≡ c' → length c ≡ client_width → AlikeResult (result_with o (now_at m d c) tray) (result_with o (now_at n d c') tray)
  alike_at o c c' e w = record { out = refl; tray = refl; mem = subst (λ x. Alike (now_at m d c) (now_at n d x)) e (alike_now m n f.long.clients g.long.clients a d h c w) }

  alike_answered : (v v' : Value) (cached : Bool) → v ≡ v' → AlikeResult (answered m tray d v cached) (answered n tray d v' cached)
  unfolding answered
  alike_answered v v' cached e = record {
    out = ap (λ (x : Value). Answered x.count cached) e;
    tray = ap (λ (x : Value). written tray 0 x.numbers) e;
    mem = alike_now m n f.long.clients g.long.clients a d h idle idle_wide;
  }

  pub alike_look : (j : ℕ) (p : Words) (o : Option Store) → AllSized o
      → AlikeResult (look_result m tray d j p o) (look_result n tray d j p o)
  unfolding look_result
  alike_look j p none k = record { out = refl; tray = refl; mem = a }
  alike_look j p (some t) k =
      let c : Client → Client = λ x. noted j (revision (node_of p t)) (pending (node_of p t)) x in
      let b = alike_now (store_back m t) (store_back n t) (roomy_store m t f.long.clients) (roomy_store n t g.long.clients) (alike_store m n f g a t k) d h (c (client m d)) (noted_wide (client m d) desk_wide j _ _) in
      record { out = refl; tray = refl; mem = subst (λ x. Alike (now_at (store_back m t) d (c (client m d))) (now_at (store_back n t) d (c x))) (a.clients d h) b }

  pub alike_fetch : (i : ℕ) → AlikeResult (fetch_result m tray d i) (fetch_result n tray d i)
  unfolding fetch_result
  alike_fetch i =
      alike_cond _ _ (λ k. not (saw_pending (a.clients d h k)) && ltb i (length (a.answers k)))
      (alike_answered _ _ true (λ k. value_in (a.shape k) (get_or (a.answers k) i [])))
      (alike_at Accepted _ _ (ap stepped (a.clients d h)) (stepped_next (client m d) desk_wide).wide)

  pub alike_table : (x : Ask) (v : Value) → length v.numbers ≤ list_room → AlikeResult (table_result m tray d x v) (table_result n tray d x v)
  unfolding table_result
  alike_table x v l =
      alike_cond (not (may_answer x v)) (not (may_answer x v)) refl (alike_at Long idle idle refl idle_wide)
      (alike_cond _ _ (ap saw_pending (a.clients d h)) (alike_answered v v false refl)
      (alike_at Accepted _ _ (λ k. holding (a.shape k) v (a.clients d h k)) (holding_wide (client m d) desk_wide (shape m) v l)))

  -- ---- The steps of a write: a mark, a raise
  pub alike_stored : (o o' : Outcome) (t : Store) → Sized t → o ≡ o' → (c c' : Client) → c ≡ c' → length c ≡ client_width
      → AlikeResult (result_with o (now_at (store_back m t) d c) tray) (result_with o' (now_at (store_back n t) d c') tray)
  alike_stored o o' t z p c c' e w =
      let b = alike_now (store_back m t) (store_back n t) (roomy_store m t f.long.clients) (roomy_store n t g.long.clients) (alike_store m n f g a t z) d h c w in
      record { out = p; tray = refl; mem = subst (λ x. Alike (now_at (store_back m t) d c) (now_at (store_back n t) d x)) e b }

  pub alike_mark : (o : Option Store) → AllSized o
      → AlikeResult (announce_result m tray d o) (announce_result n tray d o)
  unfolding announce_result client store_back
  alike_mark none k = record { out = refl; tray = refl; mem = a }
  alike_mark (some t) k = alike_stored Accepted Accepted t k refl _ _ (ap stepped (a.clients d h)) (stepped_next (client m d) desk_wide).wide

  pub alike_raise : (is_last : Bool) (o : Option Store) → AllSized o
      → AlikeResult (raise_result m tray d is_last o) (raise_result n tray d is_last o)
  unfolding raise_result client store_back
  alike_raise is_last none k = record { out = refl; tray = refl; mem = a }
  alike_raise is_last (some t) k =
      alike_cond is_last is_last refl
      (alike_stored _ _ t k (ap end_of (a.clients d h)) idle idle refl idle_wide)
      (alike_stored Accepted Accepted t k refl _ _ (ap stepped (a.clients d h)) (stepped_next (client m d) desk_wide).wide)

  -- ---- The file step
  pub alike_file : AlikeResult (file_result m tray d (entry_of (client m d))) (file_result n tray d (entry_of (client n d)))
  unfolding file_result answered
  alike_file =
      let e : Client → Entry = entry_of in
      let es : List Entry = filed (entry_of (client m d)) (answers_in (form m) m.answers) in
      let q : es ≡ filed (entry_of (client n d)) (answers_in (form n) n.answers) = λ k. filed (entry_of (a.clients d h k)) (a.answers k) in
      let l = length_answers (form m) m.answers in
      let y = f.answers in
      let b = alike_filed m n f g a es (wide_filed (entry_of (client m d)) (answers_in (form m) m.answers) (answers_held m f) (length_entry (client m d) desk_wide)) (length_filed (entry_of (client m d)) (answers_in (form m) m.answers) (omega arith)) in
      record {
        out = λ k. Answered (value_in (a.shape k) (entry_of (a.clients d h k))).count false;
        tray = λ k. written tray 0 (value_in (a.shape k) (entry_of (a.clients d h k))).numbers;
        mem = subst (λ x. Alike (now_at (with_filed m (with_answers (form m) m.answers es)) d idle) (now_at (with_filed n (with_answers (form n) n.answers x)) d idle)) q
            (alike_now (with_filed m (with_answers (form m) m.answers es)) (with_filed n (with_answers (form n) n.answers es)) f.long.clients g.long.clients b d h idle idle_wide);
      }

-- ---- Halls that hold the same stand for the same state: what the machine knows of the one it knows of the other
alike_phase : (m n : Mem) → Alike m n → (d : ℕ) → phases_of m d ≡ phases_of n d
unfolding phases_of
alike_phase m n a d =
    by_test (ltb d max_clients)
    (λ t. rw t (λ k. phase_of (a.shape k) (a.clients d (ltb-true d max_clients t) k)))
    (λ t. rw t)

pub alike_state : (m n : Mem) → Alike m n → state_of m ≡ state_of n
unfolding state_of filed_of
alike_state m n a = λ k. record {
  shape = a.shape k;
  tab = a.table k;
  store = a.store k;
  filed = map (ans_of (a.shape k)) (a.answers k);
  clients = fun_ext (alike_phase m n a) k;
}

-- ---- The table, and the table step of a write
pub alike_tab : (m n : Mem) → Fits m → Fits n → Alike m n → (t : Table) → Wide (columns m) t → length t ≤ max_records
    → Alike (with_table m (with_records (columns m) m.table t)) (with_table n (with_records (columns n) n.table t))
unfolding client
alike_tab m n f g a t w most = record {
  shape = a.shape;
  table = records_with (columns m) m.table f.few f.long.table f.records t w most
      ∙ sym (records_with (columns n) n.table g.few g.long.table g.records t (subst (λ (s : Shape). Wide s.columns t) a.shape w) most);
  store = a.store;
  answers = a.answers;
  clients = a.clients;
}

pub alike_write : (m n : Mem) → Fits m → Fits n → Alike m n → (tray : List ℕ) (d : ℕ) → d < max_clients → (c : Change)
    → Wide (columns m) (effect c (records_in (columns m) m.table)) → length (effect c (records_in (columns m) m.table)) ≤ max_records
    → AlikeResult (write_table_result m tray d c) (write_table_result n tray d c)
unfolding write_table_result
alike_write m n f g a tray d h c w most =
    let t : Table = records_in (columns m) m.table in
    let u = desk_wide m n f g a tray d h in
    let x : Client = wrote (changes c t) (no_room c t) (client m d) in
    let b = alike_now (with_table m (with_records (columns m) m.table (effect c t))) (with_table n (with_records (columns n) n.table (effect c t))) f.long.clients g.long.clients
    (alike_tab m n f g a (effect c t) w most) d h x (wrote_wide (client m d) u (changes c t) (no_room c t)) in
    record {
      out = refl;
      tray = refl;
      mem = subst (λ (y : Table). Alike (now_at (with_table m (with_records (columns m) m.table (effect c t))) d x) (now_at (with_table n (with_records (columns n) n.table (effect c y))) d (wrote (changes c y) (no_room c y) (client n d)))) a.table
          (subst (λ (y : Client). Alike (now_at (with_table m (with_records (columns m) m.table (effect c t))) d x) (now_at (with_table n (with_records (columns n) n.table (effect c t))) d (wrote (changes c t) (no_room c t) y))) (a.clients d h) b);
    }

-- ---- The other calls: where the numbers that turn them down are the same
pub alike_unless : (m n : Mem) → Alike m n → (code code' : ℕ) (x y : Result) → code ≡ code' → (code ≡ 0 → AlikeResult (untrayed x) (untrayed y))
    → AlikeResult (untrayed (unless code m x)) (untrayed (unless code' n y))
unfolding unless untrayed
alike_unless m n a code code' x y e k =
    by_test (eqb code 0)
    (λ t. let t' : eqb code' 0 ≡ true = ap (λ (z : ℕ). eqb z 0) (sym e) ∙ t in rw (t, t') (k (eqb-true code 0 t)))
    (λ t. let t' : eqb code' 0 ≡ false = ap (λ (z : ℕ). eqb z 0) (sym e) ∙ t in rw (t, t') (record { out = ap (λ (z : ℕ). Refused z) e; tray = refl; mem = a }))
