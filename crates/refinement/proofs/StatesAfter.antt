-- The state that memories stand for after a part of them was changed, and that they still fit. Leans on Abstraction, ClientPhases and rules' MemoryLaws.
-- Assumes nothing.
use mathlib.Core.Path.{◌≡◌, refl, sym, ap, ◌∙◌, fun_ext}
use mathlib.Core.Bool.{false}
use mathlib.Core.List.{List, map}
use Prim.Native.Nat.{ℕ, ◌+◌, ◌≤◌, ◌<◌}
use native.Mathlib.Omega.{arith}
use lib.Dec.{eqb}
use lib.ListN.{length}
use borrow.Author.Tests.{eqb-true, eqb-false, lt-ltb}
use Rattle.lists.specs.Lists.{In}
use Rattle.laws.proofs.TestLaws.{by_test}
use Rattle.laws.proofs.RowLaws.{Wide}
use Rattle.query.specs.Shape.{Shape, shape_of}
use Rattle.rules.specs.Layout.{max_records, max_nodes, max_answers, max_clients, entry_width, kept_client, client_offset}
use Rattle.rules.specs.declared.Outcome.{Outcome}
use Rattle.rules.specs.Table.{Table}
use Rattle.rules.specs.Nodes.{Store}
use Rattle.rules.specs.Answers.{Entry}
use Rattle.rules.specs.Client.{Client, is_bad}
use Rattle.rules.specs.Client as rules
use Rattle.rules.specs.Memory.{Mem, with_table, with_filed, records_in, with_records, answers_in, with_answers, store_in}
use Rattle.rules.specs.Outcome.{StepResult, result_with}
use Rattle.rules.specs.Refusals.{form, columns, client, shape}
use Rattle.rules.specs.Steps.{now_at, store_back}
use Rattle.rules.proofs.NodeSizes.{Sized}
use Rattle.rules.proofs.ClientLaws.{client_room, client_same, client_other, columns_with, length_with}
use Rattle.revisions.proofs.NodeRows.{AllRows}
use Rattle.machine.specs.Machine.{upd, Phase, idle, State, Call, at_client, with_store, with_filing, with_tab}
use Rattle.machine.specs.Transition.{Transition}
use Rattle.machine.proofs.Sums.{upd_same, upd_other}
use Rattle.refinement.proofs.Abstraction.{answers_room, ans_of, phases_of, filed_of, state_of, response_in, response_of, counts_at, Kept, Fits}
use Rattle.refinement.proofs.ClientPhases.{Left, idle_left}
use Rattle.rules.proofs.MemoryLaws.{records_with, length_with_records, count_records, store_with, length_with_store, count_nodes}
use Rattle.rules.proofs.MemoryLaws.{answers_with, length_with_answers, count_answers, length_nodes}

-- the memories n stand for s; they fit, and have the shape of m
pub record After (m n : Mem) (s : State) : Type 0 where
  pub state : state_of n ≡ s
  pub fits : Fits n
  pub same : shape n ≡ shape m
  pub kept : form n ≡ form m

-- what a call left: a step of the machine
pub record Simulated (m : Mem) (c : Call) (x : StepResult) : Type 0 where
  pub transition : Transition (state_of m) c (response_of (shape m) (counts_at m c) x) (state_of x.mem)
  pub fits : Fits x.mem
  pub same : shape x.mem ≡ shape m
  pub kept : form x.mem ≡ form m

pub simulated : {m n : Mem} {s : State} {c : Call} (o : Outcome) (tray : List ℕ) → After m n s → Transition (state_of m) c (response_in (shape m) (counts_at m c) tray o) s
    → Simulated m c (result_with o n tray)
unfolding response_of
simulated o tray a x = record { transition = rw a.state x; fits = a.fits; same = a.same; kept = a.kept }

pub as_it_was : (m : Mem) → Fits m → After m m (state_of m)
as_it_was m f = record { state = refl; fits = f; same = refl; kept = refl }

state_eq : {s t : State} → s.shape ≡ t.shape → s.tab ≡ t.tab → s.store ≡ t.store → s.filed ≡ t.filed → s.clients ≡ t.clients → s ≡ t
state_eq a b c d e = λ i. record { shape = a i; tab = b i; store = c i; filed = d i; clients = e i }

-- ---- A client
module _ (m : Mem) (f : Fits m) (d : ℕ) (h : d < max_clients) (c : Client) (x : Phase) (l : Left (shape m) c x) where
  room : client_offset (form m) d + kept_client (form m) ≤ length m.clients
  room = client_room (form m) (shape m) m.clients d h f.long.clients

  now_columns : columns (now_at m d c) ≡ columns m
  unfolding now_at
  now_columns = columns_with (form m) m.clients d c l.wide room

  now_shape : shape (now_at m d c) ≡ shape m
  now_shape = ap shape_of now_columns

  now_same : client (now_at m d c) d ≡ c
  unfolding client now_at
  now_same = client_same (form m) m.clients d c l.wide room

  now_other : (e : ℕ) → (e ≡ d → ⊥) → client (now_at m d c) e ≡ client m e
  unfolding client now_at
  now_other e ne = client_other (form m) m.clients d c l.wide room e ne

  now_client : (e : ℕ) → phases_of (now_at m d c) e ≡ upd (phases_of m) d x e
  unfolding phases_of
  now_client e =
      by_test (eqb e d)
      (λ q. let z : e ≡ d = eqb-true e d q in rw (z, lt-ltb d max_clients h, now_columns, now_same, l.phase) (sym (upd_same _ d x)))
      (λ q. let z : e ≡ d → ⊥ = eqb-false e d q in rw (now_columns, now_other e z) (sym (upd_other _ d x e z)))

  now_sound : (e : ℕ) → e < max_clients → is_bad (shape (now_at m d c)) (client (now_at m d c) e) ≡ false
  now_sound e g =
      by_test (eqb e d)
      (λ q. let z : e ≡ d = eqb-true e d q in rw (z, now_columns, now_same) l.sound)
      (λ q. let z : e ≡ d → ⊥ = eqb-false e d q in rw (now_columns, now_other e z) (f.sound e g))

  now_fits : Fits (now_at m d c)
  unfolding now_at
  now_fits = record {
    long = record { table = f.long.table; nodes = f.long.nodes; answers = rw now_shape f.long.answers; clients = rw (now_shape, length_with (form m) m.clients d c l.wide room) f.long.clients };
    some = rw now_columns f.some;
    few = rw now_columns f.few;
    records = f.records;
    nodes = f.nodes;
    answers = f.answers;
    kept = λ e i. rw now_columns (f.kept e i);
    sound = now_sound;
  }

  at_now : After m (now_at m d c) (at_client (state_of m) d x)
  unfolding state_of at_client filed_of now_at
  at_now = record {
    state = state_eq now_shape (ap (λ (k : ℕ). records_in k m.table) now_columns) refl (ap (λ (sh : Shape). map (ans_of sh) (answers_in (form m) m.answers)) now_shape) (fun_ext now_client);
    fits = now_fits;
    same = now_shape;
    kept = refl;
  }

-- ---- The nodes
-- not too many, where those before are not
module _ (m : Mem) (f : Fits m) (t : Store) (r : AllRows t.nodes) (few : length (store_in (form m) m.nodes).nodes ≤ max_nodes → length t.nodes ≤ max_nodes) where
  most : length t.nodes ≤ max_nodes
  most = few (let n = length_nodes (form m) m.nodes in let y = f.nodes in omega arith)

  sized : Sized t
  sized = record { wide = r; few = most }

  pub at_store : After m (store_back m t) (with_store (state_of m) t)
  unfolding state_of with_store filed_of store_back phases_of client
  at_store = record {
    state = state_eq refl refl (store_with (form m) m.nodes f.long.nodes f.nodes t sized) refl refl;
    fits = record {
      long = record { table = f.long.table; nodes = rw (length_with_store (form m) m.nodes f.long.nodes f.nodes t sized) f.long.nodes; answers = f.long.answers; clients = f.long.clients };
      some = f.some;
      few = f.few;
      records = f.records;
      nodes = let z = count_nodes (form m) m.nodes f.long.nodes f.nodes t sized in let y = most in omega arith;
      answers = f.answers;
      kept = f.kept;
      sound = f.sound;
    };
    same = refl;
    kept = refl;
  }

-- ---- The table
module _ (m : Mem) (f : Fits m) (t : Table) (w : Wide (columns m) t) (most : length t ≤ max_records) where
  pub at_table : After m (with_table m (with_records (columns m) m.table t)) (with_tab (state_of m) t)
  unfolding state_of with_tab filed_of phases_of client
  at_table = record {
    state = state_eq refl (records_with (columns m) m.table f.few f.long.table f.records t w most) refl refl refl;
    fits = record {
      long = record { table = rw (length_with_records (columns m) m.table f.few f.long.table f.records t w most) f.long.table; nodes = f.long.nodes; answers = f.long.answers; clients = f.long.clients };
      some = f.some;
      few = f.few;
      records = let z = count_records (columns m) m.table f.few f.long.table f.records t w most in omega arith;
      nodes = f.nodes;
      answers = f.answers;
      kept = f.kept;
      sound = f.sound;
    };
    same = refl;
    kept = refl;
  }

-- ---- The filed answers
module _ (m : Mem) (f : Fits m) (es : List Entry) (w : Wide entry_width es) (most : length es ≤ max_answers) (all : (e : Entry) → In e es → Kept (shape m) e) where
  answers_back : answers_in (form m) (with_answers (form m) m.answers es) ≡ es
  answers_back = answers_with (form m) m.answers (answers_room m f) f.answers es w most

  pub at_filed : After m (with_filed m (with_answers (form m) m.answers es)) (with_filing (state_of m) (map (ans_of (shape m)) es))
  unfolding state_of with_filing filed_of phases_of client
  at_filed = record {
    state = state_eq refl refl refl (ap (map (ans_of (shape m))) answers_back) refl;
    fits = record {
      long = record { table = f.long.table; nodes = f.long.nodes; answers = rw (length_with_answers (form m) m.answers (answers_room m f) f.answers es w most) f.long.answers; clients = f.long.clients };
      some = f.some;
      few = f.few;
      records = f.records;
      nodes = f.nodes;
      answers = let z = count_answers (form m) m.answers (answers_room m f) f.answers es w most in omega arith;
      kept = λ e i. all e (rw answers_back at i);
      sound = f.sound;
    };
    same = refl;
    kept = refl;
  }

-- ---- A client after another change
pub then_now : {m n : Mem} {s : State} {c : Client} {x : Phase} → After m n s → (d : ℕ) → d < max_clients → Left (shape m) c x → After m (now_at n d c) (at_client s d x)
then_now {m} {n} {s} {c} {x} a d h l =
    let b = at_now n a.fits d h c x (rw a.same l) in
    record { state = b.state ∙ ap (λ (t : State). at_client t d x) a.state; fits = b.fits; same = b.same ∙ a.same; kept = b.kept ∙ a.kept }

pub then_idle : {m n : Mem} {s : State} → After m n s → (d : ℕ) → d < max_clients → After m (now_at n d rules.idle) (at_client s d idle)
then_idle {m} a d h = then_now a d h (idle_left (shape m))
