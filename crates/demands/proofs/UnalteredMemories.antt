-- What each change that the rules make to a memory leaves past its least length, for memories of any contents that pass the refusals.
-- Leans on rules' Memory and Steps, and on its laws of the memories. Assumes nothing.
use mathlib.Core.Path.{◌≡◌, refl, sym, subst, ◌∙◌}
use mathlib.Core.List.{List}
use Prim.Native.Nat.{ℕ, ◌+◌, ◌≤◌, ◌<◌}
use native.Mathlib.Omega.{arith}
use lib.ListN.{length}
use Rattle.lists.specs.Lists.{written}
use Rattle.laws.proofs.RowLaws.{Wide}
use Rattle.laws.proofs.WrittenLaws.{length_written, drop_written}
use Rattle.query.specs.Shape.{Form, Shape}
use Rattle.rules.specs.Layout.{max_records, max_answers, max_clients, table_least, nodes_least, answers_least, clients_least, entry_width, answers_end, client_width}
use Rattle.rules.specs.Table.{Table}
use Rattle.rules.specs.Nodes.{Store}
use Rattle.rules.specs.Answers.{Entry}
use Rattle.rules.specs.Client.{Client}
use Rattle.rules.specs.Memory.{Mem, records_in, with_records, store_in, with_store, answers_in, with_answers, with_client, with_table, with_filed, opened}
use Rattle.rules.specs.Refusals.{form, columns, shape}
use Rattle.rules.specs.Steps.{now_at, store_back}
use Rattle.rules.specs.Sound.{Long, Sound}
use Rattle.rules.proofs.NodeSizes.{Sized}
use Rattle.rules.proofs.ClientLaws.{client_room, length_with, past_client}
use Rattle.rules.proofs.MemoryLaws.{length_records, wide_records, length_with_records, past_records, length_with_store, past_store, answers_room, length_answers, wide_answers, length_with_answers, past_answers}
use Rattle.rules.proofs.MemoryLaws as memory
use Rattle.rules.proofs.OpenedLaws.{opened_form, opened_table, opened_nodes, opened_filed, opened_clients, table_past, nodes_past, answers_past, clients_past}
use Rattle.demands.specs.Demand1.{Unaltered}

-- ---- One memory
pub unaltered_same : (n : ℕ) (s : List ℕ) → Unaltered n s s
unaltered_same n s = record { size = refl; past = refl }

pub unaltered_then : {n : ℕ} {s t u : List ℕ} → Unaltered n s t → Unaltered n t u → Unaltered n s u
unaltered_then a b = record { size = b.size ∙ a.size; past = b.past ∙ a.past }

pub unaltered_written : (n : ℕ) (s : List ℕ) (i : ℕ) (v : List ℕ) → i + length v ≤ n → n ≤ length s → Unaltered n s (written s i v)
unaltered_written n s i v h k = record { size = length_written s i v (omega arith); past = drop_written s i v (omega arith) n h }

unaltered_client : (f : Form) (sh : Shape) (s : List ℕ) (d : ℕ) (c : Client) → clients_least f sh ≤ length s → d < max_clients → length c ≡ client_width
    → Unaltered (clients_least f sh) s (with_client f s d c)
unaltered_client f sh s d c l h w = record { size = length_with f s d c w (client_room f sh s d h l); past = past_client f sh s d c w h l }

-- ---- The four memories
pub record AllUnaltered (sh : Shape) (m n : Mem) : Type 0 where
  -- they are read in the same form
  pub kept : form n ≡ form m
  pub table : Unaltered table_least m.table n.table
  pub nodes : Unaltered (nodes_least (form m)) m.nodes n.nodes
  pub answers : Unaltered (answers_least (form m) sh) m.answers n.answers
  pub clients : Unaltered (clients_least (form m) sh) m.clients n.clients

pub all_same : (sh : Shape) (m : Mem) → AllUnaltered sh m m
all_same sh m = record { kept = refl; table = unaltered_same _ _; nodes = unaltered_same _ _; answers = unaltered_same _ _; clients = unaltered_same _ _ }

-- a client after another change
pub all_now : (sh : Shape) (m n : Mem) (d : ℕ) (c : Client) → AllUnaltered sh m n → clients_least (form m) sh ≤ length m.clients → d < max_clients → length c ≡ client_width
    → AllUnaltered sh m (now_at n d c)
unfolding now_at
all_now sh m n d c a l h w =
    let z = a.clients.size in
    record {
      kept = a.kept;
      table = a.table;
      nodes = a.nodes;
      answers = a.answers;
      clients = unaltered_then a.clients
          (subst (λ f. Unaltered (clients_least (form m) sh) n.clients (with_client f n.clients d c)) (sym a.kept)
          (unaltered_client (form m) sh n.clients d c (omega arith) h w));
    }

-- the nodes
pub sized_in : (m : Mem) → Sound m → Sized (store_in (form m) m.nodes)
sized_in m s = memory.sized_in (form m) m.nodes s.long.nodes s.nodes

pub unaltered_store : (m : Mem) (t : Store) → Sound m → Sized t → Unaltered (nodes_least (form m)) m.nodes (with_store (form m) m.nodes t)
unaltered_store m t s z = record {
  size = length_with_store (form m) m.nodes s.long.nodes s.nodes t z;
  past = past_store (form m) m.nodes s.long.nodes s.nodes t z;
}

pub all_store : (m : Mem) (t : Store) → Sound m → Sized t → AllUnaltered (shape m) m (store_back m t)
unfolding store_back
all_store m t s z = record {
  kept = refl;
  table = unaltered_same _ _;
  nodes = unaltered_store m t s z;
  answers = unaltered_same _ _;
  clients = unaltered_same _ _;
}

-- the filed answers
room_filed : (m : Mem) → Sound m → answers_end (form m) ≤ length m.answers
room_filed m s = answers_room (form m) (shape m) (length m.answers) s.long.answers

pub unaltered_answers : (m : Mem) (es : List Entry) → Sound m → Wide entry_width es → length es ≤ max_answers
    → Unaltered (answers_least (form m) (shape m)) m.answers (with_answers (form m) m.answers es)
unaltered_answers m es s w h = record {
  size = length_with_answers (form m) m.answers (room_filed m s) s.answers es w h;
  past = past_answers (form m) (shape m) m.answers s.long.answers s.answers es w h;
}

pub all_filed : (m : Mem) (es : List Entry) → Sound m → Wide entry_width es → length es ≤ max_answers → AllUnaltered (shape m) m (with_filed m (with_answers (form m) m.answers es))
all_filed m es s w h = record {
  kept = refl;
  table = unaltered_same _ _;
  nodes = unaltered_same _ _;
  answers = unaltered_answers m es s w h;
  clients = unaltered_same _ _;
}

pub wide_filed_in : (m : Mem) → Sound m → Wide entry_width (answers_in (form m) m.answers) × (length (answers_in (form m) m.answers) ≤ max_answers)
wide_filed_in m s =
    let n = length_answers (form m) m.answers in
    let a = s.answers in
    (wide_answers (form m) m.answers (room_filed m s) a, omega arith)

-- the records
pub all_table : (m : Mem) (t : Table) → Sound m → Wide (columns m) t → length t ≤ max_records → AllUnaltered (shape m) m (with_table m (with_records (columns m) m.table t))
all_table m t s w h = record {
  kept = refl;
  table = record {
    size = length_with_records (columns m) m.table s.most s.long.table s.records t w h;
    past = past_records (columns m) m.table s.most s.long.table s.records t w h;
  };
  nodes = unaltered_same _ _;
  answers = unaltered_same _ _;
  clients = unaltered_same _ _;
}

pub wide_held : (m : Mem) → Sound m → Wide (columns m) (records_in (columns m) m.table) × (length (records_in (columns m) m.table) ≤ max_records)
wide_held m s =
    let n = length_records (columns m) m.table in
    let a = s.records in
    (wide_records (columns m) m.table s.most s.long.table a, omega arith)

-- what an opening leaves
pub all_opened : (m : Mem) (sh : Shape) → Long m → AllUnaltered sh m (opened sh m)
all_opened m sh l = record {
  kept = opened_form m sh l;
  table = record { size = opened_table m sh l; past = table_past m sh l };
  nodes = record { size = opened_nodes m sh l; past = nodes_past m sh l };
  answers = record { size = opened_filed m sh l; past = answers_past m sh l };
  clients = record { size = opened_clients m sh l; past = clients_past m sh l };
}
