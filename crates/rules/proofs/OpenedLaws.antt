-- Laws of the memories that an opening leaves, in both forms: what is read from them, how long they are, and that nothing is altered past their
-- least lengths. Leans on Memory, Sound and the laws of the memories. Assumes nothing.
use mathlib.Core.Path.{◌≡◌, refl, ap, ◌∙◌}
use mathlib.Core.List.{List, [], ◌∷◌, ◌++◌, append_assoc}
use Prim.Native.Nat.{ℕ, ◌+◌, ◌-◌, ◌≤◌, ◌<◌}
use native.Mathlib.Omega.{arith}
use lib.ListN.{length, get_or, take, drop, set, replicate, length-append, length-drop, length-set, length-replicate, get_or-replicate, get_or-append}
use lib.ListN.{replicate-append-replicate}
use lib.Seq.{take_at, drop_at, get_or-set_same, get_or-set_other, drop-set-lt}
use Rattle.lists.specs.Lists.{wholes_at, wholes}
use Rattle.query.specs.Shape.{Form, narrow, wide, Shape, shape_of}
use Rattle.rules.specs.Layout.{max_clients, table_least, nodes_least, answers_least, clients_least, first_floor, record_count_offset, floor_offset, upper_floor_offset, node_count_offset}
use Rattle.rules.specs.Layout.{answer_count_offset, columns_offset, form_offset, tells_wide, client_width, kept_client, client_offset, entry_offset, revisions_offset, look_room}
use Rattle.rules.specs.Nodes.{Node, store}
use Rattle.rules.specs.Client.{idle}
use Rattle.rules.specs.Memory.{Mem, records_in, wide_floor, store_in, answers_in, client_in, cleared, opened, told}
use Rattle.rules.specs.Refusals.{form, shape, columns, client}
use Rattle.rules.specs.Sound.{Long}
use Rattle.rules.proofs.PassedChecks.{answers_any, clients_any}
use Rattle.rules.proofs.MemoryLaws.{length_records, length_nodes, length_answers}

-- ---- A cleared memory
module _ (n : ℕ) (s : List ℕ) where
  pub length_cleared : n ≤ length s → length (cleared n s) ≡ length s
  unfolding cleared
  length_cleared h = simp (length-append, length-replicate, length-drop) (omega arith)

  pub past_cleared : drop n (cleared n s) ≡ drop n s
  unfolding cleared
  past_cleared = drop_at (replicate n 0) (drop n s) n (length-replicate n 0)

  pub cleared_at : (i : ℕ) → i < n → get_or (cleared n s) i 0 ≡ 0
  unfolding cleared
  cleared_at i h =
      let z : length (replicate {A = ℕ} n 0) ≡ n = length-replicate n 0 in
      get_or-append (replicate n 0) (drop n s) 0 i (omega arith) ∙ get_or-replicate n i 0 0 h

zeros_part : (i j l : ℕ) (r : List ℕ) → take j (drop i (replicate {A = ℕ} i 0 ++ (replicate j 0 ++ (replicate l 0 ++ r)))) ≡ replicate j 0
zeros_part i j l r =
    let a : length (replicate {A = ℕ} i 0) ≡ i = length-replicate i 0 in
    let b : length (replicate {A = ℕ} j 0) ≡ j = length-replicate j 0 in
    rw (drop_at (replicate i 0) (replicate j 0 ++ (replicate l 0 ++ r)) i a) (take_at (replicate j 0) (replicate l 0 ++ r) j b)

split : (n i j : ℕ) → i + j ≤ n → replicate {A = ℕ} n 0 ≡ replicate i 0 ++ (replicate j 0 ++ replicate (n - (i + j)) 0)
split n i j h =
    let e : i + (j + (n - (i + j))) ≡ n = omega arith in
    rw (replicate-append-replicate {A = ℕ} j (n - (i + j)) 0, replicate-append-replicate {A = ℕ} i (j + (n - (i + j))) 0, e)

cleared_part : (n : ℕ) (s : List ℕ) (i j : ℕ) → i + j ≤ n → take j (drop i (cleared n s)) ≡ replicate j 0
unfolding cleared
cleared_part n s i j h = rw (split n i j h, append_assoc, append_assoc) (zeros_part i j (n - (i + j)) (drop n s))

-- none where the count is 0
none : {A : Type 0} (l : List A) → length l ≡ 0 → l ≡ []
none [] h = refl
none (x ∷ l) h = absurd (omega arith)

-- ---- The nodes' floor
floor_set : (f : Form) (s : List ℕ) → nodes_least f ≤ length s → (store_in f (set (cleared (nodes_least f) s) floor_offset first_floor)).floor ≡ first_floor
unfolding store_in wide_floor
floor_set narrow s h = let a = length_cleared (nodes_least narrow) s h in get_or-set_same (cleared (nodes_least narrow) s) floor_offset first_floor 0 (omega arith)
floor_set wide s h =
    let t : List ℕ = cleared (nodes_least wide) s in
    let a = length_cleared (nodes_least wide) s h in
    rw (get_or-set_same t floor_offset first_floor 0 (omega arith), get_or-set_other t floor_offset upper_floor_offset first_floor 0 (λ e. omega arith), cleared_at (nodes_least wide) s upper_floor_offset (omega arith)) refl

-- ---- The form that the clients memory tells
pub told_length : (f : Form) (s : List ℕ) → length (told f s) ≡ length s
unfolding told
told_length narrow s = refl
told_length wide s = length-set s form_offset tells_wide

pub told_columns : (f : Form) (s : List ℕ) → get_or (told f s) columns_offset 0 ≡ get_or s columns_offset 0
unfolding told
told_columns narrow s = refl
told_columns wide s = get_or-set_other s form_offset columns_offset tells_wide 0 (λ e. omega arith)

pub told_wide : (f : Form) (s : List ℕ) → f ≡ wide → form_offset < length s → get_or (told f s) form_offset 0 ≡ tells_wide
unfolding told
told_wide f s e h = rw e (get_or-set_same s form_offset tells_wide 0 h)

told_narrow : (f : Form) (s : List ℕ) → f ≡ narrow → get_or (told f s) form_offset 0 ≡ get_or s form_offset 0
unfolding told
told_narrow f s e = rw e refl

told_past : (f : Form) (n : ℕ) (s : List ℕ) → form_offset < n → drop n (told f s) ≡ drop n s
unfolding told
told_past narrow n s h = refl
told_past wide n s h = drop-set-lt n s form_offset tells_wide h

told_client : (f : Form) (sh : Shape) (s : List ℕ) (d k : ℕ) → d < max_clients
    → client_in f (told f (set (cleared (clients_least f sh) s) columns_offset k)) d ≡ idle
unfolding client_in told idle wholes_at wholes
told_client narrow sh s d k h =
    rw (drop-set-lt (client_offset narrow d) (cleared (clients_least narrow sh) s) columns_offset k (omega arith))
    (cleared_part (clients_least narrow sh) s (client_offset narrow d) client_width (omega arith))
told_client wide sh s d k h =
    let c : List ℕ = cleared (clients_least wide sh) s in
    let z : take (kept_client wide) (drop (client_offset wide d) (set (set c columns_offset k) form_offset tells_wide)) ≡ replicate (kept_client wide) 0 =
    rw (drop-set-lt (client_offset wide d) (set c columns_offset k) form_offset tells_wide (omega arith), drop-set-lt (client_offset wide d) c columns_offset k (omega arith))
    (cleared_part (clients_least wide sh) s (client_offset wide d) (kept_client wide) (omega arith)) in
    ap (λ (x : List ℕ). wholes_at (entry_offset + revisions_offset) look_room x) z

-- ---- The least lengths are behind the numbers that an opening sets
pub some_nodes : (f : Form) → 2 ≤ nodes_least f
some_nodes narrow = omega arith
some_nodes wide = omega arith

pub some_answers : (f : Form) (sh : Shape) → 1 ≤ answers_least f sh
some_answers narrow sh = omega arith
some_answers wide sh = omega arith

pub some_clients : (f : Form) (sh : Shape) → 2 ≤ clients_least f sh
some_clients narrow sh = omega arith
some_clients wide sh = omega arith

-- ---- The four memories
module _ (m : Mem) (sh : Shape) (l : Long m) where
  long_clients : clients_least (form m) sh ≤ length m.clients
  long_clients = rw (clients_any (form m) sh (shape m)) l.clients

  long_answers : answers_least (form m) sh ≤ length m.answers
  long_answers = rw (answers_any (form m) sh (shape m)) l.answers

  -- what is read
  pub opened_columns : columns (opened sh m) ≡ sh.columns
  unfolding opened
  opened_columns =
      let c : List ℕ = cleared (clients_least (form m) sh) m.clients in
      let a = length_cleared (clients_least (form m) sh) m.clients long_clients in
      let b = long_clients in
      let d = some_clients (form m) sh in
      told_columns (form m) (set c columns_offset sh.columns) ∙ get_or-set_same c columns_offset sh.columns 0 (omega arith)

  pub opened_shape : shape (opened sh m) ≡ sh
  opened_shape = ap shape_of opened_columns

  -- "The desks memory tells the form." (S-8)
  pub opened_wide : form m ≡ wide → get_or (opened sh m).clients form_offset 0 ≡ tells_wide
  unfolding opened
  opened_wide e =
      let c : List ℕ = cleared (clients_least (form m) sh) m.clients in
      let a = length-set c columns_offset sh.columns ∙ length_cleared (clients_least (form m) sh) m.clients long_clients in
      let b = long_clients in
      let d = some_clients (form m) sh in
      told_wide (form m) (set c columns_offset sh.columns) e (omega arith)

  pub opened_narrow : form m ≡ narrow → get_or (opened sh m).clients form_offset 0 ≡ 0
  unfolding opened
  opened_narrow e =
      let c : List ℕ = cleared (clients_least (form m) sh) m.clients in
      told_narrow (form m) (set c columns_offset sh.columns) e
      ∙ get_or-set_other c columns_offset form_offset sh.columns 0 (λ z. omega arith)
      ∙ cleared_at (clients_least (form m) sh) m.clients form_offset (some_clients (form m) sh)

  pub opened_client : (d : ℕ) → d < max_clients → client (opened sh m) d ≡ idle
  unfolding client opened
  opened_client d h = told_client (form m) sh m.clients d sh.columns h

  pub no_records : get_or (opened sh m).table record_count_offset 0 ≡ 0
  unfolding opened
  no_records = cleared_at table_least m.table record_count_offset (omega arith)

  pub opened_records : (k : ℕ) → records_in k (opened sh m).table ≡ []
  opened_records k = none _ (length_records k (opened sh m).table ∙ no_records)

  pub no_nodes : get_or (opened sh m).nodes node_count_offset 0 ≡ 0
  unfolding opened
  no_nodes =
      let s : List ℕ = cleared (nodes_least (form m)) m.nodes in
      get_or-set_other s floor_offset node_count_offset first_floor 0 (λ e. omega arith) ∙ cleared_at (nodes_least (form m)) m.nodes node_count_offset (some_nodes (form m))

  opened_floor : (store_in (form m) (opened sh m).nodes).floor ≡ first_floor
  unfolding opened
  opened_floor = floor_set (form m) m.nodes l.nodes

  nodes_none : (store_in (form m) (opened sh m).nodes).nodes ≡ []
  nodes_none = none {A = Node} _ (length_nodes (form m) (opened sh m).nodes ∙ no_nodes)

  pub opened_store : store_in (form m) (opened sh m).nodes ≡ store first_floor []
  opened_store = λ i. store (opened_floor i) (nodes_none i)

  pub no_answers : get_or (opened sh m).answers answer_count_offset 0 ≡ 0
  unfolding opened
  no_answers = cleared_at (answers_least (form m) sh) m.answers answer_count_offset (some_answers (form m) sh)

  pub opened_answers : answers_in (form m) (opened sh m).answers ≡ []
  opened_answers = none _ (length_answers (form m) (opened sh m).answers ∙ no_answers)

  -- their lengths
  pub opened_table : length (opened sh m).table ≡ length m.table
  unfolding opened
  opened_table = length_cleared table_least m.table l.table

  pub opened_nodes : length (opened sh m).nodes ≡ length m.nodes
  unfolding opened
  opened_nodes = length-set (cleared (nodes_least (form m)) m.nodes) floor_offset first_floor ∙ length_cleared (nodes_least (form m)) m.nodes l.nodes

  pub opened_filed : length (opened sh m).answers ≡ length m.answers
  unfolding opened
  opened_filed = length_cleared (answers_least (form m) sh) m.answers long_answers

  pub opened_clients : length (opened sh m).clients ≡ length m.clients
  unfolding opened
  opened_clients =
      let c : List ℕ = cleared (clients_least (form m) sh) m.clients in
      told_length (form m) (set c columns_offset sh.columns) ∙ length-set c columns_offset sh.columns ∙ length_cleared (clients_least (form m) sh) m.clients long_clients

  pub opened_form : form (opened sh m) ≡ form m
  unfolding opened
  opened_form = refl

  pub opened_long : Long (opened sh m)
  unfolding opened
  opened_long = record {
    table = let a = opened_table in let b = l.table in omega arith;
    nodes = let a = opened_nodes in let b = l.nodes in omega arith;
    answers = rw (answers_any (form m) (shape (opened sh m)) (shape m)) (let a = opened_filed in let b = l.answers in omega arith);
    clients = rw (clients_any (form m) (shape (opened sh m)) (shape m)) (let a = opened_clients in let b = l.clients in omega arith);
  }

  -- nothing past the least lengths is altered
  pub table_past : drop table_least (opened sh m).table ≡ drop table_least m.table
  unfolding opened
  table_past = past_cleared table_least m.table

  pub nodes_past : drop (nodes_least (form m)) (opened sh m).nodes ≡ drop (nodes_least (form m)) m.nodes
  unfolding opened
  nodes_past =
      let z = some_nodes (form m) in
      drop-set-lt (nodes_least (form m)) (cleared (nodes_least (form m)) m.nodes) floor_offset first_floor (omega arith) ∙ past_cleared (nodes_least (form m)) m.nodes

  pub answers_past : drop (answers_least (form m) sh) (opened sh m).answers ≡ drop (answers_least (form m) sh) m.answers
  unfolding opened
  answers_past = past_cleared (answers_least (form m) sh) m.answers

  pub clients_past : drop (clients_least (form m) sh) (opened sh m).clients ≡ drop (clients_least (form m) sh) m.clients
  unfolding opened
  clients_past =
      let n : ℕ = clients_least (form m) sh in
      let z = some_clients (form m) sh in
      told_past (form m) n (set (cleared n m.clients) columns_offset sh.columns) z
      ∙ drop-set-lt n (cleared n m.clients) columns_offset sh.columns (omega arith)
      ∙ past_cleared n m.clients
