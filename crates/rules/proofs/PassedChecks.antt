-- What each call's code tells where it is 0: the memories are long and sound, and every other test of the call is passed. Leans on
-- Refusals. Assumes nothing.
use mathlib.Core.Path.{◌≡◌, refl}
use mathlib.Core.Bool.{Bool, true, false, cond, not, ◌&&◌, ◌||◌}
use mathlib.Core.List.{List, []}
use Prim.Native.Nat.{ℕ, ◌≤◌, ◌<◌}
use native.Mathlib.Omega.{arith}
use lib.Dec.{eqb, ltb, leb}
use borrow.Author.Tests.{ltb-false, le-ltb, leb-false, eqb-true, eqb-false, ne_eqb, not-false}
use lib.ListN.{length, get_or}
use Rattle.laws.proofs.ListLaws.{below_at, and_left, and_right}
use Rattle.laws.proofs.TestLaws.{or_false, passed}
use Rattle.query.specs.Encoding.{query_of, is_query, names_all}
use Rattle.query.specs.declared.Range.{Range}
use Rattle.rules.specs.Layout.{record_count_offset, node_count_offset, answer_count_offset, max_records, max_nodes, max_answers, max_clients, table_least, nodes_least, answers_least, clients_least, tray_least}
use Rattle.rules.specs.Nodes.{is_worn, pending}
use Rattle.rules.specs.Client.{is_idle, is_bad, work_at}
use Rattle.rules.specs.Work.{Request, read_of, insert_of, delete_of, ask_fault, ask_of, is_write, fault_of}
use Rattle.rules.specs.Layout.{refused_columns}
use Rattle.rules.specs.Memory.{Mem, store_in}
use Rattle.query.specs.Shape.{Form, narrow, wide, Shape, shape_of, max_columns}
use Rattle.rules.specs.Sound.{Long, Sound, Busy}
use Rattle.rules.proofs.ClientLaws.{busy_of, client_room, client_wide}
use Rattle.rules.specs.Refusals.{form, shape}
use Rattle.rules.specs.Refusals.{columns, client, is_short, bad_columns, is_unsound, no_client, all_idle, open_code, at_client, begin_code, step_code, abandon_code, evict_answer_code, evict_node_code, renew_code}

-- ---- Memories that are long
pub answers_any : (f : Form) (a b : Shape) → answers_least f a ≡ answers_least f b
answers_any narrow a b = refl
answers_any wide a b = refl

pub clients_any : (f : Form) (a b : Shape) → clients_least f a ≡ clients_least f b
clients_any narrow a b = refl
clients_any wide a b = refl

pub long : (sh : Shape) (m : Mem) → is_short sh m ≡ false → Long m
unfolding is_short
long sh m e =
    let a = or_false _ _ e in
    let b = or_false _ _ a.1 in
    let c = or_false _ _ b.1 in
    record { table = ltb-false _ _ a.0; nodes = ltb-false _ _ b.0; answers = rw (answers_any (form m) (shape m) sh) (ltb-false _ _ c.0); clients = rw (clients_any (form m) (shape m) sh) (ltb-false _ _ c.1) }

columns_passed : (k : ℕ) → bad_columns k ≡ false → (1 ≤ k) × (k ≤ max_columns)
unfolding bad_columns
columns_passed k e =
    let a = or_false _ _ e in
    let n = eqb-false k 0 a.0 in
    (omega arith, ltb-false max_columns k a.1)

pub open_passed : (m : Mem) (k : ℕ) → open_code m k ≡ 0 → Long m × ((1 ≤ k) × (k ≤ max_columns))
unfolding open_code
open_passed m k e =
    let p = passed (is_short (shape_of k) m) 0 _ e in
    (long (shape_of k) m p.0, columns_passed k (passed (bad_columns k) 1 0 p.1).0)

-- ---- And sound
pub sound : (m : Mem) → is_short (shape m) m ≡ false → is_unsound m ≡ false → Sound m
unfolding is_unsound
sound m s e =
    let a = or_false _ _ e in
    let b = or_false _ _ a.1 in
    let c = or_false _ _ b.1 in
    let d = or_false _ _ c.1 in
    let k = columns_passed (columns m) a.0 in
    record {
      long = long (shape m) m s;
      least = k.0;
      most = k.1;
      records = ltb-false _ _ b.0;
      nodes = ltb-false _ _ c.0;
      answers = ltb-false _ _ d.0;
      lists = d.1;
    }

-- and the other way
pub not_short : (m : Mem) → Long m → is_short (shape m) m ≡ false
unfolding is_short
not_short m l =
    rw (
      le-ltb (length m.table) table_least l.table,
      le-ltb (length m.nodes) (nodes_least (form m)) l.nodes,
      le-ltb (length m.answers) (answers_least (form m) (shape m)) l.answers,
      le-ltb (length m.clients) (clients_least (form m) (shape m)) l.clients,
    ) refl

pub not_unsound : (m : Mem) → Sound m → is_unsound m ≡ false
unfolding is_unsound bad_columns
not_unsound m s =
    let k = s.least in
    rw (
      ne_eqb (columns m) 0 (λ e. omega arith),
      le-ltb max_columns (columns m) s.most,
      le-ltb max_records (get_or m.table record_count_offset 0) s.records,
      le-ltb max_nodes (get_or m.nodes node_count_offset 0) s.nodes,
      le-ltb max_answers (get_or m.answers answer_count_offset 0) s.answers,
      s.lists,
    ) refl

-- ---- A busy client
client_passed : (d : ℕ) → no_client d ≡ false → d < max_clients
unfolding no_client
client_passed d e = leb-false _ _ e

-- what the call finds: the memories, the client's number and the client
abbrev pub AtWork : Mem → ℕ → Type 0
AtWork m d = Sound m × (d < max_clients) × Busy (shape m) (client m d) (work_at (shape m) (client m d))

busy_passed : (m : Mem) (d : ℕ) → is_short (shape m) m ≡ false → at_client m d ≡ 0 → AtWork m d
unfolding at_client client
busy_passed m d s e =
    let p3 = passed (is_unsound m) 2 _ e in
    let p4 = passed (no_client d) 3 _ p3.1 in
    let p5 = passed (is_bad (shape m) (client m d)) 2 _ p4.1 in
    let p6 = passed (is_idle (client m d)) 5 0 p5.1 in
    let good = sound m s p3.0 in
    let low = client_passed d p4.0 in
    let w = client_wide (form m) m.clients d (client_room (form m) (shape m) m.clients d low good.long.clients) in
    (good, low, busy_of (shape m) (client m d) good.least good.most w p5.0 p6.0)

-- an idle client is found in sound memories alone
pub idle_passed : (m : Mem) (d : ℕ) → is_short (shape m) m ≡ false → at_client m d ≡ 6 → Sound m
unfolding at_client
idle_passed m d s e = sound m s (go (is_unsound m) _ e)
  where
    go : (b : Bool) (rest : ℕ) → cond b 3 rest ≡ 6 → b ≡ false
    go true rest f = absurd (omega arith)
    go false rest f = refl

-- the tray has room, and the client is busy
pub step_passed : (m : Mem) (tray : List ℕ) (d : ℕ) → step_code m tray d ≡ 0 → (tray_least ≤ length tray) × AtWork m d
unfolding step_code
step_passed m tray d e =
    let p = passed (is_short (shape m) m || ltb (length tray) tray_least) 0 _ e in
    let q = or_false _ _ p.0 in
    (ltb-false _ _ q.1, busy_passed m d q.0 p.1)

pub abandon_passed : (m : Mem) (d : ℕ) → abandon_code m d ≡ 0 → AtWork m d
unfolding abandon_code
abandon_passed m d e =
    let p = passed (is_short (shape m) m) 0 _ e in
    busy_passed m d p.0 p.1

-- a code that stood for another was passed over
code_passed : (n rest : ℕ) → cond (not (eqb n 0)) n rest ≡ 0 → (n ≡ 0) × (rest ≡ 0)
code_passed n rest e = go (eqb n 0) refl e
  where
    go : (b : Bool) → eqb n 0 ≡ b → cond (not b) n rest ≡ 0 → (n ≡ 0) × (rest ≡ 0)
    go true q f = (eqb-true n 0 q, f)
    go false q f = absurd (eqb-false n 0 q f)

-- ---- Begins
pub record Begins (m : Mem) (d : ℕ) (r : Request) : Type 0 where
  pub memories : Sound m
  pub good : fault_of (shape m) r ≡ 0
  pub below : d < max_clients
  pub rests : is_idle (client m d) ≡ true
  pub fresh : is_write r ≡ true → is_worn (form m) (shape m) (store_in (form m) m.nodes) ≡ false

-- what arrives at such a begin is a query of the hall, of a read with a range that it takes, and of an insert one that names every column
query_good : (b : Bool) → cond b 0 refused_columns ≡ 0 → b ≡ true
query_good true e = refl
query_good false e = absurd (omega arith)

range_good : (b : Bool) (n : ℕ) → cond b n refused_columns ≡ 0 → (b ≡ true) × (n ≡ 0)
range_good true n e = (refl, e)
range_good false n e = absurd (omega arith)

pub read_good : (sh : Shape) (counts : Bool) (range : Range) (a : List ℕ) → fault_of sh (read_of counts range a) ≡ 0
    → (is_query sh a ≡ true) × (ask_fault (ask_of sh counts range a) ≡ 0)
unfolding fault_of
read_good sh counts range a e = range_good (is_query sh a) (ask_fault (ask_of sh counts range a)) e

pub insert_good : (sh : Shape) (a : List ℕ) → fault_of sh (insert_of a) ≡ 0 → (is_query sh a ≡ true) × (names_all (query_of a) ≡ true)
unfolding fault_of
insert_good sh a e = let z = query_good (is_query sh a && names_all (query_of a)) e in (and_left _ _ z, and_right (is_query sh a) _ z)

pub delete_good : (sh : Shape) (a : List ℕ) → fault_of sh (delete_of a) ≡ 0 → is_query sh a ≡ true
unfolding fault_of
delete_good sh a e = query_good (is_query sh a) e

-- of two tests that do not both pass, where the first does
and_rest : (a b : Bool) → a && b ≡ false → a ≡ true → b ≡ false
and_rest a b e h = rw h at e

pub begin_passed : (m : Mem) (d : ℕ) (r : Request) → begin_code m d r ≡ 0 → Begins m d r
unfolding begin_code
begin_passed m d r e =
    let p1 = passed (is_short (shape m) m) 0 _ e in
    let p2 = code_passed (fault_of (shape m) r) _ p1.1 in
    let p3 = passed (is_unsound m) 2 _ p2.1 in
    let p4 = passed (no_client d) 3 _ p3.1 in
    let p5 = passed (is_bad (shape m) (client m d)) 2 _ p4.1 in
    let p6 = passed (not (is_idle (client m d))) 4 _ p5.1 in
    let p7 = passed (is_write r && is_worn (form m) (shape m) (store_in (form m) m.nodes)) 9 0 p6.1 in
    record {
      memories = sound m p1.0 p3.0;
      good = p2.0;
      below = client_passed d p4.0;
      rests = not-false _ p6.0;
      fresh = λ w. and_rest _ _ p7.0 w;
    }

-- ---- Evictions and renewals
sound_passed : (m : Mem) (rest : ℕ) → cond (is_short (shape m) m) 1 (cond (is_unsound m) 3 rest) ≡ 0 → Sound m × (rest ≡ 0)
sound_passed m rest e =
    let p = passed (is_short (shape m) m) 0 _ e in
    let q = passed (is_unsound m) 2 _ p.1 in
    (sound m p.0 q.0, q.1)

pub evict_answer_passed : (m : Mem) (i : ℕ) → evict_answer_code m i ≡ 0 → Sound m × (i < get_or m.answers answer_count_offset 0)
unfolding evict_answer_code
evict_answer_passed m i e =
    let p = sound_passed m _ e in
    (p.0, leb-false _ _ (passed (leb (get_or m.answers answer_count_offset 0) i) 7 0 p.1).0)

pub evict_node_passed : (m : Mem) (i : ℕ) → evict_node_code m i ≡ 0
    → Sound m × (i < get_or m.nodes node_count_offset 0) × (pending (get_or (store_in (form m) m.nodes).nodes i []) ≡ 0)
unfolding evict_node_code
evict_node_passed m i e =
    let p = sound_passed m _ e in
    let r = passed (leb (get_or m.nodes node_count_offset 0) i) 7 _ p.1 in
    let s = ltb-false 0 (pending (get_or (store_in (form m) m.nodes).nodes i [])) (passed (ltb 0 (pending (get_or (store_in (form m) m.nodes).nodes i []))) 8 0 r.1).0 in
    (p.0, leb-false _ _ r.0, omega arith)

pub renew_passed : (m : Mem) → renew_code m ≡ 0 → Sound m × ((d : ℕ) → d < max_clients → is_idle (client m d) ≡ true)
unfolding renew_code all_idle
renew_passed m e =
    let p = sound_passed m _ e in
    (p.0, λ d h. below_at max_clients (λ d. is_idle (client m d)) d (not-false _ (passed (not (all_idle m)) 10 0 p.1).0) h)
