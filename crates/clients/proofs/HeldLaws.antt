-- What was read of a client, in the rules' terms: its query, its marks, what it wants, its steps; and what more is known of it where it is sound and busy.
-- Leans on rules, query and columns. Assumes nothing.
use mathlib.Core.Path.{◌≡◌, refl, sym, ap, ◌∙◌}
use mathlib.Core.Bool.{Bool, true, false, cond}
use mathlib.Core.List.{List, [], ◌∷◌}
use Prim.Native.Nat.{ℕ, zero, suc, ◌+◌, ◌/◌, ◌%◌, ◌≤◌, ◌<◌}
use native.Mathlib.Omega.{arith}
use lib.Dec.{eqb}
use lib.ListN.{length, get_or, take, drop}
use Rattle.query.specs.Query.{Query, read_node, write_node, read_count, write_count}
use Rattle.query.specs.Encoding.{column_of, columns_in, query_in, bare_key, label_words}
use Rattle.query.specs.Shape.{Shape, shape_of, max_columns}
use Rattle.query.proofs.NodeLists.{read_count_most, write_count_most}
use Rattle.query.proofs.EncodingLaws.{query_in_length}
use Rattle.query.proofs.KeyLaws.{plain_bare}
use Rattle.rules.specs.Layout.{look_room, reads}
use Rattle.rules.specs.Answers.{key_in}
use Rattle.rules.specs.Table.{target}
use Rattle.rules.specs.Work.{Ask, read_labels, Write, write_labels, write_in, Work, asking, writing, key_of, steps_in_all}
use Rattle.rules.specs.Client.{Client, kind, steps, entry_of, query_at, write_at, work_at}
use Rattle.rules.specs.Memory.{current, shape_in, client_in}
use Rattle.rules.proofs.WorkLaws.{target_length}
use Rattle.rules.proofs.ClientLaws.{writes_at, asked_counts, steps_at, look_count_of, read_label_of, announcement_count_of, write_label_of}
use Rattle.columns.specs.declared.marked.Marked.{Marked}
use Rattle.columns.specs.MarkedContracts.{marked_query}
use Rattle.clients.specs.declared.Held.{Held}
use Rattle.clients.specs.declared.Numbers.{Numbers}
use Rattle.clients.specs.ClientContracts.{IsNumbers, IsHeld, held_query, At}
use Rattle.clients.proofs.ClientReads.{bare_values}

-- ---- The query
-- as many values as there are columns are enough
columns_take : (k m n : ℕ) (vs : List ℕ) → k ≤ n → columns_in k m (take n vs) ≡ columns_in k m vs
unfolding columns_in
columns_take zero m n vs h = refl
columns_take (suc k) m zero vs h = absurd (omega arith)
columns_take (suc k) m (suc n) [] h = refl
columns_take (suc k) m (suc n) (v ∷ vs) h = ap (λ (q : Query). column_of (m % 2) v ∷ q) (columns_take k (m / 2) n vs (omega arith))

-- of any client's numbers
pub numbers_law : (k m : ℕ) (vs : List ℕ) (c : Client) → k ≤ max_columns → m ≡ get_or (bare_key (key_in (entry_of c))) 0 0
    → vs ≡ take max_columns (drop 1 (key_in (entry_of c))) → columns_in k m vs ≡ query_at (shape_of k) c
unfolding query_at query_in
numbers_law k m vs c few b v =
    let key : List ℕ = key_in (entry_of c) in
    rw (b, v, ← bare_values key) (columns_take k (get_or (bare_key key) 0 0) max_columns (drop 1 (bare_key key)) few)

pub numbers_query_law : (n : Numbers) (s : List ℕ) (d : ℕ) → IsNumbers n s d → n.columns ≤ max_columns → columns_in n.columns n.marks n.values ≡ query_at (shape_in s) (client_in current s d)
numbers_query_law n s d i few = rw (← i.columns) (numbers_law n.columns n.marks n.values (client_in current s d) few i.marks i.values)

-- of what is held of one
pub query_law : (q : Marked) (k : ℕ) (c : Client) → q.k ≡ k → q.marks ≡ get_or (bare_key (key_in (entry_of c))) 0 0
    → q.values ≡ take max_columns (drop 1 (key_in (entry_of c))) → marked_query q ≡ query_at (shape_of k) c
query_law q k c a b v = rw a (numbers_law k q.marks q.values c (let z = q.few in omega arith) b v)

pub held_query_law : (h : Held) (s : List ℕ) (d : ℕ) → IsHeld h s d → held_query h ≡ query_at (shape_in s) (client_in current s d)
held_query_law h s d i = query_law h.query _ _ i.columns i.marks i.values

-- ---- A sound, busy client
steps_most : (sh : Shape) (c : Client) → sh.columns ≤ max_columns → steps_in_all (work_at sh c) ≤ look_room + 1 + look_room
unfolding query_at
steps_most sh c l =
    let q : Query = query_in sh (bare_key (key_in (entry_of c))) in
    let n : length q ≤ max_columns = (let z = query_in_length sh (bare_key (key_in (entry_of c))) in omega arith) in
    rw (steps_at sh c) (go (eqb (kind c) reads) (read_count_most q n) (write_count_most q n))
  where
    go : {a b : ℕ} (y : Bool) → a ≤ look_room → b ≤ look_room → cond y (a + 3) (b + 1 + b) ≤ look_room + 1 + look_room
    go true m n = omega arith
    go false m n = omega arith

module _ {h : Held} {s : List ℕ} {d : ℕ} {w : Work} (a : At h s d w) where
  pub at_query : held_query h ≡ query_at (shape_in s) (client_in current s d)
  at_query = held_query_law h s d a.held

  -- it has made few steps
  pub at_steps : steps (client_in current s d) < look_room + 1 + look_room
  at_steps =
      let m = steps_most (shape_in s) (client_in current s d) a.busy.most in
      let e = ap steps_in_all a.busy.work in
      let g = a.busy.going in
      omega arith

-- what a reader wants, and its nodes, by what was read
module _ {h : Held} {s : List ℕ} {d : ℕ} {x : Ask} (a : At h s d (asking x)) where
  pub reader_counts : h.counts ≡ x.counts
  reader_counts = a.held.counts ∙ asked_counts a.busy

  pub reader_looks : read_count (held_query h) ≡ length (read_labels x)
  reader_looks = ap read_count (at_query a) ∙ sym (look_count_of a.busy)

  pub reader_few : length (read_labels x) ≤ look_room
  reader_few = rw (look_count_of a.busy) (unfold query_at in read_count_most _ (let z = query_in_length (shape_in s) (bare_key (key_in (entry_of (client_in current s d)))) in let l = a.busy.most in omega arith))

  pub reader_label : (i : ℕ) → i < length (read_labels x) → label_words (read_node (held_query h) i) ≡ get_or (read_labels x) i []
  reader_label i l = ap (λ (q : Query). label_words (read_node q i)) (at_query a) ∙ sym (read_label_of a.busy i l)

-- a writer's
module _ {h : Held} {s : List ℕ} {d : ℕ} {w : Write} (a : At h s d (writing w)) where
  -- its key does not say "count"
  pub writer_bare : bare_key (key_in (entry_of (client_in current s d))) ≡ key_in (entry_of (client_in current s d))
  unfolding key_of write_at write_in
  writer_bare =
      let c : Client = client_in current s d in
      let l : length (target w.change) ≡ (shape_in s).columns = rw (← writes_at a.busy) (target_length (shape_in s) (kind c) (key_in (entry_of c))) in
      ap bare_key a.busy.key ∙ plain_bare (target w.change) (let z = a.busy.most in omega arith) ∙ sym a.busy.key

  pub writer_announcements : write_count (held_query h) ≡ length (write_labels w)
  writer_announcements = ap write_count (at_query a) ∙ sym (announcement_count_of a.busy)

  pub writer_few : length (write_labels w) ≤ look_room
  writer_few = rw (announcement_count_of a.busy) (unfold query_at in write_count_most _ (let z = query_in_length (shape_in s) (bare_key (key_in (entry_of (client_in current s d)))) in let l = a.busy.most in omega arith))

  pub writer_label : (i : ℕ) → i < length (write_labels w) → label_words (write_node (held_query h) i) ≡ get_or (write_labels w) i []
  writer_label i l = ap (λ (q : Query). label_words (write_node q i)) (at_query a) ∙ sym (write_label_of a.busy i l)
