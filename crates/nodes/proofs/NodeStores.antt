-- Laws of the floor and the nodes as the nodes memory holds them: what is read, and what another floor and other nodes leave there, in the terms
-- of the numbers that are stored. Leans on the rules' definitions, on their laws of the memories and on the laws of entries. Assumes nothing.
use mathlib.Core.Path.{◌≡◌, refl, sym, ap, ◌∙◌}
use mathlib.Core.List.{List, [], ◌∷◌, ◌++◌}
use Prim.Native.Nat.{ℕ, zero, suc, ◌+◌, ◌*◌, ◌-◌, ◌≤◌, ◌<◌, max}
use native.Mathlib.Omega.{arith}
use lib.ListN.{length, get_or, take, drop, set, replicate, length-drop, length-replicate}
use lib.Seq.{get_or-set_other, set-get_or, set-set, set_comm, length-take-le, ext_get_or}
use borrow.Rule.Slice.PartMut.{put_mid}
use Rattle.std.proofs.lemmas.List.{set-append_right}
use Rattle.lists.specs.Lists.{written, flat, with_entries}
use Rattle.laws.specs.Splice.{removed}
use Rattle.laws.proofs.WrittenLaws.{set_before, get_or_before, mid_written}
use Rattle.laws.proofs.EntryLaws.{entry_word, with_append, with_remove, with_word, with_self, with_none, with_with, length_with}
use Rattle.rules.specs.Nodes.{Words, Node, Store, store, revision, with_pending, with_revision, evict_node, new_node, added}
use Rattle.rules.specs.Memory.{current, store_in, with_store}
use Rattle.rules.proofs.NodeLaws.{new_wide}
use Rattle.rules.proofs.NodeSizes.{Sized}
use Rattle.rules.proofs.MemoryLaws as rules
use Rattle.nodes.specs.NodeContracts.{Fit, node_at, with_node_at}
use Rattle.lists.specs.Lists.{header}
use Rattle.query.specs.Encoding.{label_width}
use Rattle.rules.specs.Layout.{max_nodes, floor_offset, node_count_offset, pending_offset, revision_offset, node_width}

-- a memory u of the same length as s that is fit again
pub record Keeps (s u : List ℕ) : Type 0 where
  pub fit : Fit u
  pub size : length u ≡ length s

-- a list of five, number by number
pub five : (p : Words) → length p ≡ label_width → p ≡ get_or p 0 0 ∷ get_or p 1 0 ∷ get_or p 2 0 ∷ get_or p 3 0 ∷ get_or p 4 0 ∷ []
five p h = ext_get_or 0 p (get_or p 0 0 ∷ get_or p 1 0 ∷ get_or p 2 0 ∷ get_or p 3 0 ∷ get_or p 4 0 ∷ []) h (λ i k. go i (rw h at k))
  where
    go : (i : ℕ) → i < 5 → get_or p i 0 ≡ get_or (get_or p 0 0 ∷ get_or p 1 0 ∷ get_or p 2 0 ∷ get_or p 3 0 ∷ get_or p 4 0 ∷ []) i 0
    go zero k = refl
    go (suc zero) k = refl
    go (suc (suc zero)) k = refl
    go (suc (suc (suc zero))) k = refl
    go (suc (suc (suc (suc zero)))) k = refl
    go (suc (suc (suc (suc (suc i))))) k = absurd (omega arith)

-- ---- what is read
module _ (s : List ℕ) where
  pub count_nodes : length (store_in current s).nodes ≡ get_or s node_count_offset 0
  count_nodes = rules.length_nodes current s

  pub floor_in : (store_in current s).floor ≡ get_or s floor_offset 0
  unfolding store_in
  floor_in = refl

  pub node_word : (i j : ℕ) → i < get_or s node_count_offset 0 → j < 8 → get_or (get_or (store_in current s).nodes i []) j 0 ≡ get_or s (header + i * node_width + j) 0
  unfolding store_in
  node_word i j h k = entry_word 1 8 s i j h k

  pub sized_in : Fit s → Sized (store_in current s)
  sized_in f = rules.sized_in current s f.long f.few

-- ---- what is written
-- the header, but for the count, and the entries do not meet
with_header : (s : List ℕ) (x : ℕ) (es : List Node) → 8 ≤ length s → with_entries 1 8 (set s 0 x) es ≡ set (with_entries 1 8 s es) 0 x
unfolding with_entries
with_header s x es h =
    let v : List ℕ = flat es ++ replicate ((get_or s node_count_offset 0 - length es) * 8) 0 in
    rw (get_or-set_other s 0 1 x 0 (λ e. omega arith), ← set_before s 8 v 0 x (omega arith) h) (set_comm (written s 8 v) 0 1 x (length es) (λ e. omega arith))

module _ (s : List ℕ) (t : Store) (f : Fit s) (z : Sized t) where
  pub length_store : length (with_store current s t) ≡ length s
  length_store = rules.length_with_store current s f.long f.few t z

  pub count_store : get_or (with_store current s t) node_count_offset 0 ≡ length t.nodes
  count_store = rules.count_nodes current s f.long f.few t z

  -- a fit memory is left fit, and as long as it was
  pub keeps_store : Keeps s (with_store current s t)
  keeps_store =
      let l : length (with_store current s t) ≡ length s = length_store in
      let n : get_or (with_store current s t) node_count_offset 0 ≡ length t.nodes = count_store in
      record { fit = record { long = omega arith; few = omega arith }; size = l }

  -- what is written is read back
  pub store_back : store_in current (with_store current s t) ≡ t
  store_back = rules.store_with current s f.long f.few t z

-- what was there, written again
pub store_self : (s : List ℕ) → Fit s → with_store current s (store_in current s) ≡ s
unfolding with_store store_in
store_self s f = rw (with_self 1 8 s (omega arith) (omega arith)) (set-get_or s floor_offset 0)

-- what is written last stands, as if it alone had been written; what was written before must not have been more nodes than both
pub store_twice : (s : List ℕ) (a b : Store) → Fit s → Sized a → Sized b → (length b.nodes < length a.nodes → length a.nodes ≤ get_or s node_count_offset 0)
    → with_store current (with_store current s a) b ≡ with_store current s b
unfolding with_store
store_twice s a b f x y h =
    let l : length (with_entries 1 8 s a.nodes) ≡ length s = length_with 1 8 s a.nodes x.wide (omega arith) (omega arith) in
    rw (with_header (with_entries 1 8 s a.nodes) a.floor b.nodes (omega arith), with_with 1 8 s a.nodes b.nodes (omega arith) x.wide y.wide (omega arith) (omega arith) h)
    (set-set (with_entries 1 8 s b.nodes) 0 a.floor b.floor)

-- the floor is where it was
keep_floor : (s : List ℕ) (i x : ℕ) → (0 ≡ i → ⊥) → set (set s i x) 0 (get_or s floor_offset 0) ≡ set s i x
keep_floor s i x h = ap (set (set s i x) 0) (sym (get_or-set_other s i 0 x 0 h)) ∙ set-get_or (set s i x) 0 0

module _ (s : List ℕ) (f : Fit s) where
  -- one number of node i altered: its pending writes, its revision
  store_word : (i j x : ℕ) → i < get_or s node_count_offset 0 → j < node_width
      → with_store current s (with_node_at i (set (node_at i (store_in current s)) j x) (store_in current s)) ≡ set s (header + i * node_width + j) x
  unfolding with_store store_in
  store_word i j x h k = rw (with_word 1 8 s (omega arith) i j x (omega arith) h k) (keep_floor s (header + i * node_width + j) x (λ e. omega arith))

  pub store_pending : (i x : ℕ) → i < get_or s node_count_offset 0
      → with_store current s (with_node_at i (with_pending (node_at i (store_in current s)) x) (store_in current s)) ≡ set s (header + i * node_width + pending_offset) x
  unfolding with_pending
  store_pending i x h = store_word i pending_offset x h (omega arith)

  pub store_revision : (i x : ℕ) → i < get_or s node_count_offset 0
      → with_store current s (with_node_at i (with_revision (node_at i (store_in current s)) x) (store_in current s)) ≡ set s (header + i * node_width + revision_offset) x
  unfolding with_revision
  store_revision i x h = store_word i revision_offset x h (omega arith)

  -- node i taken out
  pub store_evict : (u : List ℕ) (i at e x : ℕ) → at ≡ header + i * node_width → e ≡ header + get_or s node_count_offset 0 * node_width → u ≡ removed s at node_width e
      → x ≡ max (get_or s floor_offset 0) (get_or s (at + revision_offset) 0) → i < get_or s node_count_offset 0
      → set (set u 1 (get_or s node_count_offset 0 - 1)) 0 x ≡ with_store current s (evict_node i (store_in current s))
  unfolding with_store store_in evict_node revision
  store_evict u i at e x b c a d h =
      rw (a, d, b, c, with_remove 1 8 s (omega arith) i h, entry_word 1 8 s i 6 h (omega arith))

  -- the label's node put in last
  pub store_added : (p : Words) (at : ℕ) (v : List ℕ) → length p ≡ label_width → at ≡ header + get_or s node_count_offset 0 * node_width → v ≡ new_node p (get_or s floor_offset 0)
      → get_or s node_count_offset 0 < max_nodes → set (put_mid at (at + node_width - at) s v) 1 (get_or s node_count_offset 0 + 1) ≡ with_store current s (added p (store_in current s))
  unfolding with_store store_in added
  store_added p at v l b a h =
      let r : List ℕ = new_node p (get_or s floor_offset 0) in
      let m : length v ≡ at + node_width - at = ap length a ∙ new_wide p (get_or s floor_offset 0) l ∙ omega arith in
      let w : List ℕ = written s (header + get_or s node_count_offset 0 * node_width) r in
      let k : get_or w 0 0 ≡ get_or s floor_offset 0 = get_or_before s (header + get_or s node_count_offset 0 * node_width) r (omega arith) 0 0 (omega arith) in
      rw (mid_written s at (at + node_width - at) v m, a, b, with_append 1 8 s (omega arith) r)
      (sym (ap (set (set w 1 (get_or s node_count_offset 0 + 1)) 0) (sym k) ∙ keep_floor w 1 (get_or s node_count_offset 0 + 1) (λ z. omega arith)))

  -- no node left
  pub store_none : (e : ℕ) (v : List ℕ) → e ≡ header + get_or s node_count_offset 0 * node_width → v ≡ replicate (length (take (e - header) (drop header s))) 0
      → set (set (put_mid header (e - header) s v) 1 0) 0 1 ≡ with_store current s (store 1 [])
  unfolding with_store
  store_none e v b a =
      let n : ℕ = get_or s node_count_offset 0 * node_width in
      let m : e - header ≡ n = omega arith in
      let l : length (take n (drop header s)) ≡ n = length-take-le n (drop header s) (rw length-drop (omega arith)) in
      rw (a, m, l, mid_written s header n (replicate n 0) (length-replicate n 0), with_none 1 8 s)

-- a label's node as it is made
pub node_made : (p q : Words) (f : ℕ) → length p ≡ label_width → q ≡ p → set (put_mid 0 5 (replicate 8 0) q) 6 f ≡ new_node p f
unfolding new_node
node_made p q f h e = rw e (set-append_right p (0 ∷ 0 ∷ 0 ∷ []) 5 6 f h (omega arith))
