-- Laws of the scans over the nodes: the nodes as the library cuts them out of the memory, a label compared with the five numbers of a node, the
-- tests of a node, and the first that passes one. Leans on the rules' definitions and on the laws of lists and searches. Assumes nothing.
use Rattle.std.proofs.Common.{◌≡◌, sym, ap, ◌∙◌, true, false, not, List, [], ℕ, ◌+◌, ◌*◌, ◌-◌, ◌/◌, ◌≤◌, ◌<◌, arith, length, get_or, take, drop, fold, max, ◌||◌}
use lib.Bits.{bit_or, bit_xor, xor_self, xor_add_and, or_add_and, and_le_l, and_le_r}
use lib.Dec.{eqb, ltb}
use lib.Seq.{get_or-take, length-take-le}
use borrow.Author.Tests.{lt-ltb, le-ltb, eqb-true, eqb-false}
use Rattle.std.specs.List.{list_any}
use Rattle.std.specs.Simd.{first_chunks}
use Rattle.lists.specs.Lists.{header, same}
use Rattle.laws.proofs.ListLaws.{eq_same, ne_same}
use Rattle.laws.proofs.TestLaws.{by_test}
use Rattle.laws.proofs.WalkLaws.{entries_cut, any_place}
use Rattle.rules.specs.Nodes.{Words, Node, pending, revision, label_in, has_label, is_free, is_high, is_worn}
use Rattle.query.specs.Encoding.{label_width}
use Rattle.query.specs.Shape.{Shape}
use Rattle.rules.specs.Layout.{worn_above, floor_offset, node_count_offset, pending_offset, revision_offset, node_width}
use Rattle.rules.specs.Memory.{current, store_in}
use Rattle.nodes.specs.NodeContracts.{Fit}
use Rattle.nodes.proofs.NodePlaces.{above_largest}
use Rattle.nodes.proofs.NodeStores.{five, floor_in, node_word}

-- ---- the nodes, as the library cuts them out of the memory
pub nodes_cut : (s : List ℕ) (e : ℕ) → Fit s → e ≡ header + get_or s node_count_offset 0 * node_width
    → first_chunks node_width (length (take (e - header) (drop header s)) / node_width) (take (e - header) (drop header s)) ≡ (store_in current s).nodes
unfolding store_in
nodes_cut s e f h = entries_cut node_count_offset node_width s e (omega arith) h (omega arith)

-- ---- numbers compared bit by bit: 0 where they agree
xor_same : (a b : ℕ) → bit_xor a b ≡ 0 → a ≡ b
xor_same a b e = omega (arith, xor_add_and a b, and_le_l a b, and_le_r a b)

xor_none : (a b : ℕ) → a ≡ b → bit_xor a b ≡ 0
xor_none a b e = ap (λ (x : ℕ). bit_xor x b) e ∙ xor_self b

or_both : (a b : ℕ) → bit_or a b ≡ 0 → (a ≡ 0) × (b ≡ 0)
or_both a b e = (omega (arith, or_add_and a b, and_le_l a b, and_le_r a b), omega (arith, or_add_and a b, and_le_l a b, and_le_r a b))

or_none : (a b : ℕ) → a ≡ 0 → b ≡ 0 → bit_or a b ≡ 0
or_none a b e f = omega (arith, or_add_and a b)

-- ---- the label's five numbers
module _ (n : Node) (p : Words) where
  -- a label that stands there, number by number
  word_same : (j : ℕ) → j < 5 → take label_width n ≡ p → get_or n j 0 ≡ get_or p j 0
  word_same j h e = sym (get_or-take label_width n j 0 h) ∙ ap (λ (t : List ℕ). get_or t j 0) e

  -- of the first two one differs
  pub label_differs : (bit_or (bit_xor (get_or n 0 0) (get_or p 0 0)) (bit_xor (get_or n 1 0) (get_or p 1 0)) ≡ 0 → ⊥) → false ≡ has_label p n
  unfolding has_label label_in
  label_differs d = sym (ne_same (take label_width n) p (λ e. d (or_none _ _ (xor_none _ _ (word_same 0 (omega arith) e)) (xor_none _ _ (word_same 1 (omega arith) e)))))

  -- five that agree
  label_agrees : 5 ≤ length n → length p ≡ label_width → get_or n 0 0 ≡ get_or p 0 0 → get_or n 1 0 ≡ get_or p 1 0 → get_or n 2 0 ≡ get_or p 2 0
      → get_or n 3 0 ≡ get_or p 3 0 → get_or n 4 0 ≡ get_or p 4 0 → same (take label_width n) p ≡ true
  label_agrees h k a b c d e =
      let l : length (take label_width n) ≡ label_width = length-take-le 5 n h in
      let w : (j : ℕ) → j < 5 → get_or (take label_width n) j 0 ≡ get_or n j 0 = λ j i. get_or-take label_width n j 0 i in
      eq_same (take label_width n) p
      (five (take label_width n) l
      ∙ rw (w 0 (omega arith), w 1 (omega arith), w 2 (omega arith), w 3 (omega arith), w 4 (omega arith), a, b, c, d, e) (sym (five p k)))

  -- the first two agree, so the last three decide
  pub label_decided : label_width ≤ length n → length p ≡ label_width → bit_or (bit_xor (get_or n 0 0) (get_or p 0 0)) (bit_xor (get_or n 1 0) (get_or p 1 0)) ≡ 0
      → eqb (bit_or (bit_or (bit_xor (get_or n 2 0) (get_or p 2 0)) (bit_xor (get_or n 3 0) (get_or p 3 0))) (bit_xor (get_or n 4 0) (get_or p 4 0))) 0
      ≡ has_label p n
  unfolding has_label label_in
  label_decided h k f =
      let x : ℕ = bit_or (bit_xor (get_or n 2 0) (get_or p 2 0)) (bit_xor (get_or n 3 0) (get_or p 3 0)) in
      let y : ℕ = bit_xor (get_or n 4 0) (get_or p 4 0) in
      let a = or_both _ _ f in
      by_test (eqb (bit_or x y) 0)
      (λ e. let b = or_both x y (eqb-true (bit_or x y) 0 e) in
      let c = or_both _ _ b.0 in
      e ∙ sym (label_agrees h k (xor_same _ _ a.0) (xor_same _ _ a.1) (xor_same _ _ c.0) (xor_same _ _ c.1) (xor_same _ _ b.1)))
      (λ e. e ∙ sym (ne_same (take label_width n) p
      (λ r. eqb-false (bit_or x y) 0 e
      (or_none x y (or_none _ _ (xor_none _ _ (word_same 2 (omega arith) r)) (xor_none _ _ (word_same 3 (omega arith) r))) (xor_none _ _ (word_same 4 (omega arith) r))))))

-- a write is pending at a node that is not free
pub is_free_pending : (n : Node) → ltb 0 (pending n) ≡ not (is_free n)
unfolding is_free
is_free_pending n =
    by_test (eqb (pending n) 0)
    (λ e. let z : pending n ≡ 0 = eqb-true (pending n) 0 e in rw e (le-ltb 0 (pending n) (omega arith)))
    (λ e. let z : pending n ≡ 0 → ⊥ = eqb-false (pending n) 0 e in rw e (lt-ltb 0 (pending n) (omega arith)))

-- ---- the numbers of the node that begins at `at`
module _ (s : List ℕ) (i at : ℕ) (h : i < get_or s node_count_offset 0) (e : at ≡ header + i * node_width) where
  pub pending_at : pending (get_or (store_in current s).nodes i []) ≡ get_or s (at + pending_offset) 0
  unfolding pending
  pending_at = rw e (node_word s i 5 h (omega arith))

  pub revision_at : revision (get_or (store_in current s).nodes i []) ≡ get_or s (at + revision_offset) 0
  unfolding revision
  revision_at = rw e (node_word s i 6 h (omega arith))

-- ---- whether the floor or a revision is too high
pub high_highest : (sh : Shape) (ns : List Node) (h : ℕ) → h ≡ fold (λ x n. max x (get_or n revision_offset 0)) 0 ns → ltb (worn_above current sh) h ≡ list_any (is_high current sh) ns
unfolding is_high revision
high_highest sh ns h e = rw e (above_largest revision (worn_above current sh) 0 ns)

-- by the highest of the floor and all revisions
pub worn_highest : (sh : Shape) (s : List ℕ) (h : ℕ) → h ≡ fold (λ x n. max x (get_or n revision_offset 0)) (get_or s floor_offset 0) (store_in current s).nodes
    → ltb (worn_above current sh) h ≡ is_worn current sh (store_in current s)
unfolding is_worn is_high revision
worn_highest sh s h e =
    rw (e, floor_in s) (above_largest revision (worn_above current sh) (get_or s floor_offset 0) (store_in current s).nodes
    ∙ ap (λ b. ltb (worn_above current sh) (get_or s floor_offset 0) || b) (any_place (is_high current sh) (store_in current s).nodes))

-- by the floor, and where it is low enough by the nodes
module _ (sh : Shape) (s : List ℕ) where
  pub worn_floor : worn_above current sh < get_or s floor_offset 0 → true ≡ is_worn current sh (store_in current s)
  unfolding is_worn
  worn_floor h = rw (floor_in s, lt-ltb (worn_above current sh) (get_or s floor_offset 0) h)

  pub worn_nodes : get_or s floor_offset 0 ≤ worn_above current sh → list_any (is_high current sh) (store_in current s).nodes ≡ is_worn current sh (store_in current s)
  unfolding is_worn
  worn_nodes h =
      rw (floor_in s, le-ltb (worn_above current sh) (get_or s floor_offset 0) h) (any_place (is_high current sh) (store_in current s).nodes)
