-- What the operations on the floor and the nodes keep: each node has its width, and there are no more of them than there may be.
-- Leans on Nodes and on the laws of nodes and entries. Assumes nothing.
use mathlib.Core.Path.{◌≡◌, ◌∙◌}
use mathlib.Core.Bool.{Bool, true, false}
use mathlib.Core.List.{List, [], ◌∷◌}
use mathlib.Core.Option.{Option, none, some}
use Prim.Native.Nat.{ℕ, ◌+◌, ◌-◌, ◌≤◌, ◌<◌}
use native.Mathlib.Omega.{arith}
use lib.Dec.{ltb, leb}
use lib.ListN.{length, get_or, set, length-append, length-take, length-drop, length-set}
use lib.Seq.{set_out}
use borrow.Author.Tests.{ltb-true, ltb-false}
use Rattle.lists.specs.Lists.{without}
use Rattle.laws.proofs.TestLaws.{by_test}
use Rattle.laws.proofs.ListLaws.{length_without}
use Rattle.laws.proofs.RowLaws.{Wide, wide_nil, wide_set, wide_without, wide_snoc, wide_at}
use Rattle.query.specs.Shape.{Form}
use Rattle.query.specs.Encoding.{label_width}
use Rattle.rules.specs.Layout.{max_nodes, max_pending, node_width}
use Rattle.rules.specs.Nodes.{Words, Node, Store, store, pending, revision, with_pending, with_revision, node_place, is_present, node_of, with_node, evict_node, new_node, added}
use Rattle.rules.specs.Nodes.{oldest_free, make_room, added_in, ensured, announced_in, announced, released, lifted, may_retire, retired}
use Rattle.rules.proofs.NodeLaws.{new_wide, pending_length, revision_length}

pub record Sized (t : Store) : Type 0 where
  pub wide : Wide node_width t.nodes
  pub few : length t.nodes ≤ max_nodes

-- where there are nodes
abbrev pub AllSized : Option Store → Type 0
AllSized none = Unit {0}
AllSized (some t) = Sized t

pub sized_none : (f : ℕ) → Sized (store f [])
sized_none f = record { wide = wide_nil node_width; few = omega arith }

-- node i becomes one as wide; where it is missing nothing is altered
pub sized_at : (i : ℕ) (n : Node) (t : Store) → length n ≡ length (get_or t.nodes i []) → Sized t → Sized (store t.floor (set t.nodes i n))
sized_at i n t h z =
    by_test (ltb i (length t.nodes))
    (λ e. record {
      wide = wide_set node_width t.nodes i n z.wide (h ∙ wide_at node_width t.nodes i z.wide (ltb-true _ _ e));
      few = rw length-set z.few;
    })
    (λ e. rw (set_out t.nodes i n (ltb-false _ _ e)) (record { wide = z.wide; few = z.few }))

pub sized_node : (p : Words) (n : Node) (t : Store) → length n ≡ length (node_of p t) → Sized t → Sized (with_node p n t)
unfolding with_node node_of
sized_node p n t h z = sized_at (node_place p t.nodes) n t h z

-- ---- One out, one in
pub sized_evict : (i : ℕ) (t : Store) → Sized t → Sized (evict_node i t)
unfolding evict_node without
sized_evict i t z =
    let l : length (without i t.nodes) ≤ length t.nodes = simp (length-append, length-take, length-drop) (omega arith) in
    let k : length t.nodes ≤ max_nodes = z.few in
    record { wide = unfold without in wide_without node_width i t.nodes z.wide; few = omega arith }

pub evict_few : (i : ℕ) (t : Store) → i < length t.nodes → length t.nodes ≤ max_nodes → length (evict_node i t).nodes < max_nodes
unfolding evict_node
evict_few i t h k = let l = length_without i t.nodes h in omega arith

pub added_more : (p : Words) (t : Store) → length (added p t).nodes ≡ length t.nodes + 1
unfolding added
added_more p t = length-append t.nodes (new_node p t.floor ∷ [])

pub sized_added : (p : Words) (t : Store) → length p ≡ label_width → length t.nodes < max_nodes → Sized t → Sized (added p t)
unfolding added
sized_added p t h k z =
    let l = length-append t.nodes (new_node p t.floor ∷ []) in
    record { wide = wide_snoc node_width t.nodes (new_node p t.floor) z.wide (new_wide p t.floor h); few = omega arith }

-- ---- Room for one more
abbrev HasRoom : Option Store → Type 0
HasRoom none = Unit {0}
HasRoom (some t) = Sized t × (length t.nodes < max_nodes)

room_sized : (t : Store) → Sized t → HasRoom (make_room t)
unfolding make_room
room_sized t z =
    let i : ℕ = oldest_free t.nodes in
    by_test (ltb (length t.nodes) max_nodes)
    (λ e. rw e (z, ltb-true _ _ e))
    (λ e. rw e (by_test (ltb i (length t.nodes)) (λ f. rw f (sized_evict i t z, evict_few i t (ltb-true _ _ f) z.few)) (λ f. rw f tt)))

added_sized : (p : Words) (o : Option Store) → length p ≡ label_width → HasRoom o → AllSized (added_in p o)
unfolding added_in
added_sized p none h z = tt
added_sized p (some t) h z = sized_added p t h z.1 z.0

pub sized_ensured : (p : Words) (t : Store) → length p ≡ label_width → Sized t → AllSized (ensured p t)
unfolding ensured
sized_ensured p t h z = by_test (is_present p t) (λ e. rw e z) (λ e. rw e (added_sized p (make_room t) h (room_sized t z)))

-- ---- Marks
announced_sized : (p : Words) (o : Option Store) → AllSized o → AllSized (announced_in p o)
unfolding announced_in
announced_sized p none z = tt
announced_sized p (some t) z =
    by_test (leb max_pending (pending (node_of p t))) (λ e. rw e tt)
    (λ e. rw e (sized_node p (with_pending (node_of p t) (pending (node_of p t) + 1)) t (pending_length (node_of p t) _) z))

pub sized_announced : (p : Words) (t : Store) → length p ≡ label_width → Sized t → AllSized (announced p t)
unfolding announced
sized_announced p t h z = announced_sized p (ensured p t) (sized_ensured p t h z)

sized_lifted : (lift : Bool) (p : Words) (t : Store) → Sized t → Sized (lifted lift p t)
unfolding lifted
sized_lifted true p t z = sized_node p (with_revision (node_of p t) (revision (node_of p t) + 1)) t (revision_length (node_of p t) _) z
sized_lifted false p t z = z

sized_released : (p : Words) (t : Store) → Sized t → Sized (released p t)
unfolding released
sized_released p t z = sized_node p (with_pending (node_of p t) (pending (node_of p t) - 1)) t (pending_length (node_of p t) _) z

pub sized_retired : (f : Form) (lift : Bool) (ps : List Words) (t : Store) → Sized t → AllSized (retired f lift ps t)
unfolding retired
sized_retired f lift [] t z = z
sized_retired f lift (p ∷ ps) t z =
    by_test (may_retire f lift p t)
    (λ e. rw e (sized_retired f lift ps (released p (lifted lift p t)) (sized_released p (lifted lift p t) (sized_lifted lift p t z))))
    (λ e. rw e tt)
