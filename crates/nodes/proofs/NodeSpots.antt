-- The operations on the nodes by a node's place; where a label's node stands after each; a store with room for one node more, and one with the
-- label's node present. Leans on the rules' definitions, on their laws of nodes and of sizes, and on the laws of places. Assumes nothing.
use mathlib.Core.Path.{◌≡◌, refl, ap, ◌∙◌}
use mathlib.Core.Bool.{Bool, true, false, cond}
use mathlib.Core.List.{[]}
use mathlib.Core.Option.{Option, none, some}
use mathlib.Core.Logic.{◌⊎◌, inl, inr}
use Prim.Native.Nat.{ℕ, ◌+◌, ◌-◌, ◌≤◌, ◌<◌}
use native.Mathlib.Omega.{arith}
use lib.Dec.{ltb}
use lib.ListN.{length, length-set}
use lib.Seq.{get_or-append_seam}
use borrow.Author.Tests.{ltb-true, ltb-false}
use Rattle.lists.specs.Lists.{same, place}
use Rattle.laws.proofs.ListLaws.{same_refl}
use Rattle.laws.proofs.SearchLaws.{place_le}
use Rattle.rules.specs.Nodes.{Words, Node, Store, label_in, pending, revision, with_pending, with_revision, has_label, node_place}
use Rattle.rules.specs.Nodes.{is_present, node_of, with_node, evict_node, new_node, added, oldest_free, make_room, added_in, ensured}
use Rattle.rules.specs.Nodes.{released, lifted}
use Rattle.query.specs.Encoding.{label_width}
use Rattle.rules.specs.Layout.{max_nodes}
use Rattle.rules.proofs.NodeLaws.{new_label, new_pending, pending_label, pending_length, revision_label, revision_length}
use Rattle.rules.proofs.NodeSizes.{Sized, sized_at, sized_evict, evict_few, added_more, sized_added}
use Rattle.nodes.specs.NodeContracts.{node_at, with_node_at, released_at, lifted_at, retired_at}
use Rattle.nodes.proofs.NodePlaces.{place_set, place_snoc, place_without}

-- ---- which way a choice went
module _ {A : Type 0} where
  some_is : (x y : A) → some x ≡ some y → x ≡ y
  some_is x y h = cc

  none_not : {B : Type 0} (y : A) → none ≡ some y → B
  none_not y h = absurd (let z : ◌≡◌ {A = ℕ} 0 1 = cc in omega arith)

-- ---- a node altered
pub length_word : (p : Words) (n : Node) (t : Store) → length (with_node p n t).nodes ≡ length t.nodes
unfolding with_node
length_word p n t = length-set t.nodes (node_place p t.nodes) n

-- it keeps its label: every label's node stands where it stood
place_altered : (q : Words) (i : ℕ) (n : Node) (t : Store) → label_in n ≡ label_in (node_at i t) → node_place q (with_node_at i n t).nodes ≡ node_place q t.nodes
unfolding node_place has_label
place_altered q i n t h = place_set (has_label q) t.nodes i n [] (ap (λ (m : Words). same m q) h)

-- a mark taken off, with a lift or without
place_lifted : (lift : Bool) (p q : Words) (t : Store) → node_place q (lifted lift p t).nodes ≡ node_place q t.nodes
unfolding lifted with_node node_of
place_lifted true p q t = place_altered q (node_place p t.nodes) _ t (revision_label (node_at (node_place p t.nodes) t) (revision (node_at (node_place p t.nodes) t) + 1))
place_lifted false p q t = refl

place_released : (p q : Words) (t : Store) → node_place q (released p t).nodes ≡ node_place q t.nodes
unfolding released with_node node_of
place_released p q t = place_altered q (node_place p t.nodes) _ t (pending_label (node_at (node_place p t.nodes) t) (pending (node_at (node_place p t.nodes) t) - 1))

pub place_retired : (lift : Bool) (p q : Words) (t : Store)
    → node_place q (released p (lifted lift p t)).nodes ≡ node_place q t.nodes
place_retired lift p q t = place_released p q (lifted lift p t) ∙ place_lifted lift p q t

-- by the label as by its place
released_at_law : (p : Words) (t : Store) → released p t ≡ released_at (node_place p t.nodes) t
unfolding released released_at with_node node_of
released_at_law p t = refl

lifted_at_law : (lift : Bool) (p : Words) (t : Store) → lifted lift p t ≡ lifted_at lift (node_place p t.nodes) t
unfolding lifted lifted_at with_node node_of
lifted_at_law lift p t = refl

pub retired_at_law : (lift : Bool) (p : Words) (t : Store) → released p (lifted lift p t) ≡ retired_at lift (node_place p t.nodes) t
unfolding retired_at
retired_at_law lift p t = released_at_law p (lifted lift p t) ∙ rw (place_lifted lift p p t, lifted_at_law lift p t)

-- sizes, by its place
pub length_lifted_at : (lift : Bool) (i : ℕ) (t : Store) → length (lifted_at lift i t).nodes ≡ length t.nodes
unfolding lifted_at
length_lifted_at true i t = length-set t.nodes i _
length_lifted_at false i t = refl

length_released_at : (i : ℕ) (t : Store) → length (released_at i t).nodes ≡ length t.nodes
unfolding released_at
length_released_at i t = length-set t.nodes i _

pub length_retired_at : (lift : Bool) (i : ℕ) (t : Store) → length (retired_at lift i t).nodes ≡ length t.nodes
unfolding retired_at
length_retired_at lift i t = length_released_at i (lifted_at lift i t) ∙ length_lifted_at lift i t

pub sized_lifted_at : (lift : Bool) (i : ℕ) (t : Store) → Sized t → Sized (lifted_at lift i t)
unfolding lifted_at
sized_lifted_at true i t z = sized_at i (with_revision (node_at i t) (revision (node_at i t) + 1)) t (revision_length (node_at i t) _) z
sized_lifted_at false i t z = z

sized_released_at : (i : ℕ) (t : Store) → Sized t → Sized (released_at i t)
unfolding released_at
sized_released_at i t z = sized_at i (with_pending (node_at i t) (pending (node_at i t) - 1)) t (pending_length (node_at i t) _) z

pub sized_retired_at : (lift : Bool) (i : ℕ) (t : Store) → Sized t → Sized (retired_at lift i t)
unfolding retired_at
sized_retired_at lift i t z = sized_released_at i (lifted_at lift i t) (sized_lifted_at lift i t z)

-- ---- a label's node added: it is the last
new_has_label : (p : Words) (f : ℕ) → length p ≡ label_width → has_label p (new_node p f) ≡ true
unfolding has_label
new_has_label p f h = rw (new_label p f h) (same_refl p)

module _ (p : Words) (t : Store) (h : length p ≡ label_width) (e : node_place p t.nodes ≡ length t.nodes) where
  pub added_place : node_place p (added p t).nodes ≡ length t.nodes
  unfolding node_place added
  added_place = place_snoc (has_label p) t.nodes (new_node p t.floor) e (new_has_label p t.floor h)

  added_below : node_place p (added p t).nodes < length (added p t).nodes
  added_below = let a = added_place in let l = added_more p t in omega arith

  added_pending : pending (node_of p (added p t)) ≡ 0
  unfolding node_of
  added_pending = rw added_place (unfold added in (ap pending (get_or-append_seam t.nodes (new_node p t.floor) [] []) ∙ new_pending p t.floor h))

-- ---- room for one more
-- a label is missing
absent_place : (p : Words) (t : Store) → is_present p t ≡ false → node_place p t.nodes ≡ length t.nodes
unfolding is_present node_place
absent_place p t e =
    let a : place (has_label p) t.nodes ≤ length t.nodes = place_le (has_label p) t.nodes in
    let b : length t.nodes ≤ place (has_label p) t.nodes = ltb-false (place (has_label p) t.nodes) (length t.nodes) e in
    omega arith

evict_absent : (p : Words) (i : ℕ) (t : Store) → i < length t.nodes → node_place p t.nodes ≡ length t.nodes → node_place p (evict_node i t).nodes ≡ length (evict_node i t).nodes
unfolding evict_node node_place
evict_absent p i t h e = place_without (has_label p) t.nodes i [] h e

-- what a store with room is, from the store t that it is made of
pub record Room (t u : Store) : Type 0 where
  pub sized : Sized u
  pub few : length u.nodes < max_nodes
  pub absent : (p : Words) → is_present p t ≡ false → node_place p u.nodes ≡ length u.nodes

pub made_room : (t u : Store) → Sized t → make_room t ≡ some u → Room t u
unfolding make_room
made_room t u z = go (ltb (length t.nodes) max_nodes) refl (ltb (oldest_free t.nodes) (length t.nodes)) refl
  where
    go : (b : Bool) → ltb (length t.nodes) max_nodes ≡ b → (d : Bool) → ltb (oldest_free t.nodes) (length t.nodes) ≡ d
        → cond b (some t) (cond d (some (evict_node (oldest_free t.nodes) t)) none) ≡ some u → Room t u
    go true e d f h =
        let k : t ≡ u = some_is t u h in
        rw (← k) (record { sized = z; few = ltb-true (length t.nodes) max_nodes e; absent = λ p a. absent_place p t a })
    go false e true f h =
        let i : ℕ = oldest_free t.nodes in
        let k : evict_node i t ≡ u = some_is (evict_node i t) u h in
        let l : i < length t.nodes = ltb-true i (length t.nodes) f in
        rw (← k) (record { sized = sized_evict i t z; few = evict_few i t l z.few; absent = λ p a. evict_absent p i t l (absent_place p t a) })
    go false e false f h = none_not u h

-- ---- a store t with the label's node made present: it is present, and it is new or the store is as it was
pub record Present (p : Words) (t u : Store) : Type 0 where
  pub sized : Sized u
  pub below : node_place p u.nodes < length u.nodes
  pub either : (u ≡ t) ⊎ (pending (node_of p u) ≡ 0)

added_present : (p : Words) (t u : Store) → length p ≡ label_width → node_place p u.nodes ≡ length u.nodes → Room t u → Present p t (added p u)
added_present p t u h e r =
    record { sized = sized_added p u h r.few r.sized; below = added_below p u h e; either = inr (added_pending p u h e) }

pub made_present : (p : Words) (t u : Store) → length p ≡ label_width → Sized t → ensured p t ≡ some u → Present p t u
unfolding ensured is_present added_in
made_present p t u h z = go (is_present p t) refl (make_room t) refl
  where
    go : (b : Bool) → is_present p t ≡ b → (o : Option Store) → make_room t ≡ o → cond b (some t) (added_in p o) ≡ some u → Present p t u
    go true e o f k =
        let l : t ≡ u = some_is t u k in
        rw (← l) (record { sized = z; below = ltb-true (node_place p t.nodes) (length t.nodes) e; either = inl refl })
    go false e none f k = none_not u k
    go false e (some r) f k =
        let l : added p r ≡ u = some_is (added p r) u k in
        let m : Room t r = made_room t r z f in
        rw (← l) (added_present p t r h (m.absent p e) m)
