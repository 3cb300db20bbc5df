-- What the functions that find, add and alter a label's node leave in the nodes memory, in the terms of the code. Leans on the rules' definitions
-- and sizes and on the laws of NodeStores, NodeScans and NodeSpots. Assumes nothing.
use mathlib.Core.Path.{◌≡◌, refl, sym, ap, ◌∙◌}
use mathlib.Core.Bool.{Bool, true, false, cond}
use mathlib.Core.List.{List, []}
use mathlib.Core.Option.{Option, none, some}
use mathlib.Core.Logic.{◌⊎◌, ⊎_elim}
use Prim.Native.Nat.{ℕ, ◌+◌, ◌*◌, ◌-◌, ◌≤◌, ◌<◌}
use native.Mathlib.Omega.{arith}
use lib.Dec.{ltb, leb}
use lib.ListN.{length, get_or, set}
use lib.Seq.{get_or-set_other, set_comm}
use borrow.Author.Tests.{lt-ltb, le-ltb, le-leb, lt-leb}
use Rattle.std.proofs.Common.{Option as Found, Result, Ok, Err, Some, None, position, ok_or}
use Rattle.laws.proofs.ListLaws.{false_left, false_right}
use Rattle.rules.specs.Nodes.{Words, Node, Store, pending, revision, with_pending, has_label, node_place, is_present, node_of, with_node, evict_node}
use Rattle.rules.specs.Nodes.{added, is_free, oldest_free, make_room, added_in, ensured, announced_in, announced, is_pending, may_retire}
use Rattle.lists.specs.Lists.{header}
use Rattle.query.specs.Encoding.{label_width}
use Rattle.rules.specs.Layout.{max_nodes, max_pending, max_revision, node_count_offset, pending_offset, revision_offset, node_width}
use Rattle.rules.specs.Memory.{current, store_in, with_store}
use Rattle.hall.specs.declared.refusal.Refusal.{Refusal}
use Rattle.hall.specs.declared.refusal.Refusal.TheVariants.{Unsound}
use Rattle.nodes.specs.declared.Sight.{Sight}
use Rattle.nodes.specs.NodeContracts.{Fit, Tried, attempt, telling, tried, seen, looked, placed}
use Rattle.nodes.specs.NodeContracts.{retirable_place, node_at, released_at, lifted_at, retired_at}
use Rattle.rules.proofs.NodeLaws.{pending_length}
use Rattle.rules.proofs.NodeSizes.{Sized, sized_node, added_more, sized_added}
use Rattle.laws.proofs.WalkLaws.{found, not_found}
use Rattle.nodes.proofs.NodeStores.{Keeps, count_nodes, sized_in, count_store, keeps_store, store_back, store_self, store_twice, store_pending, store_revision}
use Rattle.nodes.proofs.NodeScans.{pending_at, revision_at}
use Rattle.nodes.proofs.NodeSpots.{length_word, length_lifted_at, length_retired_at, sized_lifted_at, sized_retired_at}
use Rattle.nodes.proofs.NodeSpots.{Room, made_room, Present, made_present, added_place}

-- where the pending writes and the revision of node i stand in the memory
abbrev pending_place : ℕ → ℕ
pending_place i = header + i * node_width + pending_offset

abbrev revision_place : ℕ → ℕ
revision_place i = header + i * node_width + revision_offset

-- ---- a mark taken off node i
module _ (s : List ℕ) (i : ℕ) (f : Fit s) (h : i < get_or s node_count_offset 0) where
  release_at : set s (pending_place i) (get_or s (pending_place i) 0 - 1) ≡ with_store current s (released_at i (store_in current s))
  unfolding released_at
  release_at =
      sym (store_pending s f i (pending (node_at i (store_in current s)) - 1) h
      ∙ ap (λ (x : ℕ). set s (pending_place i) (x - 1)) (pending_at s i _ h refl))

  lift_at : set s (revision_place i) (get_or s (revision_place i) 0 + 1) ≡ with_store current s (lifted_at true i (store_in current s))
  unfolding lifted_at
  lift_at =
      sym (store_revision s f i (revision (node_at i (store_in current s)) + 1) h
      ∙ ap (λ (x : ℕ). set s (revision_place i) (x + 1)) (revision_at s i _ h refl))

module _ (s : List ℕ) (i at : ℕ) (lift : Bool) (f : Fit s) (h : i < get_or s node_count_offset 0) (j : at ≡ header + i * node_width) where
  -- without a lift one number is altered
  pub retire_plain : lift ≡ false
      → set s (at + pending_offset) (get_or s (at + pending_offset) 0 - 1) ≡ with_store current s (retired_at lift i (store_in current s))
  unfolding retired_at lifted_at
  retire_plain e = rw (e, j) (release_at s i f h)

  -- with a lift the revision is another number of the same node
  pub retire_lifted : lift ≡ true
      → (let u = set s (at + pending_offset) (get_or s (at + pending_offset) 0 - 1) in set u (at + revision_offset) (get_or u (at + revision_offset) 0 + 1))
      ≡ with_store current s (retired_at lift i (store_in current s))
  unfolding retired_at
  retire_lifted e =
      let x : ℕ = get_or s (pending_place i) 0 - 1 in
      let y : ℕ = get_or s (revision_place i) 0 + 1 in
      let o : Store = store_in current s in
      let t : Store = lifted_at true i o in
      let u : List ℕ = set s (revision_place i) y in
      let n : length o.nodes ≡ get_or s node_count_offset 0 = count_nodes s in
      let m : length t.nodes ≡ length o.nodes = length_lifted_at true i o in
      let l : length (retired_at true i o).nodes ≡ length o.nodes = length_retired_at true i o in
      let z : Sized t = sized_lifted_at true i o (sized_in s f) in
      let w : Sized (released_at i t) = sized_retired_at true i o (sized_in s f) in
      let a : u ≡ with_store current s t = lift_at s i f h in
      let b : store_in current u ≡ t = ap (store_in current) a ∙ store_back s t f z in
      let k : Keeps s u = rw a (keeps_store s t f z) in
      let d : get_or u node_count_offset 0 ≡ get_or s node_count_offset 0 = get_or-set_other s (revision_place i) 1 y 0 (λ q. omega arith) in
      let p : get_or u (pending_place i) 0 ≡ get_or s (pending_place i) 0 =
      get_or-set_other s (revision_place i) (pending_place i) y 0 (λ q. omega arith) in
      rw (e, j, get_or-set_other s (pending_place i) (revision_place i) x 0 (λ q. omega arith))
      (set_comm s (pending_place i) (revision_place i) x y (λ q. omega arith)
      ∙ ap (λ (r : ℕ). set u (pending_place i) (r - 1)) (sym p)
      ∙ release_at u i k.fit (omega arith)
      ∙ ap (λ (r : Store). with_store current u (released_at i r)) b
      ∙ ap (λ (r : List ℕ). with_store current r (released_at i t)) a
      ∙ store_twice s t (released_at i t) f z w (λ q. omega arith))

-- ---- the label's node in a store
module _ (p : Words) (t : Store) where
  missing : position (has_label p) t.nodes ≡ None → is_present p t ≡ false
  unfolding is_present node_place
  missing h = let e = not_found (has_label p) t.nodes h in le-ltb (node_place p t.nodes) (length t.nodes) (omega arith)

  module _ (i : ℕ) (h : position (has_label p) t.nodes ≡ Some i) where
    placed_at : i ≡ node_place p t.nodes
    unfolding node_place
    placed_at = (found (has_label p) t.nodes i h).0

    there : is_present p t ≡ true
    unfolding is_present node_place
    there = let e = found (has_label p) t.nodes i h in lt-ltb (node_place p t.nodes) (length t.nodes) (omega arith)

    node_here : node_of p t ≡ get_or t.nodes i []
    unfolding node_of
    node_here = ap (λ (j : ℕ). get_or t.nodes j []) (sym placed_at)

  -- ---- where it stands, if a mark can be taken off it
  module _ (lift : Bool) where
    unpending : is_pending p t ≡ false → Err Unsound ≡ retirable_place lift p t
    unfolding retirable_place may_retire
    unpending h = rw h refl

    pub retirable_missing : position (has_label p) t.nodes ≡ None → (r : Result ℕ Refusal) → r ≡ Err Unsound → r ≡ retirable_place lift p t
    unfolding is_pending
    retirable_missing h r e = e ∙ unpending (false_left (is_present p t) (ltb 0 (pending (node_of p t))) (missing h))

    module _ (i : ℕ) (h : position (has_label p) t.nodes ≡ Some i) where
      pending_here : pending (node_of p t) ≡ pending (get_or t.nodes i [])
      pending_here = ap pending (node_here i h)

      pub retirable_free : pending (get_or t.nodes i []) ≡ 0 → Err Unsound ≡ retirable_place lift p t
      unfolding is_pending
      retirable_free z = let e = pending_here in unpending (rw (le-ltb 0 (pending (node_of p t)) (omega arith)) (false_right (is_present p t) false refl))

      module _ (z : pending (get_or t.nodes i []) ≡ 0 → ⊥) where
        marked : is_pending p t ≡ true
        unfolding is_pending
        marked = let e = pending_here in rw (there i h, lt-ltb 0 (pending (node_of p t)) (omega arith)) refl

        pub retirable_largest : lift ≡ true → max_revision current ≤ revision (get_or t.nodes i []) → Err Unsound ≡ retirable_place lift p t
        unfolding retirable_place may_retire
        retirable_largest d k = rw (marked, d, node_here i h, le-ltb (revision (get_or t.nodes i [])) (max_revision current) k) refl

        pub retirable_plain : lift ≡ false → Ok i ≡ retirable_place lift p t
        unfolding retirable_place may_retire
        retirable_plain d = rw (marked, d) (ap Ok (placed_at i h))

        pub retirable_lifted : lift ≡ true → revision (get_or t.nodes i []) < max_revision current → Ok i ≡ retirable_place lift p t
        unfolding retirable_place may_retire
        retirable_lifted d k = rw (marked, d, node_here i h, lt-ltb (revision (get_or t.nodes i [])) (max_revision current) k) (ap Ok (placed_at i h))

-- ---- an operation that went well, and one that found no way
pub record Went {A : Type 0} (f : Store → A) (s : List ℕ) (o : Option Store) (a : A) (u : List ℕ) : Type 0 where
  pub store : Store
  pub is : o ≡ some store
  pub told : a ≡ f store
  pub mem : u ≡ with_store current s store

module _ {A : Type 0} (f : Store → A) (s : List ℕ) where
  pub went_well : (o : Option Store) (r : Result A Refusal) (a : A) (u : List ℕ) → attempt r u ≡ telling f s o → r ≡ Ok a → Went f s o a u
  unfolding telling
  went_well none r a u h e = let z : ◌≡◌ {A = Result A Refusal} (Ok a) (Err Unsound) = sym e ∙ ap (λ (x : Tried A). x.result) h in cc
  went_well (some t) r a u h e =
      let z : ◌≡◌ {A = Result A Refusal} (Ok a) (Ok (f t)) = sym e ∙ ap (λ (x : Tried A). x.result) h in
      record { store = t; is = refl; told = cc; mem = ap (λ (x : Tried A). x.mem) h }

  pub went_not : (o : Option Store) (r : Result A Refusal) (e : Refusal) (u : List ℕ) → attempt r u ≡ telling f s o → r ≡ Err e → (o ≡ none) × (e ≡ Unsound) × (u ≡ s)
  unfolding telling
  went_not none r e u h d =
      let z : ◌≡◌ {A = Result A Refusal} (Err e) (Err Unsound) = sym d ∙ ap (λ (x : Tried A). x.result) h in
      (refl, cc, ap (λ (x : Tried A). x.mem) h)
  went_not (some t) r e u h d = let z : ◌≡◌ {A = Result A Refusal} (Err e) (Ok (f t)) = sym d ∙ ap (λ (x : Tried A). x.result) h in cc

-- a search that found nothing, turned down
pub found_none : {A : Type 0} (o : Found A) (r : Result A Refusal) (e : Refusal) → r ≡ ok_or o Unsound → r ≡ Err e → (o ≡ None) × (e ≡ Unsound)
found_none None r e h d = let z = sym d ∙ h in (refl, cc)
found_none (Some a) r e h d = let z = sym d ∙ h in cc

-- ---- room for a node more
module _ (s : List ℕ) where
  pub room_there : Fit s → get_or s node_count_offset 0 < max_nodes → attempt (Ok tt) s ≡ tried s (make_room (store_in current s))
  unfolding make_room telling
  room_there f h =
      let l : length (store_in current s).nodes ≡ get_or s node_count_offset 0 = count_nodes s in
      rw (lt-ltb (length (store_in current s).nodes) max_nodes (omega arith)) (ap (attempt (Ok tt)) (sym (store_self s f)))

  module _ (h : max_nodes ≤ get_or s node_count_offset 0) where
    pub room_none : position is_free (store_in current s).nodes ≡ None → (r : Result (Unit {0}) Refusal) → r ≡ Err Unsound → attempt r s ≡ tried s (make_room (store_in current s))
    unfolding make_room telling oldest_free
    room_none k r e =
        let l : length (store_in current s).nodes ≡ get_or s node_count_offset 0 = count_nodes s in
        let n = not_found is_free (store_in current s).nodes k in
        rw (le-ltb (length (store_in current s).nodes) max_nodes (omega arith), le-ltb (oldest_free (store_in current s).nodes) (length (store_in current s).nodes) (omega arith), e) refl

    pub room_made : (i : ℕ) (u : List ℕ) → position is_free (store_in current s).nodes ≡ Some i → u ≡ with_store current s (evict_node i (store_in current s))
        → attempt (Ok tt) u ≡ tried s (make_room (store_in current s))
    unfolding make_room telling oldest_free
    room_made i u k a =
        let l : length (store_in current s).nodes ≡ get_or s node_count_offset 0 = count_nodes s in
        let n = found is_free (store_in current s).nodes i k in
        rw (le-ltb (length (store_in current s).nodes) max_nodes (omega arith), lt-ltb (oldest_free (store_in current s).nodes) (length (store_in current s).nodes) (omega arith), a, n.0) refl

-- the memory with room made
pub room_fit : (s : List ℕ) (r : Result (Unit {0}) Refusal) (u : List ℕ) → attempt r u ≡ tried s (make_room (store_in current s)) → r ≡ Ok tt → Fit s
    → Fit u × (get_or u node_count_offset 0 < max_nodes)
room_fit s r u h e f =
    let w = went_well (λ t. tt) s (make_room (store_in current s)) r tt u h e in
    let r : Room (store_in current s) w.store = made_room (store_in current s) w.store (sized_in s f) w.is in
    let k : Keeps s (with_store current s w.store) = keeps_store s w.store f r.sized in
    let n : get_or (with_store current s w.store) 1 0 ≡ length w.store.nodes = count_store s w.store f r.sized in
    let m : length w.store.nodes < max_nodes = r.few in
    rw w.mem (k.fit, omega arith)

-- ---- the label's node made present
module _ (p : Words) (s : List ℕ) where
  pub ensure_there : (i : ℕ) → position (has_label p) (store_in current s).nodes ≡ Some i → Fit s → attempt (Ok i) s ≡ placed p s (ensured p (store_in current s))
  unfolding ensured telling
  ensure_there i h f = rw (there p (store_in current s) i h, ← placed_at p (store_in current s) i h, store_self s f) refl

  module _ (h : position (has_label p) (store_in current s).nodes ≡ None) (r : Result (Unit {0}) Refusal) (u : List ℕ) (k : attempt r u ≡ tried s (make_room (store_in current s))) where
    pub ensure_none : (e : Refusal) → r ≡ Err e → (q : Result ℕ Refusal) → q ≡ Err e → attempt q u ≡ placed p s (ensured p (store_in current s))
    unfolding ensured telling added_in
    ensure_none e d q a =
        let w = went_not (λ t. tt) s (make_room (store_in current s)) r e u k d in
        rw (missing p (store_in current s) h, a, w.0, w.1, w.2) refl

    pub ensure_added : (v : List ℕ) → r ≡ Ok tt → v ≡ with_store current u (added p (store_in current u)) → Fit s → length p ≡ label_width
        → attempt (Ok (get_or u node_count_offset 0)) v ≡ placed p s (ensured p (store_in current s))
    unfolding ensured telling added_in
    ensure_added v d g f l =
        let w = went_well (λ t. tt) s (make_room (store_in current s)) r tt u k d in
        let t : Store = w.store in
        let r : Room (store_in current s) t = made_room (store_in current s) t (sized_in s f) w.is in
        let z : Sized (added p t) = sized_added p t l r.few r.sized in
        let a : node_place p t.nodes ≡ length t.nodes = r.absent p (missing p (store_in current s) h) in
        let n : get_or u node_count_offset 0 ≡ length t.nodes = ap (λ (x : List ℕ). get_or x 1 0) w.mem ∙ count_store s t f r.sized in
        let c : store_in current u ≡ t = ap (store_in current) w.mem ∙ store_back s t f r.sized in
        let q : v ≡ with_store current s (added p t) =
        g ∙ ap (λ (x : Store). with_store current u (added p x)) c ∙ ap (λ (x : List ℕ). with_store current x (added p t)) w.mem ∙ store_twice s t (added p t) f r.sized z (λ x. omega (arith, added_more p t)) in
        rw (missing p (store_in current s) h, w.is, added_place p t l a, n, q) refl

-- where the label's node stands after that
pub record There (p : Words) (s : List ℕ) (i : ℕ) (u : List ℕ) : Type 0 where
  pub keeps : Keeps s u
  pub place : i ≡ node_place p (store_in current u).nodes
  pub below : i < get_or u node_count_offset 0
  pub is : ensured p (store_in current s) ≡ some (store_in current u)
  pub mem : u ≡ with_store current s (store_in current u)
  pub either : (store_in current u ≡ store_in current s) ⊎ (pending (node_of p (store_in current u)) ≡ 0)

module _ (p : Words) (s : List ℕ) (r : Result ℕ Refusal) (u : List ℕ) (h : attempt r u ≡ placed p s (ensured p (store_in current s))) where
  pub stands : (i : ℕ) → r ≡ Ok i → Fit s → length p ≡ label_width → There p s i u
  stands i d f l =
      let w = went_well (λ t. node_place p t.nodes) s (ensured p (store_in current s)) r i u h d in
      let t : Store = w.store in
      let g : Present p (store_in current s) t = made_present p (store_in current s) t l (sized_in s f) w.is in
      let b : store_in current u ≡ t = ap (store_in current) w.mem ∙ store_back s t f g.sized in
      let n : get_or u node_count_offset 0 ≡ length t.nodes = ap (λ (x : List ℕ). get_or x 1 0) w.mem ∙ count_store s t f g.sized in
      let k : node_place p t.nodes < length t.nodes = g.below in
      let e : i ≡ node_place p t.nodes = w.told in
      record {
        keeps = rw w.mem (keeps_store s t f g.sized);
        place = e ∙ ap (λ (x : Store). node_place p x.nodes) (sym b);
        below = omega arith;
        is = w.is ∙ ap some (sym b);
        mem = w.mem ∙ ap (with_store current s) (sym b);
        either = rw b g.either;
      }

  -- where it stands nowhere, there was no way, and the memory is as it was
  pub look_stuck : (e : Refusal) → r ≡ Err e → (q : Result Sight Refusal) → q ≡ Err e → attempt q u ≡ looked p s (ensured p (store_in current s))
  unfolding telling
  look_stuck e d q a =
      let w = went_not (λ t. node_place p t.nodes) s (ensured p (store_in current s)) r e u h d in
      rw (a, w.0, w.1, w.2) refl

-- ---- a look, and a mark
module _ (p : Words) (s : List ℕ) (i : ℕ) (u : List ℕ) (w : There p s i u) where
  node_there : node_of p (store_in current u) ≡ get_or (store_in current u).nodes i []
  unfolding node_of
  node_there = ap (λ (j : ℕ). get_or (store_in current u).nodes j []) (sym w.place)

  pub look_seen : (ns : List Node) → ns ≡ (store_in current u).nodes
      → attempt (Ok (record { revision = get_or (get_or ns i []) revision_offset 0; pending = get_or (get_or ns i []) pending_offset 0 })) u
      ≡ looked p s (ensured p (store_in current s))
  unfolding telling revision pending
  look_seen ns e = rw (w.is, e, ← node_there) (ap (attempt (Ok (seen p (store_in current u)))) w.mem)

announced_from : (p : Words) (s : List ℕ) (t : Store) → ensured p (store_in current s) ≡ some t → (b : Bool) → leb max_pending (pending (node_of p t)) ≡ b
    → announced p (store_in current s) ≡ cond b none (some (with_node p (with_pending (node_of p t) (pending (node_of p t) + 1)) t))
unfolding announced announced_in
announced_from p s t e b h = rw (e, h) refl

-- an announcement that finds no node
pub announce_stuck : (p : Words) (s : List ℕ) (r : Result ℕ Refusal) (u : List ℕ) → attempt r u ≡ placed p s (ensured p (store_in current s)) → (e : Refusal) → r ≡ Err e
    → (q : Result (Unit {0}) Refusal) → q ≡ Err e → attempt q u ≡ tried s (announced p (store_in current s))
unfolding announced announced_in telling
announce_stuck p s r u h e d q a =
    let w = went_not (λ t. node_place p t.nodes) s (ensured p (store_in current s)) r e u h d in
    rw (a, w.0, w.1, w.2) refl

module _ (p : Words) (s : List ℕ) (i at : ℕ) (u : List ℕ) (w : There p s i u) (e : at ≡ header + i * node_width) where
  pending_there : pending (node_of p (store_in current u)) ≡ get_or u (at + pending_offset) 0
  pending_there = ap pending (node_there p s i u w) ∙ pending_at u i at w.below e

  with_pending_there : (x : ℕ) → with_store current u (with_node p (with_pending (node_of p (store_in current u)) x) (store_in current u)) ≡ set u (at + pending_offset) x
  unfolding with_node node_of
  with_pending_there x = rw (← w.place, e) (store_pending u w.keeps.fit i x w.below)

  pub announce_full : Fit s → max_pending ≤ get_or u (at + pending_offset) 0 → attempt {A = Unit {0}} (Err Unsound) u ≡ tried s (announced p (store_in current s))
  unfolding telling
  announce_full f h =
      let a : pending (node_of p (store_in current u)) ≡ get_or u (at + pending_offset) 0 = pending_there in
      let b : store_in current u ≡ store_in current s = ⊎_elim (λ x. x) (λ y. absurd (omega arith)) w.either in
      let q : u ≡ s = w.mem ∙ ap (with_store current s) b ∙ store_self s f in
      rw (announced_from p s (store_in current u) w.is true (le-leb max_pending (pending (node_of p (store_in current u))) (omega arith)), q) refl

  pub announce_more : Fit s → get_or u (at + pending_offset) 0 < max_pending
      → attempt (Ok tt) (set u (at + pending_offset) (get_or u (at + pending_offset) 0 + 1)) ≡ tried s (announced p (store_in current s))
  unfolding telling
  announce_more f h =
      let x : ℕ = pending (node_of p (store_in current u)) in
      let a : x ≡ get_or u (at + pending_offset) 0 = pending_there in
      let n : Node = with_pending (node_of p (store_in current u)) (x + 1) in
      let t : Store = with_node p n (store_in current u) in
      let z : Sized (store_in current u) = sized_in u w.keeps.fit in
      let l : length t.nodes ≡ length (store_in current u).nodes = length_word p n (store_in current u) in
      let v : set u (at + pending_offset) (get_or u (at + pending_offset) 0 + 1) ≡ with_store current s t =
      ap (λ (r : ℕ). set u (at + pending_offset) (r + 1)) (sym a)
      ∙ sym (with_pending_there (x + 1))
      ∙ ap (λ (r : List ℕ). with_store current r t) w.mem
      ∙ store_twice s (store_in current u) t f z (sized_node p n (store_in current u) (pending_length (node_of p (store_in current u)) (x + 1)) z) (λ q. omega arith) in
      rw (announced_from p s (store_in current u) w.is false (lt-leb max_pending x (omega arith))) (ap (attempt (Ok tt)) v)
