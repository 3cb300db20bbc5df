-- What becomes of all the nodes at a look, at a mark and where marks are taken off: the ones not meant stay as they are, at their places. About one
-- store; the histories' part is in StepsOfReads, StepsOfWrites, Raisings and AbandonedWrites. Leans on the rules' Nodes. Assumes nothing.
use mathlib.Core.Path.{◌≡◌, refl, sym, ap, ◌∙◌, subst}
use mathlib.Core.Bool.{Bool, true, false, false≢true}
use mathlib.Core.List.{List, [], ◌∷◌}
use mathlib.Core.Option.{Option, none, some}
use Prim.Native.Nat.{ℕ, zero, suc, ◌<◌}
use native.Mathlib.Omega.{arith}
use lib.Dec.{leb, ltb}
use borrow.Author.Tests.{eqb-true, eqb-false, ltb-true, ltb-false}
use lib.ListN.{length, get_or, length-set}
use lib.Seq.{set_out, get_or-set_other}
use Rattle.lists.specs.Lists.{place}
use Rattle.laws.proofs.SearchLaws.{place_at, place_before}
use Rattle.laws.proofs.TestLaws.{by_test}
use Rattle.query.specs.Shape.{Form}
use Rattle.query.specs.Query.{Label}
use Rattle.query.specs.Encoding.{label_words}
use Rattle.rules.specs.Layout.{max_nodes, max_pending}
use Rattle.rules.specs.Nodes.{Words, Node, Store, pending, has_label, node_place, is_present, node_of, with_node, is_free, oldest_free, make_room, added_in, ensured, announced_in, announced, released, lifted, may_retire, retired}
use Rattle.demands.specs.Demand2Whole.{Joined, stays, joins, replaces, MarkedIn}
use Rattle.demands.proofs.NodeChanges.{some_eq, none_some}

-- ---- A node that is wanted
free_marks : (ns : List Node) → oldest_free ns < length ns → (pending (get_or ns (oldest_free ns) []) ≡ 0) × ((j : ℕ) → j < oldest_free ns → 0 < pending (get_or ns j []))
unfolding oldest_free is_free
free_marks ns l = (
  eqb-true _ 0 (place_at is_free ns [] l),
  λ j k. let z : pending (get_or ns j []) ≡ 0 → ⊥ = eqb-false (pending (get_or ns j [])) 0 (place_before is_free ns [] j k) in omega arith,
)

room_joined : (p : Label) (s t : Store) → is_present (label_words p) s ≡ false → added_in (label_words p) (make_room s) ≡ some t → Joined p s t
unfolding make_room added_in
room_joined p s t i = by_test (ltb (length s.nodes) max_nodes)
    (λ y. rw y (λ e. joins i (ltb-true _ _ y) (sym (some_eq e))))
    (λ y. rw y (by_test (ltb (oldest_free s.nodes) (length s.nodes))
    (λ z. let l = ltb-true _ _ z in
    let f = free_marks s.nodes l in
    rw z (λ e. replaces i (ltb-false _ _ y) (oldest_free s.nodes) l f.0 f.1 (sym (some_eq e))))
    (λ z. rw z (λ e. none_some e))))

pub joined_of : (p : Label) (s t : Store) → ensured (label_words p) s ≡ some t → Joined p s t
unfolding ensured
joined_of p s t = by_test (is_present (label_words p) s)
    (λ y. rw y (λ e. stays y (sym (some_eq e))))
    (λ y. rw y (λ e. room_joined p s t y e))

-- ---- A mark
marked_in : (p : Label) (s t : Store) (o : Option Store) → ensured (label_words p) s ≡ o → announced_in (label_words p) o ≡ some t → MarkedIn p s t
unfolding announced_in
marked_in p s t none y = λ e. none_some e
marked_in p s t (some u) y = by_test (leb max_pending (pending (node_of (label_words p) u)))
    (λ z. rw z (λ e. none_some e))
    (λ z. rw z (λ e. record { between = u; joined = joined_of p s u y; is = sym (some_eq e) }))

pub marked_of : (p : Label) (s t : Store) → announced (label_words p) s ≡ some t → MarkedIn p s t
unfolding announced
marked_of p s t e = marked_in p s t (ensured (label_words p) s) refl e

-- ---- Marks taken off
-- floor and number of nodes stay, and so does every node that has none of these labels
pub record Only (ps : List Words) (s t : Store) : Type 0 where
  pub floor : t.floor ≡ s.floor
  pub count : length t.nodes ≡ length s.nodes
  pub same : (i : ℕ) → ((j : ℕ) → j < length ps → has_label (get_or ps j []) (get_or s.nodes i []) ≡ false) → get_or t.nodes i [] ≡ get_or s.nodes i []

other_kept : (p : Words) (n : Node) (s : Store) (i : ℕ) → has_label p (get_or s.nodes i []) ≡ false → get_or (with_node p n s).nodes i [] ≡ get_or s.nodes i []
unfolding with_node node_place
other_kept p n s i e = by_test (ltb (place (has_label p) s.nodes) (length s.nodes))
    (λ t. get_or-set_other s.nodes (place (has_label p) s.nodes) i n []
    (λ z. false≢true (sym e ∙ ap (λ k. has_label p (get_or s.nodes k [])) z ∙ place_at (has_label p) s.nodes [] (ltb-true _ _ t))))
    (λ t. ap (λ l. get_or l i []) (set_out s.nodes (place (has_label p) s.nodes) n (ltb-false _ _ t)))

node_only : (p : Words) (n : Node) (s : Store) → Only (p ∷ []) s (with_node p n s)
unfolding with_node
node_only p n s = record {
  floor = refl;
  count = length-set s.nodes _ n;
  same = λ i h. unfold with_node in other_kept p n s i (h 0 (omega arith));
}

then_only : (p : Words) (ps : List Words) (s u t : Store) → Only (p ∷ []) s u → Only ps u t → Only (p ∷ ps) s t
then_only p ps s u t a b = record {
  floor = b.floor ∙ a.floor;
  count = b.count ∙ a.count;
  same = λ i h. let e = a.same i (first i h) in
      b.same i (λ j l. ap (λ n. has_label (get_or ps j []) n) e ∙ h (suc j) (omega arith)) ∙ e;
}
  where
    first : (i : ℕ) → ((j : ℕ) → j < length (p ∷ ps) → has_label (get_or (p ∷ ps) j []) (get_or s.nodes i []) ≡ false) → (j : ℕ) → j < 1
        → has_label (get_or (p ∷ []) j []) (get_or s.nodes i []) ≡ false
    first i h zero l = h 0 (omega arith)
    first i h (suc j) l = absurd (omega arith)

none_only : (s : Store) → Only [] s s
none_only s = record { floor = refl; count = refl; same = λ i h. refl }

lift_only : (lift : Bool) (p : Words) (s : Store) → Only (p ∷ []) s (lifted lift p s)
unfolding lifted
lift_only true p s = node_only p _ s
lift_only false p s = then_only p [] s s s (record { floor = refl; count = refl; same = λ i h. refl }) (none_only s)

twice_only : (p : Words) (s u t : Store) → Only (p ∷ []) s u → Only (p ∷ []) u t → Only (p ∷ []) s t
twice_only p s u t a b = record {
  floor = b.floor ∙ a.floor;
  count = b.count ∙ a.count;
  same = λ i h. let e = a.same i h in b.same i (λ j l. ap (λ n. has_label (get_or (p ∷ []) j []) n) e ∙ h j l) ∙ e;
}

off_only : (lift : Bool) (p : Words) (s : Store) → Only (p ∷ []) s (released p (lifted lift p s))
unfolding released
off_only lift p s = twice_only p s (lifted lift p s) _ (lift_only lift p s) (node_only p _ (lifted lift p s))

pub retired_only : (f : Form) (lift : Bool) (ps : List Words) (s t : Store) → retired f lift ps s ≡ some t → Only ps s t
unfolding retired
retired_only f lift [] s t = λ e. subst (λ k. Only [] s k) (some_eq e) (none_only s)
retired_only f lift (p ∷ ps) s t = by_test (may_retire f lift p s)
    (λ y. rw y (λ e. then_only p ps s (released p (lifted lift p s)) t (off_only lift p s) (retired_only f lift ps (released p (lifted lift p s)) t e)))
    (λ y. rw y (λ e. none_some e))
