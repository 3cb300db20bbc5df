-- Laws of the removal of marks, with a lift or without: the test of all before one is altered, the places kept from it, and one taken off
-- each. Leans on rules and on the laws of nodes, query and revisions. Assumes nothing.
use mathlib.Core.Path.{◌≡◌, refl, sym, ap, ap₂, subst, ◌∙◌}
use mathlib.Core.Bool.{Bool, true, false, cond, not, ◌&&◌, ◌||◌}
use mathlib.Core.List.{List, [], ◌∷◌, ◌++◌}
use mathlib.Core.Option.{Option, none, some}
use Prim.Native.Nat.{ℕ, zero, suc, ◌+◌, ◌-◌, ◌≤◌, ◌<◌}
use native.Mathlib.Numerals.{add-one}
use native.Mathlib.Omega.{arith}
use lib.Dec.{ltb}
use lib.ListN.{length, get_or, take, drop, set, drop_of_length-le}
use lib.Seq.{drop-cons, take-suc-set}
use borrow.Author.Tests.{ltb-true}
use Rattle.std.proofs.Common.{Result, Ok, Err, is_ok, IfErr}
use Rattle.lists.specs.Lists.{same, listed}
use Rattle.laws.proofs.ListLaws.{ne_same, and_left, and_right, listed_snoc}
use Rattle.query.specs.Query.{Query, write_node, write_count}
use Rattle.query.specs.Encoding.{columns_in}
use Rattle.query.specs.Shape.{max_columns}
use Rattle.query.proofs.NodeLists.{write_count_most, write_nodes_differ}
use Rattle.query.proofs.EncodingLaws.{columns_length, label_words_injective}
use Rattle.rules.specs.Layout.{max_revision, look_room}
use Rattle.rules.specs.Nodes.{Words, Store, pending, revision, node_place, is_present, node_of, is_pending}
use Rattle.rules.specs.Nodes.{released, lifted, may_retire, retired}
use Rattle.rules.specs.Memory.{current, store_in, with_store}
use Rattle.hall.specs.declared.refusal.Refusal.{Refusal}
use Rattle.hall.specs.declared.refusal.Refusal.TheVariants.{Unsound}
use Rattle.columns.specs.declared.marked.Marked.{Marked}
use Rattle.columns.specs.MarkedContracts.{marked_query}
use Rattle.nodes.specs.NodeContracts.{Fit, attempt, telling, tried, node_at, retirable_place, retired_at}
use Rattle.nodes.proofs.NodeStores.{Keeps, count_nodes, sized_in, store_back, store_self, store_twice}
use Rattle.rules.proofs.NodeSizes.{Sized}
use Rattle.nodes.proofs.NodeSpots.{place_retired, retired_at_law, length_retired_at, sized_retired_at}
use Rattle.nodes.proofs.NodesKept.{keeps_retired_at}
use Rattle.revisions.specs.EffectiveRevision.{one, tally}
use Rattle.revisions.proofs.Retirements.{Apart, all_retirable, retired_each, retired_tests}
use Rattle.writing.specs.WriteContracts.{label_at, labels_from, is_found, places_of, taken_off, CanRetire, CanTakeOff}

-- the labels from number j on, of the n from number i on
unfoldable pub rest : Query → ℕ → ℕ → ℕ → List Words
rest q i n j = listed (label_at q) (i + j) (n - j)

module _ (q : Query) (i n : ℕ) where
  rest_all : labels_from q i n ≡ rest q i n 0
  unfolding labels_from rest
  rest_all = let d : n - 0 ≡ n = omega arith in let z : i + 0 ≡ i = omega arith in rw (d, z)

  rest_more : (j : ℕ) → j < n → rest q i n j ≡ label_at q (i + j) ∷ rest q i n (j + 1)
  unfolding rest listed
  rest_more j h =
      let d : n - j ≡ suc (n - (j + 1)) = omega arith in
      let z : i + (j + 1) ≡ suc (i + j) = omega arith in
      rw (d, z)

  rest_none : (j : ℕ) → n ≤ j → rest q i n j ≡ []
  unfolding rest listed
  rest_none j h = let d : n - j ≡ 0 = omega arith in rw d

-- ---- the labels of one write are all different
differ : (q : Query) (i j : ℕ) → i < j → j < write_count q → same (label_at q j) (label_at q i) ≡ false
differ q i j h k =
    ne_same (label_at q j) (label_at q i)
    (λ e. let x : j ≡ i = write_nodes_differ q j i k (omega arith) (label_words_injective (write_node q j) (write_node q i) e) in omega arith)

off : (q : Query) (i j m : ℕ) → i < j → j + m ≤ write_count q → tally (label_at q i) (listed (label_at q) j m) ≡ 0
unfolding listed tally one
off q i j zero h k = refl
off q i j (suc m) h k = let r = off q i (suc j) m (omega arith) (omega arith) in rw (differ q i j h (omega arith)) (omega arith)

apart : (q : Query) (j m : ℕ) → j + m ≤ write_count q → Apart (listed (label_at q) j m)
unfolding listed Apart
apart q j zero h = tt
apart q j (suc m) h = (off q j (suc j) m (omega arith) (omega arith), apart q (suc j) m (omega arith))

-- ---- the test
found_cond : (b : Bool) (s : Store) → is_found (cond b (some s) none) ≡ b
unfolding is_found
found_cond true s = refl
found_cond false s = refl

module _ (lift : Bool) (q : Query) (i n : ℕ) (s : List ℕ) where
  pub test_start : i + n ≤ write_count q
      → is_found (retired current lift (labels_from q i n) (store_in current s)) ≡ all_retirable current lift (rest q i n 0) (store_in current s)
  unfolding labels_from
  test_start h =
      let l : List Words = listed (label_at q) i n in
      let t : Store = store_in current s in
      rw (← rest_all q i n)
      (ap is_found (retired_tests current lift l t (apart q i n h)) ∙ found_cond (all_retirable current lift l t) (retired_each lift l t))

  module _ (b : Bool) (j : ℕ) (e : b ≡ all_retirable current lift (rest q i n j) (store_in current s)) where
    pub test_end : n ≤ j → true ≡ b
    unfolding all_retirable
    test_end h = sym (e ∙ rw (rest_none q i n j h))

    module _ (p : Words) (r : Bool) (f : p ≡ label_at q (i + j)) (g : r ≡ may_retire current lift p (store_in current s)) (h : j < n) where
      pub test_next : r ≡ true → b ≡ all_retirable current lift (rest q i n (j + 1)) (store_in current s)
      unfolding all_retirable
      test_next z = e ∙ rw (rest_more q i n j h, ← f, ← g, z)

      pub test_stop : r ≡ false → false ≡ b
      unfolding all_retirable
      test_stop z = sym (e ∙ rw (rest_more q i n j h, ← f, ← g, z))

-- ---- the places kept from the test
module _ (lift : Bool) (p : Words) (s : Store) (r : Result ℕ Refusal) (e : r ≡ retirable_place lift p s) where
  pub place_there : (i : ℕ) → r ≡ Ok i → (may_retire current lift p s ≡ true) × (i ≡ node_place p s.nodes)
  unfolding retirable_place
  place_there i f = go (may_retire current lift p s) (sym f ∙ e)
    where
      go : (b : Bool) → Ok i ≡ cond b (Ok (node_place p s.nodes)) (Err Unsound) → (b ≡ true) × (i ≡ node_place p s.nodes)
      go true g = (refl, cc)
      go false g = cc

  pub place_missing : (x : Refusal) → r ≡ Err x → (may_retire current lift p s ≡ false) × (x ≡ Unsound)
  unfolding retirable_place
  place_missing x f = go (may_retire current lift p s) (sym f ∙ e)
    where
      go : (b : Bool) → Err x ≡ cond b (Ok (node_place p s.nodes)) (Err Unsound) → (b ≡ false) × (x ≡ Unsound)
      go true g = cc
      go false g = (refl, cc)

-- the refusal of a search goes on
module _ {A : Type 0} (r : Result A Refusal) (e : Refusal) (h : r ≡ Err e) where
  pub goes_on : (b : Bool) → false ≡ b → is_ok r ≡ b
  goes_on b f = ap is_ok h ∙ f

  pub goes_unsound : e ≡ Unsound → IfErr r (λ x. x ≡ Unsound)
  goes_unsound f = rw h f

places_snoc : (ps : List Words) (p : Words) (s : Store) → places_of (ps ++ (p ∷ [])) s ≡ places_of ps s ++ (node_place p s.nodes ∷ [])
unfolding places_of
places_snoc [] p s = refl
places_snoc (q ∷ ps) p s = ap (λ (l : List ℕ). node_place q s.nodes ∷ l) (places_snoc ps p s)

-- after the first j from number i on: l begins with their places
module _ (q : Query) (i : ℕ) (s : Store) where
  pub kept_none : [] ≡ places_of (labels_from q i 0) s
  unfolding labels_from listed places_of
  kept_none = refl

  pub kept_more : (l : List ℕ) (j : ℕ) → take j l ≡ places_of (labels_from q i j) s → j < length l → (p : Words) (x : ℕ) → p ≡ label_at q (i + j)
      → x ≡ node_place p s.nodes → take (j + 1) (set l j x) ≡ places_of (labels_from q i (j + 1)) s
  unfolding labels_from
  kept_more l j k h p x e f =
      ap (λ (m : ℕ). take m (set l j x)) (add-one j) ∙ take-suc-set l j x h
      ∙ ap₂ (λ (a : List ℕ) (y : ℕ). a ++ (y ∷ [])) k (f ∙ ap (λ (y : Words). node_place y s.nodes) e)
      ∙ sym (places_snoc (listed (label_at q) i j) (label_at q (i + j)) s)
      ∙ ap (λ (ps : List Words). places_of ps s) (sym (listed_snoc (label_at q) i j))

-- at most 16 nodes
pub few_nodes : (k m : ℕ) (vs : List ℕ) (n : ℕ) → n ≤ write_count (columns_in k m vs) → k ≤ max_columns → n ≤ look_room
few_nodes k m vs n e l =
    let w : length (columns_in k m vs) ≡ k = columns_length k m vs in
    let most : write_count (columns_in k m vs) ≤ look_room = write_count_most (columns_in k m vs) (omega arith) in
    omega arith

pub few_marked : (q : Marked) → write_count (marked_query q) ≤ look_room
few_marked q = few_nodes q.k q.marks q.values (write_count (marked_query q)) (omega arith) q.few

-- ---- one taken off each
-- after the first j: what is left to do leads where all would have led
pub record Taking (lift : Bool) (l s₀ s : List ℕ) (j : ℕ) : Type 0 where
  pub fit : Fit s
  pub size : length s ≡ length s₀
  pub can : CanTakeOff lift (drop j l) (store_in current s)
  pub left : taken_off lift (drop j l) (store_in current s) ≡ taken_off lift l (store_in current s₀)
  pub mem : s ≡ with_store current s₀ (store_in current s)

pub taking_none : (lift : Bool) (l s : List ℕ) → Fit s → CanTakeOff lift l (store_in current s) → Taking lift l s s 0
taking_none lift l s f c = record { fit = f; size = refl; can = c; left = refl; mem = sym (store_self s f) }

module _ (lift : Bool) (l s₀ s : List ℕ) (j : ℕ) (x : Taking lift l s₀ s j) where
  module _ (h : j < length l) where
    next : drop j l ≡ get_or l j 0 ∷ drop (j + 1) l
    next = drop-cons l j 0 h ∙ ap (λ (m : ℕ). get_or l j 0 ∷ drop m l) (sym (add-one j))

    can_take :
        CanRetire lift (get_or l j 0) (store_in current s)
        × CanTakeOff lift (drop (j + 1) l) (retired_at lift (get_or l j 0) (store_in current s))
    unfolding CanTakeOff
    can_take = subst (λ (m : List ℕ). CanTakeOff lift m (store_in current s)) next x.can

    pub taking_marked : (get_or l j 0 < get_or s 1 0) × (0 < pending (node_at (get_or l j 0) (store_in current s)))
    taking_marked =
        let n : length (store_in current s).nodes ≡ get_or s 1 0 = count_nodes s in
        let b : get_or l j 0 < length (store_in current s).nodes = can_take.0.below in
        (omega arith, can_take.0.marked)

    pub taking_room : lift ≡ true → revision (node_at (get_or l j 0) (store_in current s)) < max_revision current
    taking_room = can_take.0.room

    pub taking_more : Fit s₀ → (u : List ℕ) → u ≡ with_store current s (retired_at lift (get_or l j 0) (store_in current s))
        → Taking lift l s₀ u (j + 1)
    unfolding taken_off
    taking_more f₀ u e =
        let t : Store = retired_at lift (get_or l j 0) (store_in current s) in
        let z : Sized t = sized_retired_at lift (get_or l j 0) (store_in current s) (sized_in s x.fit) in
        let k : Keeps s (with_store current s t) = keeps_retired_at s x.fit lift (get_or l j 0) in
        let b : store_in current u ≡ t = ap (store_in current) e ∙ store_back s t x.fit z in
        let n : length t.nodes ≡ length (store_in current s).nodes = length_retired_at lift (get_or l j 0) (store_in current s) in
        record {
          fit = rw e k.fit;
          size = ap length e ∙ k.size ∙ x.size;
          can = subst (CanTakeOff lift (drop (j + 1) l)) (sym b) can_take.1;
          left = ap (taken_off lift (drop (j + 1) l)) b ∙ sym (ap (λ (m : List ℕ). taken_off lift m (store_in current s)) next) ∙ x.left;
          mem =
              e ∙ ap (λ (y : List ℕ). with_store current y t) x.mem
              ∙ store_twice s₀ (store_in current s) t f₀ (sized_in s x.fit) z (λ y. omega arith)
              ∙ ap (with_store current s₀) (sym b);
        }

  pub taking_all : length l ≤ j → s ≡ with_store current s₀ (taken_off lift l (store_in current s₀))
  unfolding taken_off
  taking_all h =
      x.mem
      ∙ ap (with_store current s₀) (sym (ap (λ (m : List ℕ). taken_off lift m (store_in current s)) (drop_of_length-le l h)) ∙ x.left)

-- ---- by places as by labels
found_first : (lift : Bool) (p : Words) (l : List Words) (s : Store) → is_found (retired current lift (p ∷ l) s) ≡ true
    → (may_retire current lift p s ≡ true) × (retired current lift (p ∷ l) s ≡ retired current lift l (released p (lifted lift p s)))
unfolding retired is_found
found_first lift p l s h = go (may_retire current lift p s) h
  where
    o : Option Store
    o = retired current lift l (released p (lifted lift p s))

    go : (b : Bool) → is_found (cond b o none) ≡ true → (b ≡ true) × (cond b o none ≡ o)
    go true h = (refl, refl)
    go false h = let z : ◌≡◌ {A = ℕ} 0 1 = cc in absurd (omega arith)

-- a mark taken off moves no node
places_stay : (lift : Bool) (p : Words) (ps : List Words) (s : Store) → places_of ps (released p (lifted lift p s)) ≡ places_of ps s
unfolding places_of
places_stay lift p [] s = refl
places_stay lift p (q ∷ ps) s = ap₂ (λ (i : ℕ) (l : List ℕ). i ∷ l) (place_retired lift p q s) (places_stay lift p ps s)

may_there : (lift : Bool) (p : Words) (s : Store) → may_retire current lift p s ≡ true → CanRetire lift (node_place p s.nodes) s
unfolding may_retire is_pending is_present node_of
may_there lift p s h =
    let i : ℕ = node_place p s.nodes in
    let n : ℕ = pending (node_at i s) in
    let r : Bool = ltb (revision (node_at i s)) (max_revision current) in
    let x : Bool = ltb i (length s.nodes) in
    let a : x && ltb 0 n ≡ true = and_left (x && ltb 0 n) (not lift || r) h in
    record {
      below = ltb-true i (length s.nodes) (and_left x (ltb 0 n) a);
      marked = ltb-true 0 n (and_right x (ltb 0 n) a);
      room = λ e. ltb-true (revision (node_at i s)) (max_revision current) (rw e at (and_right (x && ltb 0 n) (not lift || r) h));
    }

by_places : (lift : Bool) (ps : List Words) (s : Store) → is_found (retired current lift ps s) ≡ true
    → CanTakeOff lift (places_of ps s) s × (retired current lift ps s ≡ some (taken_off lift (places_of ps s) s))
unfolding places_of taken_off CanTakeOff retired
by_places lift [] s h = (tt, refl)
by_places lift (p ∷ ps) s h =
    let t : Store = released p (lifted lift p s) in
    let f = found_first lift p ps s h in
    let r = by_places lift ps t (ap is_found (sym f.1) ∙ h) in
    let e : places_of ps t ≡ places_of ps s = places_stay lift p ps s in
    let u : t ≡ retired_at lift (node_place p s.nodes) s = retired_at_law lift p s in (
      (may_there lift p s f.0, subst (CanTakeOff lift (places_of ps s)) u (subst (λ (l : List ℕ). CanTakeOff lift l t) e r.0)),
      f.1 ∙ r.1 ∙ ap₂ (λ (l : List ℕ) (t : Store). some (taken_off lift l t)) e u,
    )

module _
    (lift : Bool) (ps : List Words) (s l : List ℕ)
    (o : is_found (retired current lift ps (store_in current s)) ≡ true) (e : l ≡ places_of ps (store_in current s)) where
  pub can_take_off : CanTakeOff lift l (store_in current s)
  can_take_off = subst (λ (m : List ℕ). CanTakeOff lift m (store_in current s)) (sym e) (by_places lift ps (store_in current s) o).0

  pub took_off : (u : List ℕ) → u ≡ with_store current s (taken_off lift l (store_in current s))
      → attempt (Ok tt) u ≡ tried s (retired current lift ps (store_in current s))
  unfolding telling
  took_off u f =
      ap (attempt (Ok tt)) (f ∙ ap (λ (m : List ℕ). with_store current s (taken_off lift m (store_in current s))) e)
      ∙ ap (tried s) (sym (by_places lift ps (store_in current s) o).1)

-- where there is no node nothing is to be taken off
pub took_nothing : (lift : Bool) (q : Query) (i n : ℕ) (s : List ℕ) → Fit s → n ≡ 0 → attempt (Ok tt) s ≡ tried s (retired current lift (labels_from q i n) (store_in current s))
unfolding labels_from listed retired telling
took_nothing lift q i n s f h = rw h (ap (attempt (Ok tt)) (sym (store_self s f)))

pub took_none : (s : List ℕ) (o : Option Store) (e : Refusal) → false ≡ is_found o → e ≡ Unsound → (r : Result (Unit {0}) Refusal) → r ≡ Err e
    → attempt r s ≡ tried s o
unfolding telling is_found
took_none s none e h f r g = ap (λ (x : Result (Unit {0}) Refusal). attempt x s) (g ∙ ap Err f)
took_none s (some t) e h f r g = cc
