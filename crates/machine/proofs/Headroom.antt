-- Why no operation on the revision nodes fails in a history: the revisions have room for all raises still to come, a write about to mark
-- a node finds fewer than 12 marks there, and no more than 192 nodes are marked. Leans on StateInv, PendingLabels and revisions'
-- RevisionBounds. Assumes nothing.
use mathlib.Core.Path.{◌≡◌, refl, sym, ap, ◌∙◌}
use mathlib.Core.Bool.{Bool, false}
use mathlib.Core.List.{List, [], ◌∷◌, ◌++◌}
use Prim.Native.Nat.{ℕ, zero, suc, ◌+◌, ◌-◌, ◌*◌, ◌≤◌, ◌<◌}
use native.Mathlib.Omega.{arith}
use lib.Dec.{eqb, ltb}
use borrow.Author.Tests.{eqb-true, eqb-false, ltb-true, ltb-false}
use lib.ListN.{length, get_or, take, drop, length-take, length-drop, length-append, take-append-drop}
use Rattle.laws.proofs.ListLaws.{same_eq}
use Rattle.laws.proofs.Members.{in_place}
use Rattle.laws.proofs.TestLaws.{by_test}
use Rattle.lists.specs.Lists.{same}
use Rattle.query.specs.Shape.{Form, Shape, max_columns}
use Rattle.rules.specs.Layout.{max_clients, max_pending, max_revision, worn_above, first_floor}
use Rattle.rules.proofs.NodeLaws.{worn_room}
use Rattle.rules.specs.Work.{writing, Write, write_labels}
use Rattle.rules.specs.Nodes.{Words, is_worn}
use Rattle.rules.proofs.WorkLaws.{write_labels_differ}
use Rattle.revisions.specs.EffectiveRevision.{effective, pending_of, one, tally}
use Rattle.revisions.proofs.NodeRows.{Each}
use Rattle.revisions.proofs.RevisionBounds.{Below, below_effective, worn_below}
use Rattle.machine.specs.Machine.{upd, State, Phase, idle, looking, tabling, filing, announcing, raising, opened, at_client, with_store, with_filing, with_tab}
use Rattle.machine.specs.Machine.{Call, begin, step, abandon, evicts_answer, evicts_node, renew, Response, went}
use Rattle.machine.specs.Transition.{Transition}
use Rattle.machine.proofs.Asks.{write_few}
use Rattle.machine.proofs.Sums.{sum_below, sum_below_change, sum_below_none, sum_below_ge, upd_same, upd_other}
use Rattle.machine.proofs.PendingLabels.{holds, held_of, Leaves, tally_append, tally_drop, tally_pos, one_self}
use Rattle.machine.proofs.StateInv.{StateInv, Fit, fit_at}

-- ---- Sums over the desks
sum_most : (n m : ℕ) (f : ℕ → ℕ) → ((j : ℕ) → f j ≤ m) → sum_below n f ≤ n * m
unfolding sum_below
sum_most zero m f h = omega arith
sum_most (suc n) m f h = let a = sum_most n m f h in let b = h n in let c : suc n * m ≡ m + n * m = omega arith in omega arith

-- one of them is 0 where each is at most 1
sum_room : (n : ℕ) (f : ℕ → ℕ) (d : ℕ) → ((j : ℕ) → f j ≤ 1) → d < n → f d ≡ 0 → sum_below n f < n
unfolding sum_below
sum_room zero f d h l e = absurd (omega arith)
sum_room (suc n) f d h l e = by_test (eqb d n)
    (λ k. let i = eqb-true d n k in let e' : f n ≡ 0 = rw (← i) e in let a = sum_most n 1 f h in omega arith)
    (λ k. let ne : d ≡ n → ⊥ = eqb-false d n k in let a = sum_room n f d h (omega arith) e in let b = h n in omega arith)

-- ---- Raises to come
-- those that a desk's write has still to make
unfoldable pub to_raise : Phase → ℕ
to_raise idle = 0
to_raise (looking q ns saw) = 0
to_raise (tabling q ns saw) = 0
to_raise (filing q ns l) = 0
to_raise (announcing w i) = length (write_labels w)
to_raise (raising w j c f) = length (write_labels w) - j

unfoldable pub all_to_raise : (ℕ → Phase) → ℕ
all_to_raise f = sum_below 12 (λ d. to_raise (f d))

-- "a write begins while the floor or a counter is above 4,294,967,103" (10): so no revision comes to its largest. Every revision and the
-- floor are at most b, and b with all raises to come is no more than a counter can hold
abbrev pub Headroom : Form → State → Type 0
Headroom f s = (b : ℕ) × Below b s.store × (b + all_to_raise s.clients ≤ max_revision f)

-- a write that begins finds no revision above the worn number of this form
abbrev pub Fresh : Form → State → Call → Response → Type 0
Fresh f s c a = (d : ℕ) (w : Write) → c ≡ begin d (writing w) → a ≡ went → is_worn f s.shape s.store ≡ false

to_raise_upd : (f : ℕ → Phase) (d : ℕ) (x : Phase) → d < max_clients → all_to_raise (upd f d x) + to_raise (f d) ≡ all_to_raise f + to_raise x
unfolding all_to_raise
to_raise_upd f d x l =
    let a = sum_below_change 12 (λ e. to_raise (f e)) (λ e. to_raise (upd f d x e)) d l (λ j ne. ap to_raise (sym (upd_other f d x j ne))) in
    let b : to_raise (upd f d x d) ≡ to_raise x = ap to_raise (upd_same f d x) in
    rw b at a

-- 12 desks with 16 each at the most
few_raises : (sh : Shape) (e : Words → ℕ) (x : Phase) → sh.columns ≤ max_columns → Fit sh e x → to_raise x ≤ 16
unfolding to_raise
few_raises sh e idle l o = omega arith
few_raises sh e (looking q ns saw) l o = omega arith
few_raises sh e (tabling q ns saw) l o = omega arith
few_raises sh e (filing q ns u) l o = omega arith
few_raises sh e (announcing w i) l o = write_few sh w o.0 l
few_raises sh e (raising w j c f) l o = let a = write_few sh w o.0 l in omega arith

all_few : (s : State) → StateInv s → all_to_raise s.clients ≤ 192
unfolding all_to_raise
all_few s v = sum_most 12 16 (λ d. to_raise (s.clients d)) (λ d. few_raises s.shape (effective s.store) (s.clients d) v.few (v.fit d))

none_raise : (f : ℕ → Phase) → ((d : ℕ) → f d ≡ idle) → all_to_raise f ≡ 0
unfolding all_to_raise to_raise
none_raise f e = sum_below_none 12 (λ d. to_raise (f d)) (λ j l. rw (e j) refl)

-- ---- Every call keeps the headroom
-- how far a call may lift the bound: a raise by one; a renewal sets the floor to 1
abbrev pub lift_at : Phase → ℕ
lift_at idle = 0
lift_at (looking q ns saw) = 0
lift_at (tabling q ns saw) = 0
lift_at (filing q ns l) = 0
lift_at (announcing w i) = 0
lift_at (raising w j c f) = 1

-- an abandoning makes all raises that are left
abbrev pub lift_all : Phase → ℕ
lift_all idle = 0
lift_all (looking q ns saw) = 0
lift_all (tabling q ns saw) = 0
lift_all (filing q ns l) = 0
lift_all (announcing w i) = 0
lift_all (raising w j c f) = length (write_labels w) - j

abbrev pub lift_of : State → Call → ℕ
lift_of s (begin d x) = 0
lift_of s (step d) = lift_at (s.clients d)
lift_of s (abandon d) = lift_all (s.clients d)
lift_of s (evicts_answer i) = 0
lift_of s (evicts_node i) = 0
lift_of s renew = first_floor

abbrev pub Lifted : State → Call → State → Type 0
Lifted s c t = (b : ℕ) → Below b s.store → Below (b + lift_of s c) t.store

at_room : (f : Form) (s t : State) (d : ℕ) (x : Phase) (n : ℕ) → d < max_clients → t.clients ≡ upd s.clients d x → n + to_raise x ≤ to_raise (s.clients d)
    → ((b : ℕ) → Below b s.store → Below (b + n) t.store) → Headroom f s → Headroom f t
at_room f s t d x n l e k g r =
    let z = to_raise_upd s.clients d x l in
    let y = r.2 in
    (r.0 + n, g r.0 r.1, rw e (omega arith))

aside_room : (f : Form) (s t : State) → t.clients ≡ s.clients → ((b : ℕ) → Below b s.store → Below (b + 0) t.store) → Headroom f s → Headroom f t
aside_room f s t e g r = let y = r.2 in (r.0 + 0, g r.0 r.1, rw e (omega arith))

lift_all_law : (x : Phase) → lift_all x + to_raise idle ≤ to_raise x
unfolding to_raise
lift_all_law idle = omega arith
lift_all_law (looking q ns saw) = omega arith
lift_all_law (tabling q ns saw) = omega arith
lift_all_law (filing q ns l) = omega arith
lift_all_law (announcing w i) = omega arith
lift_all_law (raising w j c f) = omega arith

pub transition_headroom : (h : Form) (s : State) {c : Call} {a : Response} {t : State} → Fresh h s c a → StateInv s → StateInv t → Lifted s c t → Headroom h s → Transition s c a t → Headroom h t
unfolding to_raise at_client with_store with_filing with_tab Below Each
transition_headroom h s {t = t} low v u g r (Transition.nothing e) = r
transition_headroom h s {t = t} low v u g r (Transition.began {d} {q} l e k) = at_room h s t d (looking q [] false) 0 l refl (omega arith) g r
transition_headroom h s {t = t} low v u g r (Transition.began_write {d} {w} l e k) =
    (worn_above h s.shape, worn_below h s.shape s.store (low d w refl refl), let z = all_few t u in let y = (worn_room h s.shape).0 in omega arith)
transition_headroom h s {t = t} low v u g r (Transition.looked {d} l e k m n) = at_room h s t d _ (lift_at (s.clients d)) l refl (rw e (omega arith)) g r
transition_headroom h s {t = t} low v u g r (Transition.missed {d} l e k y) = at_room h s t d _ (lift_at (s.clients d)) l refl (rw e (omega arith)) g r
transition_headroom h s {t = t} low v u g r (Transition.hit {d} l e k i f) = at_room h s t d idle (lift_at (s.clients d)) l refl (rw e (omega arith)) g r
transition_headroom h s {t = t} low v u g r (Transition.too_long {d} l e k) = at_room h s t d idle (lift_at (s.clients d)) l refl (rw e (omega arith)) g r
transition_headroom h s {t = t} low v u g r (Transition.listed {d} l e k) = at_room h s t d idle (lift_at (s.clients d)) l refl (rw e (omega arith)) g r
transition_headroom h s {t = t} low v u g r (Transition.took {d} l e k) = at_room h s t d _ (lift_at (s.clients d)) l refl (rw e (omega arith)) g r
transition_headroom h s {t = t} low v u g r (Transition.filed {d} l e) = at_room h s t d idle (lift_at (s.clients d)) l refl (rw e (omega arith)) g r
transition_headroom h s {t = t} low v u g r (Transition.announced {d} {w} {i} l e k m) = at_room h s t d (announcing w (suc i)) (lift_at (s.clients d)) l refl (rw e (omega arith)) g r
transition_headroom h s {t = t} low v u g r (Transition.wrote {d} l e k) = at_room h s t d _ (lift_at (s.clients d)) l refl (rw e (omega arith)) g r
transition_headroom h s {t = t} low v u g r (Transition.raised {d} {w} {j} {c} {f} l e k m) = at_room h s t d (raising w (suc j) c f) (lift_at (s.clients d)) l refl (rw e (omega arith)) g r
transition_headroom h s {t = t} low v u g r (Transition.last {d} {w} {j} {c} {f} l e k m) =
    let o = (fit_at s d (raising w j c f) v e).1 in at_room h s t d idle (lift_at (s.clients d)) l refl (rw e (omega arith)) g r
transition_headroom h s {t = t} low v u g r (Transition.abandoned_read {d} l e) = at_room h s t d idle (lift_all (s.clients d)) l refl (lift_all_law (s.clients d)) g r
transition_headroom h s {t = t} low v u g r (Transition.write_abandoned {d} l e m) = at_room h s t d idle (lift_all (s.clients d)) l refl (lift_all_law (s.clients d)) g r
transition_headroom h s {t = t} low v u g r (Transition.abandoned_raising {d} l e m) = at_room h s t d idle (lift_all (s.clients d)) l refl (lift_all_law (s.clients d)) g r
transition_headroom h s {t = t} low v u g r (Transition.evicted_answer l) = aside_room h s t refl g r
transition_headroom h s {t = t} low v u g r (Transition.evicted_node l m) = aside_room h s t refl g r
transition_headroom h s {t = t} low v u g r (Transition.renewed i) = (first_floor, (omega arith, tt), let z = none_raise s.clients i in let y = (worn_room h s.shape).1 in omega arith)

pub opened_headroom : (f : Form) (sh : Shape) → Headroom f (opened sh)
unfolding opened Below Each
opened_headroom f sh = (first_floor, (omega arith, tt), let z = none_raise (λ d. idle) (λ d. refl) in let y = (worn_room f sh).1 in omega arith)

-- ---- The marks that a desk holds: none twice
once_in : (p : Words) (ps : List Words) → ((i j : ℕ) → i < length ps → j < length ps → get_or ps i [] ≡ get_or ps j [] → i ≡ j) → tally p ps ≤ 1
unfolding tally one
once_in p [] h = omega arith
once_in p (r ∷ ps) h =
    let a = once_in p ps (λ i j k l e. let z = h (suc i) (suc j) (omega arith) (omega arith) e in omega arith) in
    by_test (same r p)
    (λ e. by_test (ltb 0 (tally p ps))
    (λ k. let o = in_place [] (tally_pos p ps (ltb-true 0 (tally p ps) k)) in
    let b = o.1 in
    let z = h 0 (suc o.0) (omega arith) (omega arith) (same_eq r p e ∙ sym o.2) in absurd (omega arith))
    (λ k. let z = ltb-false 0 (tally p ps) k in rw e (let y : 1 + tally p ps ≤ 1 = omega arith in y)))
    (λ e. rw e (let y : 0 + tally p ps ≤ 1 = omega arith in y))

pub write_once : (w : Write) (p : Words) → tally p (write_labels w) ≤ 1
write_once w p = once_in p (write_labels w) (write_labels_differ w)

pub tally_parts : (p : Words) (i : ℕ) (ps : List Words) → tally p (take i ps) + tally p (drop i ps) ≡ tally p ps
tally_parts p i ps = sym (tally_append p (take i ps) (drop i ps)) ∙ ap (tally p) (take-append-drop i ps)

holds_once : (p : Words) (x : Phase) → tally p (holds x) ≤ 1
unfolding holds tally
holds_once p idle = omega arith
holds_once p (looking q ns saw) = omega arith
holds_once p (tabling q ns saw) = omega arith
holds_once p (filing q ns l) = omega arith
holds_once p (announcing w i) = let a = tally_parts p i (write_labels w) in let b = write_once w p in omega arith
holds_once p (raising w j c f) = let a = tally_parts p j (write_labels w) in let b = write_once w p in omega arith

-- the next label of a write is not yet held by it
not_yet : (w : Write) (i : ℕ) → i < length (write_labels w) → tally (get_or (write_labels w) i []) (take i (write_labels w)) ≡ 0
not_yet w i l =
    let p = get_or (write_labels w) i [] in
    let a = tally_parts p i (write_labels w) in
    let b = write_once w p in
    let c = tally_drop p (write_labels w) i l in
    let d = one_self p in
    omega arith

-- "marks at 12 or more to add to" (3) is never met: the other 11 desks hold one mark of the label each at the most
pub few_marks : (s : State) (d : ℕ) (w : Write) (i : ℕ) → StateInv s → d < max_clients → s.clients d ≡ announcing w i → i < length (write_labels w)
    → pending_of s.store (get_or (write_labels w) i []) < max_pending
unfolding held_of holds
few_marks s d w i v l e k =
    let p = get_or (write_labels w) i [] in
    let a = sum_room 12 (λ e. tally p (holds (s.clients e))) d (λ j. holds_once p (s.clients j)) l (ap (λ x. tally p (holds x)) e ∙ not_yet w i k) in
    let b = v.held p in
    omega arith

-- a label that a desk holds is marked as often at least
pub held_marked : (s : State) (d : ℕ) (x : Phase) (p : Words) → StateInv s → d < max_clients → s.clients d ≡ x → tally p (holds x) ≤ pending_of s.store p
unfolding held_of
held_marked s d x p v l e =
    let a = sum_below_ge 12 (λ e. tally p (holds (s.clients e))) d l in
    let b : tally p (holds (s.clients d)) ≡ tally p (holds x) = ap (λ y. tally p (holds y)) e in
    let c = v.held p in
    omega arith

-- "a counter at its largest to raise" (3) is never met: that raise is still to come
raise_room : (h : Form) (s : State) (d : ℕ) (w : Write) (j : ℕ) {c f : Bool} (p : Words) → StateInv s → Headroom h s → d < max_clients → s.clients d ≡ raising w j c f
    → effective s.store p < max_revision h
unfolding all_to_raise to_raise
raise_room h s d w j {c} {f} p v r l e =
    let o = (fit_at s d (raising w j c f) v e).1 in
    let a = below_effective r.0 s.store p r.1 in
    let b = sum_below_ge 12 (λ e. to_raise (s.clients e)) d l in
    let k : to_raise (s.clients d) ≡ length (write_labels w) - j = ap to_raise e in
    let z = r.2 in
    omega arith

-- so any of the raises that a write has still to make find what they need, one of them or all
pub raises_go : (h : Form) (s : State) (d : ℕ) (w : Write) (j : ℕ) (c f : Bool) (ps rest : List Words) → StateInv s → Headroom h s → d < max_clients → s.clients d ≡ raising w j c f
    → Leaves w j ps rest → (p : Words) → (tally p ps ≤ pending_of s.store p) × (effective s.store p + tally p ps ≤ max_revision h)
unfolding holds
raises_go h s d w j c f ps rest v r l e lv p =
    let a = held_marked s d (raising w j c f) p v l e in
    let b = lv p in
    let n = holds_once p (raising w j c f) in
    let g = raise_room h s d w j {c = c} {f = f} p v r l e in
    (omega arith, omega arith)

-- ---- All labels that the desks below n hold
unfoldable pub all_held : ℕ → (ℕ → Phase) → List Words
all_held zero f = []
all_held (suc n) f = holds (f n) ++ all_held n f

all_held_tally : (n : ℕ) (f : ℕ → Phase) (p : Words) → tally p (all_held n f) ≡ sum_below n (λ d. tally p (holds (f d)))
unfolding all_held sum_below tally
all_held_tally zero f p = refl
all_held_tally (suc n) f p = let a = tally_append p (holds (f n)) (all_held n f) in let b = all_held_tally n f p in omega arith

few_held : (sh : Shape) (e : Words → ℕ) (x : Phase) → sh.columns ≤ max_columns → Fit sh e x → length (holds x) ≤ 16
unfolding holds
few_held sh e idle l o = omega arith
few_held sh e (looking q ns saw) l o = omega arith
few_held sh e (tabling q ns saw) l o = omega arith
few_held sh e (filing q ns u) l o = omega arith
few_held sh e (announcing w i) l o = let a = length-take i (write_labels w) in let b = write_few sh w o.0 l in omega arith
few_held sh e (raising w j c f) l o = let a = length-drop j (write_labels w) in let b = write_few sh w o.0 l in omega arith

all_held_length : (n : ℕ) (s : State) → StateInv s → length (all_held n s.clients) ≤ n * 16
unfolding all_held
all_held_length zero s v = omega arith
all_held_length (suc n) s v =
    let a = length-append (holds (s.clients n)) (all_held n s.clients) in
    let b = all_held_length n s v in
    let c = few_held s.shape (effective s.store) (s.clients n) v.few (v.fit n) in
    omega arith

-- "no unmarked node to put out" (3) is never met: at most 192 labels have marks, each as often as it stands in a list of 192
pub marks_held : (s : State) → StateInv s → (p : Words) → pending_of s.store p ≤ tally p (all_held 12 s.clients)
unfolding held_of
marks_held s v p = let a = all_held_tally 12 s.clients p in let b = v.held p in omega arith

pub held_few : (s : State) → StateInv s → length (all_held 12 s.clients) ≤ 192
held_few s v = all_held_length 12 s v
