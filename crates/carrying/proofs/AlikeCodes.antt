-- Two halls alike and sound turn a call down with the same number, unless the first gives 10. Leans on SoundCodes. Assumes nothing.
use mathlib.Core.Path.{◌≡◌, refl, sym, ap, ◌∙◌}
use mathlib.Core.Bool.{Bool, true, false, cond, not, ◌&&◌}
use mathlib.Core.List.{List, []}
use Prim.Native.Nat.{ℕ, ◌≤◌, ◌<◌}
use native.Mathlib.Omega.{arith}
use lib.Dec.{eqb, ltb}
use lib.ListN.{length, get_or}
use borrow.Author.Tests.{leb-false, le-ltb}
use Rattle.laws.proofs.TestLaws.{by_test}
use Rattle.laws.proofs.SearchLaws.{place_all}
use Rattle.query.specs.Shape.{Form, Shape}
use Rattle.rules.specs.Layout.{max_clients, worn_above, answer_count_offset, node_count_offset}
use Rattle.rules.specs.Nodes.{Store, revision, is_high, is_worn, pending}
use Rattle.rules.specs.Client.{Client, is_idle, is_bad}
use Rattle.rules.specs.Memory.{Mem, store_in}
use Rattle.rules.specs.Refusals.{form, shape, client, no_client, all_idle, at_client, begin_code, step_code, abandon_code, evict_answer_code, evict_node_code, renew_code}
use Rattle.rules.specs.Work.{Request, fault_of, is_write}
use Rattle.revisions.proofs.NodeRows.{each_at}
use Rattle.revisions.proofs.RevisionBounds.{Below, below_more, worn_below}
use Rattle.refinement.proofs.Abstraction.{Fits}
use Rattle.refinement.proofs.SoundCodes.{not_short, sound}
use Rattle.rules.proofs.MemoryLaws.{length_nodes, length_answers}
use Rattle.refinement.proofs.AnswersRefined.{below_cong}
use Rattle.carrying.specs.Alike.{Alike, Wider}

-- ---- Worn: no sooner in the wider form
below_worn : (f : Form) (sh : Shape) (s : Store) → Below (worn_above f sh) s → is_worn f sh s ≡ false
unfolding is_worn is_high Below
below_worn f sh s b =
    let a = place_all (λ n. ltb (worn_above f sh) (revision n)) s.nodes [] (λ j l. le-ltb (worn_above f sh) (revision (get_or s.nodes j [])) (each_at (λ n. revision n ≤ worn_above f sh) s.nodes j b.1 l)) in
    rw (le-ltb (worn_above f sh) s.floor b.0, a) (le-ltb (length s.nodes) (length s.nodes) (omega arith))

pub worn_later : (f g : Form) (sh : Shape) (s : Store) → Wider f g → is_worn f sh s ≡ false → is_worn g sh s ≡ false
worn_later f g sh s w e = below_worn g sh s (below_more s (w.worn sh) (worn_below f sh s e))

-- ---- Begins
-- a refusal that stands in both: the same where what follows is, unless it is 10
over : (b : Bool) (x r r' : ℕ) → (cond b x r ≡ 10 → ⊥) → ((r ≡ 10 → ⊥) → r ≡ r') → cond b x r ≡ cond b x r'
over true x r r' h k = refl
over false x r r' h k = k h

worn : Bool → ℕ
worn w = cond w 10 0

last : (w w' : Bool) → (w ≡ false → w' ≡ false) → (worn w ≡ 10 → ⊥) → worn w ≡ worn w'
unfolding worn
last true w' k h = absurd (h refl)
last false w' k h = rw (k refl) refl

-- what a begin's number goes by, in memories that fit
begin_of : Shape → ℕ → Request → Client → Bool → ℕ
begin_of sh d r c w =
    cond (not (eqb (fault_of sh r) 0)) (fault_of sh r) (cond (no_client d) 4 (cond (is_bad sh c) 3 (cond (not (is_idle c)) 5 (worn w))))

no_desk : (sh : Shape) (d : ℕ) (r : Request) (c c' : Client) (w w' : Bool) → no_client d ≡ true → begin_of sh d r c w ≡ begin_of sh d r c' w'
unfolding begin_of
no_desk sh d r c c' w w' e = rw e refl

worn_any : (sh : Shape) (d : ℕ) (r : Request) (c : Client) (w w' : Bool) → (w ≡ false → w' ≡ false) → (begin_of sh d r c w ≡ 10 → ⊥) → begin_of sh d r c w ≡ begin_of sh d r c w'
unfolding begin_of
worn_any sh d r c w w' k h =
    over (not (eqb (fault_of sh r) 0)) (fault_of sh r) _ _ h (λ h1. over (no_client d) 4 _ _ h1 (λ h2. over (is_bad sh c) 3 _ _ h2 (λ h3. over (not (is_idle c)) 5 _ _ h3 (λ h4. last w w' k h4))))

abbrev worn_for : Mem → Request → Bool
worn_for m r = is_write r && is_worn (form m) (shape m) (store_in (form m) m.nodes)

begin_is : (m : Mem) → Fits m → (d : ℕ) (r : Request) → begin_code m d r ≡ begin_of (shape m) d r (client m d) (worn_for m r)
unfolding begin_code begin_of worn
begin_is m f d r = rw (not_short m f, sound m f) refl

desk_below : (d : ℕ) → no_client d ≡ false → d < max_clients
unfolding no_client
desk_below d e = leb-false _ _ e

and_later : (b x y : Bool) → (x ≡ false → y ≡ false) → b && x ≡ false → b && y ≡ false
and_later true x y k e = k e
and_later false x y k e = e

-- ---- Steps and abandonings
at_of : Shape → ℕ → Client → ℕ
at_of sh d c = cond (no_client d) 4 (cond (is_bad sh c) 3 (cond (is_idle c) 6 0))

at_is : (m : Mem) → Fits m → (d : ℕ) → at_client m d ≡ at_of (shape m) d (client m d)
unfolding at_client at_of
at_is m f d = rw (sound m f) refl

at_none : (sh : Shape) (d : ℕ) (c c' : Client) → no_client d ≡ true → at_of sh d c ≡ at_of sh d c'
unfolding at_of
at_none sh d c c' e = rw e refl

module _ (m n : Mem) (f : Fits m) (g : Fits n) (a : Alike m n) where
  worn_same : Wider (form m) (form n) → (r : Request) → worn_for m r ≡ false → worn_for n r ≡ false
  worn_same w r = and_later (is_write r) _ _ (λ e.
      sym (λ i. is_worn (form n) (a.shape i) (a.store i)) ∙ worn_later (form m) (form n) (shape m) (store_in (form m) m.nodes) w e)

  pub begin_same : Wider (form m) (form n) → (d : ℕ) (r : Request) → (begin_code m d r ≡ 10 → ⊥) → begin_code m d r ≡ begin_code n d r
  begin_same w d r h =
      let k : begin_of (shape m) d r (client m d) (worn_for m r) ≡ 10 → ⊥ = λ e. h (begin_is m f d r ∙ e) in
      begin_is m f d r
      ∙ worn_any (shape m) d r (client m d) (worn_for m r) (worn_for n r) (worn_same w r) k
      ∙ by_test (no_client d)
      (λ t. no_desk (shape m) d r (client m d) (client n d) (worn_for n r) (worn_for n r) t ∙ (λ i. begin_of (a.shape i) d r (client n d) (worn_for n r)))
      (λ t. λ i. begin_of (a.shape i) d r (a.clients d (desk_below d t) i) (worn_for n r))
      ∙ sym (begin_is n g d r)

  at_same : (d : ℕ) → at_client m d ≡ at_client n d
  at_same d =
      at_is m f d
      ∙ by_test (no_client d)
      (λ t. at_none (shape m) d (client m d) (client n d) t ∙ (λ i. at_of (a.shape i) d (client n d)))
      (λ t. λ i. at_of (a.shape i) d (a.clients d (desk_below d t) i))
      ∙ sym (at_is n g d)

  pub step_same : (tray : List ℕ) (d : ℕ) → step_code m tray d ≡ step_code n tray d
  unfolding step_code
  step_same tray d = rw (not_short m f, not_short n g, at_same d) refl

  pub abandon_same : (d : ℕ) → abandon_code m d ≡ abandon_code n d
  unfolding abandon_code
  abandon_same d = rw (not_short m f, not_short n g, at_same d) refl

  -- ---- Puttings out and renewals
  answers_many : get_or m.answers answer_count_offset 0 ≡ get_or n.answers answer_count_offset 0
  answers_many = sym (length_answers (form m) m.answers) ∙ ap length a.answers ∙ length_answers (form n) n.answers

  nodes_many : get_or m.nodes node_count_offset 0 ≡ get_or n.nodes node_count_offset 0
  nodes_many = sym (length_nodes (form m) m.nodes) ∙ ap (λ (s : Store). length s.nodes) a.store ∙ length_nodes (form n) n.nodes

  pub evict_answer_same : (i : ℕ) → evict_answer_code m i ≡ evict_answer_code n i
  unfolding evict_answer_code
  evict_answer_same i = rw (not_short m f, sound m f, not_short n g, sound n g, answers_many) refl

  pub evict_node_same : (i : ℕ) → evict_node_code m i ≡ evict_node_code n i
  unfolding evict_node_code
  evict_node_same i =
      let e : pending (get_or (store_in (form m) m.nodes).nodes i []) ≡ pending (get_or (store_in (form n) n.nodes).nodes i []) = ap (λ (s : Store). pending (get_or s.nodes i [])) a.store in
      rw (not_short m f, sound m f, not_short n g, sound n g, nodes_many, e) refl

  all_idle_same : all_idle m ≡ all_idle n
  unfolding all_idle
  all_idle_same = below_cong max_clients (λ d. is_idle (client m d)) (λ d. is_idle (client n d)) (λ d h. ap is_idle (a.clients d h))

  pub renew_same : renew_code m ≡ renew_code n
  unfolding renew_code
  renew_same = rw (not_short m f, sound m f, not_short n g, sound n g, all_idle_same) refl
