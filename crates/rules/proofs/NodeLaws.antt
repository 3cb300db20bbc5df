-- Laws of a node: its label, its pending writes and its revision after each change that the rules make to one, and its width. What a node is in
-- numbers is opened here and nowhere above. Leans on Nodes. Assumes nothing.
use mathlib.Core.Path.{◌≡◌, refl, ◌∙◌}
use mathlib.Core.List.{List, [], ◌∷◌}
use Prim.Native.Nat.{ℕ, zero, suc, ◌+◌, ◌*◌, ◌≤◌}
use native.Mathlib.Omega.{arith}
use lib.ListN.{length, get_or, set, length-append, length-set}
use lib.Seq.{take_at, get_or_at, get_or-append-add, take-set-le, get_or-set_same, get_or-set_other}
use Rattle.query.specs.Shape.{Form, narrow, wide, Shape}
use Rattle.query.specs.Encoding.{label_width}
use Rattle.rules.specs.Layout.{max_clients, max_revision, worn_above, first_floor, pending_offset, revision_offset, node_width}
use Rattle.rules.specs.Nodes.{Words, Node, label_in, pending, revision, with_pending, with_revision, new_node}

-- ---- A new node
module _ (p : Words) (x : ℕ) (five : length p ≡ label_width) where
  pub new_label : label_in (new_node p x) ≡ p
  unfolding label_in new_node
  new_label = take_at p _ label_width five

  pub new_pending : pending (new_node p x) ≡ 0
  unfolding pending new_node
  new_pending = get_or_at p 0 _ 0 pending_offset five

  pub new_revision : revision (new_node p x) ≡ x
  unfolding revision new_node
  new_revision = rw five at (get_or-append-add p (0 ∷ x ∷ 0 ∷ []) 1 0)

  pub new_wide : length (new_node p x) ≡ node_width
  unfolding new_node
  new_wide = length-append p _ ∙ rw five refl

-- ---- No node: where one is missing
pub no_pending : pending [] ≡ 0
unfolding pending
no_pending = refl

pub no_revision : revision [] ≡ 0
unfolding revision
no_revision = refl

-- ---- One number altered
module _ (n : Node) (x : ℕ) where
  pub pending_label : label_in (with_pending n x) ≡ label_in n
  unfolding label_in with_pending
  pending_label = take-set-le label_width n pending_offset x (omega arith)

  pub pending_revision : revision (with_pending n x) ≡ revision n
  unfolding revision with_pending
  pending_revision = get_or-set_other n pending_offset revision_offset x 0 (λ e. omega arith)

  pub pending_pending : length n ≡ node_width → pending (with_pending n x) ≡ x
  unfolding pending with_pending
  pending_pending w = get_or-set_same n pending_offset x 0 (omega arith)

  pub pending_length : length (with_pending n x) ≡ length n
  unfolding with_pending
  pending_length = length-set n pending_offset x

  pub revision_label : label_in (with_revision n x) ≡ label_in n
  unfolding label_in with_revision
  revision_label = take-set-le label_width n revision_offset x (omega arith)

  pub revision_pending : pending (with_revision n x) ≡ pending n
  unfolding pending with_revision
  revision_pending = get_or-set_other n revision_offset pending_offset x 0 (λ e. omega arith)

  pub revision_revision : length n ≡ node_width → revision (with_revision n x) ≡ x
  unfolding revision with_revision
  revision_revision w = get_or-set_same n revision_offset x 0 (omega arith)

  pub revision_length : length (with_revision n x) ≡ length n
  unfolding with_revision
  revision_length = length-set n revision_offset x

-- a revision that may have been set, of a node of any width: it is no larger than both
set_most : (b : ℕ) (l : List ℕ) (i x : ℕ) → x ≤ b → get_or l i 0 ≤ b → get_or (set l i x) i 0 ≤ b
set_most b [] i x h k = k
set_most b (y ∷ l) zero x h k = h
set_most b (y ∷ l) (suc i) x h k = set_most b l i x h k

pub revision_most : (b : ℕ) (n : Node) (x : ℕ) → x ≤ b → revision n ≤ b → revision (with_revision n x) ≤ b
unfolding revision with_revision
revision_most b n x h k = set_most b n revision_offset x h k

-- the number above which a counter is worn leaves room for twelve clients with sixteen raises each, and the first floor is below it
pub worn_room : (f : Form) (sh : Shape) → (worn_above f sh + max_clients * 16 ≤ max_revision f) × (first_floor + max_clients * 16 ≤ max_revision f)
worn_room narrow sh = (omega arith, omega arith)
worn_room wide sh = (omega arith, omega arith)
