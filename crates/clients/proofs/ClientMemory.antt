-- Laws of one client in the desks memory: what is read of it, what a changed client leaves, and what it leaves alone.
-- Leans on rules, on its laws of a client in memory and on the laws of lists. Assumes nothing.
use mathlib.Core.Path.{◌≡◌, sym, ap, ◌∙◌}
use mathlib.Core.List.{List, ◌++◌, append_assoc}
use Prim.Native.Nat.{ℕ, ◌+◌, ◌-◌, ◌≤◌, ◌<◌}
use native.Mathlib.Omega.{arith}
use lib.ListN.{length, get_or, take, drop, set, replicate, length-drop, length-replicate}
use lib.Seq.{length-take-le, get_or-take, get_or-drop, drop-drop, take-take, drop-append-add, drop-append-le, take-append-add, take-append-le}
use borrow.Rule.Slice.PartMut.{put_mid}
use Rattle.lists.specs.Lists.{written}
use Rattle.laws.proofs.WrittenLaws.{mid_written, drop_take, length_written, written_over, written_self, set_inside}
use Rattle.rules.specs.Client.{kind}
use Rattle.rules.specs.Memory.{current, client_in, with_client}
use Rattle.rules.specs.Layout.{max_clients, kind_offset, client_width, client_offset}
use Rattle.rules.proofs.ClientLaws as rules
use Rattle.clients.specs.ClientContracts.{Fit}

-- ---- what is written over a part of a memory
-- written inside what was written
pub written_inside : (s : List ℕ) (i : ℕ) (u : List ℕ) (j : ℕ) (v : List ℕ) → j + length v ≤ length u → i ≤ length s
    → written (written s i u) (i + j) v ≡ written s i (written u j v)
unfolding written
written_inside s i u j v h k =
    let rest : List ℕ = drop (i + length u) s in
    let l : length (take i s) ≡ i = length-take-le i s k in
    let n : length (take j u ++ v ++ drop (j + length v) u) ≡ length u = unfold written in length_written u j v h in
    let a : i + j ≡ length (take i s) + j = omega arith in
    let b : i + j + length v ≡ length (take i s) + (j + length v) = omega arith in
    let t : take (i + j) (take i s ++ (u ++ rest)) ≡ take i s ++ take j u =
    ap (λ (m : ℕ). take m (take i s ++ (u ++ rest))) a ∙ take-append-add (take i s) (u ++ rest) j ∙ ap (λ (x : List ℕ). take i s ++ x) (take-append-le j u rest (omega arith)) in
    let r : drop (i + j + length v) (take i s ++ (u ++ rest)) ≡ drop (j + length v) u ++ rest =
    ap (λ (m : ℕ). drop m (take i s ++ (u ++ rest))) b ∙ drop-append-add (take i s) (u ++ rest) (j + length v) ∙ drop-append-le (j + length v) u rest h in
    rw (append_assoc (take i s) u rest, t, r, n) (simp append_assoc)

-- a part cleared whole
pub part_cleared : (s : List ℕ) (at end : ℕ) (t : List ℕ) → at ≤ end → end ≤ length s → t ≡ replicate (length (take (end - at) (drop at s))) 0
    → put_mid at (end - at) s t ≡ written s at (replicate (end - at) 0)
part_cleared s at end t h k e =
    let l : length (take (end - at) (drop at s)) ≡ end - at = length-take-le (end - at) (drop at s) (rw length-drop (omega arith)) in
    rw (e, l) (mid_written s at (end - at) (replicate (end - at) 0) (length-replicate (end - at) 0))

-- ---- what is read
module _ (s : List ℕ) (d : ℕ) where
  pub word_at : (j : ℕ) → j < client_width → get_or (client_in current s d) j 0 ≡ get_or s (client_offset current d + j) 0
  unfolding client_in
  word_at j h = get_or-take client_width (drop (client_offset current d) s) j 0 h ∙ get_or-drop (client_offset current d) s j 0

  pub part_at : (j n : ℕ) → j + n ≤ client_width → take n (drop j (client_in current s d)) ≡ take n (drop (client_offset current d + j) s)
  unfolding client_in
  part_at j n h =
      ap (take n) (drop_take j client_width (drop (client_offset current d) s)) ∙ take-take n (client_width - j) (drop j (drop (client_offset current d) s)) (omega arith)
      ∙ ap (take n) (drop-drop j (client_offset current d) s)

  -- its kind, for a reader of that number alone
  pub kind_at : get_or s (client_offset current d + kind_offset) 0 ≡ kind (client_in current s d)
  unfolding kind
  kind_at = sym (word_at kind_offset (omega arith))

module _ (s : List ℕ) (d : ℕ) (f : Fit s d) where
  pub client_room : client_offset current d + client_width ≤ length s
  client_room = omega arith

  pub length_client : length (client_in current s d) ≡ client_width
  length_client = rules.client_wide current s d client_room

  pub with_self : with_client current s d (client_in current s d) ≡ s
  unfolding client_in with_client
  with_self = written_self s (client_offset current d) client_width client_room

-- ---- what a changed client leaves
module _ (s : List ℕ) (d : ℕ) (f : Fit s d) (c : List ℕ) (n : length c ≡ client_width) where
  pub length_kept : length (with_client current s d c) ≡ length s
  length_kept = rules.length_with current s d c n (client_room s d f)

  pub fit_kept : (e : ℕ) → e < max_clients → Fit (with_client current s d c) e
  fit_kept e h = let l = length_kept in record { long = omega arith; below = h }

  pub client_same : client_in current (with_client current s d c) d ≡ c
  client_same = rules.client_same current s d c n (client_room s d f)

  pub client_other : (e : ℕ) → (e ≡ d → ⊥) → client_in current (with_client current s d c) e ≡ client_in current s e
  client_other e h = rules.client_other current s d c n (client_room s d f) e h

  pub with_twice : (v : List ℕ) → length v ≡ client_width → with_client current (with_client current s d c) d v ≡ with_client current s d v
  unfolding with_client
  with_twice v m = written_over s (client_offset current d) c v (omega arith) (omega arith)

  -- one number more of it stored, and some
  pub with_word : (j x : ℕ) → j < client_width → set (with_client current s d c) (client_offset current d + j) x ≡ with_client current s d (set c j x)
  unfolding with_client
  with_word j x h = sym (set_inside s (client_offset current d) c j x (omega arith) (omega arith))

  pub with_words : (j : ℕ) (v : List ℕ) → j + length v ≤ client_width → written (with_client current s d c) (client_offset current d + j) v ≡ with_client current s d (written c j v)
  unfolding with_client
  with_words j v h = written_inside s (client_offset current d) c j v (omega arith) (omega arith)
