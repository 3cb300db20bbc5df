-- Laws of the changes of one client: what each leaves, number after number, is what the rules say. Leans on rules, on its laws of a client, and on
-- the laws of ClientMemory. Assumes nothing.
use mathlib.Core.Path.{◌≡◌, refl, sym, ap, ◌∙◌}
use mathlib.Core.Bool.{Bool, true, false}
use mir.Val.{bool_byte}
use mathlib.Core.List.{List, [], ◌∷◌, ◌++◌, append-nil}
use Prim.Native.Nat.{ℕ, ◌+◌, ◌-◌, ◌≤◌, ◌<◌}
use native.Mathlib.Omega.{arith}
use lib.ListN.{length, get_or, take, drop, set, replicate, length-set, length-drop, length-replicate, drop_of_length-le}
use lib.Seq.{length-take-le, get_or-set_other, drop-set-lt, take-set-lt, get_or-take, set-get_or, take_at}
use borrow.Author.Tests.{eq-eqb, ne_eqb}
use borrow.Rule.Slice.PartMut.{put_mid}
use Rattle.lists.specs.Lists.{padded, written}
use Rattle.laws.proofs.ListLaws.{length_padded}
use Rattle.laws.proofs.WrittenLaws.{length_written, written_front, take_written, drop_of_written, set_part, get_or_before, mid_written}
use Rattle.rules.specs.Work.{Value, Work, kind_of, key_of}
use Rattle.rules.specs.Client.{Client, steps, idle, begun, stepped, flag, noted, holding, wrote}
use Rattle.query.specs.Encoding.{key_width}
use Rattle.query.specs.Shape.{Shape}
use Rattle.rules.specs.Layout.{list_room, steps_offset, entry_offset, client_width, client_offset, held_length_offset, noted_offset, held_list_offset}
use Rattle.rules.specs.Memory.{current, client_in, with_client}
use Rattle.rules.proofs.ClientLaws.{idle_wide}
use Rattle.rules.proofs.ClientParts.{stepped_next, holding_wide}
use Rattle.clients.specs.ClientContracts.{Fit, begun_with, value_set}
use Rattle.clients.proofs.ClientMemory.{client_room, length_client, with_self, client_same, with_twice, with_words, part_cleared, length_kept}

-- a list written into its place leaves the steps alone
pub listed_steps : (c : Client) (sh : Shape) (v : List ℕ) → length c ≡ client_width → steps (written c (held_list_offset sh) v) ≡ steps c
unfolding steps
listed_steps c sh v w = get_or_before c (held_list_offset sh) v (omega arith) steps_offset 0 (omega arith)

-- a begin with a work's kind and key is a begin of the work
pub begun_with_law : (x : Work) → begun_with (kind_of x) (key_of x) ≡ begun x
unfolding begun_with begun
begun_with_law x = refl

-- a bool as a number
pub flag_byte : (b : Bool) → bool_byte b ≡ flag b
unfolding flag
flag_byte true = refl
flag_byte false = refl

-- ---- one client's numbers
-- a key written behind the numbers of an idle client, and behind its kind
pub key_behind : (x : ℕ) (key : List ℕ) → length key ≡ key_width → written (set idle 0 x) entry_offset key ≡ begun_with x key
unfolding written idle begun_with padded
key_behind x key n = rw n

-- and behind the five numbers before it
key_behind_head : (x : ℕ) (key : List ℕ) → length key ≡ key_width → written (written idle 0 (x ∷ 0 ∷ 0 ∷ 0 ∷ 0 ∷ [])) entry_offset key ≡ begun_with x key
unfolding written idle begun_with padded
key_behind_head x key n = rw n

-- where no write is pending the number that says so stays
quiet : (c : Client) (j revision pending : ℕ) → pending ≡ 0 → noted j revision pending c ≡ set (stepped c) (noted_offset j) revision
unfolding noted stepped
quiet c j revision pending z =
    let u : List ℕ = set c 1 (steps c + 1) in
    let a : get_or u 2 0 ≡ get_or c 2 0 = get_or-set_other c 1 2 (steps c + 1) 0 (λ h. absurd (omega arith)) in
    let b : get_or (set u (noted_offset j) revision) 2 0 ≡ get_or c 2 0 = get_or-set_other u (noted_offset j) 2 revision 0 (λ h. absurd (omega arith)) ∙ a in
    rw (eq-eqb pending 0 z, ← b) (set-get_or (set u (noted_offset j) revision) 2 0)

-- zeros behind the numbers that are in their place
value_in : (c : Client) (n used : ℕ) (sh : Shape) → length c ≡ client_width → used ≤ list_room
    → value_set n used sh c ≡ written (set (stepped c) held_length_offset n) (held_list_offset sh + used) (replicate (client_width - (held_list_offset sh + used)) 0)
unfolding value_set padded stepped
value_in c n used sh e h =
    let u : List ℕ = set (set c 1 (steps c + 1)) held_length_offset n in
    let l : length u ≡ client_width = simp length-set e in
    let a : drop (held_list_offset sh) u ≡ drop (held_list_offset sh) c = drop-set-lt (held_list_offset sh) (set c 1 (steps c + 1)) held_length_offset n (omega arith) ∙ drop-set-lt (held_list_offset sh) c 1 (steps c + 1) (omega arith) in
    let m : length (take used (drop (held_list_offset sh) c)) ≡ used = length-take-le used (drop (held_list_offset sh) c) (rw length-drop (omega arith)) in
    let z : list_room - used ≡ client_width - (held_list_offset sh + used) = omega arith in
    rw (m, z, ← a) (written_front u (held_list_offset sh) used (replicate (client_width - (held_list_offset sh + used)) 0) (omega arith))

-- whatever lay in the list's place before, what was taken there and set is the table step's
head_set : (sh : Shape) (c₁ c : Client) (n : ℕ) → take (held_list_offset sh) c₁ ≡ take (held_list_offset sh) c → take (held_list_offset sh) (set (stepped c₁) held_length_offset n) ≡ take (held_list_offset sh) (set (stepped c) held_length_offset n)
unfolding stepped steps
head_set sh c₁ c n e =
    let g : (x : Client) → take (held_list_offset sh) (set (set x 1 (get_or x 1 0 + 1)) held_length_offset n) ≡ set (set (take (held_list_offset sh) x) 1 (get_or (take (held_list_offset sh) x) 1 0 + 1)) held_length_offset n =
    λ x. rw (take-set-lt (held_list_offset sh) (set x 1 (get_or x 1 0 + 1)) held_length_offset n (omega arith), take-set-lt (held_list_offset sh) x 1 (get_or x 1 0 + 1) (omega arith), get_or-take (held_list_offset sh) x 1 0 (omega arith)) in
    g c₁ ∙ rw e (sym (g c))

behind_head : (sh : Shape) (x v : List ℕ) → length x ≡ client_width → length v ≡ list_room → written x (held_list_offset sh) v ≡ take (held_list_offset sh) x ++ v
unfolding written
behind_head sh x v h k = let l : length x ≤ held_list_offset sh + length v = omega arith in rw (drop_of_length-le x l) (append-nil (take (held_list_offset sh) x ++ v))

pub value_holds : (c₁ c : Client) (n used : ℕ) (sh : Shape) (v : Value) → length c₁ ≡ client_width → length c ≡ client_width → take (held_list_offset sh) c₁ ≡ take (held_list_offset sh) c → take used (drop (held_list_offset sh) c₁) ≡ v.numbers → v.count ≡ n
    → length v.numbers ≤ list_room → value_set n used sh c₁ ≡ holding sh v c
unfolding value_set holding
value_holds c₁ c n used sh v h g e f m o =
    let p : List ℕ = padded list_room v.numbers in
    let q : length p ≡ list_room = length_padded list_room v.numbers o in
    let a : length (set (stepped c₁) held_length_offset n) ≡ client_width = length-set (stepped c₁) held_length_offset n ∙ (stepped_next c₁ h).wide in
    let b : length (set (stepped c) held_length_offset n) ≡ client_width = length-set (stepped c) held_length_offset n ∙ (stepped_next c g).wide in
    rw (f, m) (behind_head sh (set (stepped c₁) held_length_offset n) p a q ∙ rw (head_set sh c₁ c n e) (sym (behind_head sh (set (stepped c) held_length_offset n) p b q)))

-- ---- one number stored, and one more
module _ (s : List ℕ) (d : ℕ) (f : Fit s d) where
  pub put_one : (j x : ℕ) → j < client_width → set s (client_offset current d + j) x ≡ with_client current s d (set (client_in current s d) j x)
  unfolding with_client client_in
  put_one j x h = sym (set_part s (client_offset current d) client_width j x h (client_room s d f))

  pub put_more : (s₁ s₂ : List ℕ) (c : Client) (j x : ℕ) → s₁ ≡ with_client current s d c → s₂ ≡ with_client current s₁ d (set (client_in current s₁ d) j x) → length c ≡ client_width
      → s₂ ≡ with_client current s d (set c j x)
  put_more s₁ s₂ c j x e g n =
      let m : length (set c j x) ≡ client_width = length-set c j x ∙ n in
      g ∙ rw (e, client_same s d f c n) (with_twice s d f c n (set c j x) m)

  -- ---- what each function leaves
  pub idle_left : (at : ℕ) (t : List ℕ) → at ≡ client_offset current d → t ≡ replicate (length (take (at + client_width - at) (drop at s))) 0
      → put_mid at (at + client_width - at) s t ≡ with_client current s d idle
  unfolding with_client idle
  idle_left at t e g =
      let l = client_room s d f in
      let m : at + client_width - at ≡ client_width = omega arith in
      part_cleared s at (at + client_width) t (omega arith) (omega arith) g ∙ rw (m, e)

  pub begun_left : (s₁ s₂ : List ℕ) (x : ℕ) (key : List ℕ) → s₁ ≡ with_client current s d idle → s₂ ≡ written s₁ (client_offset current d) (x ∷ 0 ∷ 0 ∷ 0 ∷ 0 ∷ []) → length key ≡ key_width
      → written s₂ (client_offset current d + entry_offset) key ≡ with_client current s d (begun_with x key)
  begun_left s₁ s₂ x key e g n =
      let head : List ℕ = x ∷ 0 ∷ 0 ∷ 0 ∷ 0 ∷ [] in
      let c : Client = written idle 0 head in
      let m : length c ≡ client_width = length_written idle 0 head (rw idle_wide (omega arith)) ∙ idle_wide in
      let z : client_offset current d ≡ client_offset current d + 0 = omega arith in
      let h : s₂ ≡ with_client current s d c =
      g ∙ ap (λ (i : ℕ). written s₁ i head) z ∙ ap (λ (y : List ℕ). written y (client_offset current d + 0) head) e ∙ with_words s d f idle idle_wide 0 head (omega arith) in
      rw h (with_words s d f c m entry_offset key (omega arith) ∙ ap (with_client current s d) (key_behind_head x key n))

  -- the same by the part that the code writes: c is the client before its key is written
  pub begun_behind : (s₁ : List ℕ) (c : Client) (x at : ℕ) (key : List ℕ) → s₁ ≡ with_client current s d c → length c ≡ client_width → at ≡ client_offset current d
      → length key ≡ key_width → written c entry_offset key ≡ begun_with x key
      → put_mid (at + entry_offset) (at + entry_offset + key_width - (at + entry_offset)) s₁ key ≡ with_client current s d (begun_with x key)
  begun_behind s₁ c x at key e w h n b =
      let m : at + entry_offset + key_width - (at + entry_offset) ≡ key_width = omega arith in
      rw (m, mid_written s₁ (at + entry_offset) key_width key n, e, h) (with_words s d f c w entry_offset key (omega arith) ∙ ap (with_client current s d) b)

  pub stepped_left : (s₁ : List ℕ) → s₁ ≡ with_client current s d (set (client_in current s d) steps_offset (get_or (client_in current s d) steps_offset 0 + 1)) → s₁ ≡ with_client current s d (stepped (client_in current s d))
  unfolding stepped steps
  stepped_left s₁ e = e

  length_after : length (stepped (client_in current s d)) ≡ client_width
  length_after = (stepped_next (client_in current s d) (length_client s d f)).wide

  module _ (s₁ s₂ : List ℕ) (j revision pending : ℕ) (e : s₁ ≡ with_client current s d (stepped (client_in current s d)))
      (g : s₂ ≡ with_client current s₁ d (set (client_in current s₁ d) (noted_offset j) revision)) where
    look_left : s₂ ≡ with_client current s d (set (stepped (client_in current s d)) (noted_offset j) revision)
    look_left = put_more s₁ s₂ (stepped (client_in current s d)) (noted_offset j) revision e g length_after

    pub noted_quiet : pending ≡ 0 → s₂ ≡ with_client current s d (noted j revision pending (client_in current s d))
    noted_quiet z = look_left ∙ ap (with_client current s d) (sym (quiet (client_in current s d) j revision pending z))

    pub noted_seen : (s₃ : List ℕ) → s₃ ≡ with_client current s₂ d (set (client_in current s₂ d) 2 1) → (pending ≡ 0 → ⊥) → s₃ ≡ with_client current s d (noted j revision pending (client_in current s d))
    unfolding noted
    noted_seen s₃ h z =
        let c : Client = set (stepped (client_in current s d)) (noted_offset j) revision in
        let n : length c ≡ client_width = length-set (stepped (client_in current s d)) (noted_offset j) revision ∙ length_after in
        rw (ne_eqb pending 0 z) (put_more s₂ s₃ c 2 1 look_left h n)

  pub wrote_left : (s₁ s₂ s₃ : List ℕ) (changed full : Bool) → s₁ ≡ with_client current s d (stepped (client_in current s d))
      → s₂ ≡ with_client current s₁ d (set (client_in current s₁ d) 3 (flag changed)) → s₃ ≡ with_client current s₂ d (set (client_in current s₂ d) 4 (flag full))
      → s₃ ≡ with_client current s d (wrote changed full (client_in current s d))
  unfolding wrote
  wrote_left s₁ s₂ s₃ changed full e g h =
      let c : Client = set (stepped (client_in current s d)) 3 (flag changed) in
      let n : length c ≡ client_width = length-set (stepped (client_in current s d)) 3 (flag changed) ∙ length_after in
      put_more s₂ s₃ c 4 (flag full) (put_more s₁ s₂ (stepped (client_in current s d)) 3 (flag changed) e g length_after) h n

  pub value_left : (s₁ s₂ : List ℕ) (at n used : ℕ) (sh : Shape) (t : List ℕ) → s₁ ≡ with_client current s d (stepped (client_in current s d))
      → s₂ ≡ with_client current s₁ d (set (client_in current s₁ d) held_length_offset n) → at ≡ client_offset current d → used ≤ list_room
      → t ≡ replicate (length (take (at + client_width - (at + held_list_offset sh + used)) (drop (at + held_list_offset sh + used) s₂))) 0
      → put_mid (at + held_list_offset sh + used) (at + client_width - (at + held_list_offset sh + used)) s₂ t ≡ with_client current s d (value_set n used sh (client_in current s d))
  value_left s₁ s₂ at n used sh t e g h m z =
      let c : Client = set (stepped (client_in current s d)) held_length_offset n in
      let o : length c ≡ client_width = length-set (stepped (client_in current s d)) held_length_offset n ∙ length_after in
      let p : s₂ ≡ with_client current s d c = put_more s₁ s₂ (stepped (client_in current s d)) held_length_offset n e g length_after in
      let l : length s₂ ≡ length s = ap length p ∙ length_kept s d f c o in
      let r : ℕ = client_width - (held_list_offset sh + used) in
      let a : at + client_width - (at + held_list_offset sh + used) ≡ r = omega arith in
      let b : at + held_list_offset sh + used ≡ client_offset current d + (held_list_offset sh + used) = omega arith in
      let k = client_room s d f in
      let y : length (replicate {A = ℕ} r 0) ≡ r = length-replicate r 0 in
      part_cleared s₂ (at + held_list_offset sh + used) (at + client_width) t (omega arith) (omega arith) z
      ∙ rw (a, b, p) (with_words s d f c o (held_list_offset sh + used) (replicate r 0) (omega arith) ∙ ap (with_client current s d) (sym (value_in (client_in current s d) n used sh (length_client s d f) m)))

-- ---- a list written into its place and then set; a count set
pub value_held : (s : List ℕ) (d : ℕ) → Fit s d → (s₁ c₁ : List ℕ) (n used : ℕ) (sh : Shape) (v : Value) → s₁ ≡ with_client current s d c₁ → length c₁ ≡ client_width
    → take (held_list_offset sh) c₁ ≡ take (held_list_offset sh) (client_in current s d) → take used (drop (held_list_offset sh) c₁) ≡ v.numbers → v.count ≡ n → length v.numbers ≤ list_room
    → with_client current s₁ d (value_set n used sh (client_in current s₁ d)) ≡ with_client current s d (holding sh v (client_in current s d))
value_held s d f s₁ c₁ n used sh v e h g q m o =
    let a : value_set n used sh c₁ ≡ holding sh v (client_in current s d) = value_holds c₁ (client_in current s d) n used sh v h (length_client s d f) g q m o in
    rw (e, client_same s d f c₁ h, a) (with_twice s d f c₁ h (holding sh v (client_in current s d)) (holding_wide (client_in current s d) (length_client s d f) sh v o))

pub value_written : (s : List ℕ) (d : ℕ) → Fit s d → (s₁ : List ℕ) (n used : ℕ) (sh : Shape) (v : Value) → s₁ ≡ written s (client_offset current d + held_list_offset sh) v.numbers → v.count ≡ n
    → length v.numbers ≡ used → used ≤ list_room → with_client current s₁ d (value_set n used sh (client_in current s₁ d)) ≡ with_client current s d (holding sh v (client_in current s d))
value_written s d f s₁ n used sh v e m q o =
    let c : Client = client_in current s d in
    let j : length c ≡ client_width = length_client s d f in
    let c₁ : Client = written c (held_list_offset sh) v.numbers in
    let h : length c₁ ≡ client_width = length_written c (held_list_offset sh) v.numbers (omega arith) ∙ j in
    let w : s₁ ≡ with_client current s d c₁ = e ∙ ap (λ (x : List ℕ). written x (client_offset current d + held_list_offset sh) v.numbers) (sym (with_self s d f)) ∙ with_words s d f c j (held_list_offset sh) v.numbers (omega arith) in
    let t : take used (drop (held_list_offset sh) c₁) ≡ v.numbers =
    ap (take used) (drop_of_written c (held_list_offset sh) v.numbers (omega arith)) ∙ take_at v.numbers (drop (held_list_offset sh + length v.numbers) c) used q in
    value_held s d f s₁ c₁ n used sh v w h (take_written c (held_list_offset sh) v.numbers (omega arith) (held_list_offset sh) (omega arith)) t m (omega arith)

-- a count has no numbers: the whole of the list's place is cleared
pub count_set : (c : Client) (n : ℕ) (sh : Shape) (v : Value) → v.count ≡ n → v.numbers ≡ [] → value_set n 0 sh c ≡ holding sh v c
unfolding value_set holding
count_set c n sh v e f = rw (e, f)
