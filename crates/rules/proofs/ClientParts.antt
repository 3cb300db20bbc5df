-- Laws of a client: what each change that the rules make to one does to its parts (kind, steps, flags and entry) and to its width. What a client is
-- in numbers is opened here and in ClientLaws and HoldingLaws, and above them only in the crate of that memory. Leans on Client and HoldingLaws, and on
-- the laws of lists. Assumes nothing.
use mathlib.Core.Path.{◌≡◌, sym, ap, ◌∙◌}
use mathlib.Core.Bool.{Bool, false, cond, not, ◌||◌, or-true, or-false}
use mathlib.Core.List.{List, [], ◌∷◌, ◌++◌}
use Prim.Native.Nat.{ℕ, suc, ◌+◌, ◌-◌, ◌≤◌, ◌<◌}
use native.Mathlib.Omega.{arith}
use lib.Dec.{eqb, ltb}
use lib.ListN.{length, get_or, take, drop, set, length-drop, length-set, get_or-eq_default}
use lib.Seq.{take_at, get_or-drop, get_or-set_same, get_or-set_other, take-set-le, drop-set-lt, drop-set-add, take-suc-set}
use borrow.Author.Tests.{lt-ltb, le-ltb, eqb-true, eqb-false}
use Rattle.lists.specs.Lists.{padded, written}
use Rattle.laws.proofs.TestLaws.{by_test}
use Rattle.laws.proofs.ListLaws.{length_padded, get_or_padded}
use Rattle.laws.proofs.WrittenLaws.{drop_take, take_written, get_or_before, length_written}
use Rattle.query.specs.Encoding.{label_width, key_width}
use Rattle.query.specs.Shape.{Shape}
use Rattle.rules.specs.Work.{Value, Work, kind_of, key_of}
use Rattle.rules.specs.Answers.{Entry, key_in, length_in, revisions_in, is_count, most_in, is_long}
use Rattle.rules.proofs.ClientLaws.{flag_read}
use Rattle.rules.specs.Client.{Client, kind, steps, saw_pending, did_change, found_full, entry_of, begun, stepped, flag, noted, holding, wrote}
use Rattle.rules.specs.Layout.{look_room, list_offset, list_room, entry_width, client_width, noted_offset, held_list_offset}
use Rattle.rules.proofs.HoldingLaws.{counted, holding_entry, holding_key, long_counted}

-- ---- Three numbers stored in a list
module _ (s : List ℕ) (i x j y l z : ℕ) where
  three_other : (a : ℕ) → (a ≡ i → ⊥) → (a ≡ j → ⊥) → (a ≡ l → ⊥) → get_or (set (set (set s i x) j y) l z) a 0 ≡ get_or s a 0
  three_other a e f g =
      get_or-set_other (set (set s i x) j y) l a z 0 g ∙ get_or-set_other (set s i x) j a y 0 f ∙ get_or-set_other s i a x 0 e

  three_first : (i ≡ j → ⊥) → (i ≡ l → ⊥) → i < length s → get_or (set (set (set s i x) j y) l z) i 0 ≡ x
  three_first f g h =
      get_or-set_other (set (set s i x) j y) l i z 0 g ∙ get_or-set_other (set s i x) j i y 0 f ∙ get_or-set_same s i x 0 h

  three_length : length (set (set (set s i x) j y) l z) ≡ length s
  three_length = length-set (set (set s i x) j y) l z ∙ length-set (set s i x) j y ∙ length-set s i x

  three_last : l < length s → get_or (set (set (set s i x) j y) l z) l 0 ≡ z
  three_last h = let n = three_length in let m = length-set (set (set s i x) j y) l z in get_or-set_same (set (set s i x) j y) l z 0 (omega arith)

-- ---- One step more: the same kind and the same key
pub record Next (c t : Client) : Type 0 where
  pub kinds : kind t ≡ kind c
  pub keys : key_in (entry_of t) ≡ key_in (entry_of c)
  pub one : steps t ≡ steps c + 1
  pub wide : length t ≡ client_width

module _ (c : Client) (w : length c ≡ client_width) where
  -- a number in front of the entry
  entry_front : (i x : ℕ) → i < 5 → entry_of (set c i x) ≡ entry_of c
  unfolding entry_of
  entry_front i x h = drop-set-lt 5 c i x h

  pub length_entry : length (entry_of c) ≡ entry_width
  unfolding entry_of
  length_entry = rw length-drop (omega arith)

  pub stepped_entry : entry_of (stepped c) ≡ entry_of c
  unfolding stepped
  stepped_entry = entry_front 1 _ (omega arith)

  pub stepped_next : Next c (stepped c)
  unfolding stepped kind steps
  stepped_next = record {
    kinds = get_or-set_other c 1 0 _ 0 (λ e. omega arith);
    keys = ap key_in (entry_front 1 _ (omega arith));
    one = get_or-set_same c 1 _ 0 (omega arith);
    wide = length-set c 1 _ ∙ w;
  }

  pub stepped_saw : saw_pending (stepped c) ≡ saw_pending c
  unfolding stepped saw_pending
  stepped_saw = rw (get_or-set_other c 1 2 (steps c + 1) 0 (λ e. omega arith))

  pub stepped_change : did_change (stepped c) ≡ did_change c
  unfolding stepped did_change
  stepped_change = rw (get_or-set_other c 1 3 (steps c + 1) 0 (λ e. omega arith))

  pub stepped_full : found_full (stepped c) ≡ found_full c
  unfolding stepped found_full
  stepped_full = rw (get_or-set_other c 1 4 (steps c + 1) 0 (λ e. omega arith))

  -- a look: revision r, p pending writes
  pub noted_wide : (j r p : ℕ) → length (noted j r p c) ≡ client_width
  unfolding noted stepped
  noted_wide j r p = three_length c 1 _ (noted_offset j) r 2 _ ∙ w

  module _ (j r p : ℕ) (h : j < look_room) where
    looked_at : noted_offset j ≡ label_width + (8 + j)
    looked_at = omega arith

    noted_entry : entry_of (noted j r p c) ≡ set (entry_of c) (8 + j) r
    unfolding noted entry_of stepped
    noted_entry =
        drop-set-lt 5 (set (set c 1 (steps c + 1)) (noted_offset j) r) 2 (cond (eqb p 0) (get_or c 2 0) 1) (omega arith)
        ∙ ap (λ (i : ℕ). drop 5 (set (set c 1 (steps c + 1)) i r)) looked_at
        ∙ drop-set-add 5 (set c 1 (steps c + 1)) (8 + j) r
        ∙ ap (λ (e : Entry). set e (8 + j) r) (drop-set-lt 5 c 1 _ (omega arith))

    pub noted_next : Next c (noted j r p c)
    unfolding noted kind steps stepped key_in
    noted_next =
        let x : ℕ = get_or c 1 0 + 1 in
        let z : ℕ = cond (eqb p 0) (get_or c 2 0) 1 in
        record {
          kinds = three_other c 1 x (noted_offset j) r 2 z 0 (λ e. omega arith) (λ e. omega arith) (λ e. omega arith);
          keys = ap (take key_width) noted_entry ∙ take-set-le 7 (entry_of c) (8 + j) r (omega arith);
          one = three_first c 1 x (noted_offset j) r 2 z (λ e. omega arith) (λ e. omega arith) (omega arith);
          wide = noted_wide j r p;
        }

    pub noted_revisions : revisions_in (suc j) (entry_of (noted j r p c)) ≡ revisions_in j (entry_of c) ++ (r ∷ [])
    unfolding revisions_in
    noted_revisions =
        let l : length (drop 8 (entry_of c)) ≡ 144 = length-drop 8 (entry_of c) ∙ (let z = length_entry in omega arith) in
        rw (noted_entry, drop-set-add 8 (entry_of c) j r) (take-suc-set (drop 8 (entry_of c)) j r (omega arith))

    noted_length : length_in (entry_of (noted j r p c)) ≡ length_in (entry_of c)
    unfolding length_in
    noted_length = rw noted_entry (get_or-set_other (entry_of c) (8 + j) 7 r 0 (λ e. omega arith))

    pub noted_short : is_long (entry_of c) ≡ false → is_long (entry_of (noted j r p c)) ≡ false
    unfolding is_long most_in is_count
    noted_short s = rw (noted_length, noted_next.keys) s

    saw_or : (x : ℕ) → not (eqb (cond (eqb p 0) x 1) 0) ≡ (not (eqb x 0) || ltb 0 p)
    saw_or x =
        by_test (eqb p 0)
        (λ e. let z : p ≡ 0 = eqb-true p 0 e in rw (e, le-ltb 0 p (omega arith)) (sym (or-false (not (eqb x 0)))))
        (λ e. let z : p ≡ 0 → ⊥ = eqb-false p 0 e in rw (e, lt-ltb 0 p (omega arith)) (sym (or-true (not (eqb x 0)))))

    pub noted_saw : saw_pending (noted j r p c) ≡ (saw_pending c || ltb 0 p)
    unfolding noted saw_pending stepped
    noted_saw =
        ap (λ (x : ℕ). not (eqb x 0)) (three_last c 1 (steps c + 1) (noted_offset j) r 2 (cond (eqb p 0) (get_or c 2 0) 1) (omega arith)) ∙ saw_or (get_or c 2 0)

  -- a write past its table step
  module _ (changed full : Bool) where
    pub wrote_entry : entry_of (wrote changed full c) ≡ entry_of c
    unfolding wrote entry_of stepped
    wrote_entry =
        drop-set-lt 5 (set (set c 1 (steps c + 1)) 3 (flag changed)) 4 (flag full) (omega arith)
        ∙ drop-set-lt 5 (set c 1 (steps c + 1)) 3 (flag changed) (omega arith)
        ∙ drop-set-lt 5 c 1 (steps c + 1) (omega arith)

    pub wrote_next : Next c (wrote changed full c)
    unfolding wrote kind steps stepped
    wrote_next =
        let x : ℕ = get_or c 1 0 + 1 in
        record {
          kinds = three_other c 1 x 3 (flag changed) 4 (flag full) 0 (λ e. omega arith) (λ e. omega arith) (λ e. omega arith);
          keys = ap key_in wrote_entry;
          one = three_first c 1 x 3 (flag changed) 4 (flag full) (λ e. omega arith) (λ e. omega arith) (omega arith);
          wide = three_length c 1 x 3 (flag changed) 4 (flag full) ∙ w;
        }

    pub wrote_full : found_full (wrote changed full c) ≡ full
    unfolding wrote found_full stepped
    wrote_full = ap (λ (x : ℕ). not (eqb x 0)) (three_last c 1 (steps c + 1) 3 (flag changed) 4 (flag full) (omega arith)) ∙ flag_read full

-- ---- A list or a count taken
module _ (c : Client) (w : length c ≡ client_width) (sh : Shape) (v : Value) (room : length v.numbers ≤ list_room) where
  -- what is written of the list
  abbrev numbers : List ℕ
  numbers = padded list_room v.numbers

  length_numbers : length numbers ≡ list_room
  length_numbers = length_padded list_room v.numbers room

  holding_front : (i : ℕ) → i < 5 → get_or (holding sh v c) i 0 ≡ get_or (stepped c) i 0
  unfolding holding
  holding_front i h =
      get_or_before (set (stepped c) 12 v.count) (held_list_offset sh) numbers (rw (length-set, (stepped_next c w).wide) (omega arith)) i 0 (omega arith)
      ∙ get_or-set_other (stepped c) 12 i v.count 0 (λ e. omega arith)

  pub holding_wide : length (holding sh v c) ≡ client_width
  unfolding holding
  holding_wide =
      let a = (stepped_next c w).wide in
      let b = length-set (stepped c) 12 v.count in
      let d = length_numbers in
      length_written (set (stepped c) 12 v.count) (held_list_offset sh) numbers (omega arith) ∙ b ∙ a

  pub holding_next : Next c (holding sh v c)
  unfolding kind steps
  holding_next = record {
    kinds = holding_front 0 (omega arith) ∙ (stepped_next c w).kinds;
    keys = holding_key c w sh v;
    one = holding_front 1 (omega arith) ∙ (stepped_next c w).one;
    wide = holding_wide;
  }

  pub holding_revisions : (n : ℕ) → n ≤ look_room → revisions_in n (entry_of (holding sh v c)) ≡ revisions_in n (entry_of c)
  unfolding revisions_in
  holding_revisions n h =
      let e : 8 + n - 8 ≡ n = omega arith in
      let a : (l : Entry) → take n (drop 8 l) ≡ drop 8 (take (8 + n) l) = λ l. rw (drop_take 8 (8 + n) l, e) in
      ap (λ (l : Entry). take n (drop 8 l)) (holding_entry c w sh v)
      ∙ a (written (counted c v.count) (list_offset sh) numbers)
      ∙ ap (drop 8) (take_written (counted c v.count) (list_offset sh) numbers (long_counted c w sh v) (8 + n) (omega arith))
      ∙ sym (a (counted c v.count))
      ∙ ap (take n) (drop-set-lt 8 (entry_of c) 7 v.count (omega arith))

-- ---- As a begin of work x leaves it
module _ (x : Work) where
  begun_word : (j : ℕ) → get_or (begun x) j 0 ≡ get_or (kind_of x ∷ 0 ∷ 0 ∷ 0 ∷ 0 ∷ key_of x) j 0
  unfolding begun
  begun_word j = get_or_padded client_width (kind_of x ∷ 0 ∷ 0 ∷ 0 ∷ 0 ∷ key_of x) j

  pub begun_kind : kind (begun x) ≡ kind_of x
  unfolding kind
  begun_kind = begun_word 0

  pub begun_steps : steps (begun x) ≡ 0
  unfolding steps
  begun_steps = begun_word 1

  pub begun_saw : saw_pending (begun x) ≡ false
  unfolding saw_pending
  begun_saw = rw (begun_word 2)

  module _ (h : length (key_of x) ≡ key_width) where
    pub begun_wide : length (begun x) ≡ client_width
    unfolding begun
    begun_wide = length_padded client_width (kind_of x ∷ 0 ∷ 0 ∷ 0 ∷ 0 ∷ key_of x) (omega arith)

    pub begun_key : key_in (entry_of (begun x)) ≡ key_of x
    unfolding key_in entry_of begun padded
    begun_key = take_at (key_of x) _ 7 h

    pub begun_length : length_in (entry_of (begun x)) ≡ 0
    unfolding length_in entry_of
    begun_length = get_or-drop 5 (begun x) 7 0 ∙ begun_word 12 ∙ get_or-eq_default (key_of x) 0 {n = 7} (omega arith)
