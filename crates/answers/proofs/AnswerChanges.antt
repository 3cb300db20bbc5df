-- Laws of what a change of the filed answers leaves in their memory, in the terms of the code that makes it. Leans on the rules'
-- definitions and on laws. Assumes nothing.
use mathlib.Core.Path.{◌≡◌, refl, sym}
use mathlib.Core.Bool.{true, false}
use mathlib.Core.List.{List, [], ◌∷◌, ◌++◌}
use Prim.Native.Nat.{ℕ, ◌+◌, ◌*◌, ◌-◌, ◌≤◌, ◌<◌}
use native.Mathlib.Nat.{mul-le-mul_right, zero-add}
use native.Mathlib.Omega.{arith}
use lib.ListN.{length, get_or, take, drop, set, replicate, length-replicate, length-take, length-drop}
use lib.Seq.{take_all, length-take-le}
use borrow.Rule.Slice.PartMut.{put_mid}
use Rattle.lists.specs.Lists.{written, without}
use Rattle.laws.specs.Splice.{removed}
use Rattle.laws.proofs.WrittenLaws.{written_nil, get_or_before, mid_written}
use Rattle.laws.proofs.SpliceLaws.{written_removed}
use Rattle.laws.proofs.EntryLaws.{with_append, with_remove, with_none}
use Rattle.query.specs.Encoding.{counts_in}
use Rattle.rules.specs.Answers.{Entry, length_in, is_count, list_in, is_long}
use Rattle.lists.specs.Lists.{header}
use Rattle.query.specs.Shape.{shape_of, max_columns}
use Rattle.rules.specs.Layout.{max_list, answer_count_offset, length_offset, list_offset, list_room, entry_width, tray_least}
use Rattle.rules.specs.Memory.{current, answers_in, with_answers}
use Rattle.rules.proofs.ClientLaws.{list_short}
use Rattle.answers.specs.AnswerContracts.{Fit, Gave}
use Rattle.answers.proofs.AnswerScan.{counts_first}
use Rattle.answers.proofs.AnswerEntries.{room}

module _ (s : List ℕ) (fit : Fit s) where
  -- ---- behind the last, out, all out: the memory as the code leaves it, the count stored last
  pub count_written : (t x : List ℕ) (at : ℕ) → t ≡ written s at x → at ≡ header + get_or s answer_count_offset 0 * entry_width → get_or t answer_count_offset 0 ≡ get_or s answer_count_offset 0
  count_written t x at e h = let r = room s fit in rw e (get_or_before s at x (omega arith) 0 0 (omega arith))

  pub appended : (t x : List ℕ) (at : ℕ) → t ≡ written s at x → at ≡ header + get_or s answer_count_offset 0 * entry_width
      → set t answer_count_offset (get_or t answer_count_offset 0 + 1) ≡ with_answers current s (answers_in current s ++ (x ∷ []))
  unfolding answers_in with_answers
  appended t x at e h = rw (count_written t x at e h, e, h) (sym (with_append 0 entry_width s (room s fit) x))

  module _ (t : List ℕ) (i at end : ℕ) (e : t ≡ removed s at entry_width end) (h : at ≡ header + i * entry_width) (g : end ≡ header + get_or s answer_count_offset 0 * entry_width)
      (k : i < get_or s answer_count_offset 0) where
    pub count_removed : get_or t answer_count_offset 0 ≡ get_or s answer_count_offset 0
    count_removed =
        let r = room s fit in
        rw (e, ← written_removed s at entry_width end (omega arith) (omega arith)) (get_or_before s at _ (omega arith) 0 0 (omega arith))

    pub evicted : set t answer_count_offset (get_or t answer_count_offset 0 - 1) ≡ with_answers current s (without i (answers_in current s))
    unfolding answers_in with_answers
    evicted = rw (count_removed, e, h, g) (sym (with_remove 0 entry_width s (room s fit) i k))

  pub emptied : (t : List ℕ) (end : ℕ) → t ≡ replicate (length (take (end - 8) (drop 8 s))) 0 → end ≡ header + get_or s answer_count_offset 0 * entry_width
      → set (put_mid 8 (end - 8) s t) answer_count_offset 0 ≡ with_answers current s []
  unfolding with_answers
  emptied t end e h =
      let r = room s fit in
      let n : length (take (end - 8) (drop 8 s)) ≡ end - 8 = simp (length-take, length-drop) (omega arith) in
      let m : end - 8 ≡ get_or s answer_count_offset 0 * entry_width = omega arith in
      let f : t ≡ replicate (get_or s answer_count_offset 0 * entry_width) 0 = rw (n, m) at e in
      rw (f, m, mid_written s 8 (get_or s answer_count_offset 0 * entry_width) (replicate (get_or s answer_count_offset 0 * entry_width) 0) (length-replicate _ 0)) (sym (with_none 0 entry_width s))

-- ---- what is given
pub list_fits : (e : Entry) (k : ℕ) → is_long e ≡ false → is_count e ≡ false → k ≤ max_columns → get_or e length_offset 0 * k ≤ list_room
unfolding length_in
list_fits e k h c g = let a : get_or e length_offset 0 * k ≤ max_list * k = mul-le-mul_right k (list_short e c h) in omega arith

-- .. where the test of its first number has said that it is no count
pub plain_fits : (e : Entry) (k : ℕ) → ((vs : List ℕ) → false ≡ counts_in (get_or e 0 0 ∷ vs)) → is_long e ≡ false → k ≤ max_columns → get_or e length_offset 0 * k ≤ list_room
plain_fits e k h l m = list_fits e k l (sym (counts_first e false h)) m

-- the parts that are copied, from the entry to the tray
pub tray_part : (e : Entry) (k : ℕ) (tray : List ℕ) → ((vs : List ℕ) → false ≡ counts_in (get_or e 0 0 ∷ vs)) → is_long e ≡ false → k ≤ max_columns → tray_least ≤ length tray
    → get_or e length_offset 0 * k ≡ length (take (get_or e length_offset 0 * k) tray)
tray_part e k tray h l m w = sym (length-take-le (get_or e length_offset 0 * k) tray (omega (arith, plain_fits e k h l m)))

pub list_part : (e : Entry) (k : ℕ) → ((vs : List ℕ) → false ≡ counts_in (get_or e 0 0 ∷ vs)) → is_long e ≡ false → k ≤ max_columns → length e ≡ entry_width
    → get_or e length_offset 0 * k ≡ length (take (get_or e length_offset 0 * k) (take (length e - 24) (drop 24 e)))
list_part e k h l m w = simp (length-take, length-drop) (omega (arith, plain_fits e k h l m))

pub gave : (k : ℕ) (e tray after : List ℕ) → is_count e ≡ false
    → after ≡ written tray 0 (take (list_offset (shape_of k) + get_or e length_offset 0 * k - list_offset (shape_of k)) (drop (list_offset (shape_of k)) e))
    → Gave k e tray (get_or e length_offset 0) after
unfolding length_in list_in
gave k e tray after c h =
    let m : list_offset (shape_of k) + get_or e length_offset 0 * k - list_offset (shape_of k) ≡ get_or e length_offset 0 * k = omega arith in
    record { count = refl; list = rw c (rw m at h) }

-- the same of the part that the code copies
pub gave_copied : (k : ℕ) (e tray part : List ℕ) → ((vs : List ℕ) → false ≡ counts_in (get_or e 0 0 ∷ vs)) → is_long e ≡ false → k ≤ max_columns → length e ≡ entry_width
    → part ≡ take (get_or e length_offset 0 * k) (take (length e - 24) (drop 24 e)) → Gave k e tray (get_or e length_offset 0) (part ++ drop (get_or e length_offset 0 * k) tray)
unfolding written
gave_copied k e tray part c h m w f =
    let n : ℕ = get_or e length_offset 0 * k in
    let b : n ≤ list_room = plain_fits e k c h m in
    let l : length (drop 24 e) ≤ length e - 24 = rw length-drop (omega arith) in
    let g : part ≡ take n (drop 24 e) = rw (take_all (length e - 24) (drop 24 e) l) at f in
    let q : length (take n (drop 24 e)) ≡ n = simp (length-take, length-drop) (omega arith) in
    let z : list_offset (shape_of k) + n - list_offset (shape_of k) ≡ n = omega arith in
    gave k e tray (part ++ drop n tray) (sym (counts_first e false c)) (rw (z, g, q, zero-add) refl)

-- a count leaves the tray
pub gave_count : (k : ℕ) (e tray : List ℕ) → ((vs : List ℕ) → true ≡ counts_in (get_or e 0 0 ∷ vs)) → Gave k e tray (get_or e length_offset 0) tray
unfolding length_in list_in
gave_count k e tray c = record { count = refl; list = rw (← counts_first e true c) (sym (written_nil tray 0)) }
