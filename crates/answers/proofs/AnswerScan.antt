-- Laws of one filed answer, of where it stands in the memory, and of a search of them all, in the terms of the code that makes it.
-- Leans on the rules' definitions, on their laws of the memories and on laws. Assumes nothing.
use mathlib.Core.Path.{◌≡◌, refl, sym, ap, ◌∙◌}
use mathlib.Core.Bool.{Bool, true, false, cond, not, ◌&&◌, and-true}
use mathlib.Core.List.{List, [], ◌∷◌}
use Prim.Native.Nat.{ℕ, suc, ◌+◌, ◌*◌, ◌-◌, ◌≤◌, ◌<◌}
use native.Mathlib.Omega.{arith}
use lib.Dec.{eqb, ltb, leb}
use lib.ListN.{length, get_or, take, drop, length-take, length-drop}
use lib.Seq.{get_or-take, get_or-drop, length-take-le}
use borrow.Author.Tests.{lt-ltb, le-ltb, ltb-false}
use Rattle.std.specs.Prelude.{Some, None, ◌/◌}
use Rattle.std.specs.Simd.{first_chunks}
use Rattle.std.specs.List.{list_all, list_any, zip}
use Rattle.lists.specs.Lists.{same, place, all_below}
use Rattle.laws.proofs.TestLaws.{by_test}
use Rattle.laws.proofs.SearchLaws.{place_before}
use Rattle.laws.proofs.WalkLaws.{found, not_found, any_place, entries_cut, all_zip}
use Rattle.answers.specs.AnswerContracts.{Fit, fetched}
use Rattle.rules.specs.Answers.{Entry, key_in, length_in, revision_in, is_count, most_in, has_key_of, at_least, serves, fetch_place, key_place, is_long, some_long}
use Rattle.lists.specs.Lists.{header}
use Rattle.query.specs.Encoding.{key_width, counts_in}
use Rattle.rules.specs.Layout.{max_records, max_list, answer_count_offset, length_offset, look_room, entry_width}
use Rattle.rules.specs.Memory.{current, answers_in}
use Rattle.rules.proofs.MemoryLaws.{length_answers}

-- ---- one entry
-- what it is, by its first number
pub counts_first : (e : Entry) (b : Bool) → ((vs : List ℕ) → b ≡ counts_in (get_or e 0 0 ∷ vs)) → b ≡ is_count e
unfolding counts_in is_count key_in
counts_first e b h = h [] ∙ rw (get_or-take key_width e 0 0 (omega arith))

-- what both may say is not too much; what a count says, and a list above that
pub long_not : (e : Entry) → get_or e length_offset 0 ≤ max_list → is_long e ≡ false
unfolding is_long most_in length_in
long_not e h = by_test (is_count e) (λ c. rw c (le-ltb max_records (get_or e length_offset 0) (omega arith))) (λ c. rw c (le-ltb max_list (get_or e length_offset 0) h))

pub short_not : (e : Entry) → length_in e ≤ max_list → is_long e ≡ false
unfolding length_in
short_not e h = long_not e h

-- .. as the code tests it: c is what the test of its first number says
module _ (e : Entry) (c : Bool) (h : (vs : List ℕ) → c ≡ counts_in (get_or e 0 0 ∷ vs)) where
  pub long_list : c ≡ false → max_list < get_or e length_offset 0 → not c ≡ is_long e
  unfolding is_long most_in length_in
  long_list f l = rw (← counts_first e c h, f, lt-ltb max_list (get_or e length_offset 0) l)

  pub long_count : c ≡ true → ltb max_records (get_or e length_offset 0) ≡ is_long e
  unfolding is_long most_in length_in
  long_count f = rw (← counts_first e c h, f)

-- ---- the keys
-- two lists of one length, compared number by number
zip_same : (a b : List ℕ) → length a ≡ length b → list_all (λ p. eqb p.0 p.1) (zip a b) ≡ same a b
unfolding same
zip_same [] [] h = refl
zip_same [] (y ∷ m) h = absurd (omega arith)
zip_same (x ∷ l) [] h = absurd (omega arith)
zip_same (x ∷ l) (y ∷ m) h = ap (λ t. eqb x y && t) (zip_same l m (omega arith))

pub key_is : (e x : Entry) → key_width ≤ length e → key_width ≤ length x → list_all (λ p. eqb p.0 p.1) (zip (take key_width e) (take key_width x)) ≡ has_key_of x e
unfolding has_key_of key_in
key_is e x h l =
    let a : length (take key_width e) ≡ key_width = length-take-le key_width e h in
    let b : length (take key_width x) ≡ key_width = length-take-le key_width x l in
    zip_same (take key_width e) (take key_width x) (omega arith)

-- ---- the revisions
-- the first n of them, as the code lends them
abbrev pub noted : ℕ → Entry → List ℕ
noted n e = take n (take (length e - 8) (drop 8 e))

noted_at : (n : ℕ) (e : Entry) (j : ℕ) → length e ≡ entry_width → n ≤ look_room → j < n → get_or (noted n e) j 0 ≡ get_or e (8 + j) 0
noted_at n e j h l m = get_or-take n (take (length e - 8) (drop 8 e)) j 0 m ∙ get_or-take (length e - 8) (drop 8 e) j 0 (omega arith) ∙ get_or-drop 8 e j 0

length_noted : (n : ℕ) (e : Entry) → length e ≡ entry_width → n ≤ look_room → length (noted n e) ≡ n
length_noted n e h l = simp (length-take, length-drop) (omega arith)

pub recent_is : (n : ℕ) (e x : Entry) → length e ≡ entry_width → length x ≡ entry_width → n ≤ look_room
    → list_all (λ p. leb p.1 p.0) (zip (noted n e) (noted n x)) ≡ all_below n (at_least x e)
unfolding at_least revision_in
recent_is n e x h k l =
    all_zip (λ p. leb p.1 p.0) (noted n e) (noted n x) (at_least x e) n (length_noted n e h l) (length_noted n x k l)
    (λ j m. rw (noted_at n e j h l m, noted_at n x j k l m))

-- where no revision is compared the key alone decides
serves_key : (x e : Entry) → serves 0 x e ≡ has_key_of x e
unfolding serves all_below
serves_key x e = and-true (has_key_of x e)

pub fetch_key : (x : Entry) (es : List Entry) → fetch_place 0 x es ≡ key_place x es
unfolding fetch_place key_place place
fetch_key x [] = refl
fetch_key x (e ∷ es) = rw (serves_key x e) (ap (λ (n : ℕ). cond (has_key_of x e) 0 (suc n)) (fetch_key x es))

-- ---- where an entry stands
pub count_is : (s : List ℕ) → length (answers_in current s) ≡ get_or s answer_count_offset 0
count_is s = length_answers current s

pub answers_cut : (s : List ℕ) (e : ℕ) → Fit s → e ≡ header + get_or s answer_count_offset 0 * entry_width
    → first_chunks entry_width (length (take (e - header) (drop header s)) / entry_width) (take (e - header) (drop header s)) ≡ answers_in current s
unfolding answers_in
answers_cut s e f h = let b = f.few in let l = f.long in entries_cut answer_count_offset entry_width s e (omega arith) h (omega arith)

-- ---- the search for one that may be answered with
module _ (n : ℕ) (x : Entry) (es : List Entry) where
  pub fetched_some : (i : ℕ) → fetched n x es ≡ Some i → (fetch_place n x es ≡ i) × (fetch_place n x es < length es)
  unfolding fetched fetch_place
  fetched_some i h = let f = found (serves n x) es i h in (sym f.0, omega arith)

  pub fetched_none : fetched n x es ≡ None → length es ≤ fetch_place n x es
  unfolding fetched fetch_place
  fetched_none h = let f = not_found (serves n x) es h in omega arith

-- ---- the search for an entry that says too much
pub some_long_is : (es : List Entry) → list_any is_long es ≡ some_long es
unfolding some_long
some_long_is es = any_place is_long es

module _ (s : List ℕ) where
  -- where none says too much, entry i does not
  pub short_answer : (i : ℕ) → some_long (answers_in current s) ≡ false → i < get_or s answer_count_offset 0 → is_long (get_or (answers_in current s) i []) ≡ false
  unfolding some_long
  short_answer i e h =
      let l : length (answers_in current s) ≡ get_or s answer_count_offset 0 = count_is s in
      let q : length (answers_in current s) ≤ place is_long (answers_in current s) = ltb-false (place is_long (answers_in current s)) (length (answers_in current s)) e in
      place_before is_long (answers_in current s) [] i (omega arith)
