-- Laws of an entry: its revisions one by one, and how many numbers its value has. What an entry is in numbers is opened here, in HoldingLaws and
-- ClientParts, and above them only in the crates of the answers and of the clients, who keep one each. Leans on Answers. Assumes nothing.
use mathlib.Core.Path.{◌≡◌, refl, ◌∙◌}
use mathlib.Core.Bool.{true, false}
use mathlib.Core.List.{[]}
use Prim.Native.Nat.{ℕ, ◌*◌, ◌≤◌, ◌<◌}
use native.Mathlib.Omega.{arith}
use lib.ListN.{length, get_or, drop, length-take, length-drop}
use lib.Seq.{get_or-take, get_or-drop, length-take-le}
use Rattle.laws.proofs.TestLaws.{by_test}
use Rattle.query.specs.Shape.{Shape, max_columns}
use Rattle.rules.specs.Layout.{revisions_offset, look_room, list_offset, list_room, entry_width}
use Rattle.rules.specs.Answers.{Entry, length_in, revision_in, revisions_in, is_count, list_in, value_in, is_long}
use Rattle.rules.proofs.ClientLaws.{list_room_law, list_short}
use Rattle.rules.proofs.HoldingLaws.{Whole}

pub revision_at : (n : ℕ) (e : Entry) (j : ℕ) → j < n → get_or (revisions_in n e) j 0 ≡ revision_in e j
unfolding revisions_in revision_in
revision_at n e j h = get_or-take n (drop revisions_offset e) j 0 h ∙ get_or-drop revisions_offset e j 0

pub no_revisions : (i : ℕ) (e : Entry) → i ≡ 0 → revisions_in i e ≡ []
unfolding revisions_in
no_revisions i e h = rw h

-- there is room for all of them
pub length_revisions : (i : ℕ) (e : Entry) → length e ≡ entry_width → i ≤ look_room → length (revisions_in i e) ≡ i
unfolding revisions_in
length_revisions i e w h = length-take-le i (drop revisions_offset e) (rw length-drop (omega arith))

-- a count has no numbers
pub count_none : (sh : Shape) (e : Entry) → is_count e ≡ true → (value_in sh e).numbers ≡ []
unfolding value_in list_in
count_none sh e c = rw c

-- a list that is not too long has as many as its records take
pub whole_entry : (sh : Shape) (e : Entry) → length e ≡ entry_width → sh.columns ≤ max_columns → is_long e ≡ false → Whole sh (is_count e) (value_in sh e)
unfolding value_in list_in
whole_entry sh e w few short =
    by_test (is_count e)
    (λ t. rw t refl)
    (λ t. let h = list_room_law (length_in e) sh.columns (list_short e t short) few in
    rw t (length-take-le (length_in e * sh.columns) (drop (list_offset sh) e) (rw length-drop (omega arith))))

-- and none has more than there is room for
pub value_room : (sh : Shape) (e : Entry) → length e ≡ entry_width → length (value_in sh e).numbers ≤ list_room
unfolding value_in list_in
value_room sh e w = by_test (is_count e) (λ t. rw t (omega arith)) (λ t. rw (t, length-take, length-drop) (omega arith))
