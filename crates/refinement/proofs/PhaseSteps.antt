-- What each step of a read and of a write makes of its client, and that the client it leaves is sound. Leans on rules' ClientParts and on ClientPhases.
-- Assumes nothing.
use mathlib.Core.Path.{◌≡◌, ap, ◌∙◌}
use mathlib.Core.Bool.{Bool, true, false, cond, ◌||◌}
use mathlib.Core.List.{List, [], ◌∷◌, ◌++◌}
use Prim.Native.Nat.{ℕ, suc, ◌+◌, ◌-◌, ◌≤◌, ◌<◌}
use native.Mathlib.Omega.{arith}
use lib.Dec.{ltb}
use lib.ListN.{length}
use borrow.Author.Tests.{le-ltb}
use Rattle.query.specs.Shape.{Shape, max_columns}
use Rattle.rules.specs.Layout.{max_records, max_list, look_room, list_room}
use Rattle.rules.specs.Work.{Ask, Value, read_labels, Write, write_labels, asking, writing, steps_in_all}
use Rattle.rules.specs.Answers.{revisions_in, is_count, most_in, is_long}
use Rattle.rules.specs.Client.{Client, steps, saw_pending, did_change, found_full, entry_of, stepped, noted, holding, wrote}
use Rattle.rules.specs.Sound.{Busy}
use Rattle.rules.proofs.WorkLaws.{write_labels_some}
use Rattle.rules.proofs.ClientLaws.{asked_counts, list_room_law, wrote_change}
use Rattle.rules.proofs.HoldingLaws.{Whole, holding_length, holding_counts, holding_value}
use Rattle.machine.specs.Machine.{looking, tabling, filing, announcing, raising}
use Rattle.machine.proofs.Asks.{read_few}
use Rattle.refinement.proofs.Abstraction.{noted_of}
use Rattle.rules.proofs.AnswerLaws.{length_revisions}
use Rattle.rules.proofs.ClientParts.{length_entry, stepped_next, stepped_entry, stepped_saw, stepped_change, stepped_full, noted_next, noted_revisions}
use Rattle.rules.proofs.ClientParts.{noted_short, noted_saw, holding_next, holding_revisions, wrote_next}
use Rattle.rules.proofs.ClientParts.{wrote_entry, wrote_full}
use Rattle.refinement.proofs.ClientPhases.{Left, busy_left, next_busy, fits_at, looking_eq, looking_phase, tabling_phase, filing_phase}
use Rattle.refinement.proofs.ClientPhases.{announcing_phase, raising_phase}

tabling_eq : {x : Ask} {ns ms : List ℕ} {a b : Bool} → ns ≡ ms → a ≡ b → tabling x ns a ≡ tabling x ms b
tabling_eq {x} f g = λ i. tabling x (f i) (g i)

filing_eq : {x : Ask} {ns ms : List ℕ} {a b : Value} → ns ≡ ms → a ≡ b → filing x ns a ≡ filing x ms b
filing_eq {x} f g = λ i. filing x (f i) (g i)

raising_eq : {w : Write} {i j : ℕ} {a b c d : Bool} → i ≡ j → a ≡ b → c ≡ d → raising w i a c ≡ raising w j b d
raising_eq {w} f g h = λ i. raising w (f i) (g i) (h i)

-- ---- A read
-- the most that is answered of an ask; its numbers have room
abbrev pub most_of : Ask → ℕ
most_of x = cond x.counts max_records max_list

pub value_room : (sh : Shape) (counts : Bool) (v : Value) → sh.columns ≤ max_columns → Whole sh counts v → v.count ≤ cond counts max_records max_list
    → length v.numbers ≤ list_room
value_room sh true v few e short = let z = ap length e in omega arith
value_room sh false v few e short = let z = list_room_law v.count sh.columns short few in omega arith

module _ {sh : Shape} {c : Client} {x : Ask} (b : Busy sh c (asking x)) where
  -- an entry has room for the revisions of its looks
  looks_most : length (read_labels x) ≤ look_room
  looks_most = read_few sh x (fits_at b) b.most

  -- as many are read there as were noted
  pub noted_count : (i : ℕ) → i ≤ length (read_labels x) → length (revisions_in i (entry_of c)) ≡ i
  noted_count i h = let a = looks_most in length_revisions i (entry_of c) (length_entry c b.wide) (omega arith)

  -- a look
  pub noted_left : (v p : ℕ) → steps c < length (read_labels x)
      → Left sh (noted (steps c) v p c) (looking x (revisions_in (steps c) (entry_of c) ++ (v ∷ [])) (saw_pending c || ltb 0 p))
  unfolding steps_in_all
  noted_left v p h =
      let m = looks_most in
      let w = b.wide in
      let g : steps c < 16 = omega arith in
      let t : Client = noted (steps c) v p c in
      let n = noted_next c w (steps c) v p g in
      let busy = next_busy n b (omega arith) (noted_short c w (steps c) v p g b.short) in
      let e : steps t ≡ suc (steps c) = n.one ∙ omega arith in
      busy_left busy (looking_phase busy (omega arith)
      ∙ looking_eq (ap (λ (i : ℕ). revisions_in i (entry_of t)) e ∙ noted_revisions c w (steps c) v p g) (noted_saw c w (steps c) v p g))

  -- a fetch that finds nothing
  pub missed_left : steps c ≡ length (read_labels x) → Left sh (stepped c) (tabling x (noted_of x (entry_of c)) (saw_pending c))
  unfolding steps_in_all
  missed_left h =
      let w = b.wide in
      let n = stepped_next c w in
      let a = stepped_entry c w in
      let busy = next_busy n b (omega arith) (rw a b.short) in
      let o = n.one in
      busy_left busy (tabling_phase busy (omega arith) ∙ tabling_eq (ap (noted_of x) a) (stepped_saw c w))

  -- a list or a count taken, to be filed
  pub holding_left : (v : Value) → Whole sh x.counts v → v.count ≤ most_of x → steps c ≡ length (read_labels x) + 1
      → Left sh (holding sh v c) (filing x (noted_of x (entry_of c)) v)
  unfolding steps_in_all is_long most_in
  holding_left v whole short h =
      let w = b.wide in
      let i : is_count (entry_of c) ≡ x.counts = asked_counts b in
      let room = value_room sh x.counts v b.most whole short in
      let n = holding_next c w sh v room in
      let busy = next_busy n b (omega arith) (rw (holding_length c w sh v, holding_counts c w sh v, i) (le-ltb (most_of x) v.count short)) in
      let o = n.one in
      busy_left busy (filing_phase busy (omega arith)
      ∙ filing_eq (holding_revisions c w sh v room (length (read_labels x)) looks_most) (holding_value c w sh v (rw i whole)))

-- ---- A write
module _ {sh : Shape} {c : Client} {v : Write} (b : Busy sh c (writing v)) where
  -- one step more, not the last
  stepped_busy : steps c + 1 < steps_in_all (writing v) → Busy sh (stepped c) (writing v)
  stepped_busy h = next_busy (stepped_next c b.wide) b h (rw (stepped_entry c b.wide) b.short)

  -- a mark
  pub announced_left : steps c < length (write_labels v) → Left sh (stepped c) (announcing v (suc (steps c)))
  unfolding steps_in_all
  announced_left h =
      let busy = stepped_busy (omega arith) in
      let e : steps (stepped c) ≡ suc (steps c) = (stepped_next c b.wide).one ∙ omega arith in
      busy_left busy (announcing_phase busy (omega arith) ∙ ap (announcing v) e)

  -- the table step
  pub wrote_left : (changed full : Bool) → steps c ≡ length (write_labels v) → Left sh (wrote changed full c) (raising v 0 changed full)
  unfolding steps_in_all
  wrote_left changed full h =
      let w = b.wide in
      let t : Client = wrote changed full c in
      let n = wrote_next c w changed full in
      let s = write_labels_some v in
      let busy = next_busy n b (omega arith) (rw (wrote_entry c w changed full) b.short) in
      let o = n.one in
      let e : steps t - (length (write_labels v) + 1) ≡ 0 = omega arith in
      busy_left busy (raising_phase busy (omega arith) ∙ raising_eq e (wrote_change c w changed full) (wrote_full c w changed full))

  -- a raise that is not the last
  pub raised_left : length (write_labels v) < steps c → suc (steps c - (length (write_labels v) + 1)) < length (write_labels v)
      → Left sh (stepped c) (raising v (suc (steps c - (length (write_labels v) + 1))) (did_change c) (found_full c))
  unfolding steps_in_all
  raised_left h g =
      let w = b.wide in
      let busy = stepped_busy (omega arith) in
      let o = (stepped_next c w).one in
      let e : steps (stepped c) - (length (write_labels v) + 1) ≡ suc (steps c - (length (write_labels v) + 1)) = omega arith in
      busy_left busy (raising_phase busy (omega arith) ∙ raising_eq e (stepped_change c w) (stepped_full c w))
