-- Document 01, "One desk, step by step": the state of one desk. The paper's desk is a client of the cache: it is read as its
-- numbers (docs/LAYOUT.md). Leans on Layout, Work and Answers. Definitions only. Assumes nothing.
use Rattle.std.specs.Prelude.{Bool, cond, not, ◌&&◌, ◌||◌, List, ◌∷◌, ℕ, ◌+◌, eqb, ltb, leb, get_or, drop, set, replicate}
use Rattle.lists.specs.Lists.{same, padded, written}
use Rattle.query.specs.Shape.{Shape}
use Rattle.rules.specs.Layout.{kind_offset, steps_offset, saw_offset, changed_offset, full_offset, entry_offset, client_width, list_width}
use Rattle.rules.specs.Layout.{held_length_offset, noted_offset, held_list_offset, deletes}
use Rattle.query.specs.Query.{Query}
use Rattle.query.specs.declared.Range.{Range}
use Rattle.query.specs.Encoding.{query_in, range_in, bare_key}
use Rattle.rules.specs.Work.{Ask, Value, Write, Work, ask_in, write_in, work_in, kind_of, key_of, work_fault, steps_in_all}
use Rattle.rules.specs.Answers.{Entry, key_in, is_long}

-- kind, step, whether a look saw a mark, whether the table changed, whether it was full; then an entry, as one is read from the answers memory
abbrev pub Client : Type 0
Client = List ℕ

unfoldable pub kind : Client → ℕ
kind c = get_or c kind_offset 0

-- how many steps it has made
unfoldable pub steps : Client → ℕ
steps c = get_or c steps_offset 0

unfoldable pub saw_pending : Client → Bool
saw_pending c = not (eqb (get_or c saw_offset 0) 0)

unfoldable pub did_change : Client → Bool
did_change c = not (eqb (get_or c changed_offset 0) 0)

unfoldable pub found_full : Client → Bool
found_full c = not (eqb (get_or c full_offset 0) 0)

unfoldable pub entry_of : Client → Entry
entry_of c = drop entry_offset c

-- "an idle desk is all 0"
unfoldable pub idle : Client
idle = replicate client_width 0

unfoldable pub is_idle : Client → Bool
is_idle c = same c idle

-- as a begin of this work leaves it: no step made, all the rest 0
unfoldable pub begun : Work → Client
begun x = padded client_width (kind_of x ∷ 0 ∷ 0 ∷ 0 ∷ 0 ∷ key_of x)

-- the query and the range that its key has, and what a reader asks: for contracts and proofs
unfoldable pub query_at : Shape → Client → Query
query_at sh c = query_in sh (bare_key (key_in (entry_of c)))

unfoldable pub range_at : Client → Range
range_at c = range_in (key_in (entry_of c))

unfoldable pub ask_at : Shape → Client → Ask
ask_at sh c = ask_in sh (key_in (entry_of c))

-- what a writer writes, and what any client works at
unfoldable pub write_at : Shape → Client → Write
write_at sh c = write_in sh (kind c) (key_in (entry_of c))

unfoldable pub work_at : Shape → Client → Work
work_at sh c = work_in sh (kind c) (key_in (entry_of c))

-- "the called desk is not idle and its kind, query, step or list length is out of range" (3): a query is in range if its numbers are
-- those that the work read from them would be kept as. So an insert's has no star: its record's key has a mark in every column; and a
-- write's does not say "count" and has no range. "a held range that a begin would refuse is 3" (S-3): `work_fault`. "a .. held count above
-- 2,048 is 3" (S-1) stands in `is_long`
unfoldable pub is_bad : Shape → Client → Bool
is_bad sh c =
    not (is_idle c)
    && ((eqb (kind c) 0 || ltb deletes (kind c))
    || (not (same (key_in (entry_of c)) (key_of (work_at sh c)))
    || (not (eqb (work_fault (work_at sh c)) 0)
    || (leb (steps_in_all (work_at sh c)) (steps c) || is_long (entry_of c)))))

-- one step more
unfoldable pub stepped : Client → Client
stepped c = set c steps_offset (steps c + 1)

unfoldable pub flag : Bool → ℕ
flag b = cond b 1 0

-- look j "notes its counter and whether its marks are above 0"
unfoldable pub noted : ℕ → ℕ → ℕ → Client → Client
noted j revision pending c = set (set (stepped c) (noted_offset j) revision) saw_offset (cond (eqb pending 0) (get_or c saw_offset 0) 1)

-- what was got at the table step: how many records, and their numbers in the entry's last numbers; of a count 0 in all of these
unfoldable pub holding : Shape → Value → Client → Client
holding sh v c = written (set (stepped c) held_length_offset v.count) (held_list_offset sh) (padded (list_width sh) v.numbers)

-- a write past its table step
unfoldable pub wrote : Bool → Bool → Client → Client
wrote changed full c = set (set (stepped c) changed_offset (flag changed)) full_offset (flag full)
