-- Document 01, "What the controller turns down", as rows: of each call its refusals in their order, and the number that it returns. About any
-- memories and any arguments. Leans on rules' Refusals, Nodes, Client and Work for the conditions, on Calls, History and
-- Tally for what a call returns. Definitions only. Assumes nothing.
use Rattle.std.specs.Prelude.{◌≡◌, ◌⊎◌, ◌↔◌, Bool, true, false, cond, not, ◌&&◌, ◌||◌, List, [], ◌∷◌, ◌++◌, ℕ, ◌+◌, ◌-◌, ◌≤◌, ◌<◌, eqb, ltb, leb, length, get_or}
use Rattle.lists.specs.Lists.{In}
use Rattle.query.specs.Range.{is_reversed}
use Rattle.query.specs.Shape.{Form, shape_of}
use Rattle.rules.specs.Layout.{max_nodes, max_pending, max_revision, tray_least, node_count_offset, answer_count_offset, refused_short, refused_columns, refused_unsound, refused_no_client}
use Rattle.rules.specs.Layout.{refused_taken, refused_idle, not_given, refused_no_entry, refused_pending, refused_worn, refused_occupied, refused_reversed, refused_tally_full, ended_long, ended_full}
use Rattle.rules.specs.Work.{read_labels, value_of, may_answer, write_labels, Work, asking, writing, Request, read_of, insert_of, delete_of, is_write, fault_of}
use Rattle.rules.specs.Nodes.{Words, Node, Store, pending, revision, is_present, node_of, is_free, is_worn}
use Rattle.rules.specs.Client.{Client, steps, did_change, found_full, is_idle, is_bad, work_at}
use Rattle.rules.specs.Memory.{Mem, records_in, store_in}
use Rattle.rules.specs.Outcome.{number}
use Rattle.rules.specs.Refusals.{form, shape, columns, client, is_short, bad_columns, is_unsound, no_client, all_idle}
use Rattle.rules.specs.Calls.{open_result, past_table, announced_labels, labels_left}
use Rattle.rules.specs.History.{Call, begin, step, abandon, evict_answer, evict_node, renew, is_accepted}
use Rattle.rules.specs.Tally.{Made, is_tally_full, made_result}

-- ---- Rows
-- "no. | word | met when": a number, and whether its condition is met
pub record Row : Type 0 where
  pub number : ℕ
  pub applies : Bool

abbrev pub row : ℕ → Bool → Row
row n b = record { number = n; applies = b }

-- the number of the first row that applies, or 0
unfoldable pub first_of : List Row → ℕ
first_of [] = 0
first_of (r ∷ rs) = cond r.applies r.number (first_of rs)

unfoldable pub some_applies : List Row → Bool
some_applies [] = false
some_applies (r ∷ rs) = r.applies || some_applies rs

-- ---- What a condition presupposes
-- "the called desk": a desk above 11 is none, it has its own row (4), and nothing is read there
abbrev pub is_there : ℕ → Bool
is_there d = not (no_client d)

-- "a busy desk"
abbrev pub is_busy : Mem → ℕ → Bool
is_busy m d = is_there d && not (is_idle (client m d))

-- ---- 3 at a node
-- By the label p of the node that a step is about, and the nodes s as the call finds them; a node's pending writes are its marks, its revision
-- is its counter.
-- "finds its node missing or unmarked"
unfoldable pub is_missing_or_free : Words → Store → Bool
is_missing_or_free p s = not (is_present p s) || is_free (node_of p s)

-- "no unmarked node to put out": a node is to be added, "1,024 are there", and none of them is unmarked
unfoldable pub none_free : List Node → Bool
none_free [] = true
none_free (n ∷ ns) = not (is_free n) && none_free ns

unfoldable pub has_no_room : Words → Store → Bool
has_no_room p s = not (is_present p s) && (leb max_nodes (length s.nodes) && none_free s.nodes)

-- "marks at 12 or more to add to"
unfoldable pub is_fully_pending : Words → Store → Bool
is_fully_pending p s = is_present p s && leb max_pending (pending (node_of p s))

-- "a counter at its largest to raise"
unfoldable pub is_at_largest : Form → Words → Store → Bool
is_at_largest f p s = is_present p s && leb (max_revision f) (revision (node_of p s))

-- "a raise .. finds its node missing or unmarked", or "a counter at its largest to raise": one that "leaves the counter" (S-6) has none to raise
unfoldable pub cannot_raise : Form → Bool → Words → Store → Bool
cannot_raise f lift p s = is_missing_or_free p s || (lift && is_at_largest f p s)

-- What step i of some work may find: a look "no unmarked node to put out"; a mark that, or "marks at 12 or more to add to"; a raise what is
-- said above, and whether it lifts the counter is what the client c keeps of its table step; the other steps nothing. In a row this is asked of a
-- busy desk only (`is_busy`), so 3 at a node never applies together with 4 or 6.
unfoldable pub is_unsound_at : Mem → Client → Work → ℕ → Bool
is_unsound_at m c (asking x) i = ltb i (length (read_labels x)) && has_no_room (get_or (read_labels x) i []) (store_in (form m) m.nodes)
is_unsound_at m c (writing w) i =
    let s : Store = store_in (form m) m.nodes in
    let n : ℕ = length (write_labels w) in
    let p : Words = get_or (write_labels w) i [] in
    let q : Words = get_or (write_labels w) (i - (n + 1)) [] in
    cond (ltb i n) (has_no_room p s || is_fully_pending p s) (ltb n i && cannot_raise (form m) (did_change c) q s)

-- some label's node is so, of the nodes as the call finds them
unfoldable pub some_of : (Words → Store → Bool) → List Words → Store → Bool
some_of test [] s = false
some_of test (p ∷ ps) s = test p s || some_of test ps s

-- What an abandoning of work of i steps may find: "A writer before its table step takes back the marks it has set", and "the taking back of a
-- mark finds its node missing or unmarked", at any of them; after it, it "performs all remaining raises" (S-4), and any of these may find what
-- a raise finds, by what the client c keeps.
unfoldable pub is_unsound_abandoned : Mem → Client → Work → ℕ → Bool
is_unsound_abandoned m c (asking x) i = false
is_unsound_abandoned m c (writing w) i =
    let s : Store = store_in (form m) m.nodes in
    cond (past_table w i) (some_of (cannot_raise (form m) (did_change c)) (labels_left w i) s) (some_of is_missing_or_free (announced_labels w i) s)

-- ---- 12 and 13
-- "a read's table step finds over 32 records"; a count "counts past 32 without giving 12" (S-1), which is in `may_answer`
unfoldable pub is_long_at : Mem → Work → ℕ → Bool
is_long_at m (asking x) i = eqb i (length (read_labels x) + 1) && not (may_answer x (value_of x (records_in (columns m) m.table)))
is_long_at m (writing w) i = false

-- "given at the last raise": that "at the table step the table held 2,048 records, not this one" was noted at the desk by that step
-- (rules, `write_table_result` by `no_room`), and what stands there is taken at its word, at a delete's desk too (R-7)
unfoldable pub is_full_at : Client → Work → ℕ → Bool
is_full_at c (asking x) i = false
is_full_at c (writing w) i = eqb i (length (write_labels w) + length (write_labels w)) && found_full c

-- an abandoning after the table step "reports the write's end as its last raise would have" (S-4): 13 too
unfoldable pub is_full_abandoned : Client → Work → ℕ → Bool
is_full_abandoned c (asking x) i = false
is_full_abandoned c (writing w) i = past_table w i && found_full c

-- ---- 14 (S-3)
-- "the lowest above the highest": of a read's range, whatever else is wrong with it; a write has none
unfoldable pub has_reversed : Request → Bool
has_reversed (read_of counts range a) = is_reversed range
has_reversed (insert_of a) = false
has_reversed (delete_of a) = false

-- ---- The refusals of each call, in the order in which they are given. A number may stand in several rows.
unfoldable pub open_rows : Mem → ℕ → List Row
open_rows m k =
    -- "a lent memory is below its least length"
    row refused_short (is_short (shape_of k) m)
    -- "at opening, k not 1 to 4"
    ∷ row refused_columns (bad_columns k) ∷ []

unfoldable pub begin_rows : Mem → ℕ → Request → List Row
begin_rows m d r =
    -- "a lent memory is below its least length"
    row refused_short (is_short (shape m) m)
    -- "a query whose columns are not as many as the k in memory, a mark above 1, a star with a value, an insert with a star"; "a ranged
    -- column that is also named, or whose number is not below k, is 2" (S-3)
    ∷ row refused_columns (eqb (fault_of (shape m) r) refused_columns)
    -- "14 reversed, the lowest above the highest, tested right after 2" (S-3)
    ∷ row refused_reversed (has_reversed r)
    -- "k, an entry count or a filed list's length in memory out of range"; "a filed .. count above 2,048 is 3" (S-1)
    ∷ row refused_unsound (is_unsound m)
    -- "desk above 11"
    ∷ row refused_no_client (no_client d)
    -- "the called desk is not idle and its kind, query, step or list length is out of range"; "a .. held count above 2,048 is 3" (S-1);
    -- "a held range that a begin would refuse is 3" (S-3)
    ∷ row refused_unsound (is_there d && is_bad (shape m) (client m d))
    -- "begin at a busy desk"
    ∷ row refused_taken (is_busy m d)
    -- "a write begins while the floor or a counter is above 4,294,967,103"
    ∷ row refused_worn (is_write r && is_worn (form m) (shape m) (store_in (form m) m.nodes)) ∷ []

unfoldable pub step_rows : Mem → List ℕ → ℕ → List Row
step_rows m tray d =
    -- "a lent memory is below its least length": the tray too
    row refused_short (is_short (shape m) m || ltb (length tray) tray_least)
    -- "k, an entry count or a filed list's length in memory out of range"; "a filed .. count above 2,048 is 3" (S-1)
    ∷ row refused_unsound (is_unsound m)
    -- "desk above 11"
    ∷ row refused_no_client (no_client d)
    -- "the called desk is not idle and its kind, query, step or list length is out of range"; "a .. held count above 2,048 is 3" (S-1);
    -- "a held range that a begin would refuse is 3" (S-3)
    ∷ row refused_unsound (is_there d && is_bad (shape m) (client m d))
    -- "step or abandon at an idle desk"
    ∷ row refused_idle (is_there d && is_idle (client m d))
    -- "a raise .. finds its node missing or unmarked; no unmarked node to put out; a counter at its largest to raise; marks at 12 or more to
    -- add to"
    ∷ row refused_unsound (is_busy m d && is_unsound_at m (client m d) (work_at (shape m) (client m d)) (steps (client m d))) ∷ []

-- "12 and 13 end the work they name": what a step that is not refused may return beside 0
unfoldable pub end_rows : Mem → ℕ → List Row
end_rows m d =
    -- "a read's table step finds over 32 records"
    row ended_long (is_busy m d && is_long_at m (work_at (shape m) (client m d)) (steps (client m d)))
    -- "given at the last raise"
    ∷ row ended_full (is_busy m d && is_full_at (client m d) (work_at (shape m) (client m d)) (steps (client m d))) ∷ []

unfoldable pub abandon_rows : Mem → ℕ → List Row
abandon_rows m d =
    -- "a lent memory is below its least length"
    row refused_short (is_short (shape m) m)
    -- "k, an entry count or a filed list's length in memory out of range"; "a filed .. count above 2,048 is 3" (S-1)
    ∷ row refused_unsound (is_unsound m)
    -- "desk above 11"
    ∷ row refused_no_client (no_client d)
    -- "the called desk is not idle and its kind, query, step or list length is out of range"; "a .. held count above 2,048 is 3" (S-1);
    -- "a held range that a begin would refuse is 3" (S-3)
    ∷ row refused_unsound (is_there d && is_bad (shape m) (client m d))
    -- "step or abandon at an idle desk"
    ∷ row refused_idle (is_there d && is_idle (client m d))
    -- "a raise or the taking back of a mark finds its node missing or unmarked; .. a counter at its largest to raise", at any of those that are
    -- to be raised (S-4) or whose mark is taken back. 7 has no row: it "is given no longer" (S-4)
    ∷ row refused_unsound (is_busy m d && is_unsound_abandoned m (client m d) (work_at (shape m) (client m d)) (steps (client m d))) ∷ []

-- what an abandoning that is not refused may return beside 0
unfoldable pub abandon_end_rows : Mem → ℕ → List Row
abandon_end_rows m d = row ended_full (is_busy m d && is_full_abandoned (client m d) (work_at (shape m) (client m d)) (steps (client m d))) ∷ []

unfoldable pub evict_answer_rows : Mem → ℕ → List Row
evict_answer_rows m i =
    -- "a lent memory is below its least length"
    row refused_short (is_short (shape m) m)
    -- "k, an entry count or a filed list's length in memory out of range"; "a filed .. count above 2,048 is 3" (S-1)
    ∷ row refused_unsound (is_unsound m)
    -- "place to put out not below the count"
    ∷ row refused_no_entry (leb (get_or m.answers answer_count_offset 0) i) ∷ []

unfoldable pub evict_node_rows : Mem → ℕ → List Row
evict_node_rows m i =
    -- "a lent memory is below its least length"
    row refused_short (is_short (shape m) m)
    -- "k, an entry count or a filed list's length in memory out of range"; "a filed .. count above 2,048 is 3" (S-1)
    ∷ row refused_unsound (is_unsound m)
    -- "place to put out not below the count"
    ∷ row refused_no_entry (leb (get_or m.nodes node_count_offset 0) i)
    -- "node to put out has marks"
    ∷ row refused_pending (ltb 0 (pending (get_or (store_in (form m) m.nodes).nodes i []))) ∷ []

unfoldable pub renew_rows : Mem → List Row
renew_rows m =
    -- "a lent memory is below its least length"
    row refused_short (is_short (shape m) m)
    -- "k, an entry count or a filed list's length in memory out of range"; "a filed .. count above 2,048 is 3" (S-1)
    ∷ row refused_unsound (is_unsound m)
    -- "renew with a busy desk"
    ∷ row refused_occupied (not (all_idle m)) ∷ []

unfoldable pub rows_of : Mem → Call → List Row
rows_of m (begin d r) = begin_rows m d r
rows_of m (step d tray) = step_rows m tray d
rows_of m (abandon d) = abandon_rows m d
rows_of m (evict_answer i) = evict_answer_rows m i
rows_of m (evict_node i) = evict_node_rows m i
rows_of m renew = renew_rows m

-- of a call that is lent a tally, or none: "15 tally full, given where the call would raise a count that stands at 4,294,967,295, tested after 11"
-- (S-7), and behind the 3 that a step or an abandoning finds at its nodes
unfoldable pub made_rows : Mem → Made → List Row
made_rows m x = rows_of m x.call ++ (row refused_tally_full (is_tally_full m x) ∷ [])

-- 12 and 13: a step; and 13 an abandoning (S-4)
unfoldable pub ends_of : Mem → Call → List Row
ends_of m (begin d r) = []
ends_of m (step d tray) = end_rows m d
ends_of m (abandon d) = abandon_end_rows m d
ends_of m (evict_answer i) = []
ends_of m (evict_node i) = []
ends_of m renew = []

-- ---- The number that a call returns
-- n, by the call's refusals and, behind them, what else it may end with
pub record Gives (refusals ends : List Row) (n : ℕ) : Type 0 where
  -- that of the first row that applies, or 0
  pub first : n ≡ first_of (refusals ++ ends)
  -- "under no other conditions than these": a call is accepted, "if it returns 0, 12 or 13", exactly where no refusal applies
  pub accepted : is_accepted n ≡ not (some_applies refusals)

pub record RefusalRows : Type 0 where
  pub opening : (m : Mem) (k : ℕ) → Gives (open_rows m k) [] (number (open_result m k).out)
  pub calls : (m : Mem) (x : Made) → Gives (made_rows m x) (ends_of m x.call) (number (made_result m x).out)

-- "The smallest number that applies is given": the order of the rows is never against it, though 3 stands behind 4 and 6 too; but for
-- "14 .., tested right after 2" (S-3), which goes before 3, 4 and 5: where 14 is given, what applies besides is above 2; and for "15 .., tested
-- after 11" (S-7), which goes before 12 and 13: where 15 is given, what applies besides is above 11
abbrev pub Smallest : List Row → ℕ → Type 0
Smallest rows n = (r : Row) → In r rows → r.applies ≡ true
    → (n ≤ r.number) ⊎ (((n ≡ refused_reversed) × (refused_columns < r.number)) ⊎ ((n ≡ refused_tally_full) × (refused_occupied < r.number)))

-- 14 is given to a begin of a read whose range is reversed, and to no other call
abbrev pub IsReversedBegin : Call → Type 0
IsReversedBegin (begin d r) = has_reversed r ≡ true
IsReversedBegin (step d tray) = ⊥
IsReversedBegin (abandon d) = ⊥
IsReversedBegin (evict_answer i) = ⊥
IsReversedBegin (evict_node i) = ⊥
IsReversedBegin renew = ⊥

pub record OnlyReversed : Type 0 where
  pub opening : (m : Mem) (k : ℕ) → number (open_result m k).out ≡ refused_reversed → ⊥
  pub calls : (m : Mem) (x : Made) → number (made_result m x).out ≡ refused_reversed → IsReversedBegin x.call

-- 15 is given exactly where the count that the call would raise stands at its largest in the tally that it is lent
pub record OnlyTallyFull : Type 0 where
  pub opening : (m : Mem) (k : ℕ) → number (open_result m k).out ≡ refused_tally_full → ⊥
  pub calls : (m : Mem) (x : Made) → (number (made_result m x).out ≡ refused_tally_full) ↔ (is_tally_full m x ≡ true)

-- "7 is given no longer" (S-4), by any call
pub record GivenNoLonger : Type 0 where
  pub opening : (m : Mem) (k : ℕ) → number (open_result m k).out ≡ not_given → ⊥
  pub calls : (m : Mem) (x : Made) → number (made_result m x).out ≡ not_given → ⊥

pub record SmallestGiven : Type 0 where
  pub opening : (m : Mem) (k : ℕ) → Smallest (open_rows m k) (number (open_result m k).out)
  pub calls : (m : Mem) (x : Made) → Smallest (made_rows m x ++ ends_of m x.call) (number (made_result m x).out)
