-- Document 01, "On each side of a line": cases 1 to 12 as rows of one table, S-1's counts beside case 10, S-3's ranges, S-4's abandoned writes,
-- S-5's zeros, S-6's writes that change nothing and S-7's tally, and the rules that none of these plays, with one computed test in the form that the calls serve, and those that go by a revision in the wide one. Rows 1 to 5 are those that query states about nodes; 6 to 12 are played on memories of full size that held
-- other numbers before the opening. Leans on the rules' definitions. Assumes nothing.
use mathlib.Core.Bool.{Bool, true, false, not, ◌&&◌}
use mathlib.Core.List.{List, [], ◌∷◌, ◌++◌, map}
use Prim.Native.Nat.{ℕ, zero, suc, ◌+◌, ◌-◌}
use lib.Dec.{T, eqb}
use lib.ListN.{length, get_or, take, drop, set, replicate}
use Rattle.lists.specs.Lists.{same, before, keep, place, without, all_below, listed, padded, written, rows, flat, entries_in, with_entries, stretch, with_stretch, joined, parts_in, with_parts, kept_in, with_kept, wholes, halves, wholes_at, halves_at}
use Rattle.query.specs.Query.{admits, lies, naming, pick, read_node, write_node, named, read_count, write_count, read_nodes, write_nodes, value, wildcard, Label}
use Rattle.query.specs.Sheet.{turned, looks, sheet_entry, wildcards_in, wildcards_of}
use Rattle.query.specs.Encoding.{column_of, query_of, well_marked, is_query, names_all, record_of, term_value, column_value, tag, tags, label_words, marks, key_words, columns_in, query_in, counts_in, count_key, range_of, range_in, range_key, wanted_key, unranged, bare_key}
use Rattle.query.specs.declared.Range.TheVariants.{None, Between}
use Rattle.query.specs.Range as range
use Rattle.query.specs.Range.{is_named, is_range, is_reversed}
use Rattle.query.proofs.NodeCases as nodes
use Rattle.rules.specs.declared.Outcome.{Outcome}
use Rattle.rules.specs.declared.Outcome.TheVariants.{Refused, Accepted, Answered, Long, Ended, Full}
use Rattle.rules.specs.Table.{list_of, has, put_in, target, is_full, outside, effect, no_room, changes}
use Rattle.rules.specs.Work.{Request, read_of, insert_of, delete_of, of_records, of_number, ask_fault, list_within, value_of, may_answer, read_labels, ask_key, ask_in, write_labels, change_kind, kind_of, key_of, change_in, write_in, work_in, work_fault, steps_in_all, is_write, ask_of, work_of, fault_of}
use Rattle.query.specs.Shape.{Form, narrow, wide, shape_of}
use Rattle.rules.specs.Layout.{length_offset, revisions_offset, entry_width, entry_offset, table_least, nodes_least, answers_least, clients_least, checks_offset}
use Rattle.rules.specs.Checks.{check_of, misfit, labelled, bared, check_for}
use Rattle.rules.specs.Nodes.{Node, store, label_in, pending, revision, with_pending, with_revision, has_label, node_place, is_present, node_of, with_node, evict_node, new_node, added, is_free, oldest_free, make_room, added_in, ensured, announced_in, announced, is_pending, released, lifted, may_retire, retired, is_high, is_worn}
use Rattle.rules.specs.Answers.{Entry, key_in, length_in, revision_in, is_count, most_in, list_in, value_in, has_key_of, at_least, serves, fetch_place, key_place, filed, is_long, some_long}
use Rattle.rules.specs.Client.{kind, steps, saw_pending, did_change, found_full, entry_of, idle, is_idle, begun, work_at, is_bad, stepped, flag, noted, holding, wrote}
use Rattle.rules.specs.Memory.{current, wide_floor, with_wide_floor, node_from, node_to, entry_from, entry_to, Mem, mem_in, with_table, with_nodes, with_clients, records_in, with_records, store_in, with_store, answers_in, with_answers, client_in, with_client, told, cleared, opened, renewed}
use Rattle.rules.specs.Refusals.{form, columns, client, is_short, bad_columns, is_unsound, no_client, all_idle, open_code, begin_code, at_client, step_code, abandon_code, evict_answer_code, evict_node_code, renew_code}
use Rattle.rules.specs.Steps.{now_at, store_back, answered, look_result, fetch_result, table_result, file_result, read_result, announce_result, write_table_result, end_of, raise_result, write_result, progress_of, progress}
use Rattle.rules.specs.Calls.{unless, open_result, begin_result, step_result, past_table, retire_result, abandoned_write, abandoned_of, abandoned, abandon_result, evict_answer_result, evict_node_result, renew_result}
use Rattle.rules.specs.History.{Call, begin, step, abandon, evict_answer as drop_answer, evict_node as drop_node, renew, untrayed, call_result, tray_of}
use Rattle.rules.specs.declared.Tally.{Tally}
use Rattle.rules.specs.declared.Count.TheVariants.{ReadBegun, FromFile, FromTable, EndedLong, ReadAbandoned, WriteBegun, EndedChanged, EndedUnchanged, WriteAbandoned}
use Rattle.rules.specs.Tally.{count_in, rank, raises as is_raised, one as raise, cleared_tally, raised, count_of, begun_count, abandoned_count, accepted_count, would_raise, is_full as is_count_full, is_full_for, is_tally_full, made_result, tally_after, tallied_result, unlent, mem_after}

-- what a row expects of a call, or of the memories
pub data Expect : Type 0 where
  goes_on : Expect
  lists : ℕ → List ℕ → Bool → Expect
  counts : ℕ → Bool → Expect
  refuses : ℕ → Expect
  long : Expect
  ends : Bool → Expect
  full : Expect

abbrev tray : List ℕ
tray = replicate 128 9

abbrev agree : Bool → Bool → Bool
agree true b = b
agree false b = not b

-- whether an outcome is the one expected; an answer's tray holds its list and is otherwise as it was, and after a count or 12 it is as it was
abbrev meets : Expect → Outcome → List ℕ → Bool
meets goes_on Accepted t = true
meets goes_on (Refused n) t = false
meets goes_on (Answered n b) t = false
meets goes_on Long t = false
meets goes_on (Ended b) t = false
meets goes_on Full t = false
meets (lists x l f) Accepted t = false
meets (lists x l f) (Refused n) t = false
meets (lists x l f) (Answered n b) t = eqb n x && (agree f b && same t (written tray 0 l))
meets (lists x l f) Long t = false
meets (lists x l f) (Ended b) t = false
meets (lists x l f) Full t = false
meets (counts x f) Accepted t = false
meets (counts x f) (Refused n) t = false
meets (counts x f) (Answered n b) t = eqb n x && (agree f b && same t tray)
meets (counts x f) Long t = false
meets (counts x f) (Ended b) t = false
meets (counts x f) Full t = false
meets (refuses x) Accepted t = false
meets (refuses x) (Refused n) t = eqb n x
meets (refuses x) (Answered n b) t = false
meets (refuses x) Long t = false
meets (refuses x) (Ended b) t = false
meets (refuses x) Full t = false
meets long Accepted t = false
meets long (Refused n) t = false
meets long (Answered n b) t = false
meets long Long t = same t tray
meets long (Ended b) t = false
meets long Full t = false
meets (ends f) Accepted t = false
meets (ends f) (Refused n) t = false
meets (ends f) (Answered n b) t = false
meets (ends f) Long t = false
meets (ends f) (Ended b) t = agree f b
meets (ends f) Full t = false
meets full Accepted t = false
meets full (Refused n) t = false
meets full (Answered n b) t = false
meets full Long t = false
meets full (Ended b) t = false
meets full Full t = true

-- a list of records of one column
abbrev pub answers : List ℕ → Bool → Expect
answers l f = lists (length l) l f

-- one line of a row: a call and what it returns; or numbers that the memories hold then
pub data Line : Type 0 where
  does : Call → Expect → Line
  noted_at : ℕ → List ℕ → Line
  filed_under : ℕ → List ℕ → Line
  filed_count : ℕ → Line
  filed_for : ℕ → ℕ → Line
  node_count : ℕ → Line
  table_count : ℕ → Line
  floor_is : ℕ → Line
  node_is : ℕ → Label → ℕ → Line
  marks_at : ℕ → ℕ → Line
  desks_at : ℕ → ℕ → Line

abbrev plays : Mem → List Line → Bool
plays m [] = true
plays m (does c x ∷ ls) = let r = call_result m c in meets x r.out r.tray && plays r.mem ls
plays m (noted_at d l ∷ ls) = same (take (length l) (drop 13 (client_in (form m) m.clients d))) l && plays m ls
plays m (filed_under i l ∷ ls) = same (take (length l) (drop 8 (get_or (answers_in (form m) m.answers) i []))) l && plays m ls
plays m (filed_count n ∷ ls) = eqb (length (answers_in (form m) m.answers)) n && plays m ls
plays m (filed_for i v ∷ ls) = eqb (get_or (key_in (get_or (answers_in (form m) m.answers) i [])) 1 0) v && plays m ls
plays m (node_count n ∷ ls) = eqb (length (store_in (form m) m.nodes).nodes) n && plays m ls
plays m (table_count n ∷ ls) = eqb (length (records_in 1 m.table)) n && plays m ls
plays m (node_is i p x ∷ ls) =
    let n = get_or (store_in (form m) m.nodes).nodes i [] in
    same (label_in n) (label_words p) && (eqb (revision n) x && plays m ls)
plays m (marks_at i x ∷ ls) = eqb (pending (get_or (store_in (form m) m.nodes).nodes i [])) x && plays m ls
plays m (desks_at i x ∷ ls) = eqb (get_or m.clients i 0) x && plays m ls
plays m (floor_is f ∷ ls) = eqb (store_in (form m) m.nodes).floor f && plays m ls

pub data Row : Type 0 where
  states : nodes.Row → Row
  from : Mem → List Line → Row
  handed : Mem → List Call → List ℕ → Row

-- a cleared tally handed on from call to call: its nine counts
abbrev nine : Tally → List ℕ
nine t = map (count_in t) (ReadBegun ∷ FromFile ∷ FromTable ∷ EndedLong ∷ ReadAbandoned ∷ WriteBegun ∷ EndedChanged ∷ EndedUnchanged ∷ WriteAbandoned ∷ [])

abbrev handed_on : Mem → Tally → List Call → List ℕ
handed_on m t [] = nine t
handed_on m t (c ∷ cs) = let r = tallied_result m t c in handed_on r.mem r.tally cs

abbrev pub holds : Row → Bool
holds (states r) = nodes.holds r
holds (from m ls) = plays m ls
holds (handed m cs l) = same (handed_on m cleared_tally cs) l

abbrev pub all : List Row → Bool
all [] = true
all (r ∷ rs) = holds r && all rs

abbrev stated : List nodes.Row → List Row
stated [] = []
stated (r ∷ rs) = states r ∷ stated rs

-- ---- The numbers of the documents that go by the form: the highest counter that a write may begin with, and the largest there is
abbrev highest : Form → ℕ
highest narrow = 4294967103
highest wide = 18446744073709551423

abbrev last : Form → ℕ
last narrow = 4294967295
last wide = 18446744073709551615

-- ---- The rows, in a hall of this form
module _ (f : Form) where
  -- memories that held other numbers, as an opening with k columns leaves them
  abbrev fresh : ℕ → Mem
  fresh k = (open_result (mem_in f (replicate table_least 7) (replicate (nodes_least f) 7) (replicate (answers_least f (shape_of k)) 7) (replicate (clients_least f (shape_of k)) 7)) k).mem

  -- the same with records of one column in the table
  abbrev stocked : List ℕ → Mem
  stocked vs = with_table (fresh 1) (written (set (fresh 1).table 0 (length vs)) 8 vs)

  -- the same with one node at this revision
  abbrev raised_to : ℕ → Mem
  raised_to x = with_nodes (fresh 1) (with_store f (fresh 1).nodes (store 1 (new_node (label_words (value 5 ∷ [])) x ∷ [])))

  -- the same with this floor and no node
  abbrev floor_at : ℕ → Mem
  floor_at x = with_nodes (fresh 1) (with_store f (fresh 1).nodes (store x []))

  -- n accepted steps of a desk that end nothing
  abbrev going : ℕ → ℕ → List Line
  going d zero = []
  going d (suc n) = does (step d tray) goes_on ∷ going d n

  abbrev one : ℕ → List ℕ
  one v = 1 ∷ v ∷ []

  abbrev read_one : ℕ → ℕ → Line
  read_one v d = does (begin d (read_of false None (one v))) goes_on

  abbrev read5 : ℕ → Line
  read5 d = read_one 5 d

  -- a write in a hall of one column, from its begin to its end
  abbrev writes : Request → ℕ → Bool → List Line
  writes r d changed = does (begin d r) goes_on ∷ going d 4 ++ (does (step d tray) (ends changed) ∷ [])

  abbrev inserts5 : ℕ → Bool → List Line
  inserts5 d changed = writes (insert_of (one 5)) d changed

  -- n times: 5 is taken out and put in again, which raises the nodes of both twice
  abbrev turns5 : ℕ → List Line
  turns5 zero = []
  turns5 (suc n) = writes (delete_of (one 5)) 1 true ++ inserts5 1 true ++ turns5 n

  -- 6. k 1, empty table, read 5: answers 0 records at its fifth step; read again, at its third.
  abbrev pub case_6 : Row
  case_6 = from (fresh 1)
      ((read5 0 ∷ going 0 4) ++ (does (step 0 tray) (answers [] false) ∷ read5 0 ∷ going 0 2) ++ (does (step 0 tray) (answers [] true) ∷ []))

  -- 7. k 1: read 5 makes its two looks (1 and 1); insert 5 runs to its end; the read takes list {5} and files it under 1, 1;
  -- the next read of 5 notes 2, 1 and goes to the table.
  abbrev pub case_7 : Row
  case_7 = from (fresh 1)
      ((read5 0 ∷ going 0 2) ++ (noted_at 0 (1 ∷ 1 ∷ []) ∷ inserts5 1 true) ++ going 0 2
      ++ (does (step 0 tray) (answers (5 ∷ []) false) ∷ filed_under 0 (1 ∷ 1 ∷ []) ∷ read5 0 ∷ going 0 2)
      ++ (noted_at 0 (2 ∷ 1 ∷ []) ∷ going 0 2) ++ (does (step 0 tray) (answers (5 ∷ []) false) ∷ []))

  -- 8. k 1: insert 5 has marked node 5; a read of 5 answers at its fourth step and files nothing.
  abbrev pub case_8 : Row
  case_8 = from (fresh 1)
      ((does (begin 1 (insert_of (one 5))) goes_on ∷ going 1 1) ++ (read5 0 ∷ going 0 3) ++ (does (step 0 tray) (answers [] false) ∷ filed_count 0 ∷ []))

  -- 9. Node 5 leaves at counter 7, floor 1: floor 7, back at 7, and an answer filed under 7 holds.
  abbrev node5 : ℕ → Line
  node5 i = node_is i (value 5 ∷ []) 7

  abbrev pub case_9 : Row
  case_9 = from (stocked (5 ∷ []))
      (turns5 3 ++ (read5 0 ∷ going 0 4)
      ++ (does (step 0 tray) (answers (5 ∷ []) false) ∷ filed_under 0 (7 ∷ 1 ∷ []) ∷ floor_is 1 ∷ node5 0 ∷ does (drop_node 0) goes_on ∷ floor_is 7 ∷ read5 0 ∷ going 0 2)
      ++ (node5 2 ∷ noted_at 0 (7 ∷ 1 ∷ []) ∷ does (step 0 tray) (answers (5 ∷ []) true) ∷ []))

  -- 10. 32 matching records are listed; 33 give 12.
  abbrev numbers : ℕ → List ℕ
  numbers n = listed (λ i. i) 0 n

  abbrev read_all : Line
  read_all = does (begin 0 (read_of false None (0 ∷ 0 ∷ []))) goes_on

  abbrev pub case_10_at : Row
  case_10_at = from (stocked (numbers 32)) ((read_all ∷ going 0 3) ++ (does (step 0 tray) (answers (numbers 32) false) ∷ []))

  abbrev pub case_10_above : Row
  case_10_above = from (stocked (numbers 33)) ((read_all ∷ going 0 2) ++ (does (step 0 tray) long ∷ read_all ∷ []))

  -- S-1, "counts past 32 without giving 12, and is filed like a list .. a count never serves a list, nor a list a count": of 33 records; and
  -- of 32, where a count is filed and the list goes to the table, a list is filed and the count does, and each is used from file after that
  abbrev count_all : Line
  count_all = does (begin 0 (read_of true None (0 ∷ 0 ∷ []))) goes_on

  abbrev pub case_count_above : Row
  case_count_above = from (stocked (numbers 33))
      ((count_all ∷ going 0 3) ++ (does (step 0 tray) (counts 33 false) ∷ count_all ∷ going 0 1) ++ (does (step 0 tray) (counts 33 true) ∷ []))

  abbrev used_from_file : List Line
  used_from_file =
      (filed_count 2 ∷ count_all ∷ going 0 1) ++ (does (step 0 tray) (counts 32 true) ∷ read_all ∷ going 0 1) ++ (does (step 0 tray) (answers (numbers 32) true) ∷ [])

  abbrev pub case_count_beside : Row
  case_count_beside = from (stocked (numbers 32))
      ((count_all ∷ going 0 3) ++ (does (step 0 tray) (counts 32 false) ∷ read_all ∷ going 0 3) ++ (does (step 0 tray) (answers (numbers 32) false) ∷ []) ++ used_from_file)

  abbrev pub case_list_beside : Row
  case_list_beside = from (stocked (numbers 32))
      ((read_all ∷ going 0 3) ++ (does (step 0 tray) (answers (numbers 32) false) ∷ count_all ∷ going 0 3) ++ (does (step 0 tray) (counts 32 false) ∷ []) ++ used_from_file)

  -- S-3, "a lowest and a highest value, both included": of the records 0 to 9 those from 4 to 9, at the fourth step, and at the second when
  -- they are filed. A range over all numbers is not the plain read, from S-5 on by its list too, and one with equal ends is not the named value:
  -- each goes to the table, and is used from file after that
  abbrev within : ℕ → ℕ → Line
  within low high = does (begin 0 (read_of false (Between 0 low high) (0 ∷ 0 ∷ []))) goes_on

  abbrev pub case_range : Row
  case_range = from (stocked (numbers 10))
      ((within 4 9 ∷ going 0 3) ++ (does (step 0 tray) (answers (listed (λ i. i) 4 6) false) ∷ within 4 9 ∷ going 0 1)
      ++ (does (step 0 tray) (answers (listed (λ i. i) 4 6) true) ∷ within 5 8 ∷ going 0 3) ++ (does (step 0 tray) (answers (listed (λ i. i) 5 4) false) ∷ []))

  abbrev pub case_range_whole : Row
  case_range_whole = from (stocked (numbers 10))
      ((read_all ∷ going 0 3) ++ (does (step 0 tray) (answers (numbers 10) false) ∷ within 0 4294967295 ∷ going 0 3)
      ++ (does (step 0 tray) (answers (listed (λ i. i) 1 9) false) ∷ filed_count 2 ∷ read_all ∷ going 0 1)
      ++ (does (step 0 tray) (answers (numbers 10) true) ∷ within 0 4294967295 ∷ going 0 1) ++ (does (step 0 tray) (answers (listed (λ i. i) 1 9) true) ∷ []))

  abbrev pub case_range_equal : Row
  case_range_equal = from (stocked (numbers 10))
      ((read5 0 ∷ going 0 4) ++ (does (step 0 tray) (answers (5 ∷ []) false) ∷ within 5 5 ∷ going 0 3) ++ (does (step 0 tray) (answers (5 ∷ []) false) ∷ filed_count 2 ∷ []))

  -- "14 reversed, the lowest above the highest, tested right after 2; a ranged column that is also named, or whose number is not below k, is 2"
  abbrev pub case_range_refused : Row
  case_range_refused = from (fresh 1)
      (does (begin 12 (read_of false (Between 0 9 4) (0 ∷ 0 ∷ []))) (refuses 14) ∷ does (begin 12 (read_of false (Between 1 9 4) (0 ∷ 0 ∷ []))) (refuses 2)
      ∷ does (begin 12 (read_of true (Between 0 9 4) (one 5))) (refuses 2) ∷ does (begin 12 (read_of true (Between 0 4 9) (0 ∷ 0 ∷ []))) (refuses 4) ∷ [])

  -- S-4, "Abandoning after the table step now performs all remaining raises itself and reports the write's end as its last raise would have":
  -- insert 5 abandoned after its two marks, which are taken back; after its table step, with both raises left; with the last one left, when 5 is
  -- there already, so that no counter goes up (S-6); and a full one. A read of 5 is then answered from file at its second time: no mark has stayed
  abbrev begins5 : ℕ → List Line
  begins5 n = does (begin 1 (insert_of (one 5))) goes_on ∷ going 1 n

  abbrev both_nodes : ℕ → List Line
  both_nodes x = node_is 0 (value 5 ∷ []) x ∷ marks_at 0 0 ∷ node_is 1 (wildcard ∷ []) x ∷ marks_at 1 0 ∷ []

  abbrev read_twice : List ℕ → List Line
  read_twice l = (read5 0 ∷ going 0 4) ++ (does (step 0 tray) (answers l false) ∷ read5 0 ∷ going 0 2) ++ (does (step 0 tray) (answers l true) ∷ [])

  abbrev pub case_abandoned_marking : Row
  case_abandoned_marking = from (fresh 1) (begins5 2 ++ (marks_at 0 1 ∷ marks_at 1 1 ∷ does (abandon 1) goes_on ∷ both_nodes 1) ++ read_twice [])

  abbrev pub case_abandoned_raising : Row
  case_abandoned_raising = from (fresh 1) (begins5 3 ++ (does (abandon 1) (ends true) ∷ both_nodes 2) ++ read_twice (5 ∷ []) ++ (does (abandon 1) (refuses 6) ∷ []))

  abbrev pub case_abandoned_last : Row
  case_abandoned_last = from (fresh 1) (inserts5 1 true ++ begins5 4 ++ (marks_at 0 0 ∷ marks_at 1 1 ∷ does (abandon 1) (ends false) ∷ both_nodes 2) ++ read_twice (5 ∷ []))

  abbrev pub case_abandoned_full : Row
  case_abandoned_full = from (stocked (numbers 2048))
      ((does (begin 1 (insert_of (one 5000))) goes_on ∷ going 1 3) ++ (does (abandon 1) full ∷ table_count 2048 ∷ marks_at 0 0 ∷ marks_at 1 0 ∷ does (abandon 1) (refuses 6) ∷ []))

  -- S-5, "A named 0 is never equal to anything, so a read or delete naming 0 finds no record, and a range skips records with 0 in its column; only
  -- a star finds them": of the records 0 and 1. The empty list of a read naming 0 is filed, and used
  abbrev pub case_zero_read : Row
  case_zero_read = from (stocked (numbers 2))
      ((read_one 0 0 ∷ going 0 4) ++ (does (step 0 tray) (answers [] false) ∷ filed_count 1 ∷ read_one 0 0 ∷ going 0 2)
      ++ (does (step 0 tray) (answers [] true) ∷ read_one 1 0 ∷ going 0 4) ++ (does (step 0 tray) (answers (1 ∷ []) false) ∷ read_all ∷ going 0 3)
      ++ (does (step 0 tray) (answers (numbers 2) false) ∷ []))

  abbrev pub case_zero_range : Row
  case_zero_range = from (stocked (numbers 2))
      ((within 0 0 ∷ going 0 3) ++ (does (step 0 tray) (answers [] false) ∷ within 0 1 ∷ going 0 3) ++ (does (step 0 tray) (answers (1 ∷ []) false) ∷ []))

  -- "An insert may carry 0 and is the same record as another alike in every column.": the second time it changes nothing, and a delete naming 0
  -- takes out none
  abbrev pub case_zero_write : Row
  case_zero_write = from (stocked (1 ∷ 2 ∷ []))
      (writes (insert_of (one 0)) 1 true ++ writes (insert_of (one 0)) 1 false ++ writes (delete_of (one 0)) 1 false ++ (read_all ∷ going 0 3)
      ++ (does (step 0 tray) (answers (numbers 3) false) ∷ writes (delete_of (0 ∷ 0 ∷ [])) 1 true) ++ (table_count 0 ∷ []))

  -- "in keys and labels a 0 equals a 0": an insert of 0 does not meet a read of 0, and shares its node. So the read's filed answer is no longer
  -- used, though it is right
  abbrev pub case_zero_shared : Row
  case_zero_shared = from (fresh 1)
      ((read_one 0 0 ∷ going 0 4) ++ (does (step 0 tray) (answers [] false) ∷ filed_under 0 (1 ∷ 1 ∷ []) ∷ writes (insert_of (one 0)) 1 true)
      ++ (node_is 0 (value 0 ∷ []) 2 ∷ read_one 0 0 ∷ going 0 2) ++ (noted_at 0 (2 ∷ 1 ∷ []) ∷ going 0 2) ++ (does (step 0 tray) (answers [] false) ∷ []))

  -- S-6, "after no change, each raise step takes the mark off and leaves the counter. A full table is no change.": a write r that ends with x, and
  -- the read of v that shares its nodes and has the list l. The write overlaps neither the read that files l nor the one that fetches it; the one
  -- that files; the one that fetches, which sees a mark and answers from the table; both. A read that begins after the write's end gets l from file
  abbrev whole : Request → Expect → List Line
  whole r x = does (begin 1 r) goes_on ∷ going 1 4 ++ (does (step 1 tray) x ∷ [])

  abbrev listed_here : List ℕ → List Line
  listed_here l = going 0 2 ++ (does (step 0 tray) (answers l false) ∷ [])

  abbrev fetched : ℕ → List ℕ → List Line
  fetched v l = (read_one v 0 ∷ going 0 2) ++ (noted_at 0 (1 ∷ 1 ∷ []) ∷ does (step 0 tray) (answers l true) ∷ filed_count 1 ∷ [])

  abbrev sees_pending : ℕ → List ℕ → List Line
  sees_pending v l = (read_one v 0 ∷ going 0 3) ++ (does (step 0 tray) (answers l false) ∷ filed_count 1 ∷ [])

  abbrev spared : Mem → Request → Expect → ℕ → List ℕ → List Row
  spared m r x v l =
      from m ((read_one v 0 ∷ going 0 2) ++ listed_here l ++ whole r x ++ fetched v l)
      ∷ from m ((read_one v 0 ∷ going 0 2) ++ whole r x ++ listed_here l ++ fetched v l)
      ∷ from m ((read_one v 0 ∷ going 0 2) ++ listed_here l ++ (does (begin 1 r) goes_on ∷ going 1 1) ++ sees_pending v l ++ going 1 3 ++ (does (step 1 tray) x ∷ fetched v l))
      ∷ from m ((read_one v 0 ∷ going 0 2) ++ (does (begin 1 r) goes_on ∷ going 1 1) ++ listed_here l ++ sees_pending v l ++ going 1 3 ++ (does (step 1 tray) x ∷ fetched v l))
      ∷ []

  abbrev pub unchanged : List Row
  unchanged =
      spared (stocked (5 ∷ [])) (insert_of (one 5)) (ends false) 5 (5 ∷ [])
      ++ spared (stocked (4 ∷ [])) (delete_of (one 5)) (ends false) 5 []
      ++ spared (stocked (numbers 2048)) (insert_of (one 5000)) full 5000 []

  -- "a counter at its largest to raise" (3) is no refusal for a raise that leaves the counter: insert 5 after its table step, with the node of 5 at
  -- this counter, when 5 is there and when it is not. Its next raise, and its abandoning; a missing or unmarked node is 3 all the same
  abbrev with_first : Mem → (Node → Node) → Mem
  with_first m g =
      let s = store_in f m.nodes in
      with_nodes m (with_store f m.nodes (store s.floor (set s.nodes 0 (g (get_or s.nodes 0 [])))))

  abbrev after_table : List ℕ → ℕ → ℕ → Mem
  after_table values marks x =
      let m = mem_after (stocked values) (unlent (begin 1 (insert_of (one 5)) ∷ step 1 tray ∷ step 1 tray ∷ step 1 tray ∷ [])) in
      with_first m (λ n. with_revision (with_pending n marks) x)

  -- the node of 5 has become one of 6
  abbrev relabelled : Mem → Mem
  relabelled m = with_first m (λ n. set n 1 6)

  abbrev up_to_largest : List Row
  up_to_largest =
      from (after_table [] 1 (last f)) (does (step 1 tray) (refuses 3) ∷ does (abandon 1) (refuses 3) ∷ marks_at 0 1 ∷ marks_at 1 1 ∷ [])
      ∷ from (after_table [] 1 (last f - 1)) (going 1 1 ++ (node_is 0 (value 5 ∷ []) (last f) ∷ does (step 1 tray) (ends true) ∷ []))
      ∷ []

  abbrev pub at_largest : List Row
  at_largest =
      up_to_largest
      ++ (from (after_table (5 ∷ []) 1 (last f)) (going 1 1 ++ (node_is 0 (value 5 ∷ []) (last f) ∷ marks_at 0 0 ∷ does (step 1 tray) (ends false) ∷ []))
      ∷ from (after_table (5 ∷ []) 1 (last f)) (does (abandon 1) (ends false) ∷ node_is 0 (value 5 ∷ []) (last f) ∷ [])
      ∷ from (after_table (5 ∷ []) 0 1) (does (step 1 tray) (refuses 3) ∷ does (abandon 1) (refuses 3) ∷ [])
      ∷ from (relabelled (after_table (5 ∷ []) 1 1)) (does (step 1 tray) (refuses 3) ∷ does (abandon 1) (refuses 3) ∷ [])
      ∷ [])

  -- Where a client keeps that the table changed and that it was full, which no history leaves: the counter goes up, and the end is 13
  abbrev pub changed_and_full : Row
  changed_and_full =
      let m = after_table [] 1 1 in
      from (with_clients m (with_client (form m) m.clients 1 (set (client_in (form m) m.clients 1) 4 1)))
      (going 1 1 ++ (does (step 1 tray) full ∷ both_nodes 2))

  -- 11. Table of 2,048: inserting one already there ends unchanged; a new one gives 13.
  abbrev pub case_11 : Row
  case_11 = from (stocked (numbers 2048))
      (inserts5 0 false ++ (does (begin 1 (insert_of (one 5000))) goes_on ∷ going 1 4) ++ (does (step 1 tray) full ∷ table_count 2048 ∷ does (begin 1 (insert_of (one 5000))) goes_on ∷ []))

  -- 12. Highest counter 4,294,967,103: a write begins; 4,294,967,104: 10. In the wide form "case 12 moves with it" (S-8): 18,446,744,073,709,551,423, and
  -- one above
  abbrev pub case_12_at : Row
  case_12_at = from (raised_to (highest f)) (does (begin 0 (insert_of (one 5))) goes_on ∷ [])

  abbrev pub case_12_above : Row
  case_12_above = from (raised_to (highest f + 1)) (does (begin 0 (insert_of (one 5))) (refuses 10) ∷ does (begin 0 (read_of false None (one 5))) goes_on ∷ [])

  abbrev pub case_12_floor : List Row
  case_12_floor =
      from (floor_at (highest f)) (does (begin 0 (insert_of (one 5))) goes_on ∷ [])
      ∷ from (floor_at (highest f + 1)) (does (begin 0 (insert_of (one 5))) (refuses 10) ∷ []) ∷ []

  -- ---- Rules that none of the above plays
  -- the same with these answers filed: of the read of v, an empty list under no revision; of the count of all, n under revision 1
  abbrev with_filed : List Entry → Mem
  with_filed es = let m = fresh 1 in mem_in f m.table m.nodes (with_answers f m.answers es) m.clients

  abbrev list_for : ℕ → Entry
  list_for v = padded entry_width (1 ∷ v ∷ [])

  abbrev count_for : ℕ → Entry
  count_for n = set (set (padded entry_width (16 ∷ [])) length_offset n) revisions_offset 1

  abbrev files5 : List Line
  files5 = (read5 0 ∷ going 0 4) ++ (does (step 0 tray) (answers [] false) ∷ filed_count 64 ∷ filed_for 63 5 ∷ [])

  -- "*file*: a filed answer to the same query is taken out; failing that, if 64 are kept, the oldest is; the list goes last": of 64 that are for
  -- others, of 64 with one for the same query, and of 63
  abbrev pub filing : List Row
  filing =
      from (with_filed (listed list_for 100 64)) (files5 ++ (filed_for 0 101 ∷ filed_for 62 163 ∷ []))
      ∷ from (with_filed (listed list_for 100 30 ++ (list_for 5 ∷ listed list_for 130 33))) (files5 ++ (filed_for 0 100 ∷ filed_for 29 129 ∷ filed_for 30 130 ∷ []))
      ∷ from (with_filed (listed list_for 100 63)) (files5 ++ (filed_for 0 100 ∷ filed_for 62 162 ∷ []))
      ∷ []

  -- an answer is put out by its place; "8 no entry: place to put out not below the count"
  abbrev pub put_out : Row
  put_out = from (with_filed (listed list_for 100 3))
      (does (drop_answer 3) (refuses 8) ∷ filed_count 3 ∷ does (drop_answer 1) goes_on ∷ filed_count 2 ∷ filed_for 0 100 ∷ filed_for 1 102 ∷ [])

  -- "a filed or held count above 2,048 is 3": 2,048 is none. Filed; and held by a reader that is to file it
  abbrev holding_count : ℕ → Mem
  holding_count n =
      let m = mem_after (fresh 1) (unlent (begin 0 (read_of true None (0 ∷ 0 ∷ [])) ∷ step 0 tray ∷ step 0 tray ∷ step 0 tray ∷ [])) in
      with_clients m (with_client f m.clients 0 (set (client_in f m.clients 0) (entry_offset + length_offset) n))

  abbrev pub counts_in_range : List Row
  counts_in_range =
      from (with_filed (count_for 2048 ∷ [])) ((count_all ∷ going 0 1) ++ (does (step 0 tray) (counts 2048 true) ∷ []))
      ∷ from (with_filed (count_for 2049 ∷ [])) (does (begin 0 (read_of true None (0 ∷ 0 ∷ []))) (refuses 3) ∷ does (abandon 0) (refuses 3) ∷ [])
      ∷ from (holding_count 2048) (does (step 0 tray) (counts 2048 false) ∷ [])
      ∷ from (holding_count 2049) (does (step 0 tray) (refuses 3) ∷ does (abandon 0) (refuses 3) ∷ [])
      ∷ []

  -- "A missing node is added last, with the floor as counter and 0 marks; if 1,024 are there, the oldest unmarked one is put out first, and the
  -- floor is the one after that": 1,024 of which the first has a mark, the second leaves at 9 and the floor is 3, for a look and for a mark; 1,023;
  -- and "no unmarked node to put out" is 3. "A node's leaving sets the floor to the larger of floor and its counter": the floor stays where one
  -- leaves at 2, put out by a call, or for room
  abbrev node_for : ℕ → ℕ → ℕ → Node
  node_for v x marks = with_pending (new_node (label_words (value v ∷ [])) x) marks

  abbrev with_floor3 : List Node → Mem
  with_floor3 ns = with_nodes (fresh 1) (with_store f (fresh 1).nodes (store 3 ns))

  abbrev crowded : Mem
  crowded = with_floor3 (node_for 100 20 1 ∷ node_for 101 9 0 ∷ node_for 102 30 0 ∷ listed (λ v. node_for v 3 0) 103 1021)

  abbrev made_room : ℕ → List Line
  made_room marks =
      node_count 1024 ∷ floor_is 9 ∷ node_is 0 (value 100 ∷ []) 20 ∷ marks_at 0 1 ∷ node_is 1 (value 102 ∷ []) 30 ∷ node_is 1022 (value 1123 ∷ []) 3
      ∷ node_is 1023 (value 5 ∷ []) 9 ∷ marks_at 1023 marks ∷ []

  abbrev pub lowest_out : List Row
  lowest_out =
      from (with_floor3 (node_for 100 2 0 ∷ [])) (does (drop_node 0) goes_on ∷ node_count 0 ∷ floor_is 3 ∷ [])
      ∷ from (with_floor3 (node_for 100 2 0 ∷ listed (λ v. node_for v 4 0) 101 1023))
      ((read5 0 ∷ going 0 1) ++ (noted_at 0 (3 ∷ []) ∷ node_count 1024 ∷ floor_is 3 ∷ node_is 0 (value 101 ∷ []) 4 ∷ node_is 1023 (value 5 ∷ []) 3 ∷ []))
      ∷ []

  abbrev pub rooms : List Row
  rooms =
      from crowded ((read5 0 ∷ going 0 1) ++ (noted_at 0 (9 ∷ []) ∷ made_room 0))
      ∷ from crowded ((does (begin 1 (insert_of (one 5))) goes_on ∷ going 1 1) ++ made_room 1)
      ∷ from (with_floor3 (listed (λ v. node_for v 9 0) 100 1023))
      ((read5 0 ∷ going 0 1) ++ (noted_at 0 (3 ∷ []) ∷ node_count 1024 ∷ floor_is 3 ∷ node_is 0 (value 100 ∷ []) 9 ∷ node_is 1023 (value 5 ∷ []) 3 ∷ []))
      ∷ from (with_floor3 (listed (λ v. node_for v 9 1) 100 1024)) (read5 0 ∷ does (step 0 tray) (refuses 3) ∷ node_count 1024 ∷ floor_is 3 ∷ [])
      ∷ []

  -- "Renew. With all desks idle: answers and nodes are emptied, the floor is 1, the table stays."; with a busy desk 11
  abbrev pub renewing : Row
  renewing = from (stocked (5 ∷ []))
      (turns5 1 ++ read_twice (5 ∷ []) ++ (does (drop_node 0) goes_on ∷ floor_is 3 ∷ read5 2 ∷ does renew (refuses 11) ∷ floor_is 3 ∷ filed_count 1
      ∷ does (abandon 2) goes_on ∷ does renew goes_on ∷ floor_is 1 ∷ node_count 0 ∷ filed_count 0 ∷ table_count 1 ∷ read5 0 ∷ going 0 2)
      ++ (noted_at 0 (1 ∷ 1 ∷ []) ∷ []))

  -- S-1 and S-3 together: of the records 0 to 9 those from 4 to 9 are counted, from the table, then from file, and the list of the same range is
  -- another answer. A count that saw a mark "answers here and files nothing". A range in column 1 of the records 1 5, 2 7, 3 9, 4 7
  abbrev count_within : Line
  count_within = does (begin 0 (read_of true (Between 0 4 9) (0 ∷ 0 ∷ []))) goes_on

  abbrev pairs : Mem
  pairs = let m = fresh 2 in with_table m (written (set m.table 0 4) 8 (1 ∷ 5 ∷ 2 ∷ 7 ∷ 3 ∷ 9 ∷ 4 ∷ 7 ∷ []))

  abbrev pub ranged : List Row
  ranged =
      from (stocked (numbers 10))
      ((count_within ∷ going 0 3) ++ (does (step 0 tray) (counts 6 false) ∷ count_within ∷ going 0 1) ++ (does (step 0 tray) (counts 6 true) ∷ within 4 9 ∷ going 0 3)
      ++ (does (step 0 tray) (answers (listed (λ i. i) 4 6) false) ∷ filed_count 2 ∷ []))
      ∷ from (fresh 1)
      (begins5 1 ++ (does (begin 0 (read_of true None (one 5))) goes_on ∷ going 0 3) ++ (does (step 0 tray) (counts 0 false) ∷ filed_count 0 ∷ []))
      ∷ from pairs
      ((does (begin 0 (read_of false (Between 1 7 8) (0 ∷ 0 ∷ 0 ∷ 0 ∷ []))) goes_on ∷ going 0 3) ++ (does (step 0 tray) (lists 2 (2 ∷ 7 ∷ 4 ∷ 7 ∷ []) false) ∷ []))
      ∷ []

  -- "takes back the marks it has set": of an insert given up between its two marks, whose second node is not there yet
  abbrev pub abandoned_between : Row
  abandoned_between = from (fresh 1)
      (begins5 1 ++ (marks_at 0 1 ∷ node_count 1 ∷ does (abandon 1) goes_on ∷ marks_at 0 0 ∷ node_count 1 ∷ node_is 0 (value 5 ∷ []) 1 ∷ []) ++ read_twice [])

  -- S-7: a cleared tally handed on with 38 calls: a read from the table, one from file, one abandoned, one of 33 records; an insert that changes
  -- the table, one that does not, one abandoned before the table step; a delete abandoned after it. "reads begun, answered from file, answered from the table,
  -- ended long, abandoned; and writes begun, ended changed, ended unchanged (13 too), abandoned before the table"
  abbrev called : Call → ℕ → ℕ → List Call
  called c d n = c ∷ replicate n (step d tray)

  abbrev pub tallied_day : Row
  tallied_day = handed (stocked (numbers 33))
      (called (begin 0 (read_of false None (one 5))) 0 5 ++ called (begin 0 (read_of false None (one 5))) 0 3 ++ called (begin 0 (read_of true None (one 5))) 0 1
      ++ (abandon 0 ∷ called (begin 0 (read_of false None (0 ∷ 0 ∷ []))) 0 3) ++ called (begin 1 (insert_of (one 50))) 1 5 ++ called (begin 1 (insert_of (one 50))) 1 5
      ++ called (begin 1 (insert_of (one 51))) 1 2 ++ (abandon 1 ∷ called (begin 1 (delete_of (one 50))) 1 3) ++ (abandon 1 ∷ []))
      (4 ∷ 1 ∷ 1 ∷ 1 ∷ 1 ∷ 4 ∷ 2 ∷ 1 ∷ 1 ∷ [])

  abbrev pub rules_played : List Row
  rules_played = filing ++ (put_out ∷ counts_in_range) ++ lowest_out ++ rooms ++ (renewing ∷ ranged) ++ (abandoned_between ∷ tallied_day ∷ [])

  abbrev pub cases : List Row
  cases =
      stated nodes.cases
      ++ (case_6 ∷ case_7 ∷ case_8 ∷ case_9 ∷ case_10_at ∷ case_10_above ∷ case_count_above ∷ case_count_beside ∷ case_list_beside ∷ case_range ∷ case_range_whole ∷ case_range_equal ∷ case_range_refused ∷ case_abandoned_marking ∷ case_abandoned_raising ∷ case_abandoned_last ∷ case_abandoned_full ∷ case_zero_read ∷ case_zero_range ∷ case_zero_write ∷ case_zero_shared ∷ case_11 ∷ case_12_at ∷ case_12_above ∷ case_12_floor)
      ++ unchanged ++ at_largest ++ (changed_and_full ∷ []) ++ rules_played

  -- those that go by a revision: 7, 12, counters at their largest
  abbrev pub revision_cases : List Row
  revision_cases = case_7 ∷ case_12_at ∷ case_12_above ∷ case_12_floor ++ up_to_largest

-- In the form that the calls serve
pub cases_1_to_12 : T (all (cases current))
unfolding stretch with_stretch joined parts_in with_parts kept_in with_kept wholes halves wholes_at halves_at check_of misfit labelled bared check_for wide_floor with_wide_floor node_from node_to entry_from entry_to read_nodes write_nodes sheet_entry turned looks wildcards_of wildcards_in same keep place without all_below listed padded written rows flat entries_in with_entries admits lies naming pick read_node write_node named read_count write_count column_of query_of well_marked is_query names_all record_of term_value column_value tag tags label_words marks key_words columns_in query_in counts_in count_key range_of range_in range_key wanted_key unranged bare_key range.within is_named is_range is_reversed list_of before has put_in target is_full outside effect no_room changes label_in pending revision with_pending with_revision has_label node_place is_present node_of with_node evict_node new_node added is_free oldest_free make_room added_in ensured announced_in announced is_pending released lifted may_retire retired is_high is_worn key_in length_in revision_in is_count most_in list_in value_in has_key_of at_least serves fetch_place key_place filed is_long some_long kind steps saw_pending did_change found_full entry_of idle is_idle begun work_at is_bad stepped flag noted holding wrote records_in with_records store_in with_store answers_in with_answers client_in with_client told cleared opened renewed columns client is_short bad_columns is_unsound no_client all_idle open_code begin_code at_client step_code abandon_code evict_answer_code evict_node_code renew_code now_at store_back answered look_result fetch_result table_result file_result read_result announce_result write_table_result end_of raise_result write_result progress_of progress unless open_result begin_result step_result past_table retire_result abandoned_write abandoned_of abandoned abandon_result evict_answer_result evict_node_result renew_result untrayed call_result of_records of_number ask_fault list_within value_of may_answer read_labels ask_key ask_in write_labels change_kind kind_of key_of change_in write_in work_in work_fault steps_in_all is_write ask_of work_of fault_of is_full_for is_tally_full made_result tray_of count_in rank is_raised raise raised count_of begun_count abandoned_count accepted_count would_raise is_count_full tally_after tallied_result unlent mem_after
cases_1_to_12 = tt

-- In the wide form: the node of 5 with a check that does not fit its label is nobody's node
abbrev misfitting : Row
misfitting =
    let m = after_table wide (5 ∷ []) 1 1 in
    from (with_nodes m (set m.nodes checks_offset (get_or m.nodes checks_offset 0 + 1))) (does (step 1 tray) (refuses 3) ∷ does (abandon 1) (refuses 3) ∷ marks_at 0 1 ∷ [])

-- "The desks memory tells the form." (S-8)
abbrev told_wide : Row
told_wide = from (fresh wide 2) (desks_at 0 2 ∷ desks_at 1 1 ∷ [])

pub wide_cases : T (all (told_wide ∷ misfitting ∷ revision_cases wide))
unfolding stretch with_stretch joined parts_in with_parts kept_in with_kept wholes halves wholes_at halves_at check_of misfit labelled bared check_for wide_floor with_wide_floor node_from node_to entry_from entry_to read_nodes write_nodes sheet_entry turned looks wildcards_of wildcards_in same keep place without all_below listed padded written rows flat entries_in with_entries admits lies naming pick read_node write_node named read_count write_count column_of query_of well_marked is_query names_all record_of term_value column_value tag tags label_words marks key_words columns_in query_in counts_in count_key range_of range_in range_key wanted_key unranged bare_key range.within is_named is_range is_reversed list_of before has put_in target is_full outside effect no_room changes label_in pending revision with_pending with_revision has_label node_place is_present node_of with_node evict_node new_node added is_free oldest_free make_room added_in ensured announced_in announced is_pending released lifted may_retire retired is_high is_worn key_in length_in revision_in is_count most_in list_in value_in has_key_of at_least serves fetch_place key_place filed is_long some_long kind steps saw_pending did_change found_full entry_of idle is_idle begun work_at is_bad stepped flag noted holding wrote records_in with_records store_in with_store answers_in with_answers client_in with_client told cleared opened renewed columns client is_short bad_columns is_unsound no_client all_idle open_code begin_code at_client step_code abandon_code evict_answer_code evict_node_code renew_code now_at store_back answered look_result fetch_result table_result file_result read_result announce_result write_table_result end_of raise_result write_result progress_of progress unless open_result begin_result step_result past_table retire_result abandoned_write abandoned_of abandoned abandon_result evict_answer_result evict_node_result renew_result untrayed call_result of_records of_number ask_fault list_within value_of may_answer read_labels ask_key ask_in write_labels change_kind kind_of key_of change_in write_in work_in work_fault steps_in_all is_write ask_of work_of fault_of is_full_for is_tally_full made_result unlent mem_after
wide_cases = tt
