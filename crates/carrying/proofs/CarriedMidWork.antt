-- An old hall carried over with a read and a write in the middle of their work, computed: the two halls are played the same calls, and each has the
-- results that document 01 gives. Leans on rules' Cases and on the definitions. Assumes nothing.
use mathlib.Core.Bool.{true, false}
use mathlib.Core.List.{List, [], ◌∷◌}
use Prim.Native.Nat.{ℕ}
use lib.Dec.{T}
use lib.ListN.{replicate}
use Rattle.lists.specs.Lists.{same, before, keep, place, without, all_below, listed, padded, written, rows, flat, entries_in, with_entries, stretch, with_stretch, joined, parts_in, with_parts, kept_in, with_kept, wholes, halves, wholes_at, halves_at}
use Rattle.query.specs.Query.{admits, lies, naming, pick, read_node, write_node, named, read_count, write_count, read_nodes, write_nodes, value}
use Rattle.query.specs.Sheet.{turned, looks, sheet_entry, wildcards_in, wildcards_of}
use Rattle.query.specs.Encoding.{column_of, query_of, well_marked, is_query, names_all, record_of, term_value, column_value, tag, tags, label_words, marks, key_words, columns_in, query_in, counts_in, count_key, range_of, range_in, range_key, wanted_key, unranged, bare_key}
use Rattle.query.specs.declared.Range.TheVariants.{None}
use Rattle.query.specs.Range as range
use Rattle.query.specs.Range.{is_named, is_range, is_reversed}
use Rattle.rules.specs.Table.{list_of, has, put_in, target, is_full, outside, effect, no_room, changes}
use Rattle.rules.specs.Work.{read_of, insert_of, of_records, of_number, ask_fault, list_within, value_of, may_answer, read_labels, ask_key, ask_in, write_labels, change_kind, kind_of, key_of, change_in, write_in, work_in, work_fault, steps_in_all, is_write, ask_of, work_of, fault_of}
use Rattle.query.specs.Shape.{Form, narrow, wide, shape_of}
use Rattle.rules.specs.Layout.{table_least, nodes_least, answers_least, clients_least}
use Rattle.rules.specs.Checks.{check_of, misfit, labelled, bared, check_for}
use Rattle.rules.specs.Nodes.{label_in, pending, revision, with_pending, with_revision, has_label, node_place, is_present, node_of, with_node, evict_node, new_node, added, is_free, oldest_free, make_room, added_in, ensured, announced_in, announced, is_pending, released, lifted, may_retire, retired, is_high, is_worn}
use Rattle.rules.specs.Answers.{key_in, length_in, revision_in, is_count, most_in, list_in, value_in, has_key_of, at_least, serves, fetch_place, key_place, filed, is_long, some_long}
use Rattle.rules.specs.Client.{kind, steps, saw_pending, did_change, found_full, entry_of, idle, is_idle, begun, work_at, is_bad, stepped, flag, noted, holding, wrote}
use Rattle.rules.specs.Memory.{wide_floor, with_wide_floor, node_from, node_to, entry_from, entry_to, Mem, mem_in, records_in, with_records, store_in, with_store, answers_in, with_answers, client_in, with_client, told, cleared, opened, renewed}
use Rattle.rules.specs.Refusals.{client, is_short, bad_columns, is_unsound, no_client, all_idle, open_code, begin_code, at_client, step_code, abandon_code, evict_answer_code, evict_node_code, renew_code}
use Rattle.rules.specs.Steps.{now_at, store_back, answered, look_result, fetch_result, table_result, file_result, read_result, announce_result, write_table_result, end_of, raise_result, write_result, progress_of, progress}
use Rattle.rules.specs.Calls.{unless, open_result, begin_result, step_result, past_table, retire_result, abandoned_write, abandoned_of, abandoned, abandon_result, evict_answer_result, evict_node_result, renew_result}
use Rattle.rules.specs.History.{begin, step, untrayed, call_result}
use Rattle.rules.specs.Tally.{is_full_for, is_tally_full, made_result, unlent, mem_after}
use Rattle.carrying.specs.Carrying.{with_clients_of, carried, tells, carry_code, carry_result}
use Rattle.rules.proofs.Cases.{goes_on, answers, ends, Line, does, noted_at, filed_under, marks_at, node_is, from, all}

-- memories that held other numbers
abbrev lent : Form → Mem
lent f = mem_in f (replicate table_least 7) (replicate (nodes_least f) 7) (replicate (answers_least f (shape_of 1)) 7) (replicate (clients_least f (shape_of 1)) 7)

abbrev tray : List ℕ
tray = replicate 128 9

-- read 5 at desk 0 has made one of its two looks, insert 5 at desk 1 one of its two marks
abbrev old : Mem
old =
    mem_after (open_result (lent narrow) 1).mem
    (unlent (begin 0 (read_of false None (1 ∷ 5 ∷ [])) ∷ step 0 tray ∷ begin 1 (insert_of (1 ∷ 5 ∷ [])) ∷ step 1 tray ∷ []))

abbrev new : Mem
new = (carry_result old (lent wide)).mem

-- the read takes the list from before the insert's table step and files it under the counters from before its raises; so the next read, which notes
-- 2 at the first node, goes to the table, and the one after that is answered from file
abbrev later : List Line
later =
    does (step 0 tray) goes_on ∷ noted_at 0 (1 ∷ 1 ∷ []) ∷ does (step 0 tray) goes_on ∷ does (step 0 tray) goes_on
    ∷ marks_at 0 1 ∷ does (step 1 tray) goes_on ∷ does (step 1 tray) goes_on ∷ does (step 1 tray) goes_on ∷ does (step 1 tray) (ends true)
    ∷ marks_at 0 0 ∷ node_is 0 (value 5 ∷ []) 2
    ∷ does (step 0 tray) (answers [] false) ∷ filed_under 0 (1 ∷ 1 ∷ [])
    ∷ does (begin 0 (read_of false None (1 ∷ 5 ∷ []))) goes_on ∷ does (step 0 tray) goes_on ∷ does (step 0 tray) goes_on ∷ noted_at 0 (2 ∷ 1 ∷ [])
    ∷ does (step 0 tray) goes_on ∷ does (step 0 tray) goes_on ∷ does (step 0 tray) (answers (5 ∷ []) false)
    ∷ does (begin 0 (read_of false None (1 ∷ 5 ∷ []))) goes_on ∷ does (step 0 tray) goes_on ∷ does (step 0 tray) goes_on ∷ does (step 0 tray) (answers (5 ∷ []) true) ∷ []

pub carried_mid_work : T (all (from old later ∷ from new later ∷ []))
unfolding stretch with_stretch joined parts_in with_parts kept_in with_kept wholes halves wholes_at halves_at check_of misfit labelled bared check_for wide_floor with_wide_floor node_from node_to entry_from entry_to read_nodes write_nodes sheet_entry turned looks wildcards_of wildcards_in same keep place without all_below listed padded written rows flat entries_in with_entries admits lies naming pick read_node write_node named read_count write_count column_of query_of well_marked is_query names_all record_of term_value column_value tag tags label_words marks key_words columns_in query_in counts_in count_key range_of range_in range_key wanted_key unranged bare_key range.within is_named is_range is_reversed list_of before has put_in target is_full outside effect no_room changes label_in pending revision with_pending with_revision has_label node_place is_present node_of with_node evict_node new_node added is_free oldest_free make_room added_in ensured announced_in announced is_pending released lifted may_retire retired is_high is_worn key_in length_in revision_in is_count most_in list_in value_in has_key_of at_least serves fetch_place key_place filed is_long some_long kind steps saw_pending did_change found_full entry_of idle is_idle begun work_at is_bad stepped flag noted holding wrote records_in with_records store_in with_store answers_in with_answers client_in with_client told cleared opened renewed client is_short bad_columns is_unsound no_client all_idle open_code begin_code at_client step_code abandon_code evict_answer_code evict_node_code renew_code now_at store_back answered look_result fetch_result table_result file_result read_result announce_result write_table_result end_of raise_result write_result progress_of progress unless open_result begin_result step_result past_table retire_result abandoned_write abandoned_of abandoned abandon_result evict_answer_result evict_node_result renew_result untrayed call_result of_records of_number ask_fault list_within value_of may_answer read_labels ask_key ask_in write_labels change_kind kind_of key_of change_in write_in work_in work_fault steps_in_all is_write ask_of work_of fault_of is_full_for is_tally_full made_result mem_after with_clients_of carried tells carry_code carry_result
carried_mid_work = tt
