-- Histories that fool a statement whose moments are not bound to their read, computed: a stale answer meets it. What `NeverBack`, `SeesEarlier`,
-- `InsertsSeen` and `DeletesSeen` say of moments, and why. Leans on demands' statements. Assumes nothing.
use mathlib.Core.Path.{◌≡◌, refl}
use mathlib.Core.Bool.{true, false}
use mathlib.Core.List.{List, [], ◌∷◌, map}
use Prim.Native.Nat.{ℕ, ◌<◌}
use native.Mathlib.Omega.{arith}
use lib.ListN.{length}
use Rattle.lists.specs.Lists.{same, before, keep, place, without, all_below, listed, padded, written, rows, flat, entries_in, with_entries}
use Rattle.query.specs.Query.{Record, admits, lies, naming, pick, read_node, write_node, named, read_count, write_count, read_nodes, write_nodes}
use Rattle.query.specs.Encoding.{column_of, query_of, well_marked, is_query, names_all, record_of, term_value, column_value, tag, tags, label_words, marks, key_words, columns_in, query_in, counts_in, count_key, range_of, range_in, range_key, wanted_key, unranged, bare_key}
use Rattle.query.specs.declared.Range.TheVariants.{None}
use Rattle.query.specs.Range.{within, is_named, is_range, is_reversed}
use Rattle.rules.specs.declared.Outcome.TheVariants.{Answered, Ended}
use Rattle.rules.specs.Table.{list_of, has, put_in, target, is_full as table_full, outside, effect, no_room, changes}
use Rattle.rules.specs.Work.{read_of, insert_of, delete_of, of_records, of_number, ask_fault, list_within, value_of, may_answer, read_labels, ask_key, ask_in, write_labels, change_kind, kind_of, key_of, change_in, write_in, work_in, work_fault, steps_in_all, is_write, ask_of, work_of, fault_of}
use Rattle.rules.specs.Nodes.{label_in, pending, revision, with_pending, with_revision, has_label, node_place, is_present, node_of, with_node, evict_node, added, is_free, oldest_free, make_room, added_in, ensured, announced_in, announced, is_pending, released, lifted, may_retire, retired, is_high, is_worn}
use Rattle.rules.specs.Answers.{key_in, length_in, revision_in, is_count, most_in, list_in, value_in, has_key_of, at_least, serves, fetch_place, key_place, filed, is_long as entry_long, some_long}
use Rattle.rules.specs.Client.{kind, steps, saw_pending, did_change, found_full, entry_of, idle, is_idle, begun, work_at, is_bad, stepped, flag, noted, holding, wrote}
use Rattle.rules.specs.Memory.{records_in, with_records, store_in, with_store, answers_in, with_answers, client_in, with_client, cleared, opened, renewed}
use Rattle.rules.specs.Refusals.{client, is_short, bad_columns, is_unsound, no_client, all_idle, open_code, begin_code, at_client, step_code, abandon_code, evict_answer_code, evict_node_code, renew_code}
use Rattle.rules.specs.Steps.{now_at, store_back, answered, look_result, fetch_result, table_result, file_result, read_result, announce_result, write_table_result, end_of, raise_result, write_result, progress_of, progress}
use Rattle.rules.specs.Calls.{unless, open_result, begin_result, step_result, past_table, retire_result, abandoned_write, abandoned_of, abandoned, abandon_result, evict_answer_result, evict_node_result, renew_result}
use Rattle.rules.specs.Outcome.{number}
use Rattle.rules.specs.History.{begin, step, untrayed, tray_of, call_result, is_accepted, plain_at_opening, note_at, table_after, one_step, fed_accepted, fed}
use Rattle.rules.specs.Tally.{is_full_for, is_tally_full, made_result, unlent, mem_after, plain_after}
use Rattle.demands.specs.WholeHistory.{History, mem_at, plain_at, made_at, call_at, result_at, accepted_at}
use Rattle.demands.specs.Corollaries.{TrueAt}
use Rattle.demands.proofs.Example.{lent, may_open, tray}
use Rattle.lists.specs.Lists.{stretch, with_stretch, joined, parts_in, with_parts, kept_in, with_kept, wholes, halves, wholes_at, halves_at}
use Rattle.rules.specs.Checks.{check_of, misfit, labelled, bared, check_for}
use Rattle.rules.specs.Memory.{wide_floor, with_wide_floor, node_from, node_to, entry_from, entry_to, told}
use Rattle.rules.specs.Nodes.{new_node}

abbrev five : List ℕ
five = 1 ∷ 5 ∷ []

abbrev star : List ℕ
star = 0 ∷ 0 ∷ []

-- the plain table's list of a query after the first j calls
abbrev list_at : History → List ℕ → ℕ → List Record
list_at h a j = list_within None (query_of a) (plain_at h j).table

-- ---- Two reads one after the other (`NeverBack`)
-- calls 0 to 5: insert of 5. 6 to 11: read of 5, from the table. 12 to 15: read again, from file. 16 to 21: delete of 5, its table step is call 19
abbrev back : History
back = record {
  lent = lent;
  k = 1;
  accepted = may_open;
  calls = unlent (
      begin 0 (insert_of five) ∷ step 0 tray ∷ step 0 tray ∷ step 0 tray ∷ step 0 tray ∷ step 0 tray
      ∷ begin 0 (read_of false None five) ∷ step 0 tray ∷ step 0 tray ∷ step 0 tray ∷ step 0 tray ∷ step 0 tray
      ∷ begin 0 (read_of false None five) ∷ step 0 tray ∷ step 0 tray ∷ step 0 tray
      ∷ begin 0 (delete_of five) ∷ step 0 tray ∷ step 0 tray ∷ step 0 tray ∷ step 0 tray ∷ step 0 tray ∷ []);
}

-- what the two reads answered with
pub back_real : ((result_at back 11).out ≡ Answered 1 false) × ((result_at back 15).out ≡ Answered 1 true)
unfolding stretch with_stretch joined parts_in with_parts kept_in with_kept wholes halves wholes_at halves_at check_of misfit labelled bared check_for wide_floor with_wide_floor node_from node_to entry_from entry_to told new_node read_nodes write_nodes same keep place without all_below listed padded written rows flat entries_in with_entries admits lies naming pick read_node write_node named read_count write_count column_of query_of well_marked is_query names_all record_of term_value column_value tag tags label_words marks key_words columns_in query_in counts_in count_key range_of range_in range_key wanted_key unranged bare_key is_named is_range is_reversed list_of before has put_in target outside effect no_room changes label_in pending revision with_pending with_revision has_label node_place is_present node_of with_node evict_node added is_free oldest_free make_room added_in ensured announced_in announced is_pending released lifted may_retire retired is_high is_worn key_in length_in revision_in is_count most_in list_in value_in has_key_of at_least serves fetch_place key_place filed some_long kind steps saw_pending did_change found_full entry_of idle is_idle begun work_at is_bad stepped flag noted holding wrote records_in with_records store_in with_store answers_in with_answers client_in with_client cleared opened renewed client is_short bad_columns is_unsound no_client all_idle open_code begin_code at_client step_code abandon_code evict_answer_code evict_node_code renew_code now_at store_back answered look_result fetch_result table_result file_result read_result announce_result write_table_result end_of raise_result write_result progress_of progress unless open_result begin_result step_result past_table retire_result abandoned_write abandoned_of abandoned abandon_result evict_answer_result evict_node_result renew_result untrayed call_result of_records of_number ask_fault list_within value_of may_answer read_labels ask_key ask_in write_labels change_kind kind_of key_of change_in write_in work_in work_fault steps_in_all is_write ask_of work_of fault_of is_full_for is_tally_full made_result mem_after within table_full entry_long tray_of is_accepted plain_at_opening note_at table_after one_step fed_accepted fed number plain_after mem_at plain_at made_at call_at result_at accepted_at
back_real = (refl, refl)

-- Had call 15 answered with no records, which was the list at no moment of that read, two moments without their bounds would still be found
pub fooled_back : (j : ℕ) × (j' : ℕ) × (j < j') × TrueAt back false None five 11 1 j × TrueAt back false None five 15 0 j'
unfolding stretch with_stretch joined parts_in with_parts kept_in with_kept wholes halves wholes_at halves_at check_of misfit labelled bared check_for wide_floor with_wide_floor node_from node_to entry_from entry_to told new_node read_nodes write_nodes same keep place without all_below listed padded written rows flat entries_in with_entries admits lies naming pick read_node write_node named read_count write_count column_of query_of well_marked is_query names_all record_of term_value column_value tag tags label_words marks key_words columns_in query_in counts_in count_key range_of range_in range_key wanted_key unranged bare_key is_named is_range is_reversed list_of before has put_in target outside effect no_room changes label_in pending revision with_pending with_revision has_label node_place is_present node_of with_node evict_node added is_free oldest_free make_room added_in ensured announced_in announced is_pending released lifted may_retire retired is_high is_worn key_in length_in revision_in is_count most_in list_in value_in has_key_of at_least serves fetch_place key_place filed some_long kind steps saw_pending did_change found_full entry_of idle is_idle begun work_at is_bad stepped flag noted holding wrote records_in with_records store_in with_store answers_in with_answers client_in with_client cleared opened renewed client is_short bad_columns is_unsound no_client all_idle open_code begin_code at_client step_code abandon_code evict_answer_code evict_node_code renew_code now_at store_back answered look_result fetch_result table_result file_result read_result announce_result write_table_result end_of raise_result write_result progress_of progress unless open_result begin_result step_result past_table retire_result abandoned_write abandoned_of abandoned abandon_result evict_answer_result evict_node_result renew_result untrayed call_result of_records of_number ask_fault list_within value_of may_answer read_labels ask_key ask_in write_labels change_kind kind_of key_of change_in write_in work_in work_fault steps_in_all is_write ask_of work_of fault_of is_full_for is_tally_full made_result mem_after within table_full entry_long tray_of is_accepted plain_at_opening note_at table_after one_step fed_accepted fed number plain_after mem_at plain_at made_at call_at result_at accepted_at
fooled_back = (12, 20, omega arith, record { counted = refl; records = refl }, record { counted = refl; records = refl })

-- With them none is: after each of the calls 12 to 15 the list has one record
pub back_bound : map (λ j. length (list_at back five j)) (13 ∷ 14 ∷ 15 ∷ 16 ∷ []) ≡ 1 ∷ 1 ∷ 1 ∷ 1 ∷ []
unfolding stretch with_stretch joined parts_in with_parts kept_in with_kept wholes halves wholes_at halves_at check_of misfit labelled bared check_for wide_floor with_wide_floor node_from node_to entry_from entry_to told new_node read_nodes write_nodes same keep place without all_below listed padded written rows flat entries_in with_entries admits lies naming pick read_node write_node named read_count write_count column_of query_of well_marked is_query names_all record_of term_value column_value tag tags label_words marks key_words columns_in query_in counts_in count_key range_of range_in range_key wanted_key unranged bare_key is_named is_range is_reversed list_of before has put_in target outside effect no_room changes label_in pending revision with_pending with_revision has_label node_place is_present node_of with_node evict_node added is_free oldest_free make_room added_in ensured announced_in announced is_pending released lifted may_retire retired is_high is_worn key_in length_in revision_in is_count most_in list_in value_in has_key_of at_least serves fetch_place key_place filed some_long kind steps saw_pending did_change found_full entry_of idle is_idle begun work_at is_bad stepped flag noted holding wrote records_in with_records store_in with_store answers_in with_answers client_in with_client cleared opened renewed client is_short bad_columns is_unsound no_client all_idle open_code begin_code at_client step_code abandon_code evict_answer_code evict_node_code renew_code now_at store_back answered look_result fetch_result table_result file_result read_result announce_result write_table_result end_of raise_result write_result progress_of progress unless open_result begin_result step_result past_table retire_result abandoned_write abandoned_of abandoned abandon_result evict_answer_result evict_node_result renew_result untrayed call_result of_records of_number ask_fault list_within value_of may_answer read_labels ask_key ask_in write_labels change_kind kind_of key_of change_in write_in work_in work_fault steps_in_all is_write ask_of work_of fault_of is_full_for is_tally_full made_result mem_after within table_full entry_long tray_of is_accepted plain_at_opening note_at table_after one_step fed_accepted fed number plain_after mem_at plain_at made_at call_at result_at accepted_at
back_bound = refl

-- ---- A count after an insert (`InsertsSeen`, and `DeletesSeen` likewise)
-- 0 to 5: insert of 6. 6 to 11: insert of 5. 12 to 16: a count of all. 17 to 22: delete of 6, its table step is call 20
abbrev counted : History
counted = record {
  lent = lent;
  k = 1;
  accepted = may_open;
  calls = unlent (
      begin 0 (insert_of (1 ∷ 6 ∷ [])) ∷ step 0 tray ∷ step 0 tray ∷ step 0 tray ∷ step 0 tray ∷ step 0 tray
      ∷ begin 0 (insert_of five) ∷ step 0 tray ∷ step 0 tray ∷ step 0 tray ∷ step 0 tray ∷ step 0 tray
      ∷ begin 0 (read_of true None star) ∷ step 0 tray ∷ step 0 tray ∷ step 0 tray ∷ step 0 tray
      ∷ begin 0 (delete_of (1 ∷ 6 ∷ [])) ∷ step 0 tray ∷ step 0 tray ∷ step 0 tray ∷ step 0 tray ∷ step 0 tray ∷ []);
}

pub count_real : ((result_at counted 11).out ≡ Ended true) × ((result_at counted 16).out ≡ Answered 2 false)
unfolding stretch with_stretch joined parts_in with_parts kept_in with_kept wholes halves wholes_at halves_at check_of misfit labelled bared check_for wide_floor with_wide_floor node_from node_to entry_from entry_to told new_node read_nodes write_nodes same keep place without all_below listed padded written rows flat entries_in with_entries admits lies naming pick read_node write_node named read_count write_count column_of query_of well_marked is_query names_all record_of term_value column_value tag tags label_words marks key_words columns_in query_in counts_in count_key range_of range_in range_key wanted_key unranged bare_key is_named is_range is_reversed list_of before has put_in target outside effect no_room changes label_in pending revision with_pending with_revision has_label node_place is_present node_of with_node evict_node added is_free oldest_free make_room added_in ensured announced_in announced is_pending released lifted may_retire retired is_high is_worn key_in length_in revision_in is_count most_in list_in value_in has_key_of at_least serves fetch_place key_place filed some_long kind steps saw_pending did_change found_full entry_of idle is_idle begun work_at is_bad stepped flag noted holding wrote records_in with_records store_in with_store answers_in with_answers client_in with_client cleared opened renewed client is_short bad_columns is_unsound no_client all_idle open_code begin_code at_client step_code abandon_code evict_answer_code evict_node_code renew_code now_at store_back answered look_result fetch_result table_result file_result read_result announce_result write_table_result end_of raise_result write_result progress_of progress unless open_result begin_result step_result past_table retire_result abandoned_write abandoned_of abandoned abandon_result evict_answer_result evict_node_result renew_result untrayed call_result of_records of_number ask_fault list_within value_of may_answer read_labels ask_key ask_in write_labels change_kind kind_of key_of change_in write_in work_in work_fault steps_in_all is_write ask_of work_of fault_of is_full_for is_tally_full made_result mem_after within table_full entry_long tray_of is_accepted plain_at_opening note_at table_after one_step fed_accepted fed number plain_after mem_at plain_at made_at call_at result_at accepted_at
count_real = (refl, refl)

-- Had call 16 answered 1, counting 6 and not 5, a moment without its bounds would still be found at which 5 is there and the count is 1
pub fooled_count : (j : ℕ) × TrueAt counted true None star 16 1 j × (has (5 ∷ []) (list_at counted star j) ≡ true)
unfolding stretch with_stretch joined parts_in with_parts kept_in with_kept wholes halves wholes_at halves_at check_of misfit labelled bared check_for wide_floor with_wide_floor node_from node_to entry_from entry_to told new_node read_nodes write_nodes same keep place without all_below listed padded written rows flat entries_in with_entries admits lies naming pick read_node write_node named read_count write_count column_of query_of well_marked is_query names_all record_of term_value column_value tag tags label_words marks key_words columns_in query_in counts_in count_key range_of range_in range_key wanted_key unranged bare_key is_named is_range is_reversed list_of before has put_in target outside effect no_room changes label_in pending revision with_pending with_revision has_label node_place is_present node_of with_node evict_node added is_free oldest_free make_room added_in ensured announced_in announced is_pending released lifted may_retire retired is_high is_worn key_in length_in revision_in is_count most_in list_in value_in has_key_of at_least serves fetch_place key_place filed some_long kind steps saw_pending did_change found_full entry_of idle is_idle begun work_at is_bad stepped flag noted holding wrote records_in with_records store_in with_store answers_in with_answers client_in with_client cleared opened renewed client is_short bad_columns is_unsound no_client all_idle open_code begin_code at_client step_code abandon_code evict_answer_code evict_node_code renew_code now_at store_back answered look_result fetch_result table_result file_result read_result announce_result write_table_result end_of raise_result write_result progress_of progress unless open_result begin_result step_result past_table retire_result abandoned_write abandoned_of abandoned abandon_result evict_answer_result evict_node_result renew_result untrayed call_result of_records of_number ask_fault list_within value_of may_answer read_labels ask_key ask_in write_labels change_kind kind_of key_of change_in write_in work_in work_fault steps_in_all is_write ask_of work_of fault_of is_full_for is_tally_full made_result mem_after within table_full entry_long tray_of is_accepted plain_at_opening note_at table_after one_step fed_accepted fed number plain_after mem_at plain_at made_at call_at result_at accepted_at
fooled_count = (21, record { counted = refl; untouched = refl }, refl)

-- With them none is: after each of the calls 12 to 16 there are two
pub count_bound : map (λ j. length (list_at counted star j)) (13 ∷ 14 ∷ 15 ∷ 16 ∷ 17 ∷ []) ≡ 2 ∷ 2 ∷ 2 ∷ 2 ∷ 2 ∷ []
unfolding stretch with_stretch joined parts_in with_parts kept_in with_kept wholes halves wholes_at halves_at check_of misfit labelled bared check_for wide_floor with_wide_floor node_from node_to entry_from entry_to told new_node read_nodes write_nodes same keep place without all_below listed padded written rows flat entries_in with_entries admits lies naming pick read_node write_node named read_count write_count column_of query_of well_marked is_query names_all record_of term_value column_value tag tags label_words marks key_words columns_in query_in counts_in count_key range_of range_in range_key wanted_key unranged bare_key is_named is_range is_reversed list_of before has put_in target outside effect no_room changes label_in pending revision with_pending with_revision has_label node_place is_present node_of with_node evict_node added is_free oldest_free make_room added_in ensured announced_in announced is_pending released lifted may_retire retired is_high is_worn key_in length_in revision_in is_count most_in list_in value_in has_key_of at_least serves fetch_place key_place filed some_long kind steps saw_pending did_change found_full entry_of idle is_idle begun work_at is_bad stepped flag noted holding wrote records_in with_records store_in with_store answers_in with_answers client_in with_client cleared opened renewed client is_short bad_columns is_unsound no_client all_idle open_code begin_code at_client step_code abandon_code evict_answer_code evict_node_code renew_code now_at store_back answered look_result fetch_result table_result file_result read_result announce_result write_table_result end_of raise_result write_result progress_of progress unless open_result begin_result step_result past_table retire_result abandoned_write abandoned_of abandoned abandon_result evict_answer_result evict_node_result renew_result untrayed call_result of_records of_number ask_fault list_within value_of may_answer read_labels ask_key ask_in write_labels change_kind kind_of key_of change_in write_in work_in work_fault steps_in_all is_write ask_of work_of fault_of is_full_for is_tally_full made_result mem_after within table_full entry_long tray_of is_accepted plain_at_opening note_at table_after one_step fed_accepted fed number plain_after mem_at plain_at made_at call_at result_at accepted_at
count_bound = refl
