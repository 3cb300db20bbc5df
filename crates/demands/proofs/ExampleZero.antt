-- Why S-5 has sharing in demand 2's last sentence and not meeting: with "meeting" left in it would be false. k 1 and an empty table: a read of
-- 0 files its empty list; an insert of 0, which does not meet that read ("A named 0 is never equal to anything") and shares its node, runs to
-- its end; the next read of 0 finds the answer on file and does not get it. All of it is computed, in one pass over the calls. Leans on the
-- definitions of demands, on Unlent and on Example, whose memories it opens. Assumes nothing.
use mathlib.Core.Path.{◌≡◌, refl}
use mathlib.Core.Bool.{Bool, true, false, cond, not, ◌&&◌}
use mathlib.Core.List.{List, [], ◌∷◌}
use Prim.Native.Nat.{ℕ, ◌+◌}
use lib.Dec.{eqb, leb}
use lib.ListN.{length, get_or}
use Rattle.lists.specs.Lists.{same, before, keep, place, without, all_below, listed, padded, written, rows, flat, entries_in, with_entries, is_in, any_in}
use Rattle.lists.specs.Lists.{stretch, with_stretch, joined, parts_in, with_parts, kept_in, with_kept, wholes, halves, wholes_at, halves_at}
use Rattle.query.specs.declared.Range.TheVariants.{None}
use Rattle.query.specs.Query.{admits, lies, is_zero, names_zero, naming, pick, read_node, write_node, named, read_nodes, write_nodes, read_count, write_count}
use Rattle.query.specs.Range.{within, is_range, is_reversed}
use Rattle.query.specs.Encoding.{column_of, query_of, well_marked, is_query, names_all, record_of, term_value, column_value, tag, tags, label_words, marks, key_words, counts_in, count_key, range_of, range_in, range_key, wanted_key, unranged, bare_key}
use Rattle.query.specs.Encoding.{columns_in, query_in}
use Rattle.query.specs.Graph.{agree_in, agree, meets}
use Rattle.rules.specs.declared.Outcome.{Outcome}
use Rattle.rules.specs.declared.Outcome.TheVariants.{Refused, Accepted, Answered, Long, Ended, Full}
use Rattle.rules.specs.Table.{list_of, has, put_in, target, is_full, effect, no_room, changes, meets_write}
use Rattle.rules.specs.Nodes.{label_in, pending, revision, with_pending, with_revision, has_label, node_place, is_present, node_of, with_node, evict_node}
use Rattle.rules.specs.Nodes.{new_node, added, is_free, oldest_free, make_room, added_in, ensured, announced_in, announced, is_pending, released, lifted, may_retire, retired, is_high, is_worn}
use Rattle.rules.specs.Answers.{key_in, length_in, revision_in, list_in, value_in, has_key_of, at_least, serves, fetch_place, key_place, filed, is_long, some_long, is_count, most_in}
use Rattle.rules.specs.Client.{kind, steps, saw_pending, did_change, found_full, entry_of, idle, is_idle, begun, ask_at, write_at, work_at, is_bad, stepped, flag, noted, holding, wrote}
use Rattle.query.specs.Shape.{shape_of}
use Rattle.rules.specs.Memory.{Mem, records_in, with_records, store_in, with_store, answers_in, with_answers, client_in, with_client, cleared, opened}
use Rattle.rules.specs.Memory.{wide_floor, with_wide_floor, node_from, node_to, entry_from, entry_to, told}
use Rattle.rules.specs.Checks.{check_of, misfit, labelled, bared, check_for}
use Rattle.rules.specs.Refusals.{form, client, is_short, bad_columns, is_unsound, no_client, open_code, begin_code, at_client, step_code, shape}
use Rattle.rules.specs.Steps.{now_at, store_back, answered, look_result, fetch_result, table_result, file_result, read_result, announce_result, write_table_result}
use Rattle.rules.specs.Steps.{end_of, raise_result, write_result, progress_of, progress}
use Rattle.rules.specs.Calls.{unless, begin_result, step_result}
use Rattle.rules.specs.History.{Call, begin, step, untrayed}
use Rattle.rules.specs.History.{call_result}
use Rattle.demands.specs.Demand2.{is_open, none_open, is_quiet, still_there, keeps_nodes, is_unmet}
use Rattle.rules.specs.Work.{Ask, ask_fault, list_within, read_of, insert_of, of_records, value_of, may_answer, read_labels, write_labels, ask_key, ask_in, change_kind, kind_of, key_of, change_in, write_in, Request, shares}
use Rattle.rules.specs.Work.{work_in, work_fault, steps_in_all, is_write, ask_of, work_of, fault_of, of_number}
use Rattle.machine.specs.Machine.{same_ask, same_shape, same_query, same_column, same_wanted, same_range}
use Rattle.rules.specs.Layout.{reads}
use Rattle.demands.proofs.Unlent.{all_pass}
use Rattle.demands.proofs.Example.{tray, lent}

abbrev pub asked : List ℕ
asked = 1 ∷ 0 ∷ []

abbrev pub run : ℕ → Request → List Call → List Call
run d r cs = begin d r ∷ step d tray ∷ step d tray ∷ step d tray ∷ step d tray ∷ step d tray ∷ cs

-- calls 0 to 5: the read of 0, which files; 6 to 11: the insert of 0; 12 to 15: the read of 0 again, up to its fetch
abbrev pub played : List Call
played = run 0 (read_of false None asked) (run 1 (insert_of asked) (begin 0 (read_of false None asked) ∷ step 0 tray ∷ step 0 tray ∷ step 0 tray ∷ []))

abbrev pub x : Ask
x = ask_of (shape_of 1) false None asked

-- the client at desk 0 is a reader that asks x and has made so many steps
abbrev pub reading : Mem → ℕ → Bool
reading m n =
    not (is_idle (client m 0)) && (eqb (kind (client m 0)) reads && (same_ask (ask_at (shape m) (client m 0)) x && eqb (steps (client m 0)) n))

-- one answer is on file, to x
abbrev pub on_file : Mem → Bool
on_file m = eqb (length (answers_in (form m) m.answers)) 1 && same (key_in (get_or (answers_in (form m) m.answers) 0 [])) (ask_key x)

-- nothing is ended
abbrev pub goes : Outcome → Bool
goes Accepted = true
goes (Refused n) = false
goes (Answered n b) = false
goes Long = false
goes (Ended b) = false
goes Full = false

-- Call 5 is a file step and files, and call 15 is a fetch that finds the answer on file, and goes on without it.
abbrev pub misses : ℕ → Mem → Call → Bool
misses i m c =
    cond (eqb i 5) (reading m (length (read_labels x) + 2) && on_file (call_result m c).mem)
    (cond (eqb i 15) (reading m (length (read_labels x)) && (on_file m && goes (call_result m c).out)) true)

-- Of call i, on the memories that it finds: no write that meets the query is open, and none of its nodes is put out; from the insert's begin to
-- its end, and then only, a write is open that shares one.
abbrev pub holds : ℕ → Mem → Call → Bool
holds i m c =
    is_unmet x.query m
    && (keeps_nodes x m (call_result m c).mem && (cond (leb 7 i && leb i 11) (not (is_quiet x m)) (is_quiet x m) && misses i m c))

abbrev pub all : ℕ → Mem → List Call → Bool
all i m cs = all_pass holds i m cs

pub meeting_would_fail : all 0 (opened (shape_of 1) lent) played ≡ true
unfolding same before keep place without all_below listed padded written rows flat entries_in with_entries stretch with_stretch joined parts_in with_parts kept_in with_kept wholes halves wholes_at halves_at check_of misfit labelled bared check_for wide_floor with_wide_floor node_from node_to entry_from entry_to told admits lies naming pick read_node write_node named read_nodes write_nodes read_count write_count column_of query_of well_marked is_query names_all record_of term_value column_value tag tags label_words marks key_words columns_in query_in counts_in count_key range_of range_in range_key wanted_key unranged bare_key within is_range is_reversed list_of has put_in target is_full effect no_room changes label_in pending revision with_pending with_revision has_label node_place is_present node_of with_node new_node added is_free oldest_free make_room added_in ensured announced_in announced is_pending released lifted may_retire retired is_high is_worn key_in length_in revision_in is_count most_in list_in value_in has_key_of at_least serves fetch_place key_place filed is_long some_long kind steps saw_pending did_change found_full entry_of idle is_idle begun ask_at write_at work_at is_bad stepped flag noted holding wrote records_in with_records store_in with_store answers_in with_answers client_in with_client cleared opened client is_short bad_columns is_unsound no_client open_code begin_code at_client step_code now_at store_back answered look_result fetch_result table_result file_result read_result announce_result write_table_result end_of raise_result write_result progress_of progress unless begin_result step_result untrayed call_result is_open none_open is_quiet still_there keeps_nodes of_records of_number ask_fault list_within value_of may_answer read_labels write_labels ask_key ask_in change_kind kind_of key_of change_in write_in work_in work_fault steps_in_all is_write ask_of work_of fault_of agree_in agree meets is_zero names_zero meets_write any_in is_in shares is_unmet evict_node same_ask same_shape same_query same_column same_wanted same_range all_pass
meeting_would_fail = refl
