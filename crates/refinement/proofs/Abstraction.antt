-- Which state of the machine the four memories stand for, which call and which result; and what memories that a history leaves keep to.
-- Leans on rules and machine. Assumes nothing.
use mathlib.Core.Path.{◌≡◌}
use mathlib.Core.Bool.{Bool, true, false, cond}
use mathlib.Core.List.{List, [], map}
use Prim.Native.Nat.{ℕ, ◌+◌, ◌-◌, ◌*◌, ◌≤◌, ◌<◌}
use lib.Dec.{eqb, ltb, leb}
use lib.ListN.{length, get_or, take}
use Rattle.lists.specs.Lists.{In}
use Rattle.query.specs.Shape.{Shape, max_columns}
use Rattle.rules.specs.Layout.{max_records, max_nodes, max_answers, max_clients}
use Rattle.rules.specs.Layout.{record_count_offset, node_count_offset, answer_count_offset, entry_width, answers_end}
use Rattle.rules.specs.declared.Outcome.{Outcome}
use Rattle.rules.specs.declared.Outcome.TheVariants.{Refused, Accepted, Answered, Long, Ended, Full}
use Rattle.rules.specs.Work.{Ask, Value, read_labels, ask_in, is_ask_key, Write, write_labels, Work, asking, writing, work_of}
use Rattle.rules.specs.Answers.{Entry, key_in, revisions_in, is_count, is_long, value_in}
use Rattle.rules.specs.Client.{Client, steps, saw_pending, did_change, found_full, entry_of, work_at, is_idle, is_bad}
use Rattle.rules.specs.Memory.{Mem, records_in, store_in, answers_in}
use Rattle.rules.specs.Refusals.{form, columns, client, shape}
use Rattle.rules.specs.Outcome.{StepResult}
use Rattle.rules.specs.Sound as memories
use Rattle.rules.specs.History as rules
use Rattle.rules.proofs.MemoryLaws as memory
use Rattle.laws.proofs.RowLaws.{Wide}
use Rattle.revisions.proofs.NodeRows.{AllRows}
use Rattle.machine.specs.Machine.{Phase, idle, looking, tabling, filing, announcing, raising, Ans, State, Response}
use Rattle.machine.specs.Machine as machine

-- ---- Filed answers
-- the revisions noted in an entry at all nodes of what is asked
abbrev pub noted_of : Ask → Entry → List ℕ
noted_of x e = revisions_in (length (read_labels x)) e

unfoldable pub ans_of : Shape → Entry → Ans
ans_of sh e = record { query = ask_in sh (key_in e); revs = noted_of (ask_in sh (key_in e)) e; list = value_in sh e }

-- ---- Desks
-- a reader with the entry e that has made i steps
unfoldable pub reader_of : Shape → Ask → Entry → ℕ → Bool → Phase
reader_of sh x e i saw =
    cond (leb i (length (read_labels x))) (looking x (revisions_in i e) saw)
    (cond (eqb i (length (read_labels x) + 1)) (tabling x (noted_of x e) saw) (filing x (noted_of x e) (value_in sh e)))

-- a writer that has made i steps
unfoldable pub writer_of : Write → ℕ → Bool → Bool → Phase
writer_of w i changed full =
    cond (leb i (length (write_labels w))) (announcing w i) (raising w (i - (length (write_labels w) + 1)) changed full)

-- a busy client, by its work
unfoldable pub busy_phase : Shape → Client → Work → Phase
busy_phase sh c (asking x) = reader_of sh x (entry_of c) (steps c) (saw_pending c)
busy_phase sh c (writing w) = writer_of w (steps c) (did_change c) (found_full c)

unfoldable pub phase_of : Shape → Client → Phase
phase_of sh c = cond (is_idle c) idle (busy_phase sh c (work_at sh c))

-- ---- The state
unfoldable pub phases_of : Mem → ℕ → Phase
phases_of m d = cond (ltb d max_clients) (phase_of (shape m) (client m d)) idle

unfoldable pub filed_of : Mem → List Ans
filed_of m = map (ans_of (shape m)) (answers_in (form m) m.answers)

unfoldable pub state_of : Mem → State
state_of m = record {
  shape = shape m;
  tab = records_in (columns m) m.table;
  store = store_in (form m) m.nodes;
  filed = filed_of m;
  clients = phases_of m;
}

-- ---- Calls and results
unfoldable pub call_of : Shape → rules.Call → machine.Call
call_of sh (rules.begin d r) = machine.begin d (work_of sh r)
call_of sh (rules.step d tray) = machine.step d
call_of sh (rules.abandon d) = machine.abandon d
call_of sh (rules.evict_answer i) = machine.evicts_answer i
call_of sh (rules.evict_node i) = machine.evicts_node i
call_of sh rules.renew = machine.renew

-- an answer's records are read from the tray: k numbers each, from its start; a count's answer has none, whatever the tray holds
abbrev pub said : Shape → Bool → List ℕ → ℕ → Value
said sh true tray n = record { count = n; numbers = [] }
said sh false tray n = record { count = n; numbers = take (n * sh.columns) tray }

unfoldable pub response_in : Shape → Bool → List ℕ → Outcome → Response
response_in sh counts tray (Refused n) = machine.refused n
response_in sh counts tray Accepted = machine.went
response_in sh counts tray (Answered n cached) = machine.answered (said sh counts tray n) cached
response_in sh counts tray Long = machine.long
response_in sh counts tray (Ended changed) = machine.ended changed
response_in sh counts tray Full = machine.full

unfoldable pub response_of : Shape → Bool → StepResult → Response
response_of sh counts x = response_in sh counts x.tray x.out

-- whether a call is a step of a desk that wants a count
unfoldable pub counts_at : Mem → machine.Call → Bool
counts_at m (machine.begin d x) = false
counts_at m (machine.step d) = is_count (entry_of (client m d))
counts_at m (machine.abandon d) = false
counts_at m (machine.evicts_answer i) = false
counts_at m (machine.evicts_node i) = false
counts_at m machine.renew = false

-- ---- Memories that a history leaves
-- a filed answer is to an ask of the hall, and has at most 32 records, or is a count of at most 2,048
pub record Kept (sh : Shape) (e : Entry) : Type 0 where
  pub key : is_ask_key sh (key_in e) ≡ true
  pub short : is_long e ≡ false

pub record Fits (m : Mem) : Type 0 where
  pub long : memories.Long m
  pub some : 1 ≤ columns m
  pub few : columns m ≤ max_columns
  pub records : get_or m.table record_count_offset 0 ≤ max_records
  pub nodes : get_or m.nodes node_count_offset 0 ≤ max_nodes
  pub answers : get_or m.answers answer_count_offset 0 ≤ max_answers
  pub kept : (e : Entry) → In e (answers_in (form m) m.answers) → Kept (shape m) e
  pub sound : (d : ℕ) → d < max_clients → is_bad (shape m) (client m d) ≡ false

-- such an answers memory has room for every entry, and in such memories every entry has its width
module _ (m : Mem) (f : Fits m) where
  pub answers_room : answers_end (form m) ≤ length m.answers
  answers_room = memory.answers_room (form m) (shape m) (length m.answers) f.long.answers

  pub rows_held : AllRows (store_in (form m) m.nodes).nodes
  rows_held = memory.wide_nodes (form m) m.nodes f.long.nodes f.nodes

  pub records_held : Wide (columns m) (records_in (columns m) m.table)
  records_held = memory.wide_records (columns m) m.table f.few f.long.table f.records

  pub answers_held : Wide entry_width (answers_in (form m) m.answers)
  answers_held = memory.wide_answers (form m) m.answers answers_room f.answers
