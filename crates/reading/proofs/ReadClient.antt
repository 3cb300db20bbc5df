-- What a reading client is known to hold, and which step is due. Leans on rules and on the laws of clients. Assumes nothing.
use mathlib.Core.Path.{◌≡◌, ap, ◌∙◌}
use mathlib.Core.Bool.{true, false}
use mathlib.Core.List.{List, []}
use Prim.Native.Nat.{ℕ, ◌+◌, ◌-◌, ◌≤◌, ◌<◌}
use native.Mathlib.Omega.{arith}
use lib.ListN.{length, get_or}
use borrow.Author.Tests.{lt-ltb, le-ltb, eq-eqb, ne_eqb}
use Rattle.query.specs.Query.{Query, read_count}
use Rattle.query.specs.declared.Range.{Range}
use Rattle.query.specs.Range.{is_range, is_reversed}
use Rattle.query.specs.Shape.{shape_of}
use Rattle.query.proofs.EncodingLaws.{columns_length}
use Rattle.rules.specs.Work.{Ask, list_within, value_of, read_labels, ask_in, work_fault, steps_in_all}
use Rattle.rules.proofs.WorkLaws.{fault_none}
use Rattle.rules.specs.Nodes.{ensured}
use Rattle.rules.specs.Answers.{fetch_place}
use Rattle.rules.specs.Client.{entry_of, query_at, range_at, ask_at}
use Rattle.rules.specs.Memory.{current, Mem, client_in, store_in, answers_in, records_in}
use Rattle.rules.specs.Refusals.{form, columns, client}
use Rattle.rules.specs.Steps.{look_result, fetch_result, table_result, file_result, read_result}
use Rattle.clients.specs.declared.Held.{Held}
use Rattle.clients.specs.ClientContracts.{Reader, asked_at, held_query}
use Rattle.clients.proofs.HeldLaws.{at_query, reader_looks}
use Rattle.reading.specs.ReadContracts.{looks, made, asked_for}

-- ---- what a reader holds
module _ {h : Held} {clients : List ℕ} {d : ℕ} (r : Reader h clients d) where
  few_steps : made clients d < looks clients d + 3
  unfolding steps_in_all
  few_steps = r.busy.going

  -- q: the query that the code makes of what was read, g: the range that it reads
  module _ (q : Query) (e : q ≡ held_query h) where
    pub query_width : length q ≡ h.query.k
    query_width = ap length e ∙ columns_length h.query.k h.query.marks h.query.values

    module _ (g : Range) (a : g ≡ range_at (client_in current clients d)) where
      -- they are such as a begin takes
      pub range_there : is_range (shape_of (length q)) q g ≡ true
      unfolding work_fault ask_at ask_in query_at range_at
      range_there = rw (query_width, e ∙ at_query r, a, r.held.columns) (fault_none (asked_at clients d) r.busy.fault).0

      pub range_ordered : is_reversed g ≡ false
      unfolding work_fault ask_at ask_in range_at
      range_ordered = rw a (fault_none (asked_at clients d) r.busy.fault).1

      -- and what they take of a table is what the client asks for
      pub takes : (s : List ℕ) → list_within g q (records_in (length q) s) ≡ asked_for h.query.k s clients d
      takes s = rw (query_width, e ∙ at_query r, a)

  -- ---- which step is due, where n looks are counted and x steps were made since
  module _ (n : ℕ) (e : n ≡ read_count (held_query h)) where
    pub look_due : (n ≤ h.steps → ⊥) → made clients d < looks clients d
    look_due z = let l = reader_looks r in omega (arith, r.held.steps)

    module _ (x : ℕ) (i : (n ≤ h.steps) × (x ≡ h.steps - n)) where
      pub fetch_due : x ≡ 0 → made clients d ≡ looks clients d
      fetch_due z = let l = reader_looks r in omega (arith, r.held.steps, i.0, i.1)

      pub table_due : x ≡ 1 → made clients d ≡ looks clients d + 1
      table_due z = let l = reader_looks r in omega (arith, r.held.steps, i.0, i.1)

      pub file_due : (x ≡ 0 → ⊥) → (x ≡ 1 → ⊥) → made clients d ≡ looks clients d + 2
      file_due y z = let l = reader_looks r in omega (arith, r.held.steps, few_steps, i.0, i.1, y, z)

-- ---- which step it is
module _ (m : Mem) (y : List ℕ) (d : ℕ) (x : Ask) (i : ℕ) where
  pub look_is : i < length (read_labels x) → read_result m y d x i ≡ look_result m y d i (get_or (read_labels x) i []) (ensured (get_or (read_labels x) i []) (store_in (form m) m.nodes))
  unfolding read_result
  look_is h = rw (lt-ltb i (length (read_labels x)) h)

  pub fetch_is : i ≡ length (read_labels x) → read_result m y d x i ≡ fetch_result m y d (fetch_place (length (read_labels x)) (entry_of (client m d)) (answers_in (form m) m.answers))
  unfolding read_result
  fetch_is h = rw (le-ltb i (length (read_labels x)) (omega arith), eq-eqb i (length (read_labels x)) h)

  pub table_is : i ≡ length (read_labels x) + 1 → read_result m y d x i ≡ table_result m y d x (value_of x (records_in (columns m) m.table))
  unfolding read_result
  table_is h = rw (le-ltb i (length (read_labels x)) (omega arith), ne_eqb i (length (read_labels x)) (λ e. omega arith), eq-eqb i (length (read_labels x) + 1) h)

  pub file_is : i ≡ length (read_labels x) + 2 → read_result m y d x i ≡ file_result m y d (entry_of (client m d))
  unfolding read_result
  file_is h = rw (le-ltb i (length (read_labels x)) (omega arith), ne_eqb i (length (read_labels x)) (λ e. omega arith), ne_eqb i (length (read_labels x) + 1) (λ e. omega arith))
