-- What a step's refusals and an abandoning's have ruled out once none applies, for the callers: that a client which is no reader is a
-- writer, and that its next step or its abandoning is the call's. Leans on rules, clients and table. Assumes nothing.
use mathlib.Core.Path.{◌≡◌, refl, ◌∙◌}
use mathlib.Core.List.{List}
use Prim.Native.Nat.{ℕ}
use native.Mathlib.Omega.{arith}
use borrow.Author.Tests.{eq-eqb, ne_eqb}
use Rattle.rules.specs.Layout.{reads}
use Rattle.rules.specs.Work.{writing, work_in}
use Rattle.rules.specs.Client.{kind, write_at, work_at}
use Rattle.rules.specs.Memory.{current, Mem, mem, client_in}
use Rattle.rules.specs.Refusals.{shape, client, step_code, abandon_code}
use Rattle.rules.specs.Sound.{Sound}
use Rattle.rules.specs.Steps.{progress_of, progress}
use Rattle.rules.specs.Calls.{unless, step_result, abandoned_of, abandoned, abandon_result}
use Rattle.rules.proofs.PassedChecks.{AtWork, step_passed, abandon_passed}
use Rattle.hall.specs.declared.kind.Kind.{Kind}
use Rattle.hall.specs.declared.kind.Kind.TheVariants.{Read, Insert, Delete}
use Rattle.hall.specs.Kind.{kind_number}
use Rattle.table.specs.TableContracts
use Rattle.clients.specs.declared.Held.{Held}
use Rattle.clients.specs.ClientContracts.{IsHeld, Writer, written_at}
use Rattle.writing.specs.WriteContracts.{step_of, abandon_of}

-- the number of a read is no other kind's
pub reads_read : (k : Kind) → kind_number k ≡ reads → k ≡ Read
reads_read Read e = refl
reads_read Insert e = absurd (omega arith)
reads_read Delete e = absurd (omega arith)

-- the table has as many columns as were read
pub table_held : (m : Mem) (k : ℕ) → k ≡ (shape m).columns → Sound m → TableContracts.Fit k m.table
table_held m k e s =
    record { columns = (let l = s.least in omega arith, let l = s.most in omega arith); long = s.long.table; few = s.records }

-- h is what was read of the client
module _ (tb nd an cl : List ℕ) (d : ℕ) (h : Held) (i : IsHeld h cl d) (x : h.kind ≡ Read → ⊥) where
  -- the memories of the call
  abbrev m : Mem
  m = mem tb nd an cl

  -- it is at work on what it writes
  writes : work_at (shape m) (client m d) ≡ writing (written_at cl d)
  unfolding work_at work_in write_at client
  writes = rw (ne_eqb (kind (client_in current cl d)) reads (λ y. x (reads_read h.kind (i.kind ∙ y))))

  pub writer_at : AtWork m d → Writer h cl d
  unfolding client
  writer_at w = record {
    held = i;
    fit = record { long = (let l = w.0.long.clients in omega arith); below = w.1 };
    busy = rw (← writes) w.2;
  }

  module _ (tray : List ℕ) (e : step_code m tray d ≡ 0) where
    pub writes_on : Writer h cl d
    writes_on = writer_at (step_passed m tray d e).1

    pub write_due : step_of m tray d ≡ step_result m tray d
    unfolding step_result progress progress_of client
    write_due = rw (eq-eqb (step_code m tray d) 0 e, writes)

  module _ (e : abandon_code m d ≡ 0) where
    pub gives_up : Writer h cl d
    gives_up = writer_at (abandon_passed m d e)

    pub abandon_due : abandon_of m d ≡ abandon_result m d
    unfolding abandon_result unless abandoned abandoned_of client
    abandon_due = rw (eq-eqb (abandon_code m d) 0 e, writes)
