-- What a step's refusals have ruled out once none applies, for the caller: the premises of a read's step, and that the step is the read's.
-- Leans on rules and on clients. Assumes nothing.
use mathlib.Core.Path.{◌≡◌, sym, ap, ◌∙◌}
use mathlib.Core.List.{List}
use Prim.Native.Nat.{ℕ}
use native.Mathlib.Omega.{arith}
use borrow.Author.Tests.{eq-eqb}
use Rattle.rules.specs.Layout.{reads}
use Rattle.rules.specs.Work.{asking, work_in}
use Rattle.rules.specs.Client.{kind, steps, ask_at, work_at}
use Rattle.rules.specs.Memory.{current, Mem, mem, client_in}
use Rattle.rules.specs.Refusals.{shape, client, step_code}
use Rattle.rules.specs.Steps.{read_result, progress_of, progress}
use Rattle.rules.specs.Calls.{step_result}
use Rattle.rules.proofs.PassedChecks.{AtWork, step_passed}
use Rattle.hall.specs.declared.kind.Kind.TheVariants.{Read}
use Rattle.hall.specs.Kind.{kind_number}
use Rattle.clients.specs.declared.Held.{Held}
use Rattle.clients.specs.ClientContracts.{IsHeld, Reader, asked_at}
use Rattle.reading.specs.ReadContracts.{Steps}

-- a client of this kind is at work on what it asks
pub asks_there : (tb nd an cl : List ℕ) (d : ℕ) → kind (client_in current cl d) ≡ reads
    → work_at (shape (mem tb nd an cl)) (client (mem tb nd an cl) d) ≡ asking (asked_at cl d)
unfolding work_at work_in ask_at client
asks_there tb nd an cl d x = rw (eq-eqb (kind (client_in current cl d)) reads x)

-- h: what was read of the client
module _ (tb nd an cl : List ℕ) (d : ℕ) {h : Held} (i : IsHeld h cl d) (x : h.kind ≡ Read) where
  -- the memories of the call
  abbrev m : Mem
  m = mem tb nd an cl

  pub asks : work_at (shape m) (client m d) ≡ asking (asked_at cl d)
  asks = asks_there tb nd an cl d (sym i.kind ∙ ap kind_number x)

  -- and sound and busy, where the call's refusals have passed
  pub reader_at : AtWork m d → Reader h cl d
  unfolding client
  reader_at w = record {
    held = i;
    fit = record { long = (let l = w.0.long.clients in omega arith); below = w.1 };
    busy = rw (← asks) w.2;
  }

  module _ (tray : List ℕ) (e : step_code m tray d ≡ 0) where
    pub reads_on : Steps tb nd an cl tray d h
    reads_on =
        let t = step_passed m tray d e in
        let w = t.1 in
        let s = w.0 in
        let c = i.columns in
        record {
          read = reader_at w;
          listed = record { columns = (let l = s.least in omega arith, let l = s.most in omega arith); long = s.long.table; few = s.records };
          nodes = record { long = s.long.nodes; few = s.nodes };
          fit = record { long = (let l = s.long.answers in omega arith); few = s.answers };
          short = s.lists;
          room = t.0;
        }

    pub read_due : step_result m tray d ≡ read_result m tray d (asked_at cl d) (steps (client_in current cl d))
    unfolding step_result progress progress_of client
    read_due = rw (eq-eqb (step_code m tray d) 0 e, asks)
