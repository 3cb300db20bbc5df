-- Memories that an accepted opening leaves fit, and stand for the machine's opened state. Leans on Abstraction and ClientPhases, and on rules'
-- OpenedLaws. Assumes nothing.
use mathlib.Core.Path.{◌≡◌, fun_ext}
use mathlib.Core.List.{[], map}
use Prim.Native.Nat.{ℕ, ◌≤◌}
use native.Mathlib.Omega.{arith}
use lib.Dec.{ltb}
use borrow.Author.Tests.{ltb-true}
use Rattle.laws.proofs.TestLaws.{by_test}
use Rattle.laws.proofs.Members.{in_none}
use Rattle.query.specs.Shape.{Shape, shape_of, max_columns}
use Rattle.rules.specs.Layout.{max_clients}
use Rattle.rules.specs.Memory.{Mem, answers_in, store_in, opened}
use Rattle.rules.specs.Nodes.{store}
use Rattle.rules.specs.Refusals.{form, shape, columns, open_code}
use Rattle.rules.specs.Client as rules
use Rattle.rules.specs.Sound.{Long}
use Rattle.rules.proofs.ClientLaws.{idle_is, idle_sound}
use Rattle.rules.proofs.PassedChecks.{open_passed}
use Rattle.rules.proofs.OpenedLaws.{opened_form, opened_columns, opened_client, no_records, opened_records, no_nodes, opened_store, no_answers, opened_answers, opened_long}
use Rattle.machine.specs.Machine.{idle}
use Rattle.machine.specs.Machine as machine
use Rattle.refinement.proofs.Abstraction.{ans_of, phases_of, filed_of, state_of, Fits}
use Rattle.refinement.proofs.ClientPhases.{idle_at}

module _ (m : Mem) (sh : Shape) (l : Long m) where
  -- in the form that they are read in then
  none_filed : answers_in (form (opened sh m)) (opened sh m).answers ≡ []
  none_filed = rw (opened_form m sh l) (opened_answers m sh l)

  no_store : store_in (form (opened sh m)) (opened sh m).nodes ≡ store 1 []
  no_store = rw (opened_form m sh l) (opened_store m sh l)

  fits_opened : 1 ≤ sh.columns → sh.columns ≤ max_columns → Fits (opened sh m)
  fits_opened lo hi = record {
    long = opened_long m sh l;
    some = rw (opened_columns m sh l) lo;
    few = rw (opened_columns m sh l) hi;
    records = let z = no_records m sh l in omega arith;
    nodes = let z = no_nodes m sh l in omega arith;
    answers = let z = no_answers m sh l in omega arith;
    kept = λ e i. in_none (rw none_filed at i);
    sound = λ d h. rw (opened_client m sh l d h) (idle_sound (shape (opened sh m)) rules.idle idle_is);
  }

  clients_opened : (d : ℕ) → phases_of (opened sh m) d ≡ idle
  unfolding phases_of
  clients_opened d =
      by_test (ltb d max_clients)
      (λ t. rw (t, opened_client m sh l d (ltb-true d max_clients t)) (idle_at (shape (opened sh m)) rules.idle idle_is))
      (λ t. rw t)

  state_opened : state_of (opened sh m) ≡ machine.opened sh
  unfolding state_of filed_of machine.opened
  state_opened = λ i. record {
    shape = shape_of (opened_columns m sh l i);
    tab = opened_records m sh l (columns (opened sh m)) i;
    store = no_store i;
    filed = map (ans_of (shape (opened sh m))) (none_filed i);
    clients = fun_ext clients_opened i;
  }

pub opened_fits : (m : Mem) (k : ℕ) → open_code m k ≡ 0 → Fits (opened (shape_of k) m) × (state_of (opened (shape_of k) m) ≡ machine.opened (shape_of k))
opened_fits m k e =
    let t = open_passed m k e in
    (fits_opened m (shape_of k) t.0 t.1.0 t.1.1, state_opened m (shape_of k) t.0)
