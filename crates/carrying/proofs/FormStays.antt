-- No call alters the number by which a desks memory tells its form. Leans on rules' calls. Assumes nothing.
use mathlib.Core.Path.{◌≡◌, refl, ◌∙◌}
use mathlib.Core.Bool.{Bool, true, false, cond, not, ◌&&◌}
use mathlib.Core.Option.{Option, none, some}
use mathlib.Core.List.{List, [], ◌∷◌}
use Prim.Native.Nat.{ℕ, ◌+◌, ◌<◌}
use native.Mathlib.Omega.{arith}
use lib.Dec.{eqb, ltb}
use lib.ListN.{length, get_or}
use borrow.Author.Tests.{eqb-true}
use Rattle.laws.proofs.TestLaws.{by_test}
use Rattle.rules.specs.Layout.{max_clients, form_offset}
use Rattle.rules.specs.declared.Outcome.{Outcome}
use Rattle.rules.specs.Nodes.{Words, Store}
use Rattle.rules.specs.Work.{Ask, Value, may_answer, read_labels, write_labels, Work, asking, writing}
use Rattle.rules.specs.Answers.{Entry}
use Rattle.rules.specs.Table.{Change}
use Rattle.rules.specs.Client.{Client, saw_pending, steps, work_at}
use Rattle.rules.specs.Memory.{Mem, with_client, answers_in, renewed}
use Rattle.rules.specs.Refusals.{form, shape, client, begin_code, step_code, abandon_code, evict_answer_code, evict_node_code, renew_code}
use Rattle.rules.specs.Outcome.{Result, StepResult}
use Rattle.rules.specs.Steps.{now_at, store_back, answered, look_result, fetch_result, table_result, file_result, read_result, announce_result, write_table_result, raise_result, write_result, progress_of, progress}
use Rattle.rules.specs.Calls.{unless, begin_result, step_result, past_table, retire_result, abandoned_write, abandoned_of, abandoned, abandon_result, evict_answer_result, evict_node_result, renew_result}
use Rattle.rules.specs.History.{Call, begin, step, abandon, evict_answer, evict_node, renew, untrayed, call_result}
use Rattle.rules.specs.Tally.{Made, is_tally_full, made_result, mem_after}
use Rattle.rules.proofs.ClientLaws.{client_room, front_with}
use Rattle.rules.proofs.PassedChecks.{begin_passed, step_passed, abandon_passed}
use Rattle.refinement.proofs.Abstraction.{Fits}
use Rattle.refinement.proofs.NeverRefused.{Lasting, lasting_next}

pub record Stays (m : Mem) (x : StepResult) : Type 0 where
  pub told : get_or x.mem.clients form_offset 0 ≡ get_or m.clients form_offset 0

module _ (m : Mem) (f : Fits m) where
  either : (b : Bool) (x y : StepResult) → Stays m x → Stays m y → Stays m (cond b x y)
  either true x y h k = h
  either false x y h k = k

  unless_stays : (code : ℕ) (x : Result) → (code ≡ 0 → Stays m (untrayed x)) → Stays m (untrayed (unless code m x))
  unfolding unless untrayed
  unless_stays code x k = by_test (eqb code 0) (λ t. rw t (k (eqb-true code 0 t))) (λ t. rw t (record { told = refl }))

  module _ (tray : List ℕ) (d : ℕ) (h : d < max_clients) where
    here : (c : Client) → get_or (with_client (form m) m.clients d c) form_offset 0 ≡ get_or m.clients form_offset 0
    here c = front_with (form m) m.clients d c (client_room (form m) (shape m) m.clients d h f.long.clients) form_offset (omega arith)

    look_stays : (j : ℕ) (p : Words) (o : Option Store) → Stays m (look_result m tray d j p o)
    unfolding look_result now_at store_back
    look_stays j p none = record { told = refl }
    look_stays j p (some t) = record { told = here _ }

    fetch_stays : (i : ℕ) → Stays m (fetch_result m tray d i)
    unfolding fetch_result answered now_at
    fetch_stays i =
        by_test (not (saw_pending (client m d)) && ltb i (length (answers_in (form m) m.answers))) (λ t. rw t (record { told = here _ })) (λ t. rw t (record { told = here _ }))

    table_stays : (x : Ask) (v : Value) → Stays m (table_result m tray d x v)
    unfolding table_result answered now_at
    table_stays x v =
        by_test (may_answer x v) (λ t. by_test (saw_pending (client m d)) (λ u. rw (t, u) (record { told = here _ })) (λ u. rw (t, u) (record { told = here _ }))) (λ t. rw t (record { told = here _ }))

    file_stays : (e : Entry) → Stays m (file_result m tray d e)
    unfolding file_result answered now_at
    file_stays e = record { told = here _ }

    mark_stays : (o : Option Store) → Stays m (announce_result m tray d o)
    unfolding announce_result now_at store_back
    mark_stays none = record { told = refl }
    mark_stays (some t) = record { told = here _ }

    write_stays : (c : Change) → Stays m (write_table_result m tray d c)
    unfolding write_table_result now_at
    write_stays c = record { told = here _ }

    raise_stays : (is_last : Bool) (o : Option Store) → Stays m (raise_result m tray d is_last o)
    unfolding raise_result now_at store_back
    raise_stays is_last none = record { told = refl }
    raise_stays is_last (some t) = either is_last _ _ (record { told = here _ }) (record { told = here _ })

    progress_stays : (w : Work) → Stays m (progress_of m tray d w)
    unfolding progress_of read_result write_result
    progress_stays (asking x) =
        let i : ℕ = steps (client m d) in
        let l : ℕ = length (read_labels x) in
        by_test (ltb i l) (λ t. rw t (look_stays _ _ _)) (λ t. rw t (by_test (eqb i l) (λ u. rw u (fetch_stays _))
        (λ u. rw u (by_test (eqb i (l + 1)) (λ v. rw v (table_stays x _)) (λ v. rw v (file_stays _))))))
    progress_stays (writing w) =
        let i : ℕ = steps (client m d) in
        let l : ℕ = length (write_labels w) in
        by_test (ltb i l) (λ t. rw t (mark_stays _)) (λ t. rw t (by_test (eqb i l) (λ u. rw u (write_stays _)) (λ u. rw u (raise_stays _ _))))

    retire_stays : (o : Outcome) (x : Option Store) → Stays m (untrayed (retire_result m d o x))
    unfolding retire_result untrayed now_at store_back
    retire_stays o none = record { told = refl }
    retire_stays o (some t) = record { told = here _ }

    abandoned_stays : (w : Work) → Stays m (untrayed (abandoned_of m d w))
    unfolding abandoned_of abandoned_write untrayed now_at
    abandoned_stays (asking x) = record { told = here _ }
    abandoned_stays (writing w) = by_test (past_table w (steps (client m d))) (λ t. rw t (retire_stays _ _)) (λ t. rw t (retire_stays _ _))

  step_stays : (tray : List ℕ) (d : ℕ) → Stays m (step_result m tray d)
  unfolding step_result progress
  step_stays tray d =
      by_test (eqb (step_code m tray d) 0)
      (λ t. rw t (progress_stays tray d (step_passed m tray d (eqb-true (step_code m tray d) 0 t)).1.1 _))
      (λ t. rw t (record { told = refl }))

  call_stays : (c : Call) → Stays m (call_result m c)
  unfolding call_result begin_result abandon_result abandoned evict_answer_result evict_node_result renew_result renewed untrayed now_at store_back
  call_stays (begin d r) = unless_stays (begin_code m d r) _ (λ e. record { told = here [] d (begin_passed m d r e).below _ })
  call_stays (step d tray) = step_stays tray d
  call_stays (abandon d) = unless_stays (abandon_code m d) _ (λ e. abandoned_stays [] d (abandon_passed m d e).1 (work_at (shape m) (client m d)))
  call_stays (evict_answer i) = unless_stays (evict_answer_code m i) _ (λ e. record { told = refl })
  call_stays (evict_node i) = unless_stays (evict_node_code m i) _ (λ e. record { told = refl })
  call_stays renew = unless_stays (renew_code m) _ (λ e. record { told = refl })

  pub made_stays : (x : Made) → Stays m (made_result m x)
  unfolding made_result
  made_stays x = either (is_tally_full m x) _ _ (record { told = refl }) (call_stays x.call)

pub stays_after : (m : Mem) → Lasting m → (xs : List Made) → get_or (mem_after m xs).clients form_offset 0 ≡ get_or m.clients form_offset 0
unfolding mem_after
stays_after m g [] = refl
stays_after m g (x ∷ xs) = stays_after (made_result m x).mem (lasting_next m x g) xs ∙ (made_stays m g.fits x).told
