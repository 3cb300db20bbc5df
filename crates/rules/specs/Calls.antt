-- The calls of document 01, each as one outcome and one set of memories for any contents and any arguments: what the contracts cite.
-- Leans on Refusals and Steps. Definitions only. Assumes nothing.
use Rattle.std.specs.Prelude.{Bool, cond, false, List, ℕ, ◌+◌, ◌-◌, eqb, ltb, length, take, drop}
use Rattle.std.proofs.Math.Option.{Option, none, some}
use Rattle.lists.specs.Lists.{without}
use Rattle.rules.specs.declared.Outcome.{Outcome}
use Rattle.rules.specs.declared.Outcome.TheVariants.{Refused, Accepted}
use Rattle.query.specs.Shape.{shape_of}
use Rattle.rules.specs.Nodes.{Words, Store, evict_node, retired}
use Rattle.rules.specs.Work.{Write, write_labels, Work, asking, writing, Request, work_of}
use Rattle.rules.specs.Client.{steps, did_change, idle, begun, work_at}
use Rattle.rules.specs.Layout.{refused_unsound}
use Rattle.rules.specs.Memory.{Mem, with_filed, store_in, answers_in, with_answers, opened, renewed}
use Rattle.rules.specs.Outcome.{Result, result_of, StepResult, result_with}
use Rattle.rules.specs.Refusals.{form, shape, client, open_code, begin_code, step_code, abandon_code, evict_answer_code, evict_node_code, renew_code}
use Rattle.rules.specs.Steps.{now_at, store_back, end_of, progress}

-- "1 to 11, and any number that a later request adds to a call, alter no memory": where the code is not 0 it is returned, and the memories are as they were
unfoldable pub unless : ℕ → Mem → Result → Result
unless code m x = cond (eqb code 0) x (result_of (Refused code) m)

unfoldable pub open_result : Mem → ℕ → Result
open_result m k = unless (open_code m k) m (result_of Accepted (opened (shape_of k) m))

-- a begin of a read, an insert or a delete: "A write is open from its begin until its desk is idle."
unfoldable pub begin_result : Mem → ℕ → Request → Result
begin_result m d r = unless (begin_code m d r) m (result_of Accepted (now_at m d (begun (work_of (shape m) r))))

unfoldable pub step_result : Mem → List ℕ → ℕ → StepResult
step_result m tray d = cond (eqb (step_code m tray d) 0) (progress m tray d) (result_with (Refused (step_code m tray d)) m tray)

-- ---- Abandonings
-- whether a write that has made i steps has made its table step: that comes after a mark for each label
unfoldable pub past_table : Write → ℕ → Bool
past_table w i = ltb (length (write_labels w)) i

-- the labels of "the marks it has set" before its table step, as many as it has made steps; of "all remaining raises" after it (S-4)
abbrev pub announced_labels : Write → ℕ → List Words
announced_labels w i = take i (write_labels w)

abbrev pub labels_left : Write → ℕ → List Words
labels_left w i = drop (i - (length (write_labels w) + 1)) (write_labels w)

-- marks are taken off and the desk is idle, with this outcome; or 3, where "a raise or the taking back of a mark finds its node missing or
-- unmarked" or "a counter at its largest to raise", at any of them: then none is altered
unfoldable pub retire_result : Mem → ℕ → Outcome → Option Store → Result
retire_result m d o none = result_of (Refused refused_unsound) m
retire_result m d o (some s) = result_of o (now_at (store_back m s) d idle)

-- "A writer before its table step takes back the marks it has set."; "Abandoning after the table step now performs all remaining raises itself
-- and reports the write's end as its last raise would have." (S-4), each with a lift if the client keeps that the table changed (S-6)
unfoldable pub abandoned_write : Mem → ℕ → Write → ℕ → Result
abandoned_write m d w i =
    cond (past_table w i)
    (retire_result m d (end_of (client m d)) (retired (form m) (did_change (client m d)) (labels_left w i) (store_in (form m) m.nodes)))
    (retire_result m d Accepted (retired (form m) false (announced_labels w i) (store_in (form m) m.nodes)))

-- "**Abandon.** A reader's desk becomes idle."
unfoldable pub abandoned_of : Mem → ℕ → Work → Result
abandoned_of m d (asking x) = result_of Accepted (now_at m d idle)
abandoned_of m d (writing w) = abandoned_write m d w (steps (client m d))

unfoldable pub abandoned : Mem → ℕ → Result
abandoned m d = abandoned_of m d (work_at (shape m) (client m d))

unfoldable pub abandon_result : Mem → ℕ → Result
abandon_result m d = unless (abandon_code m d) m (abandoned m d)

-- "**Put out.** An answer or an unmarked node, named by its place from 0, is removed and the rest close up."
unfoldable pub evict_answer_result : Mem → ℕ → Result
evict_answer_result m i =
    unless (evict_answer_code m i) m
    (result_of Accepted (with_filed m (with_answers (form m) m.answers (without i (answers_in (form m) m.answers)))))

unfoldable pub evict_node_result : Mem → ℕ → Result
evict_node_result m i = unless (evict_node_code m i) m (result_of Accepted (store_back m (evict_node i (store_in (form m) m.nodes))))

-- "**Renew.** With all desks idle: answers and nodes are emptied, the floor is 1, the table stays."
unfoldable pub renew_result : Mem → Result
renew_result m = unless (renew_code m) m (result_of Accepted (renewed m))
