-- `answers::file` meets its contract: one way for each case of the rule, and the entry behind what stays. Assumes nothing.
use Rattle.std.proofs.Common.{◌≡◌, ◌<◌, ◌∙◌, sym, arith, get_or}
use Rattle.rules.specs.Layout.{max_answers, answer_count_offset}
use Rattle.rules.specs.Memory.{current, answers_in, with_answers}
use Rattle.answers.proofs.AnswerScan.{count_is, fetched_some}
use Rattle.answers.specs.AnswerContracts.{Fit}
use Rattle.answers.proofs.AnswerEntries.{beside, room_behind, room_there, stays_same, stays_full, stays_all, filed_behind}
use Rattle.answers.proofs.file.Goals as goal
use Rattle.answers.proofs.file.Goals.{in-Some, in-None, in-None+else-answers-eq-ANSWERS}

pub evict-requires : goal.evict-requires
evict-requires c =
    let f = fetched_some 0 c.args.entry.now (answers_in current c.args.answers.now) c.in-Some.i (sym c.in-Some.ensures) in
    (c.requires.0, omega (arith, count_is c.args.answers.now))

pub append-requires : goal.append-requires
append-requires c =
    let room : Fit c.match-fetch.answers × (get_or c.match-fetch.answers answer_count_offset 0 < max_answers) =
    elim c.match-fetch.branch [
      | in-Some w ↦ let f = fetched_some 0 c.args.entry.now (answers_in current c.args.answers.now) w.in-Some.i (sym w.in-Some.ensures) in room_behind _ c.requires.0 _ _ (w.answers-is ∙ w.evict.ensures) (omega (arith, count_is c.args.answers.now))
      | in-None w ↦ room_behind _ c.requires.0 _ _ (w.answers-is ∙ w.evict-in-None.ensures) (omega (arith, w.if-answers-eq-ANSWERS.true))
      | in-None+else-answers-eq-ANSWERS w ↦ room_there _ c.requires.0 _ w.if-answers-eq-ANSWERS.false w.answers-is
    ] in
    (room.0, (c.requires.1, room.1))

pub returns : goal.returns
returns c =
    let stays : c.match-fetch.answers ≡ with_answers current c.args.answers.now (beside c.args.entry.now (answers_in current c.args.answers.now)) =
    elim c.match-fetch.branch [
      | in-Some w ↦ stays_same _ c.requires.0 _ _ _ (sym w.in-Some.ensures) (w.answers-is ∙ w.evict.ensures)
      | in-None w ↦ stays_full _ c.requires.0 _ _ (sym w.in-None.ensures) w.if-answers-eq-ANSWERS.true (w.answers-is ∙ w.evict-in-None.ensures)
      | in-None+else-answers-eq-ANSWERS w ↦ stays_all _ c.requires.0 _ _ (sym w.in-None.ensures) w.if-answers-eq-ANSWERS.false w.answers-is
    ] in
    c.append.ensures ∙ filed_behind _ c.requires.0 _ _ stays c.requires.1
