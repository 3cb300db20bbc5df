-- `calls::begins::try_begin` meets its contract: past its check, the client keeps the kind and the key of what begins. Assumes nothing.
use Rattle.std.proofs.Common.{◌∙◌, ap, rules}
use Rattle.rules.specs.Memory.{Mem}
use Rattle.rules.specs.Refusals.{shape, begin_code}
use Rattle.rules.specs.Work.{work_of, key_of}
use Rattle.rules.proofs.PassedChecks.{begin_passed}
use Rattle.hall.specs.Memories.{lent_mut}
use Rattle.checks.specs.CheckContracts.{request_of}
use Rattle.checks.proofs.SoundMemories.{client_fit}
use Rattle.calls.proofs.CallLaws.{passed, begin_done}
use Rattle.calls.proofs.begins.try_begin.Goals as goal

pub begin-requires : goal.begin-requires
begin-requires c =
    let x = request_of c.args.request c.args.asked.now in
    let t = begin_passed _ _ _ (passed c.view.ensures (λ m. begin_code m c.args.client x) c.in_ok-key.ensures.code) in
    (client_fit t.memories _ t.below, search rules)

pub returns-clause-leaves : goal.returns-clause-leaves
returns-clause-leaves c =
    let x = request_of c.args.request c.args.asked.now in
    begin_done (lent_mut c.args.memories.now) _ _ _ _ x (passed c.view.ensures (λ m. begin_code m c.args.client x) c.in_ok-key.ensures.code)
    (c.number.ensures ∙ c.kind.ensures _ _)
    (c.in_ok-key.ensures.ok ∙ ap (λ (m : Mem). key_of (work_of (shape m) x)) c.view.ensures)
    c.begin.ensures
