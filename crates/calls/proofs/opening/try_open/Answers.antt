-- `calls::opening::try_open` meets its contract: past its check, all four memories are cleared. Assumes nothing.
use Rattle.query.specs.Shape.{shape_of}
use Rattle.rules.specs.Refusals.{open_code}
use Rattle.rules.specs.Calls.{open_result}
use Rattle.rules.specs.Memory.{opened, told}
use Rattle.hall.specs.Memories.{lent_mut}
use Rattle.calls.proofs.CallLaws.{passed, goes_on}
use Rattle.calls.proofs.opening.try_open.Goals as goal

pub returns-clause-leaves : goal.returns-clause-leaves
unfolding open_result opened told
returns-clause-leaves c =
    let z = passed c.view.ensures (λ m. open_code m c.args.k) c.in_ok-open_check.ensures in
    rw (
      goes_on (lent_mut c.args.memories.now) _ _ z,
      c.clear_table.ensures,
      c.clear_nodes.ensures,
      c.clear_answers.ensures (shape_of c.args.k),
      c.clear_clients.ensures,
    )
