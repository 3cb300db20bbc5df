-- `calls::upkeep::try_renew` meets its contract: past its check, the memories are sound. Assumes nothing.
use Rattle.rules.specs.Refusals.{renew_code}
use Rattle.rules.proofs.PassedChecks.{renew_passed}
use Rattle.checks.proofs.SoundMemories.{nodes_fit, answers_fit}
use Rattle.calls.proofs.CallLaws.{passed}
use Rattle.calls.proofs.upkeep.try_renew.Goals as goal

pub empty-requires : goal.empty-requires
empty-requires c = nodes_fit (renew_passed _ (passed c.view.ensures renew_code c.in_ok-renew_check.ensures)).0

pub empty-requires-2 : goal.empty-requires-2
empty-requires-2 c = answers_fit (renew_passed _ (passed c.view.ensures renew_code c.in_ok-renew_check.ensures)).0
