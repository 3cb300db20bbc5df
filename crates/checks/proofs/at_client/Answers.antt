-- `checks::at_client` meets its contract: in sound memories a client is there to be read. Assumes nothing.
use Rattle.std.proofs.Common.{sym, ◌∙◌, arith}
use Rattle.rules.specs.Sound.{Sound}
use Rattle.rules.proofs.PassedChecks.{sound}
use Rattle.hall.specs.Memories.{lent}
use Rattle.checks.proofs.CheckCodes.{client_there}
use Rattle.checks.proofs.SoundMemories.{client_fit}
use Rattle.checks.proofs.at_client.Goals as goal

pub read_held-requires : goal.read_held-requires
read_held-requires c = client_fit (sound _ c.requires (sym c.is_unsound.ensures ∙ c.if-is_unsound.false)) _ (omega arith)

pub returns-clause-code : goal.returns-clause-code
returns-clause-code c =
    let u = sym c.is_unsound.ensures ∙ c.if-is_unsound.false in
    let g : Sound (lent c.args.memories) = sound _ c.requires u in
    c.read_held.ensures.code (omega (arith, g.most)) ∙ sym (client_there _ _ _ _ _ u (omega arith))
