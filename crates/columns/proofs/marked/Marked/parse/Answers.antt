-- `Marked::parse` meets its contract: a key's marks are those of its columns. Assumes nothing.
use Rattle.std.proofs.Common.{◌∙◌, sym}
use Rattle.columns.proofs.KeyLoops.{key_fits}
use Rattle.columns.proofs.marked.Marked.parse.Goals as goal

pub invariant_of-result : goal.invariant_of-result
invariant_of-result c =
    record { few = c.requires.few; fit = key_fits _ _ c.args.values.now c.requires.few c.requires.within (sym c.if-not-is_key.false ∙ c.is_key.ensures) }
