-- `words::is_zero` meets its contract. Assumes nothing.
use Rattle.std.proofs.Common.{◌∙◌, true, ◌&&◌, eqb, rules}
use Rattle.std.proofs.lemmas.Iterator.{YieldsList-from_slice}
use Rattle.std.proofs.lemmas.Iterator.Consumers.{fold_from_yields_List}
use Rattle.words.proofs.CompareLaws.{fold_is_zero}
use Rattle.words.proofs.is_zero.Goals as goal

pub returns : goal.returns
returns c =
    let s = c.args.s.now in
    fold_from_yields_List _ (λ t x. t && eqb x 0) true _ c.fold.ensures.ran (YieldsList-from_slice s cc) (λ a x b q k. search rules) ∙ fold_is_zero s true
