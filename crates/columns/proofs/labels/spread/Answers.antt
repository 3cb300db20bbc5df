-- `labels::spread` meets its contract, by one computed test at each number below 16. Assumes nothing.
use Rattle.std.proofs.Common.{◌*◌, eqb, replicate, eqb→eq}
use lib.Bits.{bit_and, and_le_r}
use Rattle.columns.specs.LabelContracts.{spread}
use Rattle.columns.proofs.TableRule.{at}
use Rattle.columns.proofs.labels.spread.Goals as goal

pub returns-clause-bytes : goal.returns-clause-bytes
unfolding spread
returns-clause-bytes c = eqb→eq _ _ (at (λ i x. eqb (bit_and (i * 2113665) 16843009) (spread 4 i)) (replicate 16 0) tt c.args.bits c.requires)

pub returns-clause-most : goal.returns-clause-most
returns-clause-most c = and_le_r (c.args.bits * 2113665) 16843009
