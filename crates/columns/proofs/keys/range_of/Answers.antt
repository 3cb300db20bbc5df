-- `keys::range_of` meets its contract: the definition's own arithmetic. Assumes nothing.
use Rattle.std.proofs.Common.{◌/◌, arith, eq-eqb, ne_eqb}
use Rattle.query.specs.Encoding.{range_of}
use Rattle.columns.proofs.keys.range_of.Goals as goal

pub returns-in-Some : goal.returns-in-Some
unfolding range_of
returns-in-Some c = let e = c.in-Some.ensures in rw (ne_eqb (c.args.first / 32) 0 (λ z. omega (arith, e.0, z)), e.1)

pub returns-in-None : goal.returns-in-None
unfolding range_of
returns-in-None c = let e = c.in-None.ensures in rw (eq-eqb (c.args.first / 32) 0 (omega (arith, e)))
