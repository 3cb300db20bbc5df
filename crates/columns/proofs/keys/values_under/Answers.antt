-- `keys::values_under` meets its contract: four columns, one after the other. Assumes nothing.
use Rattle.std.proofs.Common.{rules}
use Rattle.columns.proofs.MarkLaws.{under_four}
use Rattle.columns.proofs.keys.values_under.Goals as goal

pub returns : goal.returns
returns c =
    let i = c.from_fn.ensures.items in
    under_four c.args.marks c.args.values c.from_fn.result i.long (search rules) (search rules) (search rules) (search rules)
