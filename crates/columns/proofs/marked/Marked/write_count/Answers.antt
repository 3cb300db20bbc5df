-- `Marked::write_count` meets its contract: two to the k, as many as the columns. Assumes nothing.
use Rattle.std.proofs.Common.{arith}
use Rattle.query.specs.Query.{write_count}
use Rattle.query.proofs.EncodingLaws.{columns_length}
use Rattle.columns.proofs.MarkLaws.{power_most}
use Rattle.columns.proofs.marked.Marked.write_count.Goals as goal

pub returns-clause-nodes : goal.returns-clause-nodes
unfolding write_count
returns-clause-nodes c = let q = c.args.self.now in rw (columns_length q.k q.marks q.values) c.power.ensures

pub returns-clause-most : goal.returns-clause-most
returns-clause-most c = let q = c.args.self.now in omega (arith, c.power.ensures, power_most q.k q.few)
