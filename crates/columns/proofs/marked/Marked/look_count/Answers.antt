-- `Marked::look_count` meets its contract. Assumes nothing.
use Rattle.std.proofs.Common.{arith}
use Rattle.query.proofs.EncodingLaws.{columns_length}
use Rattle.query.proofs.NodeLists.{read_count_most}
use Rattle.columns.specs.MarkedContracts.{marked_query}
use Rattle.columns.proofs.marked.Marked.look_count.Goals as goal

pub returns-clause-most : goal.returns-clause-most
returns-clause-most c =
    let q = c.args.self.now in
    let few = q.few in
    rw (c.look_count.ensures q.values) (read_count_most (marked_query q) (omega (arith, columns_length q.k q.marks q.values)))
