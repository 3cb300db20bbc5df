-- `Marked::write_label` meets its contract, by `write_node_law`. Assumes nothing.
use Rattle.columns.proofs.LabelLaws.{write_node_law}
use Rattle.columns.specs.MarkedContracts.{marked_query}
use Rattle.columns.proofs.marked.Marked.write_label.Goals as goal

pub returns : goal.returns
returns c = rw (write_node_law (marked_query c.args.self.now) c.args.number) c.label.ensures
