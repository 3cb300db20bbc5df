-- `Marked::read_label` meets its contract, by what an entry of the sheet means (`read_node_law`). Assumes nothing.
use Rattle.std.proofs.Common.{arith}
use Rattle.columns.proofs.MarkLaws.{marks_below}
use Rattle.columns.proofs.LabelLaws.{look_small, read_words}
use Rattle.columns.proofs.marked.Marked.read_label.Goals as goal

pub overflow_sub-stars : goal.overflow_sub-stars
overflow_sub-stars c = let q = c.args.self.now in omega (arith, marks_below q.k q.marks q.few q.fit)

pub turned-turned-requires : goal.turned-turned-requires
turned-turned-requires c = let q = c.args.self.now in (omega arith, look_small q.k q.marks c.args.look q.values q.few c.requires)

pub returns : goal.returns
returns c = read_words c.args.self.now c.args.look _ _ c.label.ensures c.turned-turned.ensures c.requires
