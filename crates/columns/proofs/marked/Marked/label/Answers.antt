-- `Marked::label` meets its contract: the tags and the values of all columns at once (`marked_label_law`). Assumes nothing.
use Rattle.columns.proofs.LabelLaws.{marked_label_law}
use Rattle.columns.proofs.marked.Marked.label.Goals as goal

pub returns : goal.returns
returns c = marked_label_law c.args.self.now c.args.bits _ _ c.args.to _ c.all_marks-used.ensures c.tag_bytes-tags.ensures c.values_under.ensures
