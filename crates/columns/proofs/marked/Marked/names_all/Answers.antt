-- `Marked::names_all` meets its contract: by its marks alone. Assumes nothing.
use Rattle.columns.proofs.marked.Marked.names_all.Goals as goal

pub returns : goal.returns
returns c = c.names_all.ensures c.args.self.now.values
