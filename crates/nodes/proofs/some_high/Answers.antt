-- `nodes::some_high` meets its contract: the highest of the revisions decides. Assumes nothing.
use Rattle.std.proofs.Common.{◌≡◌, rules, get_or, fold, max}
use Rattle.nodes.proofs.NodeScans.{high_highest}
use Rattle.nodes.proofs.some_high.Goals as goal

pub returns : goal.returns
returns c = λ sh.
    let e : c.fold-highest.result ≡ fold (λ h n. max h (get_or n 6 0)) 0 c.args.nodes.now = search rules in
    high_highest sh _ _ e
