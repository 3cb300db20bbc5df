-- `clients::begin` meets its contract: an idle client, its kind and its key written. Assumes nothing.
use Rattle.std.proofs.Common.{◌∙◌, ℕ, length-set}
use Rattle.rules.specs.Client.{idle}
use Rattle.rules.proofs.ClientLaws.{idle_wide}
use Rattle.clients.proofs.ClientChanges.{put_more, key_behind, begun_behind}
use Rattle.clients.proofs.begin.Goals as goal

pub returns : goal.returns
unfolding idle
returns c =
    let f = c.requires.0 in
    let x : ℕ = c.args.kind in
    let kind = put_more _ _ f _ _ idle 0 x c.set_idle.ensures c.put.ensures idle_wide in
    let wide = length-set idle 0 x ∙ idle_wide in
    rw c.copy_from_slice.ensures.after (begun_behind _ _ f _ _ x _ _ kind wide c.place-at.ensures c.requires.1 (key_behind x c.args.key.now c.requires.1))
