-- `clients::read` meets its contract: each number from its place. Assumes nothing.
use Rattle.std.proofs.Common.{◌∙◌, refl, ap}
use Rattle.rules.specs.Client.{kind, steps, entry_of}
use Rattle.clients.proofs.ClientReads.{marks_read, counts_read, four_read}
use Rattle.clients.proofs.read.Goals as goal

pub returns : goal.returns
unfolding kind steps
returns c =
    let own = c.entry_of-entry.ensures.own ∙ ap entry_of c.client-client.ensures.own in
    let wide = c.entry_of-entry.ensures.wide in
    record {
      columns = refl;
      kind = ap kind c.client-client.ensures.own;
      steps = ap steps c.client-client.ensures.own;
      marks = marks_read _ _ own wide _ c.bare_marks.ensures;
      counts = counts_read _ _ own wide _ c.is_count.ensures;
      values = four_read _ _ own wide;
    }
