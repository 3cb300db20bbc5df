-- `clients::is_idle` meets its contract: the client's numbers are compared with zeros. Assumes nothing.
use Rattle.std.proofs.Common.{◌∙◌, ap}
use Rattle.rules.specs.Client.{is_idle}
use Rattle.clients.proofs.ClientReads.{idle_read}
use Rattle.clients.proofs.is_idle.Goals as goal

pub returns : goal.returns
returns c = c.is_zero.ensures ∙ idle_read _ c.client.ensures.wide ∙ ap is_idle c.client.ensures.own
