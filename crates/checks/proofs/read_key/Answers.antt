-- `checks::read_key` meets its contract: a range that stands beside its query is on one of the four columns. Assumes nothing.
use Rattle.std.proofs.Common.{sym}
use Rattle.checks.proofs.BeginKeys.{range_near}
use Rattle.checks.proofs.read_key.Goals as goal

pub ask_key-requires : goal.ask_key-requires
ask_key-requires c =
    range_near c.args.k c.args.asked.now c.args.counts c.args.range (sym (c.in_ok-range_check.ensures c.args.counts)) c.in_ok-columns_check.ensures.ok
