-- `columns::queries::Query::ask_key` meets its contract: the query's key, with the bit added where a count is wanted, and with its range.
-- Assumes nothing.
use Rattle.std.proofs.Common.{◌∙◌, ap, arith}
use Rattle.columns.proofs.KeyLoops.{count_low, count_wanted, list_wanted}
use Rattle.query.specs.Encoding.{wanted_key}
use Rattle.columns.proofs.queries.Query.ask_key.Goals as goal
use Rattle.columns.proofs.queries.Query.ask_key.Goals.{then-counts, else-counts}

pub ranged_key-requires-clause-low : goal.ranged_key-requires-clause-low
ranged_key-requires-clause-low c = elim c.if-counts.branch [ then-counts w ↦ count_low _ _ c.key-key.ensures.low w.key-is | else-counts w ↦ rw w.key-is (omega (arith, c.key-key.ensures.low)) ]

pub returns : goal.returns
returns c =
    let a = c.args in
    c.ranged_key.ensures
    ∙ elim c.if-counts.branch [
      | then-counts w ↦ count_wanted _ _ c.key-key.result _ w.if-counts.true w.key-is
      | else-counts w ↦ list_wanted _ _ c.key-key.result _ w.if-counts.false w.key-is
    ]
    ∙ ap (wanted_key a.counts a.range) c.key-key.ensures.is
