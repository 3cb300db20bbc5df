-- `columns::well_marked` meets its contract: each pair's test, where no number is left over. Assumes nothing.
use Rattle.std.proofs.Common.{◌≡◌, ◌%◌, length, ap, ◌∙◌, sym, arith, rules, tests}
use Rattle.std.proofs.lemmas.Iterator.{YieldsList-from_slice}
use Rattle.std.proofs.lemmas.Iterator.Search.{all_from_yields_List}
use Rattle.std.specs.List.{list_all}
use Rattle.columns.proofs.PairLaws.{marked_at, marked_pairs, marked_odd}
use Rattle.columns.proofs.well_marked.Goals as goal

pub returns-then-is_empty : goal.returns-then-is_empty
returns-then-is_empty c =
    let h : length c.args.asked.now % 2 ≡ 0 = grind (arith, tests) in
    all_from_yields_List marked_at _ _ _ c.all.ensures.ran (YieldsList-from_slice c.as_chunks.result.0.now cc) (λ x b q k. search (rules, tests))
    ∙ ap (list_all marked_at) c.as_chunks.ensures.front ∙ marked_pairs c.args.asked.now h

pub returns-else-is_empty : goal.returns-else-is_empty
returns-else-is_empty c = c.if-is_empty.false ∙ sym (marked_odd c.args.asked.now (λ e. grind (arith, tests)))
