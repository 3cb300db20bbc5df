-- `columns::bounds::Bounds::of` meets its contract: column by column, and then the range's. Assumes nothing.
use Rattle.std.proofs.Common.{◌≡◌, ◌<◌, ◌≤◌, ◌∙◌, length, get_or, refl, ap, arith, rules}
use Rattle.query.specs.declared.Column.{Column}
use Rattle.query.specs.declared.Column.TheVariants.{Is}
use Rattle.query.specs.Encoding.{column_value}
use Rattle.columns.specs.BoundContracts.{shift_of, limit_of, width_of, shifts_of, limits_of, bound_words, bounds_of}
use Rattle.columns.proofs.FillLoop.{fill_none}
use Rattle.columns.proofs.MaskLaws.{made_more, made_all}
use Rattle.columns.proofs.BoundLaws.{words_more, first_below}
use Rattle.columns.proofs.bounds.Bounds.of.Goals as goal

pub loop-i-init : goal.loop-i-init
loop-i-init c = record { shifts = rw c.shift_of-shifts.ensures.is (fill_none 4 _ _); limits = rw c.limit_of-limits.ensures (fill_none 4 _ _); words = λ i h. absurd (omega arith) }

pub loop-i-preserved : goal.loop-i-preserved
loop-i-preserved c =
    let q = c.columns-col-items.ensures in
    let h : c.loop-i.i < length c.args.query.now = rw q.is at c.loop-i-test.true in
    let few : length c.args.query.now ≤ 4 = rw q.is at q.few in
    let v : c.value_of.result ≡ column_value (get_or c.args.query.now c.loop-i.i (Is 0)) = rw q.is at c.value_of.ensures in
    record {
      shifts = made_more (λ (c : Column). shift_of (column_value c)) _ _ _ _ c.loop-i.invariant.shifts (Is 0) _ (c.shift_of.ensures.is ∙ ap shift_of v) h few;
      limits = made_more (λ (c : Column). limit_of (width_of c)) _ _ _ _ c.loop-i.invariant.limits (Is 0) _ (c.limit_of.ensures ∙ ap limit_of (rw q.is at c.width_of.ensures)) h few;
      words = words_more c.args.query.now c.loop-i.i c.value_of.result (Is 0) c.loop-i.invariant.words v (search rules) h;
    }

pub overflow_sub-highest : goal.overflow_sub-highest
overflow_sub-highest c = rw c.first_of-first.ensures (first_below c.args.lowest c.args.highest c.requires.ordered c.requires.above)

shifts_are : (c : goal.After-limit_of-2) → c.loop-i.shifts ≡ shifts_of c.args.query.now
unfolding shifts_of column_value
shifts_are c = made_all (λ (c : Column). shift_of (column_value c)) _ _ _ _ c.loop-i.invariant.shifts refl (rw c.columns-col-items.ensures.is at c.loop-i-test.false)

limits_are : (c : goal.After-limit_of-2) → c.loop-i.limits ≡ limits_of c.args.query.now
unfolding limits_of width_of
limits_are c = made_all (λ (c : Column). limit_of (width_of c)) _ _ _ _ c.loop-i.invariant.limits refl (rw c.columns-col-items.ensures.is at c.loop-i-test.false)

pub returns-clause-value : goal.returns-clause-value
unfolding bounds_of
returns-clause-value c = rw (shifts_are c, limits_are c, c.shift_of-2.ensures.is, c.limit_of-2.ensures, c.first_of-first.ensures) refl

pub returns-clause-words : goal.returns-clause-words
unfolding bound_words
returns-clause-words c = rw (shifts_are c, limits_are c, c.shift_of-2.ensures.is, c.limit_of-2.ensures, c.first_of-first.ensures) refl
