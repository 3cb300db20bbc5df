-- `Held::parse` meets its contract: each test as the rules have it. Assumes nothing.
use Rattle.std.proofs.Common.{◌≡◌, ◌∙◌, refl, sym, ◌&&◌, ltb, List, ℕ}
use Rattle.rules.specs.Client.{kind, steps}
use Rattle.rules.specs.Answers.{length_in}
use Rattle.query.specs.Shape.{shape_of}
use Rattle.clients.specs.declared.Held.{Held}
use Rattle.clients.specs.ClientContracts.{IsRead, steps_of_kind}
use Rattle.hall.specs.Kind.{kind_number}
use Rattle.columns.specs.MarkedContracts.{marked_query}
use Rattle.clients.proofs.HeldLaws.{query_law}
use Rattle.clients.proofs.ClientReads.{marks_read, counts_read, range_read, values_read, key_read}
use Rattle.clients.proofs.ClientSound.{none_decoded, decoded, bad_kind, bad_key, passed, some_then, then_holds}
use Rattle.clients.proofs.Held.parse.Goals as goal
use Rattle.clients.proofs.Held.parse.Goals.{then-fits, else-fits, then-steps-steps_in_all, else-steps-steps_in_all}

pub returns-in_err-kind-clause-sound : goal.returns-in_err-kind-clause-sound
unfolding kind
returns-in_err-kind-clause-sound c =
    let high = none_decoded _ _ c.try_from.ensures (sym c.ok.ensures.value ∙ c.in_err-kind.was) c.requires.some in
    rw (c.from_residual.ensures, bad_kind (shape_of c.args.k) c.args.client.now c.requires.some high)

pub returns-in_err-query-clause-sound : goal.returns-in_err-query-clause-sound
unfolding kind
returns-in_err-query-clause-sound c =
    let e = c.entry_of-entry in
    let w = c.query_width.ensures in
    let is = decoded _ _ c.in_ok-kind.kind c.try_from.ensures c.in_ok-kind.ensures.value in
    let key = key_read c.args.client.now _ e.ensures.own e.ensures.wide _ c.range_in-range.ensures _ w.width w.most (shape_of c.args.k) _ c.bare_marks.ensures in
    rw (c.from_residual-in_err-query.ensures, bad_key (shape_of c.args.k) c.args.client.now c.requires.wide c.requires.few _ is (sym key ∙ sym c.in_err-query.ensures.key))

pub returns-clause-sound : goal.returns-clause-sound
unfolding kind steps length_in
returns-clause-sound c =
    let client : List ℕ = c.args.client.now in
    let e = c.entry_of-entry in
    let w = c.query_width.ensures in
    let q = c.in_ok-query.query in
    let p = c.in_ok-query.ensures in
    let x = c.in_ok-kind.kind in
    let is = decoded _ _ x c.try_from.ensures c.in_ok-kind.ensures.value in
    let key = key_read client _ e.ensures.own e.ensures.wide _ c.range_in-range.ensures _ w.width w.most (shape_of c.args.k) _ c.bare_marks.ensures in
    let marks = marks_read client _ e.ensures.own e.ensures.wide _ c.bare_marks.ensures in
    let counts = counts_read client _ e.ensures.own e.ensures.wide _ c.is_count-counts.ensures in
    let range = range_read client _ e.ensures.own e.ensures.wide _ c.range_in-range.ensures in
    let values = values_read client _ e.ensures.own e.ensures.wide _ c.range_in-range.ensures _ w.width w.most w.least in
    let query = query_law q c.args.k client p.query.columns (p.query.marks ∙ marks) (p.query.values ∙ values) in
    let tests = passed c.args.k client x q _ _ c.requires.wide c.requires.few is (sym key ∙ sym p.key) p.query.columns query counts range in
    let going : c.if-fits.value ≡ (c.fits.result && ltb (steps client) (steps_of_kind (kind_number x) (marked_query q))) =
    elim c.if-fits.branch [
      | then-fits v ↦ rw (v.value-is, v.if-fits.true, ← v.steps_in_all.ensures)
      | else-fits v ↦ rw (v.value-is, v.if-fits.false)
    ] in
    rw (c.then_some.ensures, some_then, ← tests, ← c.fits.ensures, ← e.ensures.own, ← going)
    (elim c.if-steps-steps_in_all.branch [
      | then-steps-steps_in_all v ↦ rw (v.fits-is, v.if-steps-steps_in_all.true, ← v.most.ensures)
      | else-steps-steps_in_all v ↦ rw (v.fits-is, v.if-steps-steps_in_all.false)
    ])

pub returns-clause-held : goal.returns-clause-held
unfolding kind steps
returns-clause-held c =
    let client : List ℕ = c.args.client.now in
    let e = c.entry_of-entry in
    let w = c.query_width.ensures in
    let q = c.in_ok-query.ensures.query in
    rw c.then_some.ensures
    (then_holds _ _ (λ (h : Held). IsRead h c.args.k client)
    (record {
      columns = q.columns;
      kind = decoded _ _ c.in_ok-kind.kind c.try_from.ensures c.in_ok-kind.ensures.value;
      steps = refl;
      marks = q.marks ∙ marks_read client _ e.ensures.own e.ensures.wide _ c.bare_marks.ensures;
      counts = counts_read client _ e.ensures.own e.ensures.wide _ c.is_count-counts.ensures;
      values = q.values ∙ values_read client _ e.ensures.own e.ensures.wide _ c.range_in-range.ensures _ w.width w.most w.least;
    }))
