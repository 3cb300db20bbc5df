-- `reading::table_step` meets its contract: a list: too long, kept for the file step, or given at once. Assumes nothing.
use Rattle.std.proofs.Common.{rules}
use Rattle.reading.proofs.Listing.{held_short, table_long, table_held, table_given}
use Rattle.reading.proofs.table_step.Goals as goal

pub returns-in_default : goal.returns-in_default
returns-in_default c =
    let p = c.requires in
    table_long p.read _ p.fit _ c.gather_list.ensures.clients_after c.if-h.false c.in_default.ensures.value _ c.set_idle.ensures p.step _

pub returns-then-not-saw : goal.returns-then-not-saw
returns-then-not-saw c =
    let p = c.requires in
    table_held p.read _ p.fit _ c.gather_list.ensures.clients_after c.if-h.false _ c.in-Some.ensures.value _ (c.set_value.ensures _) p.step _ _ c.saw_pending-saw.ensures c.if-not-saw.true

pub answer_held-requires : goal.answer_held-requires
answer_held-requires c =
    let p = c.requires in
    record {
      client = search rules;
      few = c.args.h.query.few;
      short = held_short p.read _ p.fit _ c.gather_list.ensures.clients_after c.if-h.false _ c.in-Some.ensures.value _ (c.set_value.ensures _);
      room = p.room;
    }

pub returns : goal.returns
returns c =
    let p = c.requires in
    let o = c.answer_held.ensures in
    table_given p.read _ p.fit _ c.gather_list.ensures.clients_after c.if-h.false _ c.in-Some.ensures.value _ (c.set_value.ensures _) p.step _ _ c.saw_pending-saw.ensures c.if-not-saw.false _ _ _ o.value o.tray_after o.clients_after
