-- `Marked::tag_bytes` meets its contract: each column's tag in its byte, by one sum (`tag_sum`). Assumes nothing.
use Rattle.std.proofs.Common.{◌≡◌, ◌+◌, ◌*◌, arith, pow_pos, refl}
use lib.Bits.{and_le_l}
use denote.Enum.Declared.{tag_of}
use Rattle.columns.specs.declared.labels.Turned.{Turned}
use Rattle.columns.specs.declared.labels.Turned.TheVariants as turned
use Rattle.columns.specs.contracts.labels.Turned.{the_type}
use Rattle.columns.proofs.MarkLaws.{power_most, marks_below}
use Rattle.query.specs.Encoding.{tags}
use Rattle.columns.specs.LabelContracts.{turned_term, changed_node}
use Rattle.columns.specs.MarkedContracts.{marked_query}
use Rattle.columns.proofs.LabelLaws.{added, tag_sum, added_most}
use Rattle.columns.proofs.marked.Marked.tag_bytes.Goals as goal

as_added : (to : Turned) → tag_of the_type to ≡ added to
as_added turned.Wildcard = refl
as_added turned.Any = refl

pub spread-used-requires : goal.spread-used-requires
spread-used-requires c = let q = c.args.self.now in omega (arith, power_most q.k q.few, pow_pos q.k, c.all_marks.ensures)

pub spread-named-requires : goal.spread-named-requires
spread-named-requires c = let q = c.args.self.now in marks_below q.k q.marks q.few q.fit

pub spread-changed-requires : goal.spread-changed-requires
spread-changed-requires c = let q = c.args.self.now in marks_below q.k _ q.few c.requires

pub spread-both-requires : goal.spread-both-requires
spread-both-requires c = let q = c.args.self.now in omega (arith, and_le_l q.marks c.args.bits, marks_below q.k q.marks q.few q.fit)

whole : (c : goal.After-spread-both)
    → tags (changed_node (turned_term c.args.to) (marked_query c.args.self.now) c.args.bits) + c.spread-named.result
    ≡ 2 * c.spread-used.result + c.spread-changed.result + tag_of the_type c.args.to * c.spread-both.result
whole c =
    rw as_added (tag_sum c.args.self.now c.args.to c.args.bits _ _ _ _ _ c.spread-used.ensures.bytes c.spread-named.ensures.bytes c.spread-changed.ensures.bytes c.spread-both.ensures.bytes c.all_marks.ensures c.requires)

pub overflow_mul-result-2 : goal.overflow_mul-result-2
overflow_mul-result-2 c = rw as_added (omega (arith, added_most c.args.to c.spread-both.result, c.spread-both.ensures.most))

pub overflow_add-result-2 : goal.overflow_add-result-2
overflow_add-result-2 c =
    rw as_added (omega (arith, added_most c.args.to c.spread-both.result, c.spread-both.ensures.most, c.spread-used.ensures.most, c.spread-changed.ensures.most))

pub overflow_sub-result : goal.overflow_sub-result
overflow_sub-result c = omega (arith, whole c)

pub returns : goal.returns
returns c = omega (arith, whole c)
