-- `writing::write_table_step` meets its contract: the client keeps what the change said. Assumes nothing.
use Rattle.std.proofs.Common.{◌≡◌, Bool, ap, ap₂, ◌∙◌, refl}
use denote.Enum.Bare.{sameb}
use Rattle.rules.specs.Client.{Client, wrote}
use Rattle.rules.specs.Memory.{current, client_in, with_client}
use Rattle.writing.specs.declared.Report.{Report}
use Rattle.writing.specs.declared.Report.TheVariants.{Changed, Unchanged, Full}
use Rattle.writing.specs.contracts.Report.{the_type}
use Rattle.writing.proofs.WriteSteps.{held_change_law, held_width, says_changed, says_full, table_done, table_says}
use Rattle.writing.proofs.write_table_step.Goals as goal

changed_said : (r : Report) → sameb the_type r Changed ≡ says_changed r
changed_said Changed = refl
changed_said Unchanged = refl
changed_said Full = refl

full_said : (r : Report) → sameb the_type r Full ≡ says_full r
full_said Changed = refl
full_said Unchanged = refl
full_said Full = refl

kept : (r : Report) (b f : Bool) → b ≡ sameb the_type r Changed → f ≡ sameb the_type r Full → (c : Client) → wrote b f c ≡ wrote (says_changed r) (says_full r) c
kept r b f e g c = ap₂ (λ x y. wrote x y c) (e ∙ changed_said r) (g ∙ full_said r)

pub returns : goal.returns
returns c =
    let p = c.requires in
    let w = p.writer in
    let said = c.change-said.ensures in
    let left = c.set_wrote.ensures ∙ ap (with_client current c.args.clients.now c.args.d) (kept _ _ _ c.eq.ensures c.eq-2.ensures (client_in current c.args.clients.now c.args.d)) in
    record {
      left = λ n a y. table_done _ _ _ _ _ _ _ _ said.said said.left left n a y _ _ p.due w.held.columns (held_change_law w);
      says = table_says _ _ _ _ _ _ _ _ said.said said.left left w.fit p.fit (held_width w);
    }
