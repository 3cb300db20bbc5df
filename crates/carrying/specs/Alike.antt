-- Two halls, of whatever forms, that are read the same; and what it is that a call does the same to both. Leans on rules. Definitions only.
-- Assumes nothing.
use Rattle.std.specs.Prelude.{◌≡◌, List, [], ◌∷◌, ℕ, ◌≤◌, ◌<◌}
use Rattle.query.specs.Shape.{Form, Shape}
use Rattle.rules.specs.declared.Outcome.TheVariants.{Refused}
use Rattle.rules.specs.declared.Tally.{Tally}
use Rattle.rules.specs.Layout.{max_clients, max_revision, worn_above, refused_worn}
use Rattle.rules.specs.Memory.{Mem, records_in, store_in, answers_in}
use Rattle.rules.specs.Refusals.{form, shape, columns, client}
use Rattle.rules.specs.Outcome.{StepResult}
use Rattle.rules.specs.Tally.{Made, made_result, tally_after}

-- the same shape, records, floor and nodes, filed answers, and desks 0 to 11, as they are read
pub record Alike (m n : Mem) : Type 0 where
  pub shape : shape m ≡ shape n
  pub table : records_in (columns m) m.table ≡ records_in (columns n) n.table
  pub store : store_in (form m) m.nodes ≡ store_in (form n) n.nodes
  pub answers : answers_in (form m) m.answers ≡ answers_in (form n) n.answers
  pub clients : (d : ℕ) → d < max_clients → client m d ≡ client n d

-- the same outcome (number, count and ending) and tray, and halls that are alike
pub record AlikeResult (x y : StepResult) : Type 0 where
  pub out : x.out ≡ y.out
  pub tray : x.tray ≡ y.tray
  pub mem : Alike x.mem y.mem

-- a form g whose counters hold at least what those of f do, and which is worn no sooner
pub record Wider (f g : Form) : Type 0 where
  pub worn : (sh : Shape) → worn_above f sh ≤ worn_above g sh
  pub most : max_revision f ≤ max_revision g

-- "every later call but an opening or a carrying, with the same arguments, answers as the old hall would have, up to the old hall's first 10" (S-8):
-- of each of these calls, made on o and on n one after another, with the same tally or none, n gives the same outcome, the same tray and the same
-- tally as o, and so at the next; unless o gives 10, and then nothing more is said
unfoldable pub SameAnswers : Mem → Mem → List Made → Type 0
SameAnswers o n [] = Unit
SameAnswers o n (x ∷ xs) =
    ((made_result o x).out ≡ Refused refused_worn → ⊥)
    → ((made_result n x).out ≡ (made_result o x).out)
    × ((made_result n x).tray ≡ (made_result o x).tray)
    × ((t : Tally) → tally_after n x.call t ≡ tally_after o x.call t)
    × SameAnswers (made_result o x).mem (made_result n x).mem xs
