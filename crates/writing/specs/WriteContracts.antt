-- What the functions of a write take for granted, and what they leave where crates/rules/specs has no name for it.
-- Leans on rules. Definitions only. Assumes nothing.
use Rattle.std.specs.Prelude.{◌≡◌, Bool, true, false, cond, List, [], ◌∷◌, ℕ, ◌<◌, eqb, length, take}
use Rattle.std.proofs.Math.Option.{Option, none, some}
use Rattle.lists.specs.Lists.{listed}
use Rattle.query.specs.Query.{Query, write_node}
use Rattle.query.specs.Encoding.{label_words}
use Rattle.rules.specs.declared.Outcome.{Outcome}
use Rattle.rules.specs.declared.Outcome.TheVariants.{Accepted}
use Rattle.rules.specs.Layout.{max_revision, inserts}
use Rattle.rules.specs.Table.{Table, Change, insert, delete, changes, no_room}
use Rattle.rules.specs.Nodes.{Words, Store, pending, revision, node_place, retired}
use Rattle.rules.specs.Work.{write_labels}
use Rattle.rules.specs.Client.{Client, steps, did_change, idle, stepped}
use Rattle.rules.specs.Memory.{current, Mem, client_in, store_in}
use Rattle.rules.specs.Outcome.{Result, StepResult}
use Rattle.rules.specs.Refusals.{form}
use Rattle.rules.specs.Steps.{write_result, end_of}
use Rattle.rules.specs.Calls.{announced_labels, labels_left, retire_result, abandoned_write}
use Rattle.hall.specs.Kind.{kind_number}
use Rattle.nodes.specs.NodeContracts.{node_at, retired_at}
use Rattle.clients.specs.declared.Held.{Held}
use Rattle.clients.specs.ClientContracts.{held_query, written_at}
use Rattle.table.specs.declared.Inserted.{Inserted}
use Rattle.table.specs.declared.Inserted.TheVariants.{Added, Present, Full as NoRoom}
use Rattle.writing.specs.declared.Report.{Report}
use Rattle.writing.specs.declared.Report.TheVariants.{Changed, Unchanged, Full}

-- how many steps the write has made; the labels of its nodes, and how many there are
abbrev pub step_at : List ℕ → ℕ → ℕ
step_at s d = steps (client_in current s d)

abbrev pub labels_at : List ℕ → ℕ → List Words
labels_at s d = write_labels (written_at s d)

abbrev pub count_at : List ℕ → ℕ → ℕ
count_at s d = length (labels_at s d)

-- what the next step of client d's write leaves
abbrev pub step_of : Mem → List ℕ → ℕ → StepResult
step_of m tray d = write_result m tray d (written_at m.clients d) (step_at m.clients d)

-- what the taking back of its marks leaves; and what the raises that are left leave, all at once (S-4), with a lift if the table changed (S-6)
abbrev pub back_of : Mem → ℕ → Result
back_of m d = retire_result m d Accepted (retired (form m) false (announced_labels (written_at m.clients d) (step_at m.clients d)) (store_in (form m) m.nodes))

abbrev pub raised_of : Mem → ℕ → Result
raised_of m d =
    retire_result m d (end_of (client_in (form m) m.clients d))
    (retired (form m) (did_change (client_in (form m) m.clients d)) (labels_left (written_at m.clients d) (step_at m.clients d)) (store_in (form m) m.nodes))

-- what its abandoning leaves: the one before its table step, the other after it
abbrev pub abandon_of : Mem → ℕ → Result
abandon_of m d = abandoned_write m d (written_at m.clients d) (step_at m.clients d)

-- what a write does to the table, by what was read of its client
unfoldable pub held_change : Held → Change
held_change h = cond (eqb (kind_number h.kind) inserts) (insert (take h.query.k h.query.values)) (delete (held_query h))

-- what a write's table step says of the table; of an insert, by what that says
unfoldable pub reported : Change → Table → Report
reported w t = cond (no_room w t) Full (cond (changes w t) Changed Unchanged)

abbrev pub report_of : Inserted → Report
report_of Added = Changed
report_of Present = Unchanged
report_of NoRoom = Full

-- after a raise: the last one ends the write
abbrev pub raise_end : Bool → Client → Outcome
raise_end is_last c = cond is_last (end_of c) Accepted

abbrev pub raise_left : Bool → Client → Client
raise_left is_last c = cond is_last idle (stepped c)

-- ---- marks taken off, by the labels of the nodes and by their places
-- the label of the write's node i, in five numbers; and the labels of n nodes, from number i on
abbrev pub label_at : Query → ℕ → Words
label_at q i = label_words (write_node q i)

unfoldable pub labels_from : Query → ℕ → ℕ → List Words
labels_from q i n = listed (label_at q) i n

-- a store was found
unfoldable pub is_found : Option Store → Bool
is_found none = false
is_found (some s) = true

-- where the labels' nodes stand
unfoldable pub places_of : List Words → Store → List ℕ
places_of [] s = []
places_of (p ∷ ps) s = node_place p s.nodes ∷ places_of ps s

-- one taken off the node at each place, one after another
unfoldable pub taken_off : Bool → List ℕ → Store → Store
taken_off lift [] s = s
taken_off lift (i ∷ l) s = taken_off lift l (retired_at lift i s)

-- node i is there and has a pending write, and its revision can go up if it is to be lifted
pub record CanRetire (lift : Bool) (i : ℕ) (s : Store) : Type 0 where
  pub below : i < length s.nodes
  pub marked : 0 < pending (node_at i s)
  pub room : lift ≡ true → revision (node_at i s) < max_revision current

-- each is so when its turn comes
unfoldable pub CanTakeOff : Bool → List ℕ → Store → Type 0
CanTakeOff lift [] s = Unit
CanTakeOff lift (i ∷ l) s = CanRetire lift i s × CanTakeOff lift l (retired_at lift i s)
