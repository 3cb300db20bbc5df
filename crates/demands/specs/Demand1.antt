-- Demand 1, about the definitions that the calls' contracts cite: what any call, the opening too, lent a tally or none, does to memories of
-- any contents with any arguments. Leans on rules' Calls, History and Tally. Definitions only. Assumes nothing.
use Rattle.std.specs.Prelude.{◌≡◌, ◌⊎◌, true, false, List, [], ℕ, ◌≤◌, length, drop, Option, Some}
use Rattle.query.specs.Shape.{Shape, shape_of}
use Rattle.rules.specs.declared.Outcome.TheVariants.{Refused}
use Rattle.rules.specs.Layout.{table_least, nodes_least, answers_least, clients_least, tray_least, refused_short, refused_occupied, refused_reversed, refused_tally_full}
use Rattle.rules.specs.Memory.{Mem}
use Rattle.rules.specs.Outcome.{StepResult, number}
use Rattle.rules.specs.Answers.{is_count}
use Rattle.rules.specs.Client.{entry_of}
use Rattle.rules.specs.Refusals.{form, shape, client}
use Rattle.rules.specs.Calls.{open_result}
use Rattle.rules.specs.declared.Tally.{Tally}
use Rattle.rules.specs.History.{Call, step, tray_of, untrayed, is_accepted}
use Rattle.rules.specs.Tally.{Made, made, made_result, tally_after}

-- "past the stated length it is unaltered": after is what a call has left of a memory, or of the tray, whose least length this is
pub record Unaltered (least : ℕ) (before after : List ℕ) : Type 0 where
  pub size : length after ≡ length before
  pub past : drop least after ≡ drop least before

-- what a call returned and left (x), by what it was lent: the memories m, whose least lengths are those of a hall of their form and of this shape,
-- and a tray
pub record Leaves (sh : Shape) (m : Mem) (lent : List ℕ) (x : StepResult) : Type 0 where
  -- "Every memory lent to the controller, .. past the stated length it is unaltered."
  pub table : Unaltered table_least m.table x.mem.table
  pub nodes : Unaltered (nodes_least (form m)) m.nodes x.mem.nodes
  pub answers : Unaltered (answers_least (form m) sh) m.answers x.mem.answers
  pub clients : Unaltered (clients_least (form m) sh) m.clients x.mem.clients
  pub tray : Unaltered tray_least lent x.tray
  -- "Refusals 1 to 11 alter nothing", and "any number that a later request adds to a call" (14, S-3; 15, S-7): a call that is not accepted ("A call is
  -- accepted if it returns 0, 12 or 13.") leaves all as it was
  pub refused : is_accepted (number x.out) ≡ false → (x.mem ≡ m) × (x.tray ≡ lent)
  -- and what a call is refused with is 1 to 11, of which 7 "is given no longer" (S-4; RefusalRows, `GivenNoLonger`), 14 or 15
  pub numbers : (n : ℕ) → x.out ≡ Refused n → ((refused_short ≤ n) × (n ≤ refused_occupied)) ⊎ ((n ≡ refused_reversed) ⊎ (n ≡ refused_tally_full))

-- "with any contents and any arguments", "no call trusts its caller": any memories, any arguments, every call, with any tally or without. The
-- opening goes by the shape that it is asked for, every other call by the one that the desks memory tells; each by the form in which the
-- memories are read.
pub record Demand1 : Type 0 where
  pub opening : (m : Mem) (k : ℕ) → Leaves (shape_of k) m [] (untrayed (open_result m k))
  pub calls : (m : Mem) (x : Made) → Leaves (shape m) m (tray_of x.call) (made_result m x)
  -- "15 .., altering nothing" (S-7), nor does any other refusal alter the tally
  pub tallies : (m : Mem) (c : Call) (t : Tally) → is_accepted (number (made_result m (made c (Some t))).out) ≡ false → tally_after m c t ≡ t
  -- S-1: "The tray of a count is untouched": at every step of a desk whose key says "count", the one that answers too
  pub counts : (m : Mem) (tray : List ℕ) (d : ℕ) (t : Option Tally) → is_count (entry_of (client m d)) ≡ true → (made_result m (made (step d tray) t)).tray ≡ tray
