-- The numbers of the refusals, and what a call answers with that may be turned down. Leans on the rules (Layout, Outcome). Definitions only.
-- Assumes nothing.
use Rattle.std.specs.Prelude.{ℕ, Result, Ok, Err}
use Rattle.rules.specs.declared.Outcome.{Outcome}
use Rattle.rules.specs.declared.Outcome.TheVariants.{Refused}
use Rattle.rules.specs.Layout.{refused_short, refused_columns, refused_unsound, refused_no_client, refused_taken, refused_idle, refused_no_entry}
use Rattle.rules.specs.Layout.{refused_pending, refused_worn, refused_occupied, refused_reversed, refused_tally_full}
use Rattle.hall.specs.declared.refusal.Refusal.{Refusal}
use Rattle.hall.specs.declared.refusal.Refusal.TheVariants.{Short, Columns, Unsound, NoClient, Taken, Idle, NoEntry, Pending, Worn, Occupied, Reversed, TallyFull}

-- "What the controller turns down", by its number
abbrev pub number_of : Refusal → ℕ
number_of Short = refused_short
number_of Columns = refused_columns
number_of Unsound = refused_unsound
number_of NoClient = refused_no_client
number_of Taken = refused_taken
number_of Idle = refused_idle
number_of NoEntry = refused_no_entry
number_of Pending = refused_pending
number_of Worn = refused_worn
number_of Occupied = refused_occupied
number_of Reversed = refused_reversed
number_of TallyFull = refused_tally_full

-- the number that a check turns a call down with, or 0
abbrev pub code_of : {A : Type 0} → Result A Refusal → ℕ
code_of (Ok a) = 0
code_of (Err r) = number_of r

-- what a call answers with
abbrev pub outcome_of : Result Outcome Refusal → Outcome
outcome_of (Ok out) = out
outcome_of (Err r) = Refused (number_of r)
