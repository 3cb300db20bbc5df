-- What an abandoning would raise that is accepted and reports no end, where crates/rules/specs has no name for it. Leans on rules. Definitions only.
-- Assumes nothing.
use Rattle.std.specs.Prelude.{◌≡◌, ℕ, ◌≤◌, ◌<◌, length, Option, Some}
use Rattle.rules.specs.declared.Count.{Count}
use Rattle.rules.specs.Layout.{max_clients, clients_least}
use Rattle.rules.specs.Client.{work_at}
use Rattle.rules.specs.Memory.{Mem, client_in}
use Rattle.rules.specs.Refusals.{form, shape}
use Rattle.rules.specs.Tally.{abandoned_count}

-- of a desk that is there, in memories that hold it, it is the count of the work that is under way
abbrev pub LeavesCount : Option Count → Mem → ℕ → Type 0
LeavesCount count m d =
    d < max_clients → clients_least (form m) (shape m) ≤ length m.clients → count ≡ Some (abandoned_count (work_at (shape m) (client_in (form m) m.clients d)))
