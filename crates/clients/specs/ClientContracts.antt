-- What the functions over one client's numbers take for granted and leave, where crates/rules/specs has no name for it.
-- Leans on rules and lists. Definitions only. Assumes nothing.
use Rattle.std.specs.Prelude.{◌≡◌, Bool, cond, not, ◌&&◌, ◌||◌, List, ◌∷◌, ℕ, ◌+◌, ◌≤◌, ◌<◌, eqb, length, get_or, take, drop, set}
use Rattle.lists.specs.Lists.{padded, written}
use Rattle.query.specs.Query.{Query, read_count, write_count}
use Rattle.query.specs.declared.Range.{Range}
use Rattle.query.specs.Range.{is_ranged, is_range, is_reversed}
use Rattle.query.specs.Encoding.{names_all, bare_key}
use Rattle.query.specs.Shape.{Shape, max_columns}
use Rattle.rules.specs.Layout.{max_clients, list_width, client_width, clients_end, held_length_offset, held_list_offset, reads, refused_unsound, refused_idle}
use Rattle.rules.specs.Work.{Ask, Write, Work, asking, writing}
use Rattle.rules.specs.Answers.{key_in, is_count}
use Rattle.rules.specs.Client.{Client, kind, steps, entry_of, is_idle, is_bad, ask_at, write_at, stepped}
use Rattle.rules.specs.Memory.{current, shape_in, client_in}
use Rattle.rules.specs.Refusals.{refuse}
use Rattle.rules.specs.Sound.{Busy}
use Rattle.hall.specs.declared.kind.Kind.{Kind}
use Rattle.hall.specs.declared.kind.Kind.TheVariants.{Read, Insert, Delete}
use Rattle.hall.specs.Kind.{kind_number}
use Rattle.columns.specs.MarkedContracts.{marked_query}
use Rattle.clients.specs.declared.Numbers.{Numbers}
use Rattle.clients.specs.declared.Held.{Held}

-- a memory that holds all clients, and one of them
pub record Fit (s : List ℕ) (d : ℕ) : Type 0 where
  pub long : clients_end current ≤ length s
  pub below : d < max_clients

-- n are the numbers of client d: the hall's columns, and of the client its kind, its steps, of its key the marks, whether it says "count", and the
-- values
pub record IsNumbers (n : Numbers) (s : List ℕ) (d : ℕ) : Type 0 where
  pub columns : n.columns ≡ (shape_in s).columns
  pub kind : n.kind ≡ kind (client_in current s d)
  pub steps : n.steps ≡ steps (client_in current s d)
  pub marks : n.marks ≡ get_or (bare_key (key_in (entry_of (client_in current s d)))) 0 0
  pub counts : n.counts ≡ is_count (entry_of (client_in current s d))
  pub values : n.values ≡ take max_columns (drop 1 (key_in (entry_of (client_in current s d))))

-- h is what was read of a client's numbers in a hall of k columns: its query's columns, its kind, its steps, of its key the marks, whether it says
-- "count", and the values
pub record IsRead (h : Held) (k : ℕ) (c : Client) : Type 0 where
  pub columns : h.query.k ≡ k
  pub kind : kind_number h.kind ≡ kind c
  pub steps : h.steps ≡ steps c
  pub marks : h.query.marks ≡ get_or (bare_key (key_in (entry_of c))) 0 0
  pub counts : h.counts ≡ is_count (entry_of c)
  pub values : h.query.values ≡ take max_columns (drop 1 (key_in (entry_of c)))

-- and of client d
abbrev pub IsHeld : Held → List ℕ → ℕ → Type 0
IsHeld h s d = IsRead h (shape_in s).columns (client_in current s d)

-- what it is found to be: 3 unsound or 6 idle, by the client alone
unfoldable pub client_code : List ℕ → ℕ → ℕ
client_code s d =
    refuse (is_bad (shape_in s) (client_in current s d)) refused_unsound (refuse (is_idle (client_in current s d)) refused_idle 0)

-- its query
abbrev pub held_query : Held → Query
held_query h = marked_query h.query

-- client d, of which h was read, is sound and busy with w (rules, `Busy`)
pub record At (h : Held) (s : List ℕ) (d : ℕ) (w : Work) : Type 0 where
  pub held : IsHeld h s d
  pub fit : Fit s d
  pub busy : Busy (shape_in s) (client_in current s d) w

-- as a reader, and as a writer: what it asks or writes is what its numbers tell
abbrev pub asked_at : List ℕ → ℕ → Ask
asked_at s d = ask_at (shape_in s) (client_in current s d)

abbrev pub written_at : List ℕ → ℕ → Write
written_at s d = write_at (shape_in s) (client_in current s d)

abbrev pub Reader : Held → List ℕ → ℕ → Type 0
Reader h s d = At h s d (asking (asked_at s d))

abbrev pub Writer : Held → List ℕ → ℕ → Type 0
Writer h s d = At h s d (writing (written_at s d))

-- client d is idle
unfoldable pub idle_at : List ℕ → ℕ → Bool
idle_at s d = is_idle (client_in current s d)

-- as a begin leaves a client (rules, `begun`), with the work's kind and key in place of the work
unfoldable pub begun_with : ℕ → List ℕ → Client
begun_with x key = padded client_width (x ∷ 0 ∷ 0 ∷ 0 ∷ 0 ∷ key)

-- how many steps a client makes at the most (rules, `steps_in_all`), by its kind and its query
unfoldable pub steps_of_kind : ℕ → Query → ℕ
steps_of_kind x q = cond (eqb x reads) (read_count q + 3) (write_count q + 1 + write_count q)

-- a begin would take such work: a read with its range; an insert of a value for every column, and a delete, neither with a range or for a count
abbrev pub fits : Kind → Bool → Range → Shape → Query → Bool
fits Read counts range sh q = not (not (is_range sh q range) || is_reversed range)
fits Insert counts range sh q = not (counts || is_ranged range) && names_all q
fits Delete counts range sh q = not (counts || is_ranged range)

-- a client that got a list of n records, the `used` numbers of which are in their place already, or a count of n, which has none: the number n,
-- zeros behind the numbers, and one step more
unfoldable pub value_set : ℕ → ℕ → Shape → Client → Client
value_set n used sh c =
    written (set (stepped c) held_length_offset n) (held_list_offset sh)
    (padded (list_width sh) (take used (drop (held_list_offset sh) c)))
