-- What the steps of a read take for granted: what a step's refusals have ruled out, memory by memory, and which step it is.
-- Leans on rules and on the crates of the memories. Definitions only. Assumes nothing.
use Rattle.std.specs.Prelude.{◌≡◌, true, false, cond, List, ℕ, ◌+◌, ◌≤◌, ◌<◌, length, Option, None}
use Rattle.query.specs.Query.{Record}
use Rattle.query.specs.Shape.{max_columns}
use Rattle.rules.specs.Layout.{tray_least, look_room}
use Rattle.rules.specs.Work.{read_labels, list_within}
use Rattle.rules.specs.Answers.{is_long, some_long}
use Rattle.rules.specs.Client.{Client, steps, saw_pending, entry_of, query_at, range_at}
use Rattle.rules.specs.Memory.{current, shape_in, client_in, answers_in, records_in}
use Rattle.nodes.specs.NodeContracts as nodes
use Rattle.answers.specs.AnswerContracts as answers
use Rattle.clients.specs.declared.Held.{Held}
use Rattle.clients.specs.ClientContracts as client_contracts
use Rattle.clients.specs.ClientContracts.{Reader, asked_at}
use Rattle.table.specs.TableContracts as table

-- how many nodes the read has, and how many steps it has made
abbrev pub looks : List ℕ → ℕ → ℕ
looks clients d = length (read_labels (asked_at clients d))

abbrev pub made : List ℕ → ℕ → ℕ
made clients d = steps (client_in current clients d)

-- ---- each step; h: what was read of the client
pub record Looks (ns clients : List ℕ) (d : ℕ) (h : Held) : Type 0 where
  pub read : Reader h clients d
  pub fit : nodes.Fit ns
  pub step : made clients d < looks clients d

-- the search for a filed answer, by the client's own entry and the n revisions noted in it
pub record Finds (filed clients : List ℕ) (d n : ℕ) : Type 0 where
  pub fit : answers.Fit filed
  pub client : client_contracts.Fit clients d
  pub few : n ≤ look_room

-- none where a mark was seen, else what it finds
unfoldable pub found_for : List ℕ → Client → ℕ → Option ℕ
found_for s c n = cond (saw_pending c) None (answers.fetched n (entry_of c) (answers_in current s))

pub record Fetches (filed clients tray : List ℕ) (d : ℕ) (h : Held) : Type 0 where
  pub read : Reader h clients d
  pub fit : answers.Fit filed
  pub short : some_long (answers_in current filed) ≡ false
  pub room : tray_least ≤ length tray
  pub step : made clients d ≡ looks clients d

-- the records of a table of k columns that client d asks for: in its query's subspace, within its range
abbrev pub asked_for : ℕ → List ℕ → List ℕ → ℕ → List Record
asked_for k records clients d =
    list_within (range_at (client_in current clients d)) (query_at (shape_in clients) (client_in current clients d)) (records_in k records)

pub record Gathers (records clients : List ℕ) (d : ℕ) (h : Held) : Type 0 where
  pub read : Reader h clients d
  pub fit : table.Fit h.query.k records

-- what the client holds, given
pub record Gives (clients tray : List ℕ) (d k : ℕ) : Type 0 where
  pub client : client_contracts.Fit clients d
  pub few : k ≤ max_columns
  pub short : is_long (entry_of (client_in current clients d)) ≡ false
  pub room : tray_least ≤ length tray

pub record Counts (records clients : List ℕ) (d : ℕ) (h : Held) : Type 0 where
  pub read : Reader h clients d
  pub fit : table.Fit h.query.k records
  pub counts : h.counts ≡ true
  pub step : made clients d ≡ looks clients d + 1

pub record Lists (records clients tray : List ℕ) (d : ℕ) (h : Held) : Type 0 where
  pub read : Reader h clients d
  pub fit : table.Fit h.query.k records
  pub room : tray_least ≤ length tray
  pub step : made clients d ≡ looks clients d + 1

pub record Files (filed clients tray : List ℕ) (d : ℕ) (h : Held) : Type 0 where
  pub read : Reader h clients d
  pub fit : answers.Fit filed
  pub room : tray_least ≤ length tray
  pub step : made clients d ≡ looks clients d + 2

-- any of them
pub record Steps (records ns filed clients tray : List ℕ) (d : ℕ) (h : Held) : Type 0 where
  pub read : Reader h clients d
  pub listed : table.Fit h.query.k records
  pub nodes : nodes.Fit ns
  pub fit : answers.Fit filed
  pub short : some_long (answers_in current filed) ≡ false
  pub room : tray_least ≤ length tray

-- ---- which count a step would raise (would.rt): nothing is altered, so neither nodes nor tray are asked for
pub record ForeseesFetch (filed clients : List ℕ) (d : ℕ) (h : Held) : Type 0 where
  pub read : Reader h clients d
  pub fit : answers.Fit filed
  pub step : made clients d ≡ looks clients d

pub record ForeseesTable (records clients : List ℕ) (d : ℕ) (h : Held) : Type 0 where
  pub read : Reader h clients d
  pub fit : table.Fit h.query.k records
  pub step : made clients d ≡ looks clients d + 1

pub record Foresees (records filed clients : List ℕ) (d : ℕ) (h : Held) : Type 0 where
  pub read : Reader h clients d
  pub listed : table.Fit h.query.k records
  pub fit : answers.Fit filed
