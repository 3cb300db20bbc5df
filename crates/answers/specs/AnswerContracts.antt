-- What the functions over the answers memory ask of it, and what one that gives a list leaves. The rules themselves are those of the crate
-- rules. Definitions only. Assumes nothing.
use Rattle.std.specs.Prelude.{◌≡◌, List, ℕ, ◌≤◌, length, get_or, Option, position}
use Rattle.lists.specs.Lists.{written}
use Rattle.query.specs.Shape.{shape_of}
use Rattle.rules.specs.Layout.{max_answers, answer_count_offset, answers_end}
use Rattle.rules.specs.Answers.{Entry, length_in, list_in, serves}
use Rattle.rules.specs.Memory.{current}

-- an answers memory that is long enough, and holds no more answers than are kept
pub record Fit (s : List ℕ) : Type 0 where
  pub long : answers_end current ≤ length s
  pub few : get_or s answer_count_offset 0 ≤ max_answers

-- the place of the first entry that may be answered with, where there is one: the rules' `fetch_place`, where that is below the length
unfoldable pub fetched : ℕ → Entry → List Entry → Option ℕ
fetched n x es = position (serves n x) es

-- r is the number of records of e, and a list's stand from the tray's start on; what the tray had behind them stays, and for a count all of it
pub record Gave (k : ℕ) (e : Entry) (tray : List ℕ) (r : ℕ) (after : List ℕ) : Type 0 where
  pub count : r ≡ length_in e
  pub list : after ≡ written tray 0 (list_in (shape_of k) e)
