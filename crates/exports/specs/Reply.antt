-- What an exported call sends back: the three numbers of its outcome, and the memories, and the tally where one is lent. Leans on the rules (Outcome,
-- Tally). Definitions only.
-- Assumes nothing.
use Rattle.std.specs.Prelude.{List, ℕ}
use Rattle.rules.specs.declared.Outcome.{Outcome}
use Rattle.rules.specs.declared.Tally.{Tally}
use Rattle.rules.specs.Memory.{Mem}
use Rattle.rules.specs.Work.{Request}
use Rattle.rules.specs.History.{begin, step, abandon}
use Rattle.rules.specs.Outcome.{number, count, ending, Result, StepResult}
use Rattle.rules.specs.Tally.{Tallied, tallied_result}
use Rattle.exports.specs.declared.Reply.{Reply}

abbrev pub replied : ℕ → ℕ → ℕ → Reply
replied n c e = record { number = n; count = c; ending = e }

unfoldable pub reply_of : Outcome → Reply
reply_of o = replied (number o) (count o) (ending o)

-- what a call leaves, with the reply in place of the outcome
pub record Sent : Type 0 where
  pub reply : Reply
  pub mem : Mem

abbrev pub sent : Reply → Mem → Sent
sent r m = record { reply = r; mem = m }

unfoldable pub sent_by : Result → Sent
sent_by d = sent (reply_of d.out) d.mem

-- the same of a step, which is lent the tray too
pub record SentWith : Type 0 where
  pub reply : Reply
  pub mem : Mem
  pub tray : List ℕ

abbrev pub sent_with : Reply → Mem → List ℕ → SentWith
sent_with r m t = record { reply = r; mem = m; tray = t }

unfoldable pub sent_by_step : StepResult → SentWith
sent_by_step s = sent_with (reply_of s.out) s.mem s.tray

-- ---- A call that is lent a tally (S-7)
-- what it leaves: the reply, the memories, the tray, which is empty where none is lent, and the tally
pub record SentTallied : Type 0 where
  pub reply : Reply
  pub mem : Mem
  pub tray : List ℕ
  pub tally : Tally

abbrev pub sent_tallied : Reply → Mem → List ℕ → Tally → SentTallied
sent_tallied r m x t = record { reply = r; mem = m; tray = x; tally = t }

unfoldable pub sent_by_tallied : Tallied → SentTallied
sent_by_tallied d = sent_tallied (reply_of d.out) d.mem d.tray d.tally

-- what a begin, a step and an abandoning send back
abbrev pub begin_tallied : Mem → Tally → ℕ → Request → SentTallied
begin_tallied m t d r = sent_by_tallied (tallied_result m t (begin d r))

abbrev pub step_tallied : Mem → Tally → ℕ → List ℕ → SentTallied
step_tallied m t d x = sent_by_tallied (tallied_result m t (step d x))

abbrev pub abandon_tallied : Mem → Tally → ℕ → SentTallied
abandon_tallied m t d = sent_by_tallied (tallied_result m t (abandon d))
