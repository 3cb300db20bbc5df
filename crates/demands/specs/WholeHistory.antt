-- Document 01, "A history and the plain table", for the theorems: a whole history, its calls by number, and what is under way.
-- Leans on rules' History and Tally. Definitions only. Assumes nothing.
use Rattle.std.specs.Prelude.{◌≡◌, Bool, true, false, cond, ◌&&◌, List, ℕ, zero, suc, ◌+◌, ◌<◌, eqb, ltb, length, get_or, take, None}
use Rattle.rules.specs.declared.Outcome.{Outcome}
use Rattle.rules.specs.declared.Outcome.TheVariants.{Refused, Accepted, Answered, Long, Ended, Full}
use Rattle.rules.specs.Memory.{Mem, opened}
use Rattle.rules.specs.Outcome.{StepResult, number}
use Rattle.rules.specs.Refusals.{open_code}
use Rattle.rules.specs.History.{Call, begin, step, abandon, evict_answer, evict_node, renew, is_accepted, Plain, plain_at_opening}
use Rattle.rules.specs.Tally.{Made, made, is_tally_full, made_result, mem_after, plain_after}
use Rattle.rules.specs.Work.{Request}
use Rattle.query.specs.Shape.{Shape, shape_of}

-- "A history is an accepted opening, with any k, and after it a list of calls, the empty one too"; a call may be lent a tally (S-7), any one each
-- time
pub record History : Type 0 where
  -- the memories, with the form in which they are read: a history is one of either form. Those of the calls as they are served now are of the
  -- form `current` (rules, Memory)
  pub lent : Mem
  pub k : ℕ
  pub accepted : open_code lent k ≡ 0
  pub calls : List Made

-- the shape that its opening makes
abbrev pub shape_at : History → Shape
shape_at h = shape_of h.k

-- the memories and the plain table after the first n calls; calls are numbered from 0
unfoldable pub mem_at : History → ℕ → Mem
mem_at h n = mem_after (opened (shape_at h) h.lent) (take n h.calls)

unfoldable pub plain_at : History → ℕ → Plain
plain_at h n = plain_after (opened (shape_at h) h.lent) (plain_at_opening (shape_at h)) (take n h.calls)

-- call n, and what it returned and left
unfoldable pub made_at : History → ℕ → Made
made_at h n = get_or h.calls n (made renew None)

unfoldable pub call_at : History → ℕ → Call
call_at h n = (made_at h n).call

unfoldable pub result_at : History → ℕ → StepResult
result_at h n = made_result (mem_at h n) (made_at h n)

unfoldable pub accepted_at : History → ℕ → Bool
accepted_at h n = is_accepted (number (result_at h n).out)

-- 15 does not apply to it: it is lent no tally, or the count that it would raise does not stand at its largest
abbrev pub HasRoom : History → ℕ → Type 0
HasRoom h n = is_tally_full (mem_at h n) (made_at h n) ≡ false

-- "one that answers, gives 12, reports the write's end"
unfoldable pub ends_work : Outcome → Bool
ends_work (Refused n) = false
ends_work Accepted = false
ends_work (Answered n b) = true
ends_work Long = true
ends_work (Ended b) = true
ends_work Full = true

-- "A read or write runs from its accepted begin to the call at its desk that ends it: .. or an accepted abandoning."
unfoldable pub ends_at : ℕ → Call → Outcome → Bool
ends_at d (begin e r) o = false
ends_at d (step e tray) o = eqb e d && ends_work o
ends_at d (abandon e) o = eqb e d && is_accepted (number o)
ends_at d (evict_answer i) o = false
ends_at d (evict_node i) o = false
ends_at d renew o = false

-- what call b began at desk d is under way when call n comes: no call in between has ended it
pub record UnderWay (h : History) (r : Request) (d b n : ℕ) : Type 0 where
  pub begins : call_at h b ≡ begin d r
  pub accepted : accepted_at h b ≡ true
  pub earlier : b < n
  pub still : (i : ℕ) → b < i → i < n → ends_at d (call_at h i) (result_at h i).out ≡ false

unfoldable pub is_step_at : ℕ → Call → Bool
is_step_at d (begin e r) = false
is_step_at d (step e tray) = eqb e d
is_step_at d (abandon e) = false
is_step_at d (evict_answer i) = false
is_step_at d (evict_node i) = false
is_step_at d renew = false

-- how many accepted steps desk d has made after call b and before call n
unfoldable pub steps_in : History → ℕ → ℕ → ℕ → ℕ
steps_in h d b zero = 0
steps_in h d b (suc n) = cond (ltb b n && (is_step_at d (call_at h n) && accepted_at h n)) 1 0 + steps_in h d b n

-- The steps of a read or a write, told by the calls alone: call n is an accepted step at desk d of what call b began there by r, which had made i accepted steps before
pub record StepOf (h : History) (r : Request) (d b n i : ℕ) : Type 0 where
  pub tray : List ℕ
  pub within : n < length h.calls
  pub calls : call_at h n ≡ step d tray
  pub accepted : accepted_at h n ≡ true
  pub runs : UnderWay h r d b n
  pub made : steps_in h d b n ≡ i

-- The same of an abandoning: call n is an accepted one at desk d of what call b began there by r, which had made i accepted steps before
pub record AbandonOf (h : History) (r : Request) (d b n i : ℕ) : Type 0 where
  pub within : n < length h.calls
  pub calls : call_at h n ≡ abandon d
  pub accepted : accepted_at h n ≡ true
  pub runs : UnderWay h r d b n
  pub made : steps_in h d b n ≡ i
