-- S-7, the day's tally: each count "defined from the history of calls, not from the others", by the calls and what they returned; that a tally handed
-- on from a cleared one holds these numbers; and the two sums. Leans on WholeHistory, on rules' Tally and on Demand2's `is_unchanged`. Definitions
-- only. Assumes nothing.
use Rattle.std.specs.Prelude.{◌≡◌, Bool, true, false, cond, not, ◌&&◌, ◌||◌, ◌↔◌, List, [], ◌∷◌, ℕ, zero, suc, ◌+◌, ◌^◌, ◌≤◌, ◌<◌, leb, length, Some}
use Rattle.rules.specs.declared.Outcome.{Outcome}
use Rattle.rules.specs.declared.Outcome.TheVariants.{Refused, Accepted, Answered, Long, Ended, Full}
use Rattle.rules.specs.declared.Tally.{Tally}
use Rattle.query.specs.Shape.{shape_of}
use Rattle.rules.specs.Memory.{Mem, opened}
use Rattle.rules.specs.Refusals.{open_code}
use Rattle.rules.specs.Work.{Request, is_write}
use Rattle.rules.specs.History.{Call, begin, step, abandon, evict_answer, evict_node, renew}
use Rattle.rules.specs.Tally.{cleared_tally, Made, made, made_result, tally_after}
use Rattle.demands.specs.WholeHistory.{History, shape_at, mem_at, made_at, call_at, result_at, accepted_at, ends_at, UnderWay, steps_in}
use Rattle.demands.specs.Demand2.{is_unchanged}

-- ---- Numbers of calls
-- how many of the first n calls pass a test
unfoldable pub how_many : (ℕ → Bool) → ℕ → ℕ
how_many p zero = 0
how_many p (suc n) = cond (p n) 1 0 + how_many p n

-- one of them does
unfoldable pub some_call : (ℕ → Bool) → ℕ → Bool
some_call p zero = false
some_call p (suc n) = p n || some_call p n

-- a read, lists, counts and ranges alike; a write is rules' `is_write`
unfoldable pub is_read : Request → Bool
is_read r = not (is_write r)

-- ---- Begins, and what is under way
-- the call is a begin of such a request
unfoldable pub is_begin : (Request → Bool) → Call → Bool
is_begin p (begin d r) = p r
is_begin p (step d tray) = false
is_begin p (abandon d) = false
is_begin p (evict_answer i) = false
is_begin p (evict_node i) = false
is_begin p renew = false

-- the desk that it names; 0 for a call that names none
unfoldable pub desk_of : Call → ℕ
desk_of (begin d r) = d
desk_of (step d tray) = d
desk_of (abandon d) = d
desk_of (evict_answer i) = 0
desk_of (evict_node i) = 0
desk_of renew = 0

-- call i began one: "its accepted begin"
unfoldable pub begins : (Request → Bool) → History → ℕ → Bool
begins p h i = is_begin p (call_at h i) && accepted_at h i

-- no call after call b and before call n ended what was under way at desk d
unfoldable pub none_ends : History → ℕ → ℕ → ℕ → Bool
none_ends h d b zero = true
none_ends h d b (suc n) = (leb n b || not (ends_at d (call_at h n) (result_at h n).out)) && none_ends h d b n

-- what call b began is under way when call n comes: WholeHistory's `UnderWay`, as a test (`TestsUnderWay`)
unfoldable pub is_under_way : (Request → Bool) → History → ℕ → ℕ → Bool
is_under_way p h n b = begins p h b && none_ends h (desk_of (call_at h b)) b n

abbrev pub TestsUnderWay : History → Type 0
TestsUnderWay h = (p : Request → Bool) (n b : ℕ) → b < n
    → (is_under_way p h n b ≡ true) ↔ ((r : Request) × (d : ℕ) × (p r ≡ true) × UnderWay h r d b n)

-- "the reads under way", or the writes, after the first n calls
unfoldable pub under_way : (Request → Bool) → History → ℕ → ℕ
under_way p h n = how_many (is_under_way p h n) n

-- ---- Ends
-- an answer, from file or from the table
unfoldable pub is_answer : Bool → Outcome → Bool
is_answer cached (Refused n) = false
is_answer cached Accepted = false
is_answer true (Answered n b) = b
is_answer false (Answered n b) = not b
is_answer cached Long = false
is_answer cached (Ended b) = false
is_answer cached Full = false

-- "ended long"
unfoldable pub is_long : Outcome → Bool
is_long (Refused n) = false
is_long Accepted = false
is_long (Answered n b) = false
is_long Long = true
is_long (Ended b) = false
is_long Full = false

-- "ended changed"; "ended unchanged (13 too)" is Demand2's `is_unchanged`
unfoldable pub is_changed : Outcome → Bool
is_changed (Refused n) = false
is_changed Accepted = false
is_changed (Answered n b) = false
is_changed Long = false
is_changed (Ended b) = b
is_changed Full = false

unfoldable pub is_abandon : Call → Bool
is_abandon (begin d r) = false
is_abandon (step d tray) = false
is_abandon (abandon d) = true
is_abandon (evict_answer i) = false
is_abandon (evict_node i) = false
is_abandon renew = false

-- call i is "the call at its desk that ends it", of what call b began
unfoldable pub ends_begun : (Request → Bool) → History → ℕ → ℕ → Bool
ends_begun p h i b = is_under_way p h i b && ends_at (desk_of (call_at h b)) (call_at h i) (result_at h i).out

-- and it is "an accepted abandoning"
unfoldable pub abandons : (Request → Bool) → History → ℕ → ℕ → Bool
abandons p h i b = is_abandon (call_at h i) && ends_begun p h i b

-- "before the table": the write that call b began has not made the step that comes after its 2^k marks
unfoldable pub before_table : History → ℕ → ℕ → Bool
before_table h i b = leb (steps_in h (desk_of (call_at h b)) b i) (2 ^ (shape_at h).columns)

-- ---- The nine counts, of the first n calls: "reads begun, answered from file, answered from the table, ended long, abandoned; and writes begun,
-- ended changed, ended unchanged (13 too), abandoned before the table". A write abandoned after its table step has ended, changed or unchanged (S-4)
unfoldable pub reads_begun : History → ℕ → ℕ
reads_begun h n = how_many (begins is_read h) n

unfoldable pub from_file : History → ℕ → ℕ
from_file h n = how_many (λ i. is_answer true (result_at h i).out) n

unfoldable pub from_table : History → ℕ → ℕ
from_table h n = how_many (λ i. is_answer false (result_at h i).out) n

unfoldable pub ended_long : History → ℕ → ℕ
ended_long h n = how_many (λ i. is_long (result_at h i).out) n

unfoldable pub reads_abandoned : History → ℕ → ℕ
reads_abandoned h n = how_many (λ i. some_call (abandons is_read h i) i) n

unfoldable pub writes_begun : History → ℕ → ℕ
writes_begun h n = how_many (begins is_write h) n

unfoldable pub ended_changed : History → ℕ → ℕ
ended_changed h n = how_many (λ i. is_changed (result_at h i).out) n

unfoldable pub ended_unchanged : History → ℕ → ℕ
ended_unchanged h n = how_many (λ i. is_unchanged (result_at h i).out) n

unfoldable pub writes_abandoned : History → ℕ → ℕ
writes_abandoned h n = how_many (λ i. some_call (λ b. abandons is_write h i b && before_table h i b) i) n

-- ---- "Reads begun equal the four other read counts plus the reads under way, over any history ..; writes likewise."
pub record Sums (h : History) (n : ℕ) : Type 0 where
  pub reads : reads_begun h n ≡ from_file h n + from_table h n + ended_long h n + reads_abandoned h n + under_way is_read h n
  pub writes : writes_begun h n ≡ ended_changed h n + ended_unchanged h n + writes_abandoned h n + under_way is_write h n

-- ---- "from an opening with a cleared tally, handed on as the memories are"
-- the tally after the first n calls
unfoldable pub tally_at : History → ℕ → Tally
tally_at h zero = cleared_tally
tally_at h (suc n) = tally_after (mem_at h n) (call_at h n) (tally_at h n)

-- the calls that can raise a count
unfoldable pub can_raise : Call → Bool
can_raise (begin d r) = true
can_raise (step d tray) = true
can_raise (abandon d) = true
can_raise (evict_answer i) = false
can_raise (evict_node i) = false
can_raise renew = false

-- each is lent the tally as the calls before it have left it
abbrev pub HandedOn : History → Type 0
HandedOn h = (n : ℕ) → n < length h.calls → can_raise (call_at h n) ≡ true → (made_at h n).tally ≡ Some (tally_at h n)

-- "any history": after an accepted opening a cleared tally can be handed on through any list of calls, each lent it as the one before has left it
unfoldable pub lent_on : Mem → Tally → List Call → List Made
lent_on m t [] = []
lent_on m t (c ∷ cs) = made c (Some t) ∷ lent_on (made_result m (made c (Some t))).mem (tally_after m c t) cs

abbrev pub CanHandOn : Type 0
CanHandOn = (m : Mem) (k : ℕ) (a : open_code m k ≡ 0) (cs : List Call)
    → HandedOn (record { lent = m; k = k; accepted = a; calls = lent_on (opened (shape_of k) m) cleared_tally cs })

-- then each count in the tally is that number of calls
pub record Counts (h : History) (n : ℕ) (t : Tally) : Type 0 where
  pub of_reads_begun : t.reads_begun ≡ reads_begun h n
  pub of_from_file : t.from_file ≡ from_file h n
  pub of_from_table : t.from_table ≡ from_table h n
  pub of_ended_long : t.ended_long ≡ ended_long h n
  pub of_reads_abandoned : t.reads_abandoned ≡ reads_abandoned h n
  pub of_writes_begun : t.writes_begun ≡ writes_begun h n
  pub of_ended_changed : t.ended_changed ≡ ended_changed h n
  pub of_ended_unchanged : t.ended_unchanged ≡ ended_unchanged h n
  pub of_writes_abandoned : t.writes_abandoned ≡ writes_abandoned h n

-- the two sums in the tally's own numbers
pub record TallySums (h : History) (n : ℕ) (t : Tally) : Type 0 where
  pub reads : t.reads_begun ≡ t.from_file + t.from_table + t.ended_long + t.reads_abandoned + under_way is_read h n
  pub writes : t.writes_begun ≡ t.ended_changed + t.ended_unchanged + t.writes_abandoned + under_way is_write h n

pub record DayTally (h : History) : Type 0 where
  pub tests_under_way : TestsUnderWay h
  -- of every history, with a tally or without
  pub sums : (n : ℕ) → n ≤ length h.calls → Sums h n
  pub counts : HandedOn h → (n : ℕ) → n ≤ length h.calls → Counts h n (tally_at h n)
  pub tally_sums : HandedOn h → (n : ℕ) → n ≤ length h.calls → TallySums h n (tally_at h n)
