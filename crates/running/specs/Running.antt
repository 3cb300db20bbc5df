-- From contracts to histories: an opening and calls made one after another by the library's own functions are a history, and what each of them
-- returned and left is what the theorems speak of. All that is supposed of a call is the equation of its contract. Leans on calls' CallValues and
-- exports' Reply, which the contracts cite, and on demands' WholeHistory. Definitions only. Assumes nothing.
use Rattle.std.specs.Prelude.{◌≡◌, List, [], ◌∷◌, ◌++◌, map, ℕ, suc, length, Option, None, Some}
use Rattle.rules.specs.declared.Outcome.{Outcome}
use Rattle.rules.specs.declared.Outcome.TheVariants.{Accepted}
use Rattle.rules.specs.declared.Tally.{Tally}
use Rattle.rules.specs.Memory.{Mem}
use Rattle.rules.specs.Outcome.{result_of, result_with}
use Rattle.rules.specs.Refusals.{open_code}
use Rattle.rules.specs.Calls.{open_result, begin_result, step_result, abandon_result, evict_answer_result, evict_node_result, renew_result}
use Rattle.rules.specs.History.{Call, begin, step, abandon, evict_answer, evict_node, renew}
use Rattle.rules.specs.Tally.{Made, made, tally_after}
use Rattle.calls.specs.declared.Call as value
use Rattle.calls.specs.CallValues.{call_of, tray_after, ran}
use Rattle.exports.specs.declared.Reply.{Reply}
use Rattle.exports.specs.Reply.{reply_of, sent, sent_by, sent_with, sent_by_step, sent_tallied, begin_tallied, step_tallied, abandon_tallied}
use Rattle.demands.specs.WholeHistory.{History, mem_at, made_at, result_at}

-- ---- Calls made one after another
-- each finds the memories as the one before it has left them, and is as its contract says
unfoldable pub OneByOne : {A : Type 0} → (A → Mem) → (Mem → A → Type 0) → Mem → List A → Type 0
OneByOne left says m [] = Unit
OneByOne left says m (x ∷ xs) = says m x × OneByOne left says (left x) xs

-- the history that they are
abbrev pub history_of : (m : Mem) (k : ℕ) → open_code m k ≡ 0 → List Made → History
history_of m k a cs = record { lent = m; k = k; accepted = a; calls = cs }

-- ---- By `calls::run`
-- a call of it: the value, with the query and the tray that were lent beside it; what it returned, and the memories and the tray as it left them
pub record Ran : Type 0 where
  pub call : value.Call
  pub query : List ℕ
  pub tray : List ℕ
  pub out : Outcome
  pub left : Mem
  pub tray_left : List ℕ

-- the equation of its contract, where it found the memories m
abbrev pub RunSays : Mem → Ran → Type 0
RunSays m x = result_with x.out x.left x.tray_left ≡ ran m x.tray x.call x.query

abbrev pub ran_call : Ran → Made
ran_call x = made (call_of x.call x.query x.tray) None

-- it is call i of the history
pub record IsRan (h : History) (i : ℕ) (x : Ran) : Type 0 where
  pub call : made_at h i ≡ ran_call x
  pub out : x.out ≡ (result_at h i).out
  pub left : x.left ≡ mem_at h (suc i)
  pub tray : x.tray_left ≡ tray_after x.call x.tray (result_at h i).tray

-- From an opening that was accepted, by the equation of its contract, calls of `run` are a history: the one that comes after the calls ys has that
-- number there.
-- Rules out: a theorem about a history that no program can bring about with `run`, and a program whose replies the theorems do not speak of
abbrev pub RunsAreHistories : Type 0
RunsAreHistories = (m n : Mem) (k : ℕ) → result_of Accepted n ≡ open_result m k → (xs : List Ran) → OneByOne (λ x. x.left) RunSays n xs
    → (a : open_code m k ≡ 0) × (mem_at (history_of m k a (map ran_call xs)) 0 ≡ n)
    × ((ys zs : List Ran) (x : Ran) → xs ≡ ys ++ (x ∷ zs) → IsRan (history_of m k a (map ran_call xs)) (length ys) x)

-- ---- By the exported functions, for C and Rust, each lent a tally or not
-- a call of one: the call with its tally, the reply, and the memories, the tray and the tally as it left them
pub record Exported : Type 0 where
  pub made : Made
  pub reply : Reply
  pub left : Mem
  pub tray_left : List ℕ
  pub tally_left : Tally

-- the equation of its contract. The six begins have one, by what they begin; an eviction and a renewal are lent no tally
unfoldable pub SaysOf : Mem → Call → Option Tally → Exported → Type 0
SaysOf m (begin d r) None x = sent x.reply x.left ≡ sent_by (begin_result m d r)
SaysOf m (step d tray) None x = sent_with x.reply x.left x.tray_left ≡ sent_by_step (step_result m tray d)
SaysOf m (abandon d) None x = sent x.reply x.left ≡ sent_by (abandon_result m d)
SaysOf m (evict_answer i) None x = sent x.reply x.left ≡ sent_by (evict_answer_result m i)
SaysOf m (evict_node i) None x = sent x.reply x.left ≡ sent_by (evict_node_result m i)
SaysOf m renew None x = sent x.reply x.left ≡ sent_by (renew_result m)
SaysOf m (begin d r) (Some t) x = sent_tallied x.reply x.left [] x.tally_left ≡ begin_tallied m t d r
SaysOf m (step d tray) (Some t) x = sent_tallied x.reply x.left x.tray_left x.tally_left ≡ step_tallied m t d tray
SaysOf m (abandon d) (Some t) x = sent_tallied x.reply x.left [] x.tally_left ≡ abandon_tallied m t d
SaysOf m (evict_answer i) (Some t) x = ⊥
SaysOf m (evict_node i) (Some t) x = ⊥
SaysOf m renew (Some t) x = ⊥

abbrev pub ExportSays : Mem → Exported → Type 0
ExportSays m x = SaysOf m x.made.call x.made.tally x

-- it is call i of the history; a step's tray is the history's, and a tally that was lent is left as the rules say
pub record IsExported (h : History) (i : ℕ) (x : Exported) : Type 0 where
  pub call : made_at h i ≡ x.made
  pub reply : x.reply ≡ reply_of (result_at h i).out
  pub left : x.left ≡ mem_at h (suc i)
  pub tray : (d : ℕ) (t : List ℕ) → x.made.call ≡ step d t → x.tray_left ≡ (result_at h i).tray
  pub tally : (t : Tally) → x.made.tally ≡ Some t → x.tally_left ≡ tally_after (mem_at h i) x.made.call t

-- the same of them: the opening is the one whose reply has the number 0
abbrev pub ExportsAreHistories : Type 0
ExportsAreHistories = (m n : Mem) (k : ℕ) (r : Reply) → sent r n ≡ sent_by (open_result m k) → r.number ≡ 0 → (xs : List Exported)
    → OneByOne (λ x. x.left) ExportSays n xs
    → (a : open_code m k ≡ 0) × (mem_at (history_of m k a (map (λ x. x.made) xs)) 0 ≡ n)
    × ((ys zs : List Exported) (x : Exported) → xs ≡ ys ++ (x ∷ zs) → IsExported (history_of m k a (map (λ x. x.made) xs)) (length ys) x)
