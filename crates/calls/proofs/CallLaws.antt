-- What each call leaves, by its code: where that is not 0 the memories as they were, where it is 0 the one change; and what running a call as
-- a value leaves. Leans on the rules' Calls, on checks and on the laws of clients and reading. Assumes nothing.
use mathlib.Core.Path.{◌≡◌, refl, sym, ap, ◌∙◌}
use mathlib.Core.Bool.{Bool}
use mathlib.Core.List.{List}
use Prim.Native.Nat.{ℕ, ◌≤◌}
use native.Mathlib.Omega.{arith}
use lib.Dec.{eqb}
use borrow.Author.Tests.{eqb-true, eqb-false, ne_eqb}
use Rattle.laws.proofs.TestLaws.{by_test}
use Rattle.query.specs.declared.Range.{Range}
use Rattle.query.specs.Shape.{Shape}
use Rattle.rules.specs.declared.Outcome.{Outcome}
use Rattle.rules.specs.declared.Outcome.TheVariants.{Refused, Accepted}
use Rattle.rules.specs.Layout.{reads, inserts, deletes}
use Rattle.rules.specs.Work.{Request, kind_of, change_kind, key_of, work_of}
use Rattle.rules.specs.Client.{kind, idle}
use Rattle.rules.specs.Memory.{current, Mem, mem, client_in, with_clients, with_client}
use Rattle.rules.specs.Outcome.{Result, result_of, result_with}
use Rattle.rules.specs.Refusals.{form, shape, open_code, begin_code, step_code, abandon_code, evict_answer_code, evict_node_code}
use Rattle.rules.specs.Steps.{now_at}
use Rattle.rules.specs.Calls.{unless, open_result, begin_result, step_result, abandoned_of, abandoned, abandon_result, evict_answer_result, evict_node_result}
use Rattle.rules.specs.History.{untrayed}
use Rattle.clients.specs.declared.Held.{Held}
use Rattle.clients.specs.ClientContracts.{IsHeld, begun_with}
use Rattle.clients.proofs.ClientChanges.{begun_with_law}
use Rattle.reading.proofs.PassedRead.{asks_there}
use Rattle.hall.specs.declared.refusal.Refusal.{Refusal}
use Rattle.hall.specs.Refusal.{number_of}
use Rattle.checks.specs.declared.Kept.{Kept}
use Rattle.checks.specs.declared.Kept.TheVariants.{Answer, Node}
use Rattle.checks.specs.CheckContracts.{numbered_request, evict_code}
use Rattle.checks.proofs.RefusalLaws.{number_some}
use Rattle.calls.specs.CallContracts.{evict_result}

-- ---- What a check has found in the memories that it was lent to read, in those of the call, which are the same
module _ {v m : Mem} (e : v ≡ m) where
  pub passed : (code : Mem → ℕ) → 0 ≡ code v → code m ≡ 0
  passed code z = rw (← e) (sym z)

  pub held_there : {h : Held} (d : ℕ) → IsHeld h v.clients d → IsHeld h m.clients d
  held_there d i = rw (← e) i

-- ---- By the code: of any number that is not 0, and of a refusal's
module _ (m : Mem) (code n : ℕ) (e : n ≡ code) (x : Result) where
  pub refused : (n ≡ 0 → ⊥) → result_of (Refused n) m ≡ unless code m x
  unfolding unless
  refused h = rw (ne_eqb code 0 (λ y. h (e ∙ y)), e) refl

pub begin_refused : (m : Mem) (d n : ℕ) (r : Request) → n ≡ begin_code m d r → (n ≡ 0 → ⊥) → result_of (Refused n) m ≡ begin_result m d r
unfolding begin_result
begin_refused m d n r e h = refused m (begin_code m d r) n e _ h

pub step_refused : (m : Mem) (tray : List ℕ) (d n : ℕ) → n ≡ step_code m tray d → (n ≡ 0 → ⊥) → result_with (Refused n) m tray ≡ step_result m tray d
unfolding step_result
step_refused m tray d n e h = rw (ne_eqb (step_code m tray d) 0 (λ z. h (e ∙ z)), e) refl

pub abandon_refused : (m : Mem) (d n : ℕ) → n ≡ abandon_code m d → (n ≡ 0 → ⊥) → result_of (Refused n) m ≡ abandon_result m d
unfolding abandon_result
abandon_refused m d n e h = refused m (abandon_code m d) n e _ h

pub evict_refused : (m : Mem) (n : ℕ) (k : Kept) (i : ℕ) → n ≡ evict_code m k i → (n ≡ 0 → ⊥) → result_of (Refused n) m ≡ evict_result m k i
unfolding evict_code evict_result evict_answer_result evict_node_result
evict_refused m n Answer i e h = refused m (evict_answer_code m i) n e _ h
evict_refused m n Node i e h = refused m (evict_node_code m i) n e _ h

pub open_refused : (m : Mem) (k n : ℕ) → n ≡ open_code m k → (n ≡ 0 → ⊥) → result_of (Refused n) m ≡ open_result m k
unfolding open_result
open_refused m k n e h = refused m (open_code m k) n e _ h

module _ (m : Mem) (code : ℕ) (x : Result) where
  pub turned_down : (r : Refusal) → number_of r ≡ code → unless code m x ≡ result_of (Refused (number_of r)) m
  turned_down r e = sym (refused m code (number_of r) e x (number_some r))

  pub goes_on : code ≡ 0 → unless code m x ≡ x
  unfolding unless
  goes_on e = rw e refl

pub step_turned_down : (m : Mem) (tray : List ℕ) (d : ℕ) (r : Refusal) → number_of r ≡ step_code m tray d → step_result m tray d ≡ result_with (Refused (number_of r)) m tray
step_turned_down m tray d r e = sym (step_refused m tray d (number_of r) e (number_some r))

-- ---- A begin: the client keeps the kind and the key of what begins
pub begin_done : (m : Mem) (d kind : ℕ) (key s : List ℕ) (r : Request) → begin_code m d r ≡ 0 → kind ≡ kind_of (work_of (shape m) r)
    → key ≡ key_of (work_of (shape m) r) → s ≡ with_client (form m) m.clients d (begun_with kind key)
    → result_of Accepted (with_clients m s) ≡ begin_result m d r
unfolding begin_result now_at
begin_done m d kind key s r z k e f = rw (goes_on m (begin_code m d r) _ z, f, k, e, begun_with_law (work_of (shape m) r)) refl

-- the same of what begins by the number of its kind
kind_is : (sh : Shape) (x : ℕ) (counts : Bool) (g : Range) (a : List ℕ) → reads ≤ x → x ≤ deletes → kind_of (work_of sh (numbered_request x counts g a)) ≡ x
unfolding kind_of change_kind work_of
kind_is sh x counts g a h o = by_test (eqb x reads)
    (λ e. rw e (sym (eqb-true x reads e)))
    (λ e. by_test (eqb x inserts) (λ i. rw (e, i) (sym (eqb-true x inserts i)))
    (λ i. let y = eqb-false x reads e in let z = eqb-false x inserts i in rw (e, i) (omega arith)))

pub begin_numbered : (m : Mem) (d x : ℕ) (counts : Bool) (g : Range) (a key s : List ℕ) → begin_code m d (numbered_request x counts g a) ≡ 0
    → key ≡ key_of (work_of (shape m) (numbered_request x counts g a)) → reads ≤ x → x ≤ deletes → s ≡ with_client (form m) m.clients d (begun_with x key)
    → result_of Accepted (with_clients m s) ≡ begin_result m d (numbered_request x counts g a)
begin_numbered m d x counts g a key s z e l o f = begin_done m d x key s _ z (sym (kind_is (shape m) x counts g a l o)) e f

-- ---- A reader gives up
pub reader_gives_up : (tb nd an cl : List ℕ) (d : ℕ) → abandon_code (mem tb nd an cl) d ≡ 0 → kind (client_in current cl d) ≡ reads
    → (s : List ℕ) → s ≡ with_client current cl d idle → result_of Accepted (mem tb nd an s) ≡ abandon_result (mem tb nd an cl) d
unfolding abandon_result abandoned abandoned_of now_at
reader_gives_up tb nd an cl d z x s g = rw (goes_on (mem tb nd an cl) (abandon_code (mem tb nd an cl) d) _ z, asks_there tb nd an cl d x, g) refl

-- ---- A call that is lent no tray, run as a value
pub without_tray : {o : Outcome} {n : Mem} {x : Result} (tray : List ℕ) → result_of o n ≡ x → result_with o n tray ≡ result_with (untrayed x).out (untrayed x).mem tray
unfolding untrayed
without_tray tray e = ap (λ (y : Result). result_with y.out y.mem tray) e
