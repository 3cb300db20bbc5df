-- A call whose code is not 0 is refused and alters nothing, and no code is above 11 but 14, which is a begin's alone, and 15, which a tally gives. What a code of 0
-- tells stands in rules. Leans on rules' Refusals and on StatesAfter. Assumes nothing.
use mathlib.Core.Path.{◌≡◌, refl}
use mathlib.Core.Logic.{◌⊎◌, inl, inr}
use mathlib.Core.Bool.{Bool, true, false, cond, not, ◌&&◌, ◌||◌}
use mathlib.Core.List.{List, []}
use Prim.Native.Nat.{ℕ, ◌≤◌}
use native.Mathlib.Omega.{arith}
use lib.Dec.{eqb, ltb, leb}
use lib.ListN.{length, get_or}
use borrow.Author.Tests.{eqb-true, eqb-false, ne_eqb}
use Rattle.laws.proofs.TestLaws.{by_test}
use Rattle.query.specs.Encoding.{is_query, names_all, query_of}
use Rattle.query.specs.Range.{is_range, is_reversed}
use Rattle.query.specs.Shape.{Shape}
use Rattle.rules.specs.Layout.{tray_least, node_count_offset, answer_count_offset, refused_columns, refused_occupied, refused_reversed, refused_tally_full}
use Rattle.rules.specs.declared.Outcome.TheVariants.{Refused}
use Rattle.rules.specs.Nodes.{is_worn, pending}
use Rattle.rules.specs.Client.{is_idle, is_bad}
use Rattle.rules.specs.Memory.{Mem, store_in}
use Rattle.rules.specs.Outcome.{Result, result_of, result_with}
use Rattle.rules.specs.Refusals.{form, client, is_short, is_unsound, no_client, all_idle, at_client, begin_code, step_code, abandon_code}
use Rattle.rules.specs.Refusals.{evict_answer_code, evict_node_code, renew_code, shape}
use Rattle.rules.specs.Calls.{unless}
use Rattle.rules.specs.History.{is_accepted, untrayed}
use Rattle.rules.specs.Work.{ask_fault, ask_of, delete_of, insert_of, read_of, Request, fault_of, is_write}
use Rattle.machine.specs.Machine.{Call}
use Rattle.machine.specs.Transition.{nothing}
use Rattle.refinement.proofs.Abstraction.{response_in, Fits}
use Rattle.refinement.proofs.StatesAfter.{Simulated, simulated, as_it_was}

-- ---- A refused call
-- a code: 0, a refusal of 1 to 11, 14 or 15
abbrev pub IsCode : ℕ → Type 0
IsCode n = (n ≤ refused_occupied) ⊎ ((n ≡ refused_reversed) ⊎ (n ≡ refused_tally_full))

pub turned_down : (n : ℕ) → IsCode n → (n ≡ 0 → ⊥) → is_accepted n ≡ false
unfolding is_accepted
turned_down n (inl l) ne = rw (ne_eqb n 0 ne, ne_eqb n 12 (λ e. omega arith), ne_eqb n 13 (λ e. omega arith))
turned_down n (inr (inl l)) ne = rw l
turned_down n (inr (inr l)) ne = rw l

pub refused_simulated : (m : Mem) (c : Call) (n : ℕ) (tray : List ℕ) → Fits m → IsCode n → (n ≡ 0 → ⊥) → Simulated m c (result_with (Refused n) m tray)
unfolding response_in
refused_simulated m c n tray f l ne = simulated (Refused n) tray (as_it_was m f) (nothing (turned_down n l ne))

untrayed_refused : (m : Mem) (c : Call) (n : ℕ) → Fits m → IsCode n → (n ≡ 0 → ⊥) → Simulated m c (untrayed (result_of (Refused n) m))
unfolding untrayed
untrayed_refused m c n f l ne = refused_simulated m c n [] f l ne

pub unless_simulated : (m : Mem) (c : Call) (code : ℕ) (x : Result) → Fits m → IsCode code → (code ≡ 0 → Simulated m c (untrayed x)) → Simulated m c (untrayed (unless code m x))
unfolding unless
unless_simulated m c code x f l g =
    by_test (eqb code 0)
    (λ e. rw e (g (eqb-true code 0 e)))
    (λ e. rw e (untrayed_refused m c code f l (eqb-false code 0 e)))

-- ---- What holds of both numbers holds of the one given
both : (P : ℕ → Type 0) (b : Bool) (n rest : ℕ) → P n → P rest → P (cond b n rest)
both P true n rest h k = h
both P false n rest h k = k

low : (b : Bool) (n rest : ℕ) → n ≤ 11 → rest ≤ 11 → cond b n rest ≤ 11
low = both (λ n. n ≤ 11)

-- ---- Begins: what holds of every number up to 11, and of what a request is turned down with for itself, holds of the code
pub begin_code_law : (P : ℕ → Type 0) → ((n : ℕ) → n ≤ 11 → P n) → (m : Mem) (d : ℕ) (r : Request) → P (fault_of (shape m) r) → P (begin_code m d r)
unfolding begin_code
begin_code_law P l m d r f =
    both P (is_short (shape m) m) 1 _ (l 1 (omega arith)) (both P (not (eqb (fault_of (shape m) r) 0)) (fault_of (shape m) r) _ f (l _
    (low (is_unsound m) 3 _ (omega arith) (low (no_client d) 4 _ (omega arith)
    (low (is_bad (shape m) (client m d)) 3 _ (omega arith) (low (not (is_idle (client m d))) 5 _ (omega arith)
    (low (is_write r && is_worn (form m) (shape m) (store_in (form m) m.nodes)) 10 0 (omega arith) (omega arith))))))))

-- which is 0, 2 or 14
pub fault_code : (P : ℕ → Type 0) → P 0 → P refused_columns → P refused_reversed → (sh : Shape) (r : Request) → P (fault_of sh r)
unfolding fault_of ask_fault ask_of
fault_code P a b c sh (read_of counts range x) =
    both P (is_query sh x) _ refused_columns
    (both P (is_range sh (query_of x) range) _ refused_columns (both P (is_reversed range) refused_reversed 0 c a) b) b
fault_code P a b c sh (insert_of x) = both P (is_query sh x && names_all (query_of x)) 0 refused_columns a b
fault_code P a b c sh (delete_of x) = both P (is_query sh x) 0 refused_columns a b

pub begin_coded : (m : Mem) (d : ℕ) (r : Request) → IsCode (begin_code m d r)
begin_coded m d r =
    begin_code_law IsCode (λ n l. inl l) m d r (fault_code IsCode (inl (omega arith)) (inl (omega arith)) (inr (inl refl)) (shape m) r)

-- ---- Steps and abandonings
at_client_low : (m : Mem) (d : ℕ) → at_client m d ≤ 11
unfolding at_client
at_client_low m d =
    low (is_unsound m) 3 _ (omega arith) (low (no_client d) 4 _ (omega arith) (low (is_bad (shape m) (client m d)) 3 _ (omega arith)
    (low (is_idle (client m d)) 6 0 (omega arith) (omega arith))))

pub step_low : (m : Mem) (tray : List ℕ) (d : ℕ) → step_code m tray d ≤ 11
unfolding step_code
step_low m tray d = low (is_short (shape m) m || ltb (length tray) tray_least) 1 _ (omega arith) (at_client_low m d)

pub abandon_low : (m : Mem) (d : ℕ) → abandon_code m d ≤ 11
unfolding abandon_code
abandon_low m d = low (is_short (shape m) m) 1 _ (omega arith) (at_client_low m d)

-- ---- Puttings out, renewals
pub evict_answer_low : (m : Mem) (i : ℕ) → evict_answer_code m i ≤ 11
unfolding evict_answer_code
evict_answer_low m i =
    low (is_short (shape m) m) 1 _ (omega arith) (low (is_unsound m) 3 _ (omega arith) (low (leb (get_or m.answers answer_count_offset 0) i) 8 0 (omega arith) (omega arith)))

pub evict_node_low : (m : Mem) (i : ℕ) → evict_node_code m i ≤ 11
unfolding evict_node_code
evict_node_low m i =
    low (is_short (shape m) m) 1 _ (omega arith) (low (is_unsound m) 3 _ (omega arith) (low (leb (get_or m.nodes node_count_offset 0) i) 8 _ (omega arith)
    (low (ltb 0 (pending (get_or (store_in (form m) m.nodes).nodes i []))) 9 0 (omega arith) (omega arith))))

pub renew_low : (m : Mem) → renew_code m ≤ 11
unfolding renew_code
renew_low m =
    low (is_short (shape m) m) 1 _ (omega arith) (low (is_unsound m) 3 _ (omega arith) (low (not (all_idle m)) 11 0 (omega arith) (omega arith)))
