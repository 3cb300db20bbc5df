-- On memories that fit no call's code is 3, and that of a step at a busy desk is 0. Leans on Abstraction, on RefusedCalls and on rules'
-- Refusals. Assumes nothing.
use mathlib.Core.Path.{◌≡◌, refl}
use mathlib.Core.Bool.{Bool, true, false, cond, not, ◌&&◌, ◌||◌}
use mathlib.Core.List.{List, []}
use Prim.Native.Nat.{ℕ, ◌≤◌, ◌<◌}
use native.Mathlib.Omega.{arith}
use lib.Dec.{eqb, ltb, leb}
use lib.ListN.{length, get_or}
use borrow.Author.Tests.{le-ltb, lt-leb, leb-false}
use Rattle.laws.proofs.TestLaws.{clash}
use Rattle.laws.proofs.SearchLaws.{place_all}
use Rattle.laws.proofs.Members.{in_at}
use Rattle.query.specs.Shape.{Shape}
use Rattle.rules.specs.Layout.{max_clients, tray_least}
use Rattle.rules.specs.Layout.{node_count_offset, answer_count_offset}
use Rattle.rules.specs.Nodes.{is_worn, pending}
use Rattle.rules.specs.Answers.{Entry, is_long, some_long}
use Rattle.rules.specs.Client.{is_idle, is_bad}
use Rattle.rules.specs.Memory.{Mem, store_in, answers_in}
use Rattle.rules.specs.Refusals.{form, client, is_short, is_unsound, no_client, all_idle, at_client, begin_code, step_code, abandon_code}
use Rattle.rules.specs.Refusals.{evict_answer_code, evict_node_code, renew_code, shape}
use Rattle.rules.specs.Work.{Request, fault_of, is_write}
use Rattle.rules.specs.Sound.{Sound}
use Rattle.rules.proofs.PassedChecks as passed
use Rattle.refinement.proofs.Abstraction.{Fits}
use Rattle.refinement.proofs.RefusedCalls.{fault_code}

-- ---- No test is met but those of the call itself
module _ (m : Mem) (f : Fits m) where
  none_long : some_long (answers_in (form m) m.answers) ≡ false
  unfolding some_long
  none_long =
      let es : List Entry = answers_in (form m) m.answers in
      let a = place_all is_long es [] (λ j l. (f.kept (get_or es j []) (in_at [] es j l)).short) in
      rw a (le-ltb (length es) (length es) (omega arith))

  pub sound_of : Sound m
  sound_of = record { long = f.long; least = f.some; most = f.few; records = f.records; nodes = f.nodes; answers = f.answers; lists = none_long }

  pub not_short : is_short (shape m) m ≡ false
  not_short = passed.not_short m f.long

  pub sound : is_unsound m ≡ false
  sound = passed.not_unsound m sound_of

-- ---- No code is 3
no_three : (b : Bool) (n rest : ℕ) → (b ≡ true → n ≡ 3 → ⊥) → (b ≡ false → rest ≡ 3 → ⊥) → cond b n rest ≡ 3 → ⊥
no_three true n rest h k e = h refl e
no_three false n rest h k e = k refl e

-- a test that stands for another number
other : (b : Bool) (n rest : ℕ) → (n ≡ 3 → ⊥) → (rest ≡ 3 → ⊥) → cond b n rest ≡ 3 → ⊥
other b n rest h k = no_three b n rest (λ e. h) (λ e. k)

-- a test that is not met
unmet : (b : Bool) (n rest : ℕ) → b ≡ false → (rest ≡ 3 → ⊥) → cond b n rest ≡ 3 → ⊥
unmet b n rest e k = no_three b n rest (λ t. clash t e) (λ t. k)

fault_sound : (sh : Shape) (r : Request) → fault_of sh r ≡ 3 → ⊥
fault_sound = fault_code (λ n. n ≡ 3 → ⊥) (λ e. omega arith) (λ e. omega arith) (λ e. omega arith)

-- a desk of the hall is sound
desk_sound : (m : Mem) → Fits m → (d rest : ℕ) → (rest ≡ 3 → ⊥) → cond (no_client d) 4 (cond (is_bad (shape m) (client m d)) 3 rest) ≡ 3 → ⊥
unfolding no_client
desk_sound m f d rest k =
    no_three (leb max_clients d) 4 _ (λ t e. omega arith) (λ t. unmet (is_bad (shape m) (client m d)) 3 rest (f.sound d (leb-false max_clients d t)) k)

pub begin_sound : (m : Mem) → Fits m → (d : ℕ) (r : Request) → begin_code m d r ≡ 3 → ⊥
unfolding begin_code
begin_sound m f d r =
    other (is_short (shape m) m) 1 _ (λ e. omega arith) (other (not (eqb (fault_of (shape m) r) 0)) (fault_of (shape m) r) _ (fault_sound (shape m) r)
    (unmet (is_unsound m) 3 _ (sound m f) (desk_sound m f d _ (other (not (is_idle (client m d))) 5 _ (λ e. omega arith)
    (other (is_write r && is_worn (form m) (shape m) (store_in (form m) m.nodes)) 10 0 (λ e. omega arith) (λ e. omega arith))))))

at_sound : (m : Mem) → Fits m → (d : ℕ) → at_client m d ≡ 3 → ⊥
unfolding at_client
at_sound m f d = unmet (is_unsound m) 3 _ (sound m f) (desk_sound m f d _ (other (is_idle (client m d)) 6 0 (λ e. omega arith) (λ e. omega arith)))

pub step_sound : (m : Mem) → Fits m → (tray : List ℕ) (d : ℕ) → step_code m tray d ≡ 3 → ⊥
unfolding step_code
step_sound m f tray d = other (is_short (shape m) m || ltb (length tray) tray_least) 1 _ (λ e. omega arith) (at_sound m f d)

pub abandon_sound : (m : Mem) → Fits m → (d : ℕ) → abandon_code m d ≡ 3 → ⊥
unfolding abandon_code
abandon_sound m f d = other (is_short (shape m) m) 1 _ (λ e. omega arith) (at_sound m f d)

pub evict_answer_sound : (m : Mem) → Fits m → (i : ℕ) → evict_answer_code m i ≡ 3 → ⊥
unfolding evict_answer_code
evict_answer_sound m f i =
    other (is_short (shape m) m) 1 _ (λ e. omega arith) (unmet (is_unsound m) 3 _ (sound m f)
    (other (leb (get_or m.answers answer_count_offset 0) i) 8 0 (λ e. omega arith) (λ e. omega arith)))

pub evict_node_sound : (m : Mem) → Fits m → (i : ℕ) → evict_node_code m i ≡ 3 → ⊥
unfolding evict_node_code
evict_node_sound m f i =
    other (is_short (shape m) m) 1 _ (λ e. omega arith) (unmet (is_unsound m) 3 _ (sound m f)
    (other (leb (get_or m.nodes node_count_offset 0) i) 8 _ (λ e. omega arith)
    (other (ltb 0 (pending (get_or (store_in (form m) m.nodes).nodes i []))) 9 0 (λ e. omega arith) (λ e. omega arith))))

pub renew_sound : (m : Mem) → Fits m → renew_code m ≡ 3 → ⊥
unfolding renew_code
renew_sound m f =
    other (is_short (shape m) m) 1 _ (λ e. omega arith) (unmet (is_unsound m) 3 _ (sound m f) (other (not (all_idle m)) 11 0 (λ e. omega arith) (λ e. omega arith)))

-- ---- A step at a busy desk, with room in the tray; an abandoning of a busy desk
busy_taken : (m : Mem) → Fits m → (d : ℕ) → d < max_clients → is_idle (client m d) ≡ false → at_client m d ≡ 0
unfolding at_client no_client
busy_taken m f d l e = rw (sound m f, lt-leb max_clients d l, f.sound d l, e) refl

pub step_taken : (m : Mem) → Fits m → (tray : List ℕ) (d : ℕ) → tray_least ≤ length tray → d < max_clients → is_idle (client m d) ≡ false → step_code m tray d ≡ 0
unfolding step_code
step_taken m f tray d h l e = rw (not_short m f, le-ltb (length tray) tray_least h) (busy_taken m f d l e)

pub abandon_taken : (m : Mem) → Fits m → (d : ℕ) → d < max_clients → is_idle (client m d) ≡ false → abandon_code m d ≡ 0
unfolding abandon_code
abandon_taken m f d l e = rw (not_short m f) (busy_taken m f d l e)
