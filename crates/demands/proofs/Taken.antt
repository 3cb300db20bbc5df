-- What an accepted fetch or file step returns, and that an accepted step was not turned down. Leans on rules' Steps and on refinement.
-- Assumes nothing.
use mathlib.Core.Path.{◌≡◌, refl, sym, ap, ◌∙◌}
use mathlib.Core.Bool.{Bool, true, false, not, ◌&&◌, true≢false}
use mathlib.Core.List.{List, []}
use Prim.Native.Nat.{ℕ, ◌+◌}
use native.Mathlib.Omega.{arith}
use lib.Dec.{eqb, ltb}
use borrow.Author.Tests.{eqb-true, eq-eqb, ne_eqb, ltb-true, le-ltb}
use lib.ListN.{length, get_or}
use Rattle.lists.specs.Lists.{written}
use Rattle.laws.proofs.ListLaws.{and_right}
use Rattle.laws.proofs.TestLaws.{by_test}
use Rattle.laws.proofs.SearchLaws.{place_at}
use Rattle.rules.specs.declared.Outcome.TheVariants.{Answered}
use Rattle.rules.specs.Answers.{Entry, is_count, serves, fetch_place}
use Rattle.rules.specs.Client.{entry_of, saw_pending}
use Rattle.query.specs.Shape.{Shape}
use Rattle.rules.specs.Layout.{entry_width}
use Rattle.rules.specs.Memory.{Mem, answers_in}
use Rattle.rules.specs.Outcome.{StepResult}
use Rattle.rules.specs.Refusals.{form, shape, client, step_code}
use Rattle.rules.specs.Steps.{answered, fetch_result, file_result, read_result, progress, progress_of}
use Rattle.rules.specs.Calls.{step_result}
use Rattle.laws.proofs.Members.{in_at}
use Rattle.rules.specs.Work.{Value, Ask, read_labels}
use Rattle.machine.specs.Machine.{is_refused}
use Rattle.rules.proofs.HoldingLaws.{Whole}
use Rattle.refinement.proofs.Abstraction.{answers_room, said, response_in, response_of, Fits}
use Rattle.refinement.proofs.AnswersRefined.{serves_counts}
use Rattle.laws.proofs.RowLaws.{wide_in}
use Rattle.rules.proofs.MemoryLaws.{wide_answers}
use Rattle.rules.proofs.AnswerLaws.{whole_entry}
use Rattle.refinement.proofs.StepFrame.{told}
use Rattle.rules.specs.Answers.{value_in}
use Rattle.demands.specs.Demand2.{Reads}
use Rattle.machine.specs.Machine as machine

-- ---- Accepted
pub step_taken : (sh : Shape) (counts : Bool) (m : Mem) (tray : List ℕ) (d : ℕ) → is_refused (response_of sh counts (step_result m tray d)) ≡ false → step_code m tray d ≡ 0
unfolding step_result response_of response_in is_refused
step_taken sh counts m tray d e = by_test (eqb (step_code m tray d) 0)
    (λ t. eqb-true (step_code m tray d) 0 t)
    (λ t. absurd (true≢false (rw t at e)))

-- ---- The step of a read, by its number
read_step : (m : Mem) (tray : List ℕ) (d : ℕ) (q : Ask) (n : ℕ) → step_code m tray d ≡ 0 → Reads m d q n → step_result m tray d ≡ read_result m tray d q n
unfolding step_result progress progress_of
read_step m tray d q n e r = rw (eq-eqb (step_code m tray d) 0 e, r.works, r.made) refl

pub fetch_step : (m : Mem) (tray : List ℕ) (d : ℕ) (q : Ask) → step_code m tray d ≡ 0 → Reads m d q (length (read_labels q))
    → step_result m tray d ≡ fetch_result m tray d (fetch_place (length (read_labels q)) (entry_of (client m d)) (answers_in (form m) m.answers))
unfolding read_result
fetch_step m tray d q e r =
    read_step m tray d q (length (read_labels q)) e r
    ∙ rw (le-ltb (length (read_labels q)) (length (read_labels q)) (omega arith), eq-eqb (length (read_labels q)) (length (read_labels q)) refl) refl

pub file_step : (m : Mem) (tray : List ℕ) (d : ℕ) (q : Ask) → step_code m tray d ≡ 0 → Reads m d q (length (read_labels q) + 2)
    → step_result m tray d ≡ file_result m tray d (entry_of (client m d))
unfolding read_result
file_step m tray d q e r =
    read_step m tray d q (length (read_labels q) + 2) e r
    ∙ rw (
      le-ltb (length (read_labels q) + 2) (length (read_labels q)) (omega arith),
      ne_eqb (length (read_labels q) + 2) (length (read_labels q)) (λ z. omega arith),
      ne_eqb (length (read_labels q) + 2) (length (read_labels q) + 1) (λ z. omega arith),
    ) refl

-- neither is turned down
pub fetch_accepted : (sh : Shape) (counts : Bool) (m : Mem) (tray : List ℕ) (d i : ℕ) → is_refused (response_of sh counts (fetch_result m tray d i)) ≡ false
unfolding fetch_result answered response_of response_in is_refused
fetch_accepted sh counts m tray d i = by_test (not (saw_pending (client m d)) && ltb i (length (answers_in (form m) m.answers))) (λ t. rw t refl) (λ t. rw t refl)

pub file_accepted : (sh : Shape) (counts : Bool) (m : Mem) (tray : List ℕ) (d : ℕ) (e : Entry) → is_refused (response_of sh counts (file_result m tray d e)) ≡ false
unfolding file_result answered response_of response_in is_refused
file_accepted sh counts m tray d e = refl

-- ---- What a fetch that hits returns
value_of : {v u : Value} {a b : Bool} → machine.answered v a ≡ machine.answered u b → v ≡ u
value_of e = cc

not_went : {A : Type 0} {v : Value} {b : Bool} → machine.went ≡ machine.answered v b → A
not_went e = absurd (let z : ◌≡◌ {A = ℕ} 0 1 = cc in omega arith)

-- with the value that the machine answers, all of the reply
pub record Gave (sh : Shape) (lent : List ℕ) (e : Entry) (x : StepResult) : Type 0 where
  pub out : x.out ≡ Answered (value_in sh e).count true
  pub tray : x.tray ≡ written lent 0 (value_in sh e).numbers

value_given : (sh : Shape) (counts : Bool) (tray : List ℕ) (v u : Value) → Whole sh counts v
    → machine.answered (said sh counts (written tray 0 v.numbers) v.count) true ≡ machine.answered u true
    → (v.count ≡ u.count) × (v.numbers ≡ u.numbers)
value_given sh counts tray v u l a =
    let z = sym (told sh counts tray v l) ∙ value_of a in
    (ap (λ (y : Value). y.count) z, ap (λ (y : Value). y.numbers) z)

-- i: the place that the fetch of client d finds; what stands there wants what the client wants
pub fetch_gave : (m : Mem) (tray : List ℕ) (d n i : ℕ) (e : Entry) → Fits m → i ≡ fetch_place n (entry_of (client m d)) (answers_in (form m) m.answers)
    → response_of (shape m) (is_count (entry_of (client m d))) (fetch_result m tray d i) ≡ machine.answered (value_in (shape m) e) true
    → Gave (shape m) tray e (fetch_result m tray d i)
unfolding fetch_result fetch_place answered response_of response_in
fetch_gave m tray d n i e f is a = by_test (not (saw_pending (client m d)) && ltb i (length (answers_in (form m) m.answers)))
    (λ t. let es = answers_in (form m) m.answers in
    let x = get_or es i [] in
    let h = ltb-true i (length es) (and_right (not (saw_pending (client m d))) _ t) in
    let j = in_at [] es i h in
    let w = wide_in entry_width (wide_answers (form m) m.answers (answers_room m f) f.answers) j in
    let o = entry_of (client m d) in
    let s : serves n o x ≡ true = rw is (place_at (serves n o) es [] (rw is at h)) in
    let l : Whole (shape m) (is_count o) (value_in (shape m) x) = rw (← serves_counts n o x s) (whole_entry (shape m) x w f.few (f.kept x j).short) in
    let z = value_given (shape m) (is_count o) tray (value_in (shape m) x) (value_in (shape m) e) l (rw t at a) in
    rw t (record { out = ap (λ n. Answered n true) z.0; tray = ap (written tray 0) z.1 }))
    (λ t. not_went (rw t at a))
