-- Calls made one after another are a history: one argument for `calls::run` and for the exported functions. Leans on Running and on demands'
-- HistoryRuns. Assumes nothing.
use mathlib.Core.Path.{◌≡◌, refl, sym, ap, ◌∙◌, subst}
use mathlib.Core.Bool.{Bool, true, false, true≢false}
use mathlib.Core.List.{List, [], ◌∷◌, ◌++◌, map}
use Rattle.std.specs.Prelude.{Option, None, Some}
use Prim.Native.Nat.{ℕ, suc, ◌<◌}
use native.Mathlib.Omega.{arith}
use lib.Dec.{eqb}
use lib.ListN.{length, get_or, take}
use borrow.Author.Tests.{eqb-true, eqb-false}
use Rattle.laws.proofs.TestLaws.{by_test}
use Rattle.query.specs.Shape.{shape_of}
use Rattle.rules.specs.declared.Outcome.{Outcome}
use Rattle.rules.specs.declared.Outcome.TheVariants.{Accepted}
use Rattle.rules.specs.declared.Tally.{Tally}
use Rattle.rules.specs.Memory.{Mem, opened}
use Rattle.rules.specs.Outcome.{number, Result, result_of, StepResult}
use Rattle.rules.specs.Refusals.{open_code}
use Rattle.rules.specs.Calls.{unless, open_result}
use Rattle.rules.specs.History.{Call, begin, step, abandon, evict_answer, evict_node, renew, untrayed, call_result}
use Rattle.rules.specs.Tally.{Made, made, is_full_for, is_tally_full, made_result, tally_after, tallied_result, mem_after}
use Rattle.calls.specs.CallValues.{tray_after, with_tray, ran}
use Rattle.exports.specs.Reply.{reply_of, Sent, SentWith, SentTallied, sent, sent_by, sent_by_step, sent_tallied, sent_by_tallied}
use Rattle.demands.specs.WholeHistory.{History, mem_at, made_at, result_at}
use Rattle.demands.proofs.HistoryRuns.{next_mem}
use Rattle.running.specs.Running.{OneByOne, history_of, Ran, RunSays, ran_call, IsRan, RunsAreHistories, Exported, SaysOf, ExportSays, IsExported, ExportsAreHistories}

-- ---- The opening
-- one that is not refused leaves the memories as a history's opening does
unless_taken : (code : ℕ) (m : Mem) (x y : Result) → y ≡ unless code m x → number y.out ≡ 0 → (code ≡ 0) × (y ≡ x)
unfolding unless number
unless_taken code m x y e z = by_test (eqb code 0)
    (λ t. (eqb-true code 0 t, rw t at e))
    (λ t. absurd (eqb-false code 0 t (sym (ap (λ (r : Result). number r.out) (rw t at e)) ∙ z)))

opening_taken : (m n : Mem) (k : ℕ) (o : Outcome) → result_of o n ≡ open_result m k → number o ≡ 0 → (open_code m k ≡ 0) × (opened (shape_of k) m ≡ n)
unfolding open_result
opening_taken m n k o e z =
    let t = unless_taken (open_code m k) m _ (result_of o n) e z in
    (t.0, sym (ap (λ (r : Result). r.mem) t.1))

-- ---- One after another
module _ {A : Type 0} (left : A → Mem) (call : A → Made) (says : Mem → A → Type 0)
    (leaves : (m : Mem) (x : A) → says m x → (made_result m (call x)).mem ≡ left x) where
  -- the one that comes after the calls ys is as its contract says of the memories that these leave
  comes_after : (ys zs : List A) (x : A) (n : Mem) → OneByOne left says n (ys ++ (x ∷ zs)) → says (mem_after n (map call ys)) x
  unfolding OneByOne mem_after
  comes_after [] zs x n f = f.0
  comes_after (y ∷ ys) zs x n f =
      subst (λ m. says (mem_after m (map call ys)) x) (sym (leaves n y f.0)) (comes_after ys zs x (left y) f.1)

  -- its place in the list
  calls_before : (ys zs : List A) (x : A) → take (length ys) (map call (ys ++ (x ∷ zs))) ≡ map call ys
  calls_before [] zs x = refl
  calls_before (y ∷ ys) zs x = ap (λ cs. call y ∷ cs) (calls_before ys zs x)

  call_there : (ys zs : List A) (x : A) (c : Made) → get_or (map call (ys ++ (x ∷ zs))) (length ys) c ≡ call x
  call_there [] zs x c = refl
  call_there (y ∷ ys) zs x c = call_there ys zs x c

  number_low : (ys zs : List A) (x : A) → length ys < length (map call (ys ++ (x ∷ zs)))
  number_low [] zs x = omega arith
  number_low (y ∷ ys) zs x = let z = number_low ys zs x in omega arith

  module _ (m n : Mem) (k : ℕ) (a : open_code m k ≡ 0) (o : opened (shape_of k) m ≡ n) (xs ys zs : List A) (x : A) (e : xs ≡ ys ++ (x ∷ zs)) where
    abbrev it : History
    it = history_of m k a (map call xs)

    made_there : made_at it (length ys) ≡ call x
    unfolding made_at
    made_there = rw e (call_there ys zs x _)

    mem_there : mem_at it (length ys) ≡ mem_after n (map call ys)
    unfolding mem_at
    mem_there = rw (e, o) (ap (mem_after n) (calls_before ys zs x))

    says_there : OneByOne left says n xs → says (mem_at it (length ys)) x
    says_there f = subst (λ m. says m x) (sym mem_there) (comes_after ys zs x n (subst (λ l. OneByOne left says n l) e f))

    result_there : result_at it (length ys) ≡ made_result (mem_at it (length ys)) (call x)
    unfolding result_at
    result_there = ap (made_result (mem_at it (length ys))) made_there

    left_there : OneByOne left says n xs → left x ≡ mem_at it (suc (length ys))
    left_there f =
        sym (leaves _ x (says_there f)) ∙ ap (λ (r : StepResult). r.mem) (sym result_there)
        ∙ sym (next_mem it (length ys) (subst (λ l. length ys < length (map call l)) (sym e) (number_low ys zs x)))

-- ---- By `calls::run`
unlent_result : (m : Mem) (c : Call) → made_result m (made c None) ≡ call_result m c
unfolding made_result is_tally_full is_full_for
unlent_result m c = refl

ran_leaves : (m : Mem) (x : Ran) → RunSays m x → (made_result m (ran_call x)).mem ≡ x.left
unfolding ran with_tray
ran_leaves m x e = ap (λ (r : StepResult). r.mem) (unlent_result m (ran_call x).call) ∙ sym (ap (λ (r : StepResult). r.mem) e)

memory_0 : (m n : Mem) (k : ℕ) (a : open_code m k ≡ 0) (cs : List Made) → opened (shape_of k) m ≡ n → mem_at (history_of m k a cs) 0 ≡ n
unfolding mem_at mem_after
memory_0 m n k a cs o = o

module _ (m n : Mem) (k : ℕ) (a : open_code m k ≡ 0) (o : opened (shape_of k) m ≡ n) (xs : List Ran) (f : OneByOne (λ x. x.left) RunSays n xs)
    (ys zs : List Ran) (x : Ran) (e : xs ≡ ys ++ (x ∷ zs)) where
  ran_there : IsRan (history_of m k a (map ran_call xs)) (length ys) x
  unfolding ran with_tray
  ran_there =
      let says = says_there (λ (x : Ran). x.left) ran_call RunSays ran_leaves m n k a o xs ys zs x e f in
      let is = result_there (λ (x : Ran). x.left) ran_call RunSays ran_leaves m n k a o xs ys zs x e ∙ unlent_result _ (ran_call x).call in
      record {
        call = made_there (λ (x : Ran). x.left) ran_call RunSays ran_leaves m n k a o xs ys zs x e;
        out = ap (λ (r : StepResult). r.out) says ∙ ap (λ (r : StepResult). r.out) (sym is);
        left = left_there (λ (x : Ran). x.left) ran_call RunSays ran_leaves m n k a o xs ys zs x e f;
        tray = ap (λ (r : StepResult). r.tray) says ∙ ap (λ (r : StepResult). tray_after x.call x.tray r.tray) (sym is);
      }

pub runs_are_histories : RunsAreHistories
unfolding number
runs_are_histories m n k e xs f =
    let t = opening_taken m n k Accepted e refl in
    (t.0, memory_0 m n k t.0 (map ran_call xs) t.1, ran_there m n k t.0 t.1 xs f)

-- ---- By the exported functions
apart : {A : Type 0} {t : Tally} → ◌≡◌ {A = Option Tally} None (Some t) → A
apart e = absurd (let z : ◌≡◌ {A = ℕ} 0 1 = cc in omega arith)

the_same : {t u : Tally} → Some t ≡ Some u → t ≡ u
the_same e = cc

-- what the contract's equation tells of one
record Tells (m : Mem) (c : Call) (t : Option Tally) (x : Exported) : Type 0 where
  reply : x.reply ≡ reply_of (made_result m (made c t)).out
  left : (made_result m (made c t)).mem ≡ x.left
  tray : (d : ℕ) (l : List ℕ) → c ≡ step d l → x.tray_left ≡ (made_result m (made c t)).tray
  tally : (u : Tally) → t ≡ Some u → x.tally_left ≡ tally_after m c u

by_sent : (m : Mem) (c : Call) (x : Exported) (r : Result) → call_result m c ≡ untrayed r → ((d : ℕ) (l : List ℕ) → c ≡ step d l → ⊥) → sent x.reply x.left ≡ sent_by r
    → Tells m c None x
unfolding made_result is_tally_full is_full_for sent_by untrayed
by_sent m c x r i other e = record {
  reply = ap (λ (y : Sent). y.reply) e ∙ ap (λ (y : StepResult). reply_of y.out) (sym i);
  left = ap (λ (y : StepResult). y.mem) i ∙ sym (ap (λ (y : Sent). y.mem) e);
  tray = λ d l z. absurd (other d l z);
  tally = λ u z. apart z;
}

by_step : (m : Mem) (d : ℕ) (l : List ℕ) (x : Exported) → SaysOf m (step d l) None x → Tells m (step d l) None x
unfolding SaysOf made_result is_tally_full is_full_for sent_by_step call_result
by_step m d l x e = record {
  reply = ap (λ (y : SentWith). y.reply) e;
  left = sym (ap (λ (y : SentWith). y.mem) e);
  tray = λ f k z. ap (λ (y : SentWith). y.tray) e;
  tally = λ u z. apart z;
}

-- of a call that is lent a tally; a tray it is lent only if it is a step
by_tallied : (m : Mem) (c : Call) (t : Tally) (x : Exported) (l : List ℕ) → ((d : ℕ) (k : List ℕ) → c ≡ step d k → x.tray_left ≡ l)
    → sent_tallied x.reply x.left l x.tally_left ≡ sent_by_tallied (tallied_result m t c) → Tells m c (Some t) x
unfolding sent_by_tallied tallied_result
by_tallied m c t x l is e = record {
  reply = ap (λ (y : SentTallied). y.reply) e;
  left = sym (ap (λ (y : SentTallied). y.mem) e);
  tray = λ d k z. is d k z ∙ ap (λ (y : SentTallied). y.tray) e;
  tally = λ u z. ap (λ (y : SentTallied). y.tally) e ∙ ap (tally_after m c) (the_same z);
}

-- no other call is a step
is_step : Call → Bool
is_step (begin d r) = false
is_step (step d l) = true
is_step (abandon d) = false
is_step (evict_answer i) = false
is_step (evict_node i) = false
is_step renew = false

no_step : {c : Call} {d : ℕ} {l : List ℕ} → is_step c ≡ false → c ≡ step d l → ⊥
unfolding is_step
no_step n e = true≢false (sym (ap is_step e) ∙ n)

tells : (m : Mem) (c : Call) (t : Option Tally) (x : Exported) → SaysOf m c t x → Tells m c t x
unfolding SaysOf call_result is_step
tells m (begin d r) None x e = by_sent m (begin d r) x _ refl (λ f l z. no_step refl z) e
tells m (step d l) None x e = by_step m d l x e
tells m (abandon d) None x e = by_sent m (abandon d) x _ refl (λ f l z. no_step refl z) e
tells m (evict_answer i) None x e = by_sent m (evict_answer i) x _ refl (λ f l z. no_step refl z) e
tells m (evict_node i) None x e = by_sent m (evict_node i) x _ refl (λ f l z. no_step refl z) e
tells m renew None x e = by_sent m renew x _ refl (λ f l z. no_step refl z) e
tells m (begin d r) (Some t) x e = by_tallied m (begin d r) t x [] (λ f l z. absurd (no_step refl z)) e
tells m (step d l) (Some t) x e = by_tallied m (step d l) t x x.tray_left (λ f k z. refl) e
tells m (abandon d) (Some t) x e = by_tallied m (abandon d) t x [] (λ f l z. absurd (no_step refl z)) e
tells m (evict_answer i) (Some t) x e = absurd e
tells m (evict_node i) (Some t) x e = absurd e
tells m renew (Some t) x e = absurd e

made_leaves : (m : Mem) (x : Exported) → ExportSays m x → (made_result m x.made).mem ≡ x.left
made_leaves m x e = (tells m x.made.call x.made.tally x e).left

module _ (m n : Mem) (k : ℕ) (a : open_code m k ≡ 0) (o : opened (shape_of k) m ≡ n) (xs : List Exported) (f : OneByOne (λ x. x.left) ExportSays n xs)
    (ys zs : List Exported) (x : Exported) (e : xs ≡ ys ++ (x ∷ zs)) where
  sent_there : IsExported (history_of m k a (map (λ x. x.made) xs)) (length ys) x
  sent_there =
      let says = says_there (λ (x : Exported). x.left) (λ x. x.made) ExportSays made_leaves m n k a o xs ys zs x e f in
      let is = result_there (λ (x : Exported). x.left) (λ x. x.made) ExportSays made_leaves m n k a o xs ys zs x e in
      let t = tells _ x.made.call x.made.tally x says in
      record {
        call = made_there (λ (x : Exported). x.left) (λ x. x.made) ExportSays made_leaves m n k a o xs ys zs x e;
        reply = t.reply ∙ ap (λ (r : StepResult). reply_of r.out) (sym is);
        left = left_there (λ (x : Exported). x.left) (λ x. x.made) ExportSays made_leaves m n k a o xs ys zs x e f;
        tray = λ d l z. t.tray d l z ∙ ap (λ (r : StepResult). r.tray) (sym is);
        tally = t.tally;
      }

pub exports_are_histories : ExportsAreHistories
unfolding sent_by reply_of
exports_are_histories m n k r e z xs f =
    let y = ap (λ (s : Sent). s.mem) e in
    let t = opening_taken m (open_result m k).mem k (open_result m k).out refl (sym (ap (λ (s : Sent). s.reply.number) e) ∙ z) in
    let o = t.1 ∙ sym y in
    (t.0, memory_0 m n k t.0 (map (λ x. x.made) xs) o, sent_there m n k t.0 o xs f)
