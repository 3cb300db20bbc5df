-- Laws of the fetch and of the file step: which filed answer is given, and what is filed. Leans on rules, on answers, on clients and on
-- ReadClient. Assumes nothing.
use mathlib.Core.Path.{◌≡◌, refl, sym, ◌∙◌}
use mathlib.Core.Bool.{Bool, true, false, cond, not, ◌&&◌}
use mathlib.Core.List.{List, []}
use Prim.Native.Nat.{ℕ, ◌+◌, ◌<◌}
use native.Mathlib.Omega.{arith}
use lib.Dec.{ltb}
use lib.ListN.{length, get_or}
use borrow.Author.Tests.{lt-ltb, le-ltb, ltb-true}
use Rattle.std.specs.Prelude.{Some, None}
use Rattle.std.proofs.lemmas.Option.{none-some}
use Rattle.lists.specs.Lists.{written}
use Rattle.rules.specs.declared.Outcome.{Outcome}
use Rattle.rules.specs.declared.Outcome.TheVariants.{Accepted, Answered}
use Rattle.rules.specs.Answers.{Entry, length_in, list_in, value_in, fetch_place, filed}
use Rattle.rules.specs.Client.{Client, saw_pending, entry_of, idle, stepped}
use Rattle.rules.specs.Memory.{current, mem, client_in, with_client, answers_in, with_answers}
use Rattle.rules.specs.Outcome.{result_with}
use Rattle.rules.specs.Layout.{answer_count_offset}
use Rattle.rules.specs.Refusals.{client}
use Rattle.query.specs.Shape.{shape_of}
use Rattle.rules.specs.Steps.{now_at, answered, fetch_result, file_result, read_result}
use Rattle.clients.specs.declared.Held.{Held}
use Rattle.clients.specs.ClientContracts.{Reader, asked_at}
use Rattle.answers.specs.AnswerContracts as answers
use Rattle.answers.specs.AnswerContracts.{fetched}
use Rattle.answers.proofs.AnswerScan.{count_is, fetched_some, fetched_none}
use Rattle.reading.specs.ReadContracts.{looks, made, found_for}
use Rattle.reading.proofs.ReadClient.{fetch_is, file_is}

-- ---- the fetch
-- a search that is made only where no mark was seen
module _ (n : ℕ) (x : Entry) (es : List Entry) where
  closed : (b : Bool) → cond b None (fetched n x es) ≡ None → not b && ltb (fetch_place n x es) (length es) ≡ false
  closed true e = refl
  closed false e = le-ltb (fetch_place n x es) (length es) (fetched_none n x es e)

  opened : (b : Bool) (j : ℕ) → cond b None (fetched n x es) ≡ Some j → (b ≡ false) × (ltb (fetch_place n x es) (length es) ≡ true) × (fetch_place n x es ≡ j)
  opened true j e = absurd (none-some j e)
  opened false j e = let f = fetched_some n x es j e in (refl, lt-ltb (fetch_place n x es) (length es) f.1, f.0)

-- the answer that was found is there
pub found_there : (s : List ℕ) (c : Client) (n j : ℕ) → found_for s c n ≡ Some j → j < get_or s answer_count_offset 0
unfolding found_for
found_there s c n j e =
    let o = opened n (entry_of c) (answers_in current s) (saw_pending c) j e in
    let l = count_is s in
    let f = ltb-true (fetch_place n (entry_of c) (answers_in current s)) (length (answers_in current s)) o.1 in
    omega (arith, o.2)

module _ {h : Held} {clients : List ℕ} {d : ℕ} (r : Reader h clients d) (p : made clients d ≡ looks clients d) (s tray : List ℕ) where
  found : found_for s (client_in current clients d) h.steps
      ≡ cond (saw_pending (client_in current clients d)) None (fetched (looks clients d) (entry_of (client_in current clients d)) (answers_in current s))
  unfolding found_for
  found = rw (r.held.steps, p)

  pub fetch_not : found_for s (client_in current clients d) h.steps ≡ None → (clients' : List ℕ) → clients' ≡ with_client current clients d (stepped (client_in current clients d)) → (t n : List ℕ)
      → result_with Accepted (mem t n s clients') tray ≡ read_result (mem t n s clients) tray d (asked_at clients d) (made clients d)
  unfolding fetch_result now_at client
  fetch_not g clients' u t n =
      let e = closed (looks clients d) (entry_of (client_in current clients d)) (answers_in current s) (saw_pending (client_in current clients d)) (sym found ∙ g) in
      rw (fetch_is (mem t n s clients) tray d (asked_at clients d) (made clients d) p, e, u)

  pub fetch_given : (j : ℕ) → found_for s (client_in current clients d) h.steps ≡ Some j → (count : ℕ) (tray' clients' : List ℕ) → answers.Gave h.query.k (get_or (answers_in current s) j []) tray count tray' → clients' ≡ with_client current clients d idle → (t n : List ℕ)
      → result_with (Answered count true) (mem t n s clients') tray' ≡ read_result (mem t n s clients) tray d (asked_at clients d) (made clients d)
  unfolding fetch_result answered value_in now_at client
  fetch_given j g count tray' clients' w u t n =
      let o = opened (looks clients d) (entry_of (client_in current clients d)) (answers_in current s) (saw_pending (client_in current clients d)) j (sym found ∙ g) in
      rw (fetch_is (mem t n s clients) tray d (asked_at clients d) (made clients d) p, o.0, o.1, o.2, u, w.count, w.list, r.held.columns)

-- ---- the file step: o, tray', clients' are what giving the client's own list or count returns and leaves
module _ {h : Held} {clients : List ℕ} {d : ℕ} (r : Reader h clients d) (p : made clients d ≡ looks clients d + 2) where
  pub file_left : (s tray x s' tray' clients' : List ℕ) (o : Outcome) → x ≡ entry_of (client_in current clients d)
      → s' ≡ with_answers current s (filed x (answers_in current s))
      → o ≡ Answered (length_in (entry_of (client_in current clients d))) false
      → tray' ≡ written tray 0 (list_in (shape_of h.query.k) (entry_of (client_in current clients d))) → clients' ≡ with_client current clients d idle → (t n : List ℕ)
      → result_with o (mem t n s' clients') tray' ≡ read_result (mem t n s clients) tray d (asked_at clients d) (made clients d)
  unfolding file_result answered value_in now_at client
  file_left s tray x s' tray' clients' o f e a g u t n =
      rw (file_is (mem t n s clients) tray d (asked_at clients d) (made clients d) p, e, a, g, u, r.held.columns, f)
