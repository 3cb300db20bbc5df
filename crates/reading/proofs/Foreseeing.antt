-- Which count of a tally the step that is due of a read would raise: by the laws of the step itself, with what it leaves passed over. Leans on the
-- rules' Tally, on ReadClient, Filing and Listing. Assumes nothing.
use mathlib.Core.Path.{◌≡◌, refl, sym, ap, ◌∙◌}
use mathlib.Core.Bool.{Bool, true, false, not}
use mathlib.Core.List.{List}
use mathlib.Core.Option.{Option as Maybe, none, some}
use Rattle.std.specs.Prelude.{Option, None, Some}
use Rattle.std.specs.Bool.{then_some}
use Prim.Native.Nat.{ℕ, ◌+◌, ◌<◌}
use lib.Dec.{ltb, leb}
use lib.ListN.{length}
use borrow.Author.Tests.{ltb-true, ltb-false, le-leb, lt-leb, not-true, not-false}
use Rattle.laws.proofs.TestLaws.{by_test}
use Rattle.rules.specs.declared.Count.{Count}
use Rattle.rules.specs.declared.Count.TheVariants.{FromFile, FromTable, EndedLong}
use Rattle.rules.specs.Layout.{max_list}
use Rattle.rules.specs.Nodes.{Words, Store}
use Rattle.rules.specs.Work.{Value, value_of, may_answer}
use Rattle.rules.specs.Client.{saw_pending}
use Rattle.rules.specs.Memory.{current, Mem, mem, client_in, records_in}
use Rattle.rules.specs.Outcome.{StepResult}
use Rattle.rules.specs.Refusals.{client}
use Rattle.rules.specs.Steps.{answered, look_result, file_result, table_result, read_result}
use Rattle.rules.specs.Tally.{count_of}
use Rattle.clients.specs.declared.Held.{Held}
use Rattle.clients.specs.ClientContracts.{Reader, asked_at}
use Rattle.clients.proofs.HeldLaws.{reader_counts}
use Rattle.reading.specs.ReadContracts.{looks, made, found_for, asked_for}
use Rattle.reading.proofs.ReadClient.{look_is, file_is}
use Rattle.reading.proofs.Filing.{fetch_not, fetch_given}
use Rattle.reading.proofs.Listing.{value_list, table_at}

-- what a step's outcome raises
abbrev raises : StepResult → Option Count
raises x = count_of None x.out

look_none : (m : Mem) (y : List ℕ) (d j : ℕ) (p : Words) (o : Maybe Store) → None ≡ raises (look_result m y d j p o)
unfolding look_result count_of
look_none m y d j p none = refl
look_none m y d j p (some s) = refl

long_test : (n : ℕ) → ltb max_list n ≡ not (leb n max_list)
long_test n = by_test (ltb max_list n) (λ e. rw (e, lt-leb n max_list (ltb-true max_list n e))) (λ e. rw (e, le-leb n max_list (ltb-false max_list n e)))

module _ {h : Held} {clients : List ℕ} {d : ℕ} (r : Reader h clients d) where
  -- what the step that is due raises
  abbrev due : Mem → List ℕ → Option Count
  due m y = raises (read_result m y d (asked_at clients d) (made clients d))

  pub look_raises : made clients d < looks clients d → (t n a y : List ℕ) → None ≡ due (mem t n a clients) y
  look_raises i t n a y =
      rw (look_is (mem t n a clients) y d (asked_at clients d) (made clients d) i) (look_none (mem t n a clients) y d (made clients d) _ _)

  pub file_raises : made clients d ≡ looks clients d + 2 → (t n a y : List ℕ) → Some FromTable ≡ due (mem t n a clients) y
  unfolding file_result answered count_of
  file_raises p t n a y = rw (file_is (mem t n a clients) y d (asked_at clients d) (made clients d) p)

  -- j: the place of the filed answer that is found
  module _ (p : made clients d ≡ looks clients d) (s t n y : List ℕ) where
    pub none_raises : found_for s (client_in current clients d) h.steps ≡ None → None ≡ due (mem t n s clients) y
    unfolding count_of
    none_raises g = ap raises (fetch_not r p s y g _ refl t n)

    pub filed_raises : (j : ℕ) → found_for s (client_in current clients d) h.steps ≡ Some j → Some FromFile ≡ due (mem t n s clients) y
    unfolding count_of
    filed_raises j g = ap raises (fetch_given r p s y j g _ _ _ (record { count = refl; list = refl }) refl t n)

  -- ---- the table step
  -- a count is never too long
  pub count_short : not h.counts ≡ false → (v : Value) → not h.counts ≡ not (may_answer (asked_at clients d) v)
  unfolding may_answer
  count_short w v = let c = not-false h.counts w in rw (c, sym (reader_counts r) ∙ c)

  -- n: how many records there are
  pub list_long : (s : List ℕ) (n : ℕ) → not h.counts ≡ true → n ≡ length (asked_for h.query.k s clients d)
      → ltb max_list n ≡ not (may_answer (asked_at clients d) (value_of (asked_at clients d) (records_in h.query.k s)))
  unfolding may_answer
  list_long s n w g =
      let c : (asked_at clients d).counts ≡ false = sym (reader_counts r) ∙ not-true h.counts w in
      rw (value_list s clients d h.query.k c, c, ← g) (long_test n)

  -- b: whether the list is too long
  module _ (p : made clients d ≡ looks clients d + 1) (s : List ℕ) (b : Bool) (e : b ≡ not (may_answer (asked_at clients d) (value_of (asked_at clients d) (records_in h.query.k s)))) (n a y : List ℕ) where
    taken : read_result (mem s n a clients) y d (asked_at clients d) (made clients d)
        ≡ table_result (mem s n a clients) y d (asked_at clients d) (value_of (asked_at clients d) (records_in h.query.k s))
    taken = table_at r s _ refl p y n a

    pub long_raises : b ≡ true → Some EndedLong ≡ due (mem s n a clients) y
    unfolding table_result count_of
    long_raises q = rw (taken, ← e, q)

    -- c: whether a look saw a mark
    pub taken_raises : b ≡ false → (c : Bool) → c ≡ saw_pending (client_in current clients d) → then_some c FromTable ≡ due (mem s n a clients) y
    unfolding table_result answered client count_of
    taken_raises q true f = rw (taken, ← e, q, ← f)
    taken_raises q false f = rw (taken, ← e, q, ← f)
