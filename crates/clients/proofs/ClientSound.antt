-- Laws of the check for senseless contents: what the tests that the code makes say of a client. Leans on rules and on the laws of HeldLaws.
-- Assumes nothing.
use mathlib.Core.Bool.{or-false}
use Rattle.std.specs.Option.{ok_or, is_some, IfSome}
use Rattle.std.specs.Result.{result_ok}
use Rattle.std.specs.Bool.{then_some}
use Rattle.std.proofs.lemmas.Option.{none-some, same_Some}
use Rattle.std.proofs.Common.{Option, Some, None, Result, Ok, Err, ◌≡◌, refl, sym, ap, ◌∙◌, Bool, true, false, cond, not, ◌&&◌, ◌||◌, List, ℕ, ◌+◌, ◌*◌, ◌≤◌, ◌<◌, eqb, leb, ltb, ◌⊎◌, inl, inr, length, ne_eqb, lt-ltb, le-ltb, arith}
use borrow.Author.Tests.{not-false, not-true}
use Rattle.std.proofs.lemmas.Bool.Decides.{nat_tests}
use Rattle.laws.proofs.TestLaws.{by_test}
use Rattle.query.specs.Query.{Query, write_count}
use Rattle.query.specs.declared.Range.{Range}
use Rattle.query.specs.Range.{is_ranged, is_range, is_reversed}
use Rattle.query.specs.Encoding.{names_all, is_key, bare_key}
use Rattle.query.specs.Shape.{Shape, shape_of, max_columns}
use Rattle.columns.specs.declared.marked.Marked.{Marked}
use Rattle.columns.specs.MarkedContracts.{marked_query}
use Rattle.rules.specs.Layout.{client_width, reads, inserts, deletes, max_records, max_list}
use Rattle.rules.specs.Answers.{key_in, length_in, most_in, is_count, is_long}
use Rattle.rules.specs.Work.{Ask, ask_fault, ask_in, work_fault, steps_in_all}
use Rattle.rules.specs.Client.{Client, kind, steps, entry_of, is_idle, query_at, range_at, work_at, is_bad}
use Rattle.rules.proofs.WorkLaws.{work_fault_law}
use Rattle.rules.proofs.ClientLaws.{key_tests, steps_at, idle_kind}
use Rattle.hall.specs.declared.kind.Kind.{Kind}
use Rattle.hall.specs.declared.kind.Kind.TheVariants.{Read, Insert, Delete}
use Rattle.hall.specs.Kind.{kind_number}
use Rattle.hall.specs.declared.kind.UnknownKind.{UnknownKind}
use Rattle.hall.specs.Kind.{Decodes}
use Rattle.hall.specs.Refusal.{code_of}
use Rattle.hall.specs.declared.refusal.Refusal.TheVariants.{Unsound}
use Rattle.rules.specs.Memory.{current, shape_in, client_in}
use Rattle.clients.specs.declared.Numbers.{Numbers}
use Rattle.clients.specs.declared.Held.{Held}
use Rattle.clients.specs.ClientContracts.{IsNumbers, client_code, steps_of_kind, fits}

-- a range that a begin would refuse
fault_is : (x : Ask) → not (eqb (ask_fault x) 0) ≡ not (is_range x.shape x.query x.range) || is_reversed x.range
unfolding ask_fault
fault_is x = go (is_range x.shape x.query x.range) (is_reversed x.range)
  where
    go : (a b : Bool) → not (eqb (cond a (cond b 14 0) 2) 0) ≡ not a || b
    go true true = refl
    go true false = refl
    go false b = refl

-- ---- Clients without a kind, and with none of the three
-- a client with a kind is not idle
pub kind_busy : (c : Client) → (kind c ≡ 0 → ⊥) → is_idle c ≡ false
kind_busy c h = by_test (is_idle c) (λ e. absurd (h (idle_kind c e))) (λ e. e)

module _ (sh : Shape) (c : Client) where
  pub bad_none : (r : Bool) → r ≡ is_idle c → kind c ≡ 0 → not r ≡ is_bad sh c
  unfolding is_bad
  bad_none true e h = rw (← e)
  bad_none false e h = rw (← e, h)

  -- a client that is not bad and has no kind is idle
  pub none_idle : false ≡ is_bad sh c → kind c ≡ 0 → true ≡ is_idle c
  none_idle g h = sym (not-false (is_idle c) (bad_none (is_idle c) refl h ∙ sym g))

  pub bad_kind : (kind c ≡ 0 → ⊥) → deletes < kind c → is_bad sh c ≡ true
  unfolding is_bad
  bad_kind some g = rw (kind_busy c some, ne_eqb (kind c) 0 some, lt-ltb deletes (kind c) g)

-- a number that is not 0 and no kind's is above all three
pub none_decoded : (n : ℕ) (r : Result Kind UnknownKind) → Decodes n r → result_ok r ≡ None → (n ≡ 0 → ⊥) → deletes < n
none_decoded n (Ok y) d e h = absurd (none-some y (sym e))
none_decoded n (Err u) d e h = omega (arith, d.1, d.2, d.3, h)

pub decoded : (n : ℕ) (r : Result Kind UnknownKind) (y : Kind) → Decodes n r → Some y ≡ result_ok r → kind_number y ≡ n
decoded n (Ok x) y d e = ap kind_number (same_Some y x e) ∙ d
decoded n (Err u) y d e = absurd (none-some y (sym e))

-- what is found of client d: idle; unsound without a kind; busy or unsound with one
module _ (s : List ℕ) (d : ℕ) where
  pub code_zero : is_idle (client_in current s d) ≡ true → 6 ≡ client_code s d
  unfolding client_code is_bad
  code_zero e = rw e

  pub code_none : kind (client_in current s d) ≡ 0 → is_idle (client_in current s d) ≡ false → 3 ≡ client_code s d
  unfolding client_code is_bad
  code_none h e = rw (e, h)

  pub code_parsed : (r : Option Held) → (kind (client_in current s d) ≡ 0 → ⊥) → is_some r ≡ not (is_bad (shape_in s) (client_in current s d)) → code_of (ok_or r Unsound) ≡ client_code s d
  unfolding client_code
  code_parsed None h e = rw (not-false (is_bad (shape_in s) (client_in current s d)) (sym e))
  code_parsed (Some x) h e = rw (not-true (is_bad (shape_in s) (client_in current s d)) (sym e), kind_busy (client_in current s d) h)

-- ---- Clients of one of the three kinds
number_some : (x : Kind) → kind_number x ≡ 0 → ⊥
number_some Read e = absurd (omega arith)
number_some Insert e = absurd (omega arith)
number_some Delete e = absurd (omega arith)

number_most : (x : Kind) → kind_number x ≤ deletes
number_most Read = omega arith
number_most Insert = omega arith
number_most Delete = omega arith

-- how the code has the last tests: each of them passed
all_passed : (f : Bool) (n i : ℕ) (l : Bool) → not (f || (leb n i || l)) ≡ (not f && (ltb i n && not l))
all_passed true n i l = refl
all_passed false n i l = grind (arith, nat_tests)

names_passed : (w a : Bool) → not (w || not a) ≡ (not w && a)
names_passed true a = refl
names_passed false true = refl
names_passed false false = refl

kind_passed : (y : Kind) (sh : Shape) (counts : Bool) (g : Range) (q : Query) (n i : ℕ) (l : Bool)
    → not (((not (eqb (kind_number y) reads) && (counts || is_ranged g)) || (eqb (kind_number y) inserts && not (names_all q)))
    || ((eqb (kind_number y) reads && (not (is_range sh q g) || is_reversed g)) || (leb n i || l)))
    ≡ (fits y counts g sh q && (ltb i n && not l))
kind_passed Read sh counts g q n i l = all_passed (not (is_range sh q g) || is_reversed g) n i l
kind_passed Insert sh counts g q n i l =
    all_passed ((counts || is_ranged g) || not (names_all q)) n i l ∙ ap (λ (b : Bool). b && (ltb i n && not l)) (names_passed (counts || is_ranged g) (names_all q))
kind_passed Delete sh counts g q n i l = rw (or-false (counts || is_ranged g)) (all_passed (counts || is_ranged g) n i l)

module _ (sh : Shape) (c : Client) where
  fault_law : not (eqb (work_fault (work_at sh c)) 0) ≡ (eqb (kind c) reads && (not (is_range sh (query_at sh c) (range_at c)) || is_reversed (range_at c)))
  unfolding work_at query_at range_at ask_in
  fault_law =
      let key : List ℕ = key_in (entry_of c) in
      rw (work_fault_law sh (kind c) key) (by_test (eqb (kind c) reads) (λ e. rw e (fault_is (ask_in sh key))) (λ e. rw e))

  steps_law : steps_in_all (work_at sh c) ≡ steps_of_kind (kind c) (query_at sh c)
  unfolding steps_of_kind
  steps_law = steps_at sh c

  module _ (wide : length c ≡ client_width) (few : sh.columns ≤ max_columns) (x : Kind) (is : kind_number x ≡ kind c) where
    -- by its key, what it wants, its range, its steps and its length
    whole : is_bad sh c
        ≡ ((not (is_key sh (bare_key (key_in (entry_of c))))
        || ((not (eqb (kind c) reads) && (is_count (entry_of c) || is_ranged (range_at c))) || (eqb (kind c) inserts && not (names_all (query_at sh c)))))
        || ((eqb (kind c) reads && (not (is_range sh (query_at sh c) (range_at c)) || is_reversed (range_at c)))
        || (leb (steps_of_kind (kind c) (query_at sh c)) (steps c) || is_long (entry_of c))))
    unfolding is_bad
    whole =
        let some : kind c ≡ 0 → ⊥ = λ e. number_some x (is ∙ e) in
        let most : kind c ≤ deletes = (let z = number_most x in omega arith) in
        rw (kind_busy c some, ne_eqb (kind c) 0 some, le-ltb deletes (kind c) most, key_tests sh c wide few, fault_law, steps_law)

    pub bad_key : is_key sh (bare_key (key_in (entry_of c))) ≡ false → is_bad sh c ≡ true
    bad_key e = rw (whole, e)

    pub tests_passed : is_key sh (bare_key (key_in (entry_of c))) ≡ true
        → not (is_bad sh c) ≡ (fits x (is_count (entry_of c)) (range_at c) sh (query_at sh c) && (ltb (steps c) (steps_of_kind (kind_number x) (query_at sh c)) && not (is_long (entry_of c))))
    tests_passed e = rw (whole, e, ← is) (kind_passed x sh _ _ _ _ _ _)

-- ---- Steps, by the kind
pub write_steps : (x : Kind) (q : Query) (n : ℕ) → (x ≡ Insert) ⊎ (x ≡ Delete) → n ≡ write_count q → 2 * n + 1 ≡ steps_of_kind (kind_number x) q
unfolding steps_of_kind
write_steps x q n (inl e) f = rw (e, ← f) (omega arith)
write_steps x q n (inr e) f = rw (e, ← f) (omega arith)

-- ---- The tests that the code makes, by what it read: the query q, whether it wants a count, the range g
pub some_then : {A : Type 0} (b : Bool) (x : A) → is_some (then_some b x) ≡ b
some_then true x = refl
some_then false x = refl

pub then_holds : {A : Type 0} (b : Bool) (x : A) (P : A → Type 0) → P x → IfSome (then_some b x) P
then_holds true x P h = h
then_holds false x P h = tt

and_tests : (a b c : Bool) → ((a && b) && c) ≡ (a && (b && c))
and_tests true b c = refl
and_tests false b c = refl

pub length_test : (e : List ℕ) → leb (length_in e) (cond (is_count e) max_records max_list) ≡ not (is_long e)
unfolding is_long most_in
length_test e = grind (arith, nat_tests)

pub passed : (k : ℕ) (c : Client) (x : Kind) (q : Marked) (counts : Bool) (g : Range) → length c ≡ client_width → k ≤ max_columns → kind_number x ≡ kind c
    → is_key (shape_of k) (bare_key (key_in (entry_of c))) ≡ true → q.k ≡ k → marked_query q ≡ query_at (shape_of k) c → counts ≡ is_count (entry_of c) → g ≡ range_at c
    → ((fits x counts g (shape_of q.k) (marked_query q) && ltb (steps c) (steps_of_kind (kind_number x) (marked_query q))) && leb (length_in (entry_of c)) (cond counts max_records max_list))
    ≡ not (is_bad (shape_of k) c)
passed k c x q counts g w f is e a m b r =
    rw (m, a, b, r, length_test (entry_of c), and_tests) (sym (tests_passed (shape_of k) c w f x is e))

-- ---- What was read of any client
pub few_held : {n : Numbers} {s : List ℕ} {d : ℕ} → IsNumbers n s d → n.columns ≤ max_columns → (shape_in s).columns ≤ max_columns
few_held i l = let e = i.columns in omega arith
