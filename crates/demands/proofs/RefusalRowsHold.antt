-- The number that a call without a tally returns is that of the first row of its refusals that applies, which is the smallest that applies, but for
-- 14; where none does it is 0, 12 or 13. 14 is given to a begin of a read with a reversed range, and to no other call; 7 and 15 to none. Leans on rules' definitions and
-- laws, on refinement's RefusedCalls and on NodeFaults for 3 at a node. Assumes nothing.
use mathlib.Core.Path.{◌≡◌, refl, sym, ap, ◌∙◌}
use mathlib.Core.Bool.{Bool, true, false, cond, not, ◌&&◌, ◌||◌, and-false}
use mathlib.Core.List.{List, [], ◌∷◌, ◌++◌}
use mathlib.Core.Logic.{◌⊎◌, inl, inr}
use mathlib.Core.Option.{Option, none, some}
use Prim.Native.Nat.{ℕ, ◌+◌, ◌-◌, ◌≤◌, ◌<◌}
use native.Mathlib.Omega.{arith}
use lib.Dec.{eqb, ltb, leb}
use lib.ListN.{length, get_or}
use borrow.Author.Tests.{not-true, leb-true, ltb-true, ltb-false, eqb-true, eqb-false, ne_eqb, lt-ltb, le-ltb}
use Rattle.lists.specs.Lists.{In, here, there}
use Rattle.laws.proofs.TestLaws.{by_test, clash, or_false, or_false_l, or_false_r}
use Rattle.laws.proofs.ListLaws.{and_left, and_right}
use Rattle.query.specs.Encoding.{is_query, names_all, query_of}
use Rattle.query.specs.Range.{is_range, is_reversed}
use Rattle.query.specs.Shape.{Shape, max_columns}
use Rattle.rules.specs.Layout.{tray_least, reads, not_given, refused_columns, refused_reversed, refused_tally_full}
use Rattle.rules.specs.Work.{Ask, Value, read_labels, may_answer, Write, write_labels, Work, asking, writing, Request, read_of, insert_of, delete_of, is_write, ask_fault, ask_of, fault_of, write_in, work_in}
use Rattle.rules.specs.Table.{target}
use Rattle.rules.specs.Nodes.{Words, Store, is_worn}
use Rattle.rules.specs.Answers.{key_in}
use Rattle.rules.specs.Client.{Client, kind, steps, saw_pending, did_change, found_full, entry_of, is_idle, is_bad, work_at}
use Rattle.rules.specs.Memory.{Mem, store_in, answers_in}
use Rattle.rules.specs.declared.Outcome.{Outcome}
use Rattle.rules.specs.Outcome.{Result, number}
use Rattle.rules.specs.Refusals.{form, shape, columns, client, is_short, bad_columns, is_unsound, no_client}
use Rattle.rules.specs.Refusals.{open_code, begin_code, at_client, step_code, abandon_code, evict_answer_code, evict_node_code, renew_code}
use Rattle.rules.specs.Steps.{answered, look_result, fetch_result, table_result, file_result, read_result, announce_result, write_table_result, end_of, raise_result, write_result, progress_of, progress}
use Rattle.rules.specs.Calls.{unless, open_result, begin_result, step_result, past_table, announced_labels, labels_left, retire_result, abandoned_write, abandoned_of, abandoned, abandon_result, evict_answer_result, evict_node_result, renew_result}
use Rattle.rules.specs.History.{Call, begin, step, abandon, evict_answer, evict_node, renew, untrayed, call_result, is_accepted}
use Rattle.rules.proofs.WorkLaws.{write_labels_some, write_label_wide, target_length}
use Rattle.refinement.proofs.RefusedCalls.{begin_code_law}
use Rattle.demands.proofs.NodeFaults.{is_none, look_none, mark_none, raise_none, retired_none, released_none, marks_apart, raises_apart}
use Rattle.demands.specs.RefusalRows.{Row, first_of, some_applies, is_there, is_busy, is_unsound_at, is_unsound_abandoned, is_long_at, is_full_at, is_full_abandoned}
use Rattle.demands.specs.RefusalRows.{open_rows, begin_rows, step_rows, end_rows, abandon_rows, abandon_end_rows, evict_answer_rows, evict_node_rows, renew_rows, rows_of, ends_of, Gives, Smallest, has_reversed, IsReversedBegin}

-- ---- The first of two lists of rows
pub first_refused : (a b : List Row) → some_applies a ≡ true → first_of (a ++ b) ≡ first_of a
unfolding first_of some_applies
first_refused [] b e = clash e refl
first_refused (r ∷ a) b e =
    by_test r.applies (λ t. rw t) (λ t. rw t (first_refused a b (rw t at e)))

pub first_accepted : (a b : List Row) → some_applies a ≡ false → first_of (a ++ b) ≡ first_of b
unfolding first_of some_applies
first_accepted [] b e = refl
first_accepted (r ∷ a) b e = let o = or_false r.applies (some_applies a) e in rw o.0 (first_accepted a b o.1)

-- ---- The smallest
-- a number k that may apply where n is given: none smaller, and above 2 where 14 is
abbrev pub NoLess : ℕ → ℕ → Type 0
NoLess n k = (n ≤ k) ⊎ ((n ≡ refused_reversed) × (refused_columns < k))

abbrev no_less : ℕ → ℕ → Bool
no_less n k = leb n k || (eqb n refused_reversed && ltb refused_columns k)

no_less_law : (n k : ℕ) → no_less n k ≡ true → NoLess n k
no_less_law n k e = by_test (leb n k)
    (λ t. inl (leb-true n k t))
    (λ t. let z : eqb n refused_reversed && ltb refused_columns k ≡ true = rw t at e in
    inr (eqb-true n refused_reversed (and_left (eqb n refused_reversed) _ z), ltb-true refused_columns k (and_right (eqb n refused_reversed) _ z)))

-- so is the number of every row that applies
pub data Above (n : ℕ) : List Row → Type 0 where
  end : Above n []
  more : {r : Row} {rs : List Row} → (r.applies ≡ true → NoLess n r.number) → Above n rs → Above n (r ∷ rs)

-- of two rows that apply the later may where the earlier is given
pub data Rising : List Row → Type 0 where
  done : Rising []
  rise : {r : Row} {rs : List Row} → (r.applies ≡ true → Above r.number rs) → Rising rs → Rising (r ∷ rs)

above_in : {n : ℕ} {rs : List Row} (r : Row) → Above n rs → In r rs → r.applies ≡ true → NoLess n r.number
above_in r (more h k) (here i) e = rw i (h (rw i at e))
above_in r (more h k) (there i) e = above_in r k i e
above_in {n = n} r end x5 e = elim x5 [ ]

first_least : {rs : List Row} → Rising rs → (s : Row) → In s rs → s.applies ≡ true → NoLess (first_of rs) s.number
unfolding first_of
first_least (rise {r} h k) s (here i) e = let l : r.applies ≡ true = rw i at e in rw (i, l) (inl (omega arith))
first_least (rise {r} h k) s (there i) e =
    by_test r.applies
    (λ t. rw t (above_in s (h t) i e))
    (λ t. rw t (first_least k s i e))
first_least done s x5 e = elim x5 [ ]

-- so is the number of every row, whether it applies or not
numbers_from : ℕ → List Row → Bool
numbers_from n [] = true
numbers_from n (r ∷ rs) = no_less n r.number && numbers_from n rs

from : (n : ℕ) (rs : List Row) → numbers_from n rs ≡ true → Above n rs
unfolding numbers_from
from n [] e = end
from n (r ∷ rs) e = more (λ a. no_less_law n r.number (and_left (no_less n r.number) _ e)) (from n rs (and_right (no_less n r.number) _ e))

over : (n : ℕ) (r : Row) (rs : List Row) → no_less n r.number ≡ true → Above n rs → Above n (r ∷ rs)
over n r rs e h = more (λ a. no_less_law n r.number e) h

-- ---- Refusals
-- no row of a list stands for a call that is accepted
refusing : List Row → Bool
refusing [] = true
refusing (r ∷ rs) = not (is_accepted r.number) && refusing rs

first_refusing : (rs : List Row) → refusing rs ≡ true → some_applies rs ≡ true → is_accepted (first_of rs) ≡ false
unfolding refusing first_of some_applies
first_refusing [] h e = clash e refl
first_refusing (r ∷ rs) h e =
    by_test r.applies
    (λ t. rw t (not-true _ (and_left (not (is_accepted r.number)) _ h)))
    (λ t. rw t (first_refusing rs (and_right (not (is_accepted r.number)) _ h) (rw t at e)))

-- ---- All of it
gives : (a b : List Row) (n : ℕ) → n ≡ first_of (a ++ b) → refusing a ≡ true → is_accepted (first_of b) ≡ true → Gives a b n
gives a b n e g k = record {
  first = e;
  accepted =
      by_test (some_applies a)
      (λ t. rw (t, e, first_refused a b t) (first_refusing a g t))
      (λ t. rw (t, e, first_accepted a b t) k);
}

pub smallest : (rs : List Row) (n : ℕ) → n ≡ first_of rs → Rising rs → Smallest rs n
smallest rs n e h r i a = rw e (elim (first_least h r i a) [ inl l ↦ inl l | inr l ↦ inr (inl l) ])

-- ---- Calls whose code is what they return
unless_number : (code : ℕ) (m : Mem) (x : Result) → number x.out ≡ 0 → number (unless code m x).out ≡ code
unfolding unless number
unless_number code m x e = by_test (eqb code 0) (λ t. rw t (e ∙ sym (eqb-true code 0 t))) (λ t. rw t)

none_zero : is_accepted (first_of []) ≡ true
unfolding is_accepted first_of
none_zero = refl

-- ---- Opening
pub open_first : (m : Mem) (k : ℕ) → number (open_result m k).out ≡ first_of (open_rows m k)
unfolding open_result open_code open_rows first_of number
open_first m k = unless_number (open_code m k) m _ refl

pub open_rising : (m : Mem) (k : ℕ) → Rising (open_rows m k)
unfolding open_rows numbers_from
open_rising m k = rise (λ e. from _ _ refl) (rise (λ e. from _ _ refl) done)

pub open_gives : (m : Mem) (k : ℕ) → Gives (open_rows m k) [] (number (open_result m k).out)
unfolding open_rows refusing is_accepted
open_gives m k = gives (open_rows m k) [] _ (open_first m k) refl none_zero

-- ---- Begins
-- a code after what begins was judged by itself: 2, then 14
abbrev faulted : Bool → Bool → Bool → ℕ
faulted query range reversed = cond query (cond range (cond reversed refused_reversed 0) refused_columns) refused_columns

judged : (query range reversed : Bool) (rest : ℕ) → cond (not (eqb (faulted query range reversed) 0)) (faulted query range reversed) rest
    ≡ cond (eqb (faulted query range reversed) refused_columns) refused_columns (cond reversed refused_reversed rest)
judged true true true rest = refl
judged true true false rest = refl
judged true false v rest = refl
judged false g v rest = refl

after_fault : (sh : Shape) (r : Request) (rest : ℕ) → cond (not (eqb (fault_of sh r) 0)) (fault_of sh r) rest
    ≡ cond (eqb (fault_of sh r) refused_columns) refused_columns (cond (has_reversed r) refused_reversed rest)
unfolding fault_of ask_fault ask_of has_reversed
after_fault sh (read_of counts range a) rest = judged (is_query sh a) (is_range sh (query_of a) range) (is_reversed range) rest
after_fault sh (insert_of a) rest = judged (is_query sh a && names_all (query_of a)) true false rest
after_fault sh (delete_of a) rest = judged (is_query sh a) true false rest

-- a code at the called client; the rows say that it is there
at_called : (gone bad idle : Bool) (n rest : ℕ)
    → cond gone 4 (cond bad 3 (cond idle n rest)) ≡ cond gone 4 (cond (not gone && bad) 3 (cond (not gone && idle) n rest))
at_called true bad idle n rest = refl
at_called false bad idle n rest = refl

begin_first : (m : Mem) (d : ℕ) (r : Request) → number (begin_result m d r).out ≡ first_of (begin_rows m d r ++ [])
unfolding begin_result begin_code begin_rows first_of number
begin_first m d r =
    unless_number (begin_code m d r) m _ refl
    ∙ rw (at_called (no_client d) (is_bad (shape m) (client m d)) (not (is_idle (client m d))) 5 (cond (is_write r && is_worn (form m) (shape m) (store_in (form m) m.nodes)) 10 0))
    (ap (λ (n : ℕ). cond (is_short (shape m) m) 1 n) (after_fault (shape m) r _))

-- two rows that do not apply together
not_there : {A : Type 0} (gone x : Bool) → gone ≡ true → not gone && x ≡ true → A
not_there gone x e f = clash f (rw e)

not_busy : {A : Type 0} (gone idle x : Bool) → idle ≡ true → (not gone && not idle) && x ≡ true → A
not_busy gone idle x e f = clash (and_right (not gone) (not idle) (and_left (not gone && not idle) x f)) (rw e)

begin_rising : (m : Mem) (d : ℕ) (r : Request) → Rising (begin_rows m d r ++ [])
unfolding begin_rows numbers_from
begin_rising m d r =
    rise (λ e. from _ _ refl)
    (rise (λ e. from _ _ refl)
    (rise (λ e. from _ _ refl)
    (rise (λ e. from _ _ refl)
    -- 4, and 3 of the desk
    (rise (λ e. more (λ a. not_there (no_client d) _ e a) (from _ _ refl))
    (rise (λ e. from _ _ refl)
    (rise (λ e. from _ _ refl)
    (rise (λ e. from _ _ refl) done)))))))

pub begin_gives : (m : Mem) (d : ℕ) (r : Request) → Gives (begin_rows m d r) [] (number (begin_result m d r).out)
unfolding begin_rows refusing is_accepted
begin_gives m d r = gives (begin_rows m d r) [] _ (begin_first m d r) refl none_zero

-- ---- Evictions and renewals
evict_answer_first : (m : Mem) (i : ℕ) → number (evict_answer_result m i).out ≡ first_of (evict_answer_rows m i ++ [])
unfolding evict_answer_result evict_answer_code evict_answer_rows first_of number
evict_answer_first m i = unless_number (evict_answer_code m i) m _ refl

evict_answer_rising : (m : Mem) (i : ℕ) → Rising (evict_answer_rows m i ++ [])
unfolding evict_answer_rows numbers_from
evict_answer_rising m i = rise (λ e. from _ _ refl) (rise (λ e. from _ _ refl) (rise (λ e. from _ _ refl) done))

pub evict_answer_gives : (m : Mem) (i : ℕ) → Gives (evict_answer_rows m i) [] (number (evict_answer_result m i).out)
unfolding evict_answer_rows refusing is_accepted
evict_answer_gives m i = gives (evict_answer_rows m i) [] _ (evict_answer_first m i) refl none_zero

evict_node_first : (m : Mem) (i : ℕ) → number (evict_node_result m i).out ≡ first_of (evict_node_rows m i ++ [])
unfolding evict_node_result evict_node_code evict_node_rows first_of number
evict_node_first m i = unless_number (evict_node_code m i) m _ refl

evict_node_rising : (m : Mem) (i : ℕ) → Rising (evict_node_rows m i ++ [])
unfolding evict_node_rows numbers_from
evict_node_rising m i = rise (λ e. from _ _ refl) (rise (λ e. from _ _ refl) (rise (λ e. from _ _ refl) (rise (λ e. from _ _ refl) done)))

pub evict_node_gives : (m : Mem) (i : ℕ) → Gives (evict_node_rows m i) [] (number (evict_node_result m i).out)
unfolding evict_node_rows refusing is_accepted
evict_node_gives m i = gives (evict_node_rows m i) [] _ (evict_node_first m i) refl none_zero

renew_first : (m : Mem) → number (renew_result m).out ≡ first_of (renew_rows m ++ [])
unfolding renew_result renew_code renew_rows first_of number
renew_first m = unless_number (renew_code m) m _ refl

renew_rising : (m : Mem) → Rising (renew_rows m ++ [])
unfolding renew_rows numbers_from
renew_rising m = rise (λ e. from _ _ refl) (rise (λ e. from _ _ refl) (rise (λ e. from _ _ refl) done))

pub renew_gives : (m : Mem) → Gives (renew_rows m) [] (number (renew_result m).out)
unfolding renew_rows refusing is_accepted
renew_gives m = gives (renew_rows m) [] _ (renew_first m) refl none_zero

-- ---- Steps
-- what a step of a read returns
look_number : (m : Mem) (tray : List ℕ) (d j : ℕ) (p : Words) (o : Option Store) → number (look_result m tray d j p o).out ≡ cond (is_none o) 3 0
unfolding look_result number is_none
look_number m tray d j p none = refl
look_number m tray d j p (some s) = refl

fetch_number : (m : Mem) (tray : List ℕ) (d i : ℕ) → number (fetch_result m tray d i).out ≡ 0
unfolding fetch_result answered number
fetch_number m tray d i =
    by_test (not (saw_pending (client m d)) && ltb i (length (answers_in (form m) m.answers))) (λ e. rw e) (λ e. rw e)

table_number : (m : Mem) (tray : List ℕ) (d : ℕ) (x : Ask) (v : Value) → number (table_result m tray d x v).out ≡ cond (not (may_answer x v)) 12 0
unfolding table_result answered number
table_number m tray d x v =
    by_test (may_answer x v)
    (λ e. rw e (by_test (saw_pending (client m d)) (λ t. rw t) (λ t. rw t)))
    (λ e. rw e)

-- the number of work under way, by the rows that are behind its desk's
abbrev under_way : Mem → ℕ → Work → ℕ → ℕ
under_way m d w i = cond (is_unsound_at m (client m d) w i) 3 (cond (is_long_at m w i) 12 (cond (is_full_at (client m d) w i) 13 0))

read_number : (m : Mem) (tray : List ℕ) (d : ℕ) (x : Ask) (i : ℕ) → number (read_result m tray d x i).out ≡ under_way m d (asking x) i
unfolding read_result is_unsound_at is_long_at is_full_at file_result answered number
read_number m tray d x i =
    let n : ℕ = length (read_labels x) in
    by_test (ltb i n)
    (λ t. let l = ltb-true i n t in
    rw (t, ne_eqb i (n + 1) (λ e. omega arith), ← look_none (get_or (read_labels x) i []) (store_in (form m) m.nodes)) (look_number m tray d i _ _))
    (λ t. rw t (by_test (eqb i n)
    (λ u. let l = eqb-true i n u in rw (u, ne_eqb i (n + 1) (λ e. omega arith)) (fetch_number m tray d _))
    (λ u. rw u (by_test (eqb i (n + 1)) (λ v. rw v (table_number m tray d x _)) (λ v. rw v)))))

-- of a write
announce_number : (m : Mem) (tray : List ℕ) (d : ℕ) (o : Option Store) → number (announce_result m tray d o).out ≡ cond (is_none o) 3 0
unfolding announce_result number is_none
announce_number m tray d none = refl
announce_number m tray d (some s) = refl

raise_number : (m : Mem) (tray : List ℕ) (d : ℕ) (is_last : Bool) (o : Option Store)
    → number (raise_result m tray d is_last o).out ≡ cond (is_none o) 3 (cond (is_last && found_full (client m d)) 13 0)
unfolding raise_result end_of number is_none
raise_number m tray d is_last none = refl
raise_number m tray d false (some s) = refl
raise_number m tray d true (some s) = by_test (found_full (client m d)) (λ e. rw e) (λ e. rw e)

write_number : (m : Mem) (tray : List ℕ) (d : ℕ) (w : Write) (i : ℕ) → length (target w.change) ≤ max_columns
    → number (write_result m tray d w i).out ≡ under_way m d (writing w) i
unfolding write_result is_unsound_at is_long_at is_full_at write_table_result number
write_number m tray d w i k =
    let n : ℕ = length (write_labels w) in
    let s : Store = store_in (form m) m.nodes in
    let some_nodes = write_labels_some w in
    by_test (ltb i n)
    (λ t. let l = ltb-true i n t in
    rw (t, ne_eqb i (n + n) (λ e. omega arith), ← mark_none _ (write_label_wide w i k l) s) (announce_number m tray d _))
    (λ t. let g = ltb-false i n t in rw t (by_test (eqb i n)
    (λ u. let l = eqb-true i n u in rw (u, ne_eqb i (n + n) (λ e. omega arith), le-ltb n i (omega arith)))
    (λ u. let o : i ≡ n → ⊥ = eqb-false i n u in
    rw (u, lt-ltb n i (omega arith), ← raise_none (form m) (did_change (client m d)) (get_or (write_labels w) (i - (n + 1)) []) s) (raise_number m tray d (eqb i (n + n)) _))))

-- a write's target has the hall's columns
abbrev OfHall : Shape → Work → Type 0
OfHall sh (asking x) = Unit
OfHall sh (writing w) = length (target w.change) ≡ sh.columns

of_hall : (sh : Shape) (c : Client) → OfHall sh (work_at sh c)
unfolding work_at work_in write_in
of_hall sh c = by_test (eqb (kind c) reads) (λ e. rw e tt) (λ e. rw e (target_length sh (kind c) (key_in (entry_of c))))

progress_number : (m : Mem) (tray : List ℕ) (d : ℕ) (w : Work) → OfHall (shape m) w → columns m ≤ max_columns
    → number (progress_of m tray d w).out ≡ under_way m d w (steps (client m d))
unfolding progress_of
progress_number m tray d (asking x) f k = read_number m tray d x (steps (client m d))
progress_number m tray d (writing w) f k = write_number m tray d w (steps (client m d)) (omega arith)

-- in range where the hall's numbers are
columns_most : (m : Mem) → is_unsound m ≡ false → columns m ≤ max_columns
unfolding is_unsound bad_columns
columns_most m e = ltb-false _ _ (or_false_r (eqb (columns m) 0) _ (or_false_l (bad_columns (columns m)) _ e))

-- a code of a step, and what comes behind it; the rows say that the desk is there and busy
stepping : (short unsound gone bad idle node long full : Bool) (n : ℕ)
    → (unsound ≡ false → n ≡ cond node 3 (cond long 12 (cond full 13 0)))
    → cond (eqb (cond short 1 (cond unsound 3 (cond gone 4 (cond bad 3 (cond idle 6 0))))) 0) n (cond short 1 (cond unsound 3 (cond gone 4 (cond bad 3 (cond idle 6 0)))))
    ≡ cond short 1 (cond unsound 3 (cond gone 4 (cond (not gone && bad) 3 (cond (not gone && idle) 6
    (cond ((not gone && not idle) && node) 3 (cond ((not gone && not idle) && long) 12 (cond ((not gone && not idle) && full) 13 0)))))))
stepping true unsound gone bad idle node long full n e = refl
stepping false true gone bad idle node long full n e = refl
stepping false false true bad idle node long full n e = refl
stepping false false false true idle node long full n e = refl
stepping false false false false true node long full n e = refl
stepping false false false false false node long full n e = e refl

step_number : (m : Mem) (tray : List ℕ) (d : ℕ) → number (step_result m tray d).out ≡ cond (eqb (step_code m tray d) 0) (number (progress m tray d).out) (step_code m tray d)
unfolding step_result number
step_number m tray d = by_test (eqb (step_code m tray d) 0) (λ e. rw e) (λ e. rw e)

step_first : (m : Mem) (tray : List ℕ) (d : ℕ) → number (step_result m tray d).out ≡ first_of (step_rows m tray d ++ end_rows m d)
unfolding step_code at_client progress step_rows end_rows first_of
step_first m tray d =
    step_number m tray d
    ∙ stepping (is_short (shape m) m || ltb (length tray) tray_least) (is_unsound m) (no_client d) (is_bad (shape m) (client m d)) (is_idle (client m d)) _ _ _ _
    (λ u. progress_number m tray d (work_at (shape m) (client m d)) (of_hall (shape m) (client m d)) (columns_most m u))

step_rising : (m : Mem) (tray : List ℕ) (d : ℕ) → Rising (step_rows m tray d ++ end_rows m d)
unfolding step_rows end_rows numbers_from
step_rising m tray d =
    rise (λ e. from _ _ refl)
    (rise (λ e. from _ _ refl)
    -- 4, and 3 of the desk and of a node
    (rise (λ e. more (λ a. not_there (no_client d) _ e a) (over _ _ _ refl (more (λ a. not_there (no_client d) _ e (and_left _ _ a)) (from _ _ refl))))
    (rise (λ e. from _ _ refl)
    -- 6, and 3 of a node
    (rise (λ e. more (λ a. not_busy (no_client d) (is_idle (client m d)) _ (and_right (is_there d) _ e) a) (from _ _ refl))
    (rise (λ e. from _ _ refl)
    (rise (λ e. from _ _ refl)
    (rise (λ e. from _ _ refl) done)))))))

ends_accepted : (long full : Bool) → is_accepted (cond long 12 (cond full 13 0)) ≡ true
unfolding is_accepted
ends_accepted true full = refl
ends_accepted false true = refl
ends_accepted false false = refl

step_accepted : (m : Mem) (d : ℕ) → is_accepted (first_of (end_rows m d)) ≡ true
unfolding end_rows first_of
step_accepted m d =
    let w : Work = work_at (shape m) (client m d) in
    let i : ℕ = steps (client m d) in
    ends_accepted (is_busy m d && is_long_at m w i) (is_busy m d && is_full_at (client m d) w i)

pub step_gives : (m : Mem) (tray : List ℕ) (d : ℕ) → Gives (step_rows m tray d) (end_rows m d) (number (step_result m tray d).out)
unfolding step_rows refusing is_accepted
step_gives m tray d = gives (step_rows m tray d) (end_rows m d) _ (step_first m tray d) refl (step_accepted m d)

-- ---- Abandonings
retire_number : (m : Mem) (d : ℕ) (out : Outcome) (o : Option Store) → number (retire_result m d out o).out ≡ cond (is_none o) 3 (number out)
unfolding retire_result number is_none
retire_number m d out none = refl
retire_number m d out (some s) = refl

end_number : (c : Client) → number (end_of c) ≡ cond (found_full c) 13 0
unfolding end_of number
end_number c = by_test (found_full c) (λ e. rw e) (λ e. rw e)

abbrev abandoned_at : Mem → ℕ → Work → ℕ → ℕ
abandoned_at m d w i = cond (is_unsound_abandoned m (client m d) w i) 3 (cond (is_full_abandoned (client m d) w i) 13 0)

abandoned_number : (m : Mem) (d : ℕ) (w : Work) → number (abandoned_of m d w).out ≡ abandoned_at m d w (steps (client m d))
unfolding abandoned_of abandoned_write is_unsound_abandoned is_full_abandoned number
abandoned_number m d (asking x) = refl
abandoned_number m d (writing w) =
    let i : ℕ = steps (client m d) in
    let s : Store = store_in (form m) m.nodes in
    by_test (past_table w i)
    (λ e. rw (e, ← retired_none (form m) (did_change (client m d)) (labels_left w i) s (raises_apart w i), ← end_number (client m d)) (retire_number m d _ _))
    (λ e. rw (e, ← released_none (form m) (announced_labels w i) s (marks_apart w i)) (retire_number m d _ _))

abandon_number : (m : Mem) (d : ℕ) → number (abandon_result m d).out ≡ cond (eqb (abandon_code m d) 0) (number (abandoned m d).out) (abandon_code m d)
unfolding abandon_result unless number
abandon_number m d = by_test (eqb (abandon_code m d) 0) (λ e. rw e) (λ e. rw e)

-- as a step, but that none gives 12
abandon_first : (m : Mem) (d : ℕ) → number (abandon_result m d).out ≡ first_of (abandon_rows m d ++ abandon_end_rows m d)
unfolding abandon_code at_client abandoned abandon_rows abandon_end_rows first_of
abandon_first m d =
    let w : Work = work_at (shape m) (client m d) in
    let i : ℕ = steps (client m d) in
    abandon_number m d
    ∙ stepping (is_short (shape m) m) (is_unsound m) (no_client d) (is_bad (shape m) (client m d)) (is_idle (client m d))
    (is_unsound_abandoned m (client m d) w i) false (is_full_abandoned (client m d) w i) (number (abandoned m d).out) (λ u. abandoned_number m d w)
    ∙ rw (and-false (is_busy m d)) refl

abandon_rising : (m : Mem) (d : ℕ) → Rising (abandon_rows m d ++ abandon_end_rows m d)
unfolding abandon_rows abandon_end_rows numbers_from
abandon_rising m d =
    rise (λ e. from _ _ refl)
    (rise (λ e. from _ _ refl)
    -- 4, and 3 of the desk and of a node
    (rise (λ e. more (λ a. not_there (no_client d) _ e a) (over _ _ _ refl (more (λ a. not_there (no_client d) _ e (and_left _ _ a)) (from _ _ refl))))
    (rise (λ e. from _ _ refl)
    -- 6, and 3 of a node
    (rise (λ e. more (λ a. not_busy (no_client d) (is_idle (client m d)) _ (and_right (is_there d) _ e) a) (from _ _ refl))
    (rise (λ e. from _ _ refl)
    (rise (λ e. from _ _ refl) done))))))

abandon_accepted : (m : Mem) (d : ℕ) → is_accepted (first_of (abandon_end_rows m d)) ≡ true
unfolding abandon_end_rows first_of
abandon_accepted m d = ends_accepted false (is_busy m d && is_full_abandoned (client m d) (work_at (shape m) (client m d)) (steps (client m d)))

pub abandon_gives : (m : Mem) (d : ℕ) → Gives (abandon_rows m d) (abandon_end_rows m d) (number (abandon_result m d).out)
unfolding abandon_rows refusing is_accepted
abandon_gives m d = gives (abandon_rows m d) (abandon_end_rows m d) _ (abandon_first m d) refl (abandon_accepted m d)

-- ---- All calls
pub call_gives : (m : Mem) (c : Call) → Gives (rows_of m c) (ends_of m c) (number (call_result m c).out)
unfolding rows_of ends_of call_result untrayed
call_gives m (begin d r) = begin_gives m d r
call_gives m (step d tray) = step_gives m tray d
call_gives m (abandon d) = abandon_gives m d
call_gives m (evict_answer i) = evict_answer_gives m i
call_gives m (evict_node i) = evict_node_gives m i
call_gives m renew = renew_gives m

pub call_first : (m : Mem) (c : Call) → number (call_result m c).out ≡ first_of (rows_of m c ++ ends_of m c)
call_first m c = (call_gives m c).first

call_rising : (m : Mem) (c : Call) → Rising (rows_of m c ++ ends_of m c)
unfolding rows_of ends_of
call_rising m (begin d r) = begin_rising m d r
call_rising m (step d tray) = step_rising m tray d
call_rising m (abandon d) = abandon_rising m d
call_rising m (evict_answer i) = evict_answer_rising m i
call_rising m (evict_node i) = evict_node_rising m i
call_rising m renew = renew_rising m

pub call_smallest : (m : Mem) (c : Call) → Smallest (rows_of m c ++ ends_of m c) (number (call_result m c).out)
call_smallest m c = smallest _ _ (call_first m c) (call_rising m c)

-- ---- 14 is a begin's, and 7 no call's
-- no row of a list has the number n
unfoldable pub others : ℕ → List Row → Bool
others n [] = true
others n (r ∷ rs) = not (eqb r.number n) && others n rs

first_other : (k : ℕ) (rs : List Row) (n : ℕ) → (k ≡ 0 → ⊥) → n ≡ first_of rs → others k rs ≡ true → n ≡ k → ⊥
unfolding first_of others
first_other k [] n z e h i = z (sym i ∙ e)
first_other k (r ∷ rs) n z e h i =
    by_test r.applies
    (λ t. eqb-false r.number k (not-true _ (and_left (not (eqb r.number k)) _ h)) (sym (rw t at e) ∙ i))
    (λ t. first_other k rs n z (rw t at e) (and_right (not (eqb r.number k)) _ h) i)

-- a number that no row of an opening has, and none of a call but a begin's
module _ (k : ℕ) (z : k ≡ 0 → ⊥) where
  pub open_other : (m : Mem) (c : ℕ) → others k (open_rows m c) ≡ true → number (open_result m c).out ≡ k → ⊥
  open_other m c = first_other k (open_rows m c) _ z (open_first m c)

  pub call_other : (m : Mem) (c : Call) → others k (rows_of m c ++ ends_of m c) ≡ true → number (call_result m c).out ≡ k → ⊥
  call_other m c = first_other k (rows_of m c ++ ends_of m c) _ z (call_first m c)

-- what turns a request down with 14 for itself
reversed : (query range reversed : Bool) → faulted query range reversed ≡ refused_reversed → reversed ≡ true
reversed true true true e = refl
reversed true true false e = absurd (omega arith)
reversed true false v e = absurd (omega arith)
reversed false g v e = absurd (omega arith)

begun_reversed : (sh : Shape) (d : ℕ) (r : Request) → fault_of sh r ≡ refused_reversed → IsReversedBegin (begin d r)
unfolding fault_of ask_fault ask_of has_reversed
begun_reversed sh d (read_of counts range a) e = reversed (is_query sh a) (is_range sh (query_of a) range) (is_reversed range) e
begun_reversed sh d (insert_of a) e = reversed (is_query sh a && names_all (query_of a)) true false e
begun_reversed sh d (delete_of a) e = reversed (is_query sh a) true false e

begin_reversed : (m : Mem) (d : ℕ) (r : Request) → number (begin_result m d r).out ≡ refused_reversed → IsReversedBegin (begin d r)
unfolding begin_result number
begin_reversed m d r e =
    begun_reversed (shape m) d r
    (begin_code_law (λ n. n ≡ refused_reversed → fault_of (shape m) r ≡ refused_reversed) (λ n l k. absurd (omega arith)) m d r (λ k. k)
    (sym (unless_number (begin_code m d r) m _ refl) ∙ e))

pub call_reversed : (m : Mem) (c : Call) → number (call_result m c).out ≡ refused_reversed → IsReversedBegin c
unfolding rows_of ends_of step_rows end_rows abandon_rows abandon_end_rows evict_answer_rows evict_node_rows renew_rows others
call_reversed m (begin d r) = λ e. begin_reversed m d r (unfold call_result in unfold untrayed in e)
call_reversed m (step d tray) = call_other refused_reversed (λ e. omega arith) m (step d tray) refl
call_reversed m (abandon d) = call_other refused_reversed (λ e. omega arith) m (abandon d) refl
call_reversed m (evict_answer i) = call_other refused_reversed (λ e. omega arith) m (evict_answer i) refl
call_reversed m (evict_node i) = call_other refused_reversed (λ e. omega arith) m (evict_node i) refl
call_reversed m renew = call_other refused_reversed (λ e. omega arith) m renew refl

pub call_never : (m : Mem) (c : Call) → others not_given (rows_of m c ++ ends_of m c) ≡ true
unfolding rows_of ends_of begin_rows step_rows end_rows abandon_rows abandon_end_rows evict_answer_rows evict_node_rows renew_rows others
call_never m (begin d r) = refl
call_never m (step d tray) = refl
call_never m (abandon d) = refl
call_never m (evict_answer i) = refl
call_never m (evict_node i) = refl
call_never m renew = refl

pub call_unfull : (m : Mem) (c : Call) → others refused_tally_full (rows_of m c ++ ends_of m c) ≡ true
unfolding rows_of ends_of begin_rows step_rows end_rows abandon_rows abandon_end_rows evict_answer_rows evict_node_rows renew_rows others
call_unfull m (begin d r) = refl
call_unfull m (step d tray) = refl
call_unfull m (abandon d) = refl
call_unfull m (evict_answer i) = refl
call_unfull m (evict_node i) = refl
call_unfull m renew = refl
