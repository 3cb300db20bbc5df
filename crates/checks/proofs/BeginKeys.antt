-- What arrives at a begin: what it is turned down with for itself, and its key. Leans on the rules' Work and on the laws of columns. Assumes nothing.
use mathlib.Core.Path.{◌≡◌, refl}
use mathlib.Core.Bool.{Bool, true, false, cond, not}
use mathlib.Core.List.{List, [], ◌∷◌}
use Prim.Native.Nat.{ℕ, zero, suc, ◌+◌, ◌*◌, ◌≤◌, ◌<◌}
use native.Mathlib.Omega.{arith}
use lib.Dec.{eqb, ltb}
use lib.ListN.{length, get_or, take}
use borrow.Author.Tests.{eqb-true, eq-eqb, ne_eqb, ltb-true}
use Rattle.laws.proofs.ListLaws.{and_left}
use Rattle.laws.proofs.TestLaws.{by_test}
use Rattle.query.specs.declared.Column.TheVariants.{Is, Wildcard}
use Rattle.query.specs.declared.Range.{Range}
use Rattle.query.specs.Range.{is_named, is_range}
use Rattle.query.specs.Query.{naming}
use Rattle.query.specs.Encoding.{column_of, query_of, is_query, names_all, key_words, wanted_key}
use Rattle.query.specs.Shape.{shape_of, max_columns}
use Rattle.query.proofs.EncodingLaws.{is_query_length}
use Rattle.columns.specs.ColumnContracts.{taken_of}
use Rattle.columns.specs.KeyContracts.{IsNear}
use Rattle.columns.proofs.TakeLoop.{taken_key}
use Rattle.rules.specs.Layout.{reads, inserts, refused_columns}
use Rattle.rules.specs.Table.{target}
use Rattle.rules.specs.Work.{ask_fault, key_of, ask_key, read_of, insert_of, delete_of, is_write, ask_of, work_of, fault_of}
use Rattle.rules.proofs.WorkLaws.{fault_none}
use Rattle.checks.specs.declared.Request.{Request}
use Rattle.checks.specs.declared.Request.TheVariants.{Read, Insert, Delete}
use Rattle.checks.specs.CheckContracts.{request_of, numbered_request}

-- k: the hall's number of columns, a: the numbers that arrive
module _ (k : ℕ) (a : List ℕ) where
  -- no query of the hall, whatever it begins
  pub fault_query : is_query (shape_of k) a ≡ false → (x : Request) → fault_of (shape_of k) (request_of x a) ≡ refused_columns
  unfolding fault_of
  fault_query h (Read counts range) = rw h
  fault_query h Insert = rw h
  fault_query h Delete = rw h

  module _ (q : is_query (shape_of k) a ≡ true) where
    pub asked_length : length a ≡ 2 * k
    unfolding is_query
    asked_length = eqb-true (length a) (2 * k) (and_left _ _ q)

    -- ---- The key that each keeps
    pub key_of_read : (b : Bool) (g : Range) → wanted_key b g (key_words (query_of a)) ≡ key_of (work_of (shape_of k) (read_of b g a))
    unfolding key_of work_of ask_of ask_key
    key_of_read b g = refl

    pub key_of_delete : key_words (query_of a) ≡ key_of (work_of (shape_of k) (delete_of a))
    unfolding key_of work_of target
    key_of_delete = refl

    pub key_of_insert : k ≤ max_columns → names_all (query_of a) ≡ true → key_words (naming (take k (taken_of (query_of a)))) ≡ key_of (work_of (shape_of k) (insert_of a))
    unfolding key_of work_of target
    key_of_insert l n = taken_key (query_of a) k (taken_of (query_of a)) _ refl (is_query_length (shape_of k) a q) l n refl

-- ---- By the number of its kind: 1 alone is a read, and every other number is a write
module _ (x : ℕ) (b : Bool) (g : Range) (a : List ℕ) where
  pub reads_only : x ≡ reads → is_write (numbered_request x b g a) ≡ false
  unfolding is_write
  reads_only h = rw (eq-eqb x reads h)

  pub writes_only : (x ≡ reads → ⊥) → is_write (numbered_request x b g a) ≡ true
  unfolding is_write
  writes_only h = by_test (eqb x inserts) (λ i. rw (ne_eqb x reads h, i)) (λ i. rw (ne_eqb x reads h, i))

-- ---- A read's range
-- a column names a value where its mark as it arrives is not 0
named_at : (a : List ℕ) (c : ℕ) → 2 * c + 1 < length a → is_named (get_or (query_of a) c Wildcard) ≡ not (eqb (get_or a (2 * c) 0) 0)
unfolding query_of column_of is_named
named_at [] c h = absurd (omega arith)
named_at (m ∷ []) c h = absurd (omega arith)
named_at (m ∷ v ∷ a) zero h = go (eqb m 0)
  where
    go : (b : Bool) → is_named (cond b Wildcard (Is v)) ≡ not b
    go true = refl
    go false = refl
named_at (m ∷ v ∷ a) (suc c) h =
    let e : 2 * suc c ≡ suc (suc (2 * c)) = omega arith in
    rw e (named_at a c (omega arith))

pub named_of : (k : ℕ) (a : List ℕ) (c : ℕ) → is_query (shape_of k) a ≡ true → c < k → is_named (get_or (query_of a) c Wildcard) ≡ not (eqb (get_or a (2 * c) 0) 0)
named_of k a c q h = named_at a c (let e = asked_length k a q in omega arith)

-- one that stands beside a query of few columns is near
pub range_near : (k : ℕ) (a : List ℕ) (b : Bool) (g : Range) → ask_fault (ask_of (shape_of k) b g a) ≡ 0 → k ≤ max_columns → IsNear g
unfolding ask_of is_range
range_near k a b g z l c x y f =
    let r = (fault_none (ask_of (shape_of k) b g a) z).0 in
    let w : c < k = ltb-true c k (and_left (ltb c k) _ (rw f at r)) in
    omega arith
