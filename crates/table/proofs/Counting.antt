-- Laws of the pass that counts block by block: where the loop stands, a block more, its two ends. Leans on Passing. Assumes nothing.
use Rattle.std.proofs.Common.{◌≡◌, ℕ, ◌+◌, ◌*◌, ◌/◌, ◌≤◌, Bool, List, ◌++◌, length, take, drop, ap, ◌∙◌, arith, length-append, length-drop}
use Rattle.std.proofs.Math.Nat.{div-le_self}
use Rattle.lists.specs.Lists.{rows, keep}
use Rattle.laws.proofs.ListLaws.{keep_append, keep_le}
use Rattle.laws.proofs.RowLaws.{length_rows}
use Rattle.query.specs.Query.{Record}
use Rattle.table.specs.TableContracts.{Stretch, records_of}
use Rattle.table.proofs.Passing.{records_split, none_of}

-- no more records than numbers
pub kept_few : (p : Record → Bool) (k : ℕ) (s : List ℕ) → length (keep p (records_of k s)) ≤ length s
unfolding records_of
kept_few p k s = omega (arith, keep_le p (rows k (length s / k) s), length_rows k (length s / k) s, div-le_self (length s) k)

-- where the loop stands: j of the records of s that stand before `rest` pass the test
pub record Counted (p : Record → Bool) (k : ℕ) (s : List ℕ) (j : ℕ) (rest : List ℕ) : Type 0 where
  pub count : j + length (keep p (records_of k rest)) ≡ length (keep p (records_of k s))
  pub stretch : Stretch k rest

pub counted_none : (p : Record → Bool) (k : ℕ) (s : List ℕ) → Stretch k s → Counted p k s 0 s
counted_none p k s f = record { count = omega arith; stretch = f }

module _ (p : Record → Bool) (k : ℕ) (s : List ℕ) (j : ℕ) (rest : List ℕ) (a : Counted p k s j rest) where
  -- a block of n numbers more
  module _ (size n c : ℕ) (e : n ≡ size * k) (h : n ≤ length rest) (x : c ≡ length (keep p (records_of k (take n rest)))) where
    pub counted_more : Counted p k s (j + c) (drop n rest)
    counted_more =
        let u = records_of k (take n rest) in
        let v = records_of k (drop n rest) in
        let q : keep p (records_of k rest) ≡ keep p u ++ keep p v = ap (keep p) (records_split k a.stretch.columns.0 size rest n (omega arith)) ∙ keep_append p u v in
        let l : length (keep p (records_of k rest)) ≡ length (keep p u) + length (keep p v) = ap length q ∙ length-append (keep p u) (keep p v) in
        record {
          count = omega (arith, a.count);
          stretch = record { columns = a.stretch.columns; few = rw length-drop (let f = a.stretch.few in omega arith) };
        }

  pub counted_few : j ≤ length s
  counted_few = omega (arith, a.count, kept_few p k s)

  pub counted_rest : (c : ℕ) → c ≡ length (keep p (records_of k rest)) → j + c ≡ length (keep p (records_of k s))
  counted_rest c e = omega (arith, a.count)

  pub counted_all : length rest ≡ 0 → j ≡ length (keep p (records_of k s))
  counted_all e =
      let z : length (keep p (records_of k rest)) ≡ 0 = ap length (none_of k rest p e) in
      omega (arith, a.count)
