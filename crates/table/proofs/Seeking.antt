-- Laws of the scan that looks for a record and for its place, and of the insert after it. Leans on the laws of lists, Orders and TableLists.
-- Assumes nothing.
use mathlib.Core.Path.{◌≡◌, refl, sym, ap, ◌∙◌}
use mathlib.Core.Bool.{Bool, true, false}
use mathlib.Core.List.{List, [], ◌∷◌, ◌++◌}
use Prim.Native.Nat.{ℕ, ◌+◌, ◌*◌, ◌/◌, ◌≤◌, ◌<◌, min}
use native.Mathlib.Nat.{add-zero}
use native.Mathlib.Numerals.{add-one}
use native.Mathlib.Omega.{arith}
use lib.Dec.{eqb, ltb}
use lib.ListN.{length, get_or, take, drop, set}
use Rattle.std.proofs.lemmas.List.{get_or_default}
use lib.Seq.{take_all, take-suc, length-take-le}
use borrow.Author.Tests.{eqb-true, eqb-false, ltb-true, ltb-false}
use Rattle.std.proofs.Common.{Option, Some, None, Less, Equal, Greater, is_eq, is_gt}
use Rattle.std.specs.List.{enumerate_from}
use Rattle.lists.specs.Lists.{before, place, rows}
use Rattle.laws.specs.Splice.{inserted}
use Rattle.laws.proofs.TestLaws.{by_test}
use Rattle.laws.proofs.SearchLaws.{place_le, place_here, place_later}
use Rattle.query.specs.Query.{Record}
use Rattle.rules.specs.Layout.{max_records, record_count_offset}
use Rattle.rules.specs.Table.{Table, has, insert, effect}
use Rattle.rules.specs.Memory.{records_in, with_records}
use Rattle.records.proofs.RecordWrites.{insert_places, effect_there, effect_full, effect_put}
use Rattle.words.specs.WordContracts.{order_of}
use Rattle.words.proofs.CompareLaws.{same_is, above_is, to_same}
use Rattle.table.specs.declared.Inserted.TheVariants.{Added, Present, Full}
use Rattle.columns.proofs.ChunkLaws.{counted_turn}
use Rattle.table.specs.TableContracts.{Fit, lent, spot_of, inserted_as}
use Rattle.table.proofs.Passing.{records_are, chunk_long}
use Rattle.table.proofs.Stretches.{lent_records}
use Rattle.table.proofs.TableLists.{has_snoc, has_at, place_front, place_behind, is_there, goes_before, spot_there, spot_before, as_present, as_full, as_added}
use Rattle.rules.proofs.MemoryLaws.{length_records}
use Rattle.table.proofs.TableMemory.{with_records_law, with_inserted}

-- ---- one record more: p fails, or passes, at x
module _ {A : Type 0} (p : A → Bool) (l : List A) (x : A) where
  pub place_on : place p l ≡ length l → p x ≡ false → place p (l ++ (x ∷ [])) ≡ length l + 1
  unfolding place
  place_on h e = place_behind p l (x ∷ []) h ∙ ap (λ (m : ℕ). length l + m) (place_later p x [] e)

  pub place_stays : (place p l ≡ length l → ⊥) → place p (l ++ (x ∷ [])) ≡ place p l
  place_stays h = let g = place_le p l in place_front p l (x ∷ []) (omega arith)

  pub place_greater : p x ≡ true → place p (l ++ (x ∷ [])) ≡ place p l
  place_greater e =
      by_test (eqb (place p l) (length l))
      (λ z. let h : place p l ≡ length l = eqb-true _ _ z in place_behind p l (x ∷ []) h ∙ ap (λ (m : ℕ). length l + m) (place_here p x [] e) ∙ add-zero (length l) ∙ sym h)
      (λ z. place_stays (eqb-false _ _ z))

-- where the loop stands: none of the first i records is r, and the first greater one of them is at the spot, or it is behind all n
pub record Seeking (r : Record) (t : Table) (i spot : ℕ) : Type 0 where
  pub none : has r (take i t) ≡ false
  pub met : place (before r) (take i t) < i → spot ≡ place (before r) (take i t)
  pub unmet : place (before r) (take i t) ≡ i → spot ≡ length t

pub seek_none : (r : Record) (t : Table) (n : ℕ) → n ≡ length t → Seeking r t 0 n
unfolding has place
seek_none r t n e = record { none = refl; met = λ h. absurd (omega arith); unmet = λ _. e }

-- x: the record that the scan stands at
module _ (r : Record) (t : Table) (i spot : ℕ) (a : Seeking r t i spot) (h : i < length t) (x : Record) (y : x ≡ get_or t i x) (w : length x ≡ length r) where
  last_is : take (i + 1) t ≡ take i t ++ (x ∷ [])
  last_is = rw add-one (take-suc t i x h) ∙ ap (λ (z : Record). take i t ++ (z ∷ [])) (sym y)

  upto : length (take i t) ≡ i
  upto = length-take-le i t (omega arith)

  none_now : is_eq (order_of x r) ≡ false → has r (take (i + 1) t) ≡ false
  none_now e = rw last_is (has_snoc r (take i t) x a.none (same_is x r ∙ e))

  greater : before r x ≡ is_gt (order_of x r)
  greater = above_is x r w

  within : place (before r) (take i t) ≤ i
  within = let u = upto in let p = place_le (before r) (take i t) in omega arith

  -- where a greater one was met, the spot stays
  front : place (before r) (take i t) < i → place (before r) (take (i + 1) t) ≡ place (before r) (take i t)
  front m = ap (place (before r)) last_is ∙ place_stays (before r) (take i t) x (λ z. let u = upto in let q : place (before r) (take i t) ≡ length (take i t) = z in omega arith)

  pub turn_less : order_of x r ≡ Less → Seeking r t (i + 1) spot
  turn_less o =
      let u = upto in
      let b = within in
      let behind : place (before r) (take i t) ≡ i → place (before r) (take (i + 1) t) ≡ i + 1 =
      (λ e. ap (place (before r)) last_is ∙ place_on (before r) (take i t) x (e ∙ sym u) (greater ∙ ap is_gt o) ∙ ap (λ (m : ℕ). m + 1) u) in
      record {
        none = none_now (ap is_eq o);
        met = λ m. by_test (ltb (place (before r) (take i t)) i)
            (λ z. let l = ltb-true (place (before r) (take i t)) i z in a.met l ∙ sym (front l))
            (λ z. absurd (let l = ltb-false (place (before r) (take i t)) i z in let q = behind (omega arith) in omega arith));
        unmet = λ e. by_test (ltb (place (before r) (take i t)) i)
            (λ z. absurd (let l = ltb-true (place (before r) (take i t)) i z in let q = front l in omega arith))
            (λ z. let l = ltb-false (place (before r) (take i t)) i z in a.unmet (omega arith));
      }

  pub turn_greater : order_of x r ≡ Greater → (spot' : ℕ) → spot' ≡ min spot i → Seeking r t (i + 1) spot'
  turn_greater o spot' f =
      let u = upto in
      let b = within in
      let here : place (before r) (take (i + 1) t) ≡ place (before r) (take i t) = ap (place (before r)) last_is ∙ place_greater (before r) (take i t) x (greater ∙ ap is_gt o) in
      record {
        none = none_now (ap is_eq o);
        met = λ m. by_test (ltb (place (before r) (take i t)) i)
            (λ z. let l = ltb-true (place (before r) (take i t)) i z in let q = a.met l in omega arith)
            (λ z. let l = ltb-false (place (before r) (take i t)) i z in let e : place (before r) (take i t) ≡ i = omega arith in let q = a.unmet e in omega arith);
        unmet = λ e. absurd (omega arith);
      }

  pub seek_there : order_of x r ≡ Equal → None ≡ spot_of r t
  seek_there o = sym (is_there r t (has_at r t i h (rw (y ∙ default) at (to_same x r o))))
    where
      default : get_or t i x ≡ get_or t i []
      default = get_or_default t i x [] h

-- one turn over the table's records, which are counted
pub scan_at : (k : ℕ) (s : List ℕ) (f : Fit k s) (n i : ℕ) (x : Record)
    → (let l = lent k s in let t = rows k (length l / k) l in (n < length (enumerate_from 0 t)) × ((i, x) ≡ get_or (enumerate_from 0 t) n (i, x)))
    → (let t = records_in k s in (n < length t) × (i ≡ n) × (x ≡ get_or t n x) × (length x ≡ k))
scan_at k s f n i x t =
    let l = lent k s in
    let u = counted_turn (rows k (length l / k) l) n i x t in
    let e = records_are k l ∙ lent_records k s f in
    (rw e at u.0, u.1, rw e at u.2, chunk_long k l n x (u.0, u.2))

-- all records passed
pub seek_all : (r : Record) (t : Table) (i spot : ℕ) → Seeking r t i spot → i ≡ length t → Some spot ≡ spot_of r t
seek_all r t i spot a h =
    let e : take i t ≡ t = take_all i t (omega arith) in
    let l : place (before r) t ≤ length t = place_le (before r) t in
    let s : spot ≡ place (before r) t =
    by_test (ltb (place (before r) t) i)
    (λ z. let m = ltb-true (place (before r) t) i z in rw e at a.met m)
    (λ z. let m = ltb-false (place (before r) t) i z in let q : place (before r) t ≡ i = omega arith in rw e at a.unmet q ∙ sym h ∙ sym q) in
    ap Some s ∙ sym (goes_before r t (rw e at a.none))

-- ---- the insert, where the scan has given its spot
module _ (s : List ℕ) (r : Record) (f : Fit (length r) s) (p : Option ℕ) (e : p ≡ spot_of r (records_in (length r) s)) where
  kept : effect (insert r) (records_in (length r) s) ≡ records_in (length r) s → s ≡ with_records (length r) s (effect (insert r) (records_in (length r) s))
  kept x = sym (ap (with_records (length r) s) x ∙ with_records_law (length r) s f)

  pub insert_there : p ≡ None → (Present ≡ inserted_as r (records_in (length r) s)) × (s ≡ with_records (length r) s (effect (insert r) (records_in (length r) s)))
  insert_there x =
      let h : has r (records_in (length r) s) ≡ true = spot_there r _ (sym e ∙ x) in
      (sym (as_present r _ h), kept (effect_there r _ h))

  module _ (i : ℕ) (x : p ≡ Some i) where
    pub spot_in : i ≤ get_or s record_count_offset 0
    spot_in =
        let b : i ≡ place (before r) (records_in (length r) s) = (spot_before r _ i (sym e ∙ x)).1 in
        omega (arith, place_le (before r) (records_in (length r) s), length_records (length r) s)

    pub insert_full : max_records ≤ get_or s record_count_offset 0 → (Full ≡ inserted_as r (records_in (length r) s)) × (s ≡ with_records (length r) s (effect (insert r) (records_in (length r) s)))
    insert_full g =
        let l : length (records_in (length r) s) ≡ get_or s record_count_offset 0 = length_records (length r) s in
        (sym (as_full r _ (spot_before r _ i (sym e ∙ x)).0 (omega arith)), kept (effect_full r _ (omega arith)))

    pub insert_added : (u : List ℕ) → get_or s record_count_offset 0 < max_records → u ≡ inserted s (8 + i * length r) (8 + get_or s record_count_offset 0 * length r) r
        → (Added ≡ inserted_as r (records_in (length r) s)) × (set u 0 (get_or s record_count_offset 0 + 1) ≡ with_records (length r) s (effect (insert r) (records_in (length r) s)))
    insert_added u g v =
        let t = records_in (length r) s in
        let l : length (records_in (length r) s) ≡ get_or s record_count_offset 0 = length_records (length r) s in
        let b = spot_before r (records_in (length r) s) i (sym e ∙ x) in
        let q : effect (insert r) t ≡ take i t ++ (r ∷ drop i t) = effect_put r t b.0 (omega arith) ∙ rw b.1 (insert_places r t) in
        (sym (as_added r _ b.0 (omega arith)), rw v (sym (ap (with_records (length r) s) q ∙ with_inserted (length r) s r i f spot_in)))
