-- Laws of the scan that deletes in place: where the loop stands, a turn of it, and what the clearing and the new count make of it.
-- Leans on the laws of lists, Written, Rows and TableMemory. Assumes nothing.
use mathlib.Core.Path.{◌≡◌, refl, sym, ap, ◌∙◌}
use mathlib.Core.Bool.{Bool, true, false, not}
use mathlib.Core.List.{List, [], ◌∷◌, ◌++◌, append_assoc, append-nil}
use Prim.Native.Nat.{ℕ, ◌+◌, ◌*◌, ◌-◌, ◌≤◌, ◌<◌}
use native.Mathlib.Nat.{add-zero, add_comm, zero-mul, mul-le-mul_right}
use native.Mathlib.Numerals.{add-one}
use native.Mathlib.Omega.{arith}
use lib.ListN.{length, get_or, take, drop, set, replicate, length-append, length-drop, length-replicate}
use lib.Seq.{drop-drop, length-take-le, take-length, paste, paste-zero, paste-suc}
use borrow.Rule.Slice.PartMut.{put_mid}
use Rattle.lists.specs.Lists.{written, flat, keep, with_entries}
use Rattle.laws.proofs.ListLaws.{keep_next, skip_next, keep_end}
use Rattle.laws.proofs.WrittenLaws.{take_of_written, drop_written, length_written, written_self, mid_written}
use Rattle.laws.proofs.RowLaws.{slot_next, slot_left, flat_snoc, length_flat, wide_keep}
use Rattle.query.specs.Query.{Query, Record, lies}
use Rattle.rules.specs.Table.{Table, outside, delete, effect}
use Rattle.rules.specs.Memory.{records_in, with_records}
use Rattle.records.proofs.RecordWrites.{effect_delete}
use Rattle.table.specs.TableContracts.{Fit, gone}
use Rattle.table.proofs.TableLists.{gone_is}
use Rattle.rules.proofs.MemoryLaws.{length_records}
use Rattle.columns.specs.MaskContracts.{lies_under}
use Rattle.table.proofs.TableMemory.{in_use, wide_records, slot_in, record_at}
use Rattle.rules.specs.Layout.{record_count_offset}

-- a record that stands where it is to stand
pub settled : (s : List ℕ) (from to k : ℕ) → to ≡ from → from + k ≤ length s → s ≡ written s to (take k (drop from s))
settled s from to k e h = rw e (sym (written_self s from k h))

-- of v, which is to stand at `to`, the first i numbers stand there
pub settle_none : (s v : List ℕ) (to : ℕ) → s ≡ paste s to v 0
settle_none s v to = paste-zero s to v

module _ (s₀ s v : List ℕ) (to i : ℕ) (e : s ≡ paste s₀ to v i) where
  pub settle_more : to + i < length s₀ → i < length v → set s (to + i) (get_or v i 0) ≡ paste s₀ to v (i + 1)
  settle_more h g = rw (e, add-one) (paste-suc s₀ to v i 0 h g)

  pub settle_all : i ≡ length v → s ≡ written s₀ to v
  unfolding written
  settle_all z = rw (e, z, take-length)

-- where the loop stands: of the first i records of t those that stay, j of them, lie at the front; from record i on nothing has changed
pub record Deleting (p : Record → Bool) (t : Table) (k : ℕ) (s₀ s : List ℕ) (i j : ℕ) : Type 0 where
  pub few : j ≤ i
  pub count : j ≡ length (keep p (take i t))
  pub front : take (8 + j * k) s ≡ take 8 s₀ ++ flat (keep p (take i t))
  pub back : drop (8 + i * k) s ≡ drop (8 + i * k) s₀
  pub same : length s ≡ length s₀

pub delete_none : (p : Record → Bool) (t : Table) (k : ℕ) (s : List ℕ) → Deleting p t k s s 0 0
unfolding keep flat
delete_none p t k s = record { few = omega arith; count = refl; front = rw zero-mul (sym (append-nil (take 8 s))); back = refl; same = refl }

module _ (p : Record → Bool) (t : Table) (k : ℕ) (s₀ s : List ℕ) (i j : ℕ) (a : Deleting p t k s₀ s i j) where
  abbrev from : ℕ
  from = 8 + i * k

  abbrev to : ℕ
  to = 8 + j * k

  pub to_from : to ≤ from
  to_from = let x : j * k ≤ i * k = mul-le-mul_right k a.few in omega arith

  next : 8 + (i + 1) * k ≡ k + from
  next = omega (arith, slot_next k i)

  back_on : drop (8 + (i + 1) * k) s ≡ drop (8 + (i + 1) * k) s₀
  back_on = rw next (ap (λ (m : ℕ). drop m s) (add_comm k from) ∙ sym (drop-drop k from s) ∙ ap (drop k) a.back ∙ drop-drop k from s₀ ∙ ap (λ (m : ℕ). drop m s₀) (add_comm from k))

  -- x: the record that the loop stands at
  module _ (h : i < length t) (x : Record) (y : x ≡ get_or t i []) (s' : List ℕ) where
    pub turn_stays : length x ≡ k → from + k ≤ length s₀ → p x ≡ true → s' ≡ written s to x → Deleting p t k s₀ s' (i + 1) (j + 1)
    turn_stays w room e o =
        let q : keep p (take (i + 1) t) ≡ keep p (take i t) ++ (x ∷ []) = keep_next p t i [] h (ap p (sym y) ∙ e) ∙ ap (λ (z : Record). keep p (take i t) ++ (z ∷ [])) (sym y) in
        let b = to_from in
        let c = a.same in
        let z : 8 + (j + 1) * k ≡ to + length x = omega (arith, slot_next k j) in
        let v : to + length x ≤ length s = omega arith in
        let b₁ : to ≤ length s = omega arith in
        record {
          few = omega (arith, a.few);
          count = rw (q, length-append) (ap (λ (m : ℕ). m + 1) a.count);
          front = rw (q, flat_snoc, ← append_assoc, ← a.front, o, z) (take_of_written s to x b₁);
          back = rw o (drop_written s to x b₁ (8 + (i + 1) * k) (omega (arith, slot_next k i))) ∙ back_on;
          same = ap length o ∙ length_written s to x v ∙ c;
        }

    pub turn_goes : p x ≡ false → s' ≡ s → Deleting p t k s₀ s' (i + 1) (j + 0)
    turn_goes e o =
        let q : keep p (take (i + 1) t) ≡ keep p (take i t) = skip_next p t i [] h (ap p (sym y) ∙ e) in
        rw (o, add-zero j)
        (record {
          few = omega (arith, a.few);
          count = rw q a.count;
          front = rw q a.front;
          back = back_on;
          same = a.same;
        })

-- the record that the loop stands at, as it is read and tested
module _ (k : ℕ) (s₀ s : List ℕ) (i j : ℕ) (p : Record → Bool) (f : Fit k s₀) (a : Deleting p (records_in k s₀) k s₀ s i j) (h : i < get_or s₀ record_count_offset 0) where
  abbrev at : ℕ
  at = 8 + i * k

  abbrev x : Record
  x = take k (drop at s)

  pub in_table : i < length (records_in k s₀)
  in_table = omega (arith, length_records k s₀)

  pub here_room : at + k ≤ length s₀
  here_room = let l = f.long in omega (arith, slot_in k s₀ i f h)

  pub here_is : x ≡ get_or (records_in k s₀) i []
  here_is = ap (take k) a.back ∙ sym (record_at k s₀ i h)

  pub here_long : length x ≡ k
  here_long = length-take-le k (drop at s) (rw length-drop (let r = here_room in let e = a.same in omega arith))

  pub here_test : (v : Query) (r : Bool) → r ≡ lies_under v (take (at + k - at) (drop at s)) → outside (take k v) x ≡ not r
  unfolding lies_under outside
  here_test v r e =
      let w : at + k - at ≡ k = omega arith in
      sym (ap not (rw w at e ∙ ap (λ (m : ℕ). lies (take m v) x) here_long))

-- the memory with other records, number by number
with_records_are : (k : ℕ) (s : List ℕ) (t : Table)
    → with_records k s t ≡ set (take 8 s ++ (flat t ++ replicate ((get_or s record_count_offset 0 - length t) * k) 0)
    ++ drop (8 + length (flat t ++ replicate ((get_or s record_count_offset 0 - length t) * k) 0)) s) 0 (length t)
unfolding with_records with_entries written
with_records_are k s t = refl

written_are : (s : List ℕ) (i : ℕ) (v : List ℕ) → written s i v ≡ take i s ++ (v ++ drop (i + length v) s)
unfolding written
written_are s i v = append_assoc (take i s) v (drop (i + length v) s)

split : (a b c d : List ℕ) → (a ++ b) ++ (c ++ d) ≡ a ++ (b ++ c) ++ d
split a b c d = simp append_assoc

-- the end: the freed part cleared, and the new count
module _ (q : Query) (k : ℕ) (s₀ s u : List ℕ) (i j : ℕ) (f : Fit k s₀) (a : Deleting (outside q) (records_in k s₀) k s₀ s i j) (z : i ≡ get_or s₀ record_count_offset 0) where
  abbrev n : ℕ
  n = get_or s₀ record_count_offset 0

  abbrev freed : ℕ
  freed = 8 + n * k - (8 + j * k)

  -- what is cleared ends where the records ended
  freed_long : length (take freed (drop (8 + j * k) s)) ≡ freed
  freed_long =
      let b : 8 + n * k ≤ length s₀ = in_use k s₀ f in
      let c : j * k ≤ n * k = mul-le-mul_right k (let y = a.few in omega arith) in
      length-take-le freed (drop (8 + j * k) s) (rw length-drop (let y = a.same in omega arith))

  pub delete_all : u ≡ replicate (length (take freed (drop (8 + j * k) s))) 0
      → (n - j ≡ gone q (records_in k s₀)) × (set (put_mid (8 + j * k) freed s u) 0 j ≡ with_records k s₀ (effect (delete q) (records_in k s₀)))
  delete_all o₀ =
      let z₀ : List ℕ = replicate freed 0 in
      let u₀ : u ≡ z₀ = o₀ ∙ ap (λ (m : ℕ). replicate m 0) freed_long in
      let e : put_mid (8 + j * k) freed s u ≡ written s (8 + j * k) z₀ = ap (put_mid (8 + j * k) freed s) u₀ ∙ mid_written s (8 + j * k) freed z₀ (length-replicate freed 0) in
      let t : Table = records_in k s₀ in
      let l : length t ≡ n = length_records k s₀ in
      let x : keep (outside q) (take i t) ≡ keep (outside q) t = keep_end (outside q) t i (omega arith) in
      let c : j ≡ length (keep (outside q) t) = a.count ∙ ap length x in
      let d : (n - j) * k ≡ n * k - j * k = slot_left k n j (omega (arith, a.few)) in
      let m : freed ≡ (n - j) * k = omega arith in
      let w : length (flat (keep (outside q) t)) ≡ j * k = length_flat k _ (wide_keep k (outside q) t (wide_records k s₀ f)) ∙ ap (λ (y : ℕ). y * k) (sym c) in
      let jk : j * k ≤ n * k = mul-le-mul_right k (omega (arith, a.few)) in
      let v : 8 + length (flat (keep (outside q) t) ++ replicate ((n - j) * k) 0) ≡ 8 + n * k = rw (length-append, length-replicate, w) (omega arith) in
      let y : 8 + j * k + length (replicate {A = ℕ} freed 0) ≡ 8 + n * k = rw length-replicate (omega arith) in
      let o : drop (8 + n * k) s ≡ drop (8 + n * k) s₀ = rw z at a.back in
      let front : take (8 + j * k) s ≡ take 8 s₀ ++ flat (keep (outside q) t) = rw x at a.front in
      let g : put_mid (8 + j * k) freed s u ≡ take (8 + j * k) s ++ (z₀ ++ drop (8 + j * k + length z₀) s) = e ∙ written_are s (8 + j * k) z₀ in
      let r : List ℕ = replicate ((n - j) * k) 0 in (
        rw (gone_is q t, l, ← c),
        rw (effect_delete q t, with_records_are k s₀ (keep (outside q) t), ← c, v, g, y, o, front, m) (ap (λ (w : List ℕ). set w 0 j) (split (take 8 s₀) (flat (keep (outside q) t)) r (drop (8 + n * k) s₀))),
      )
