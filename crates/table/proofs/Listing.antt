-- Laws of the passes that list: where the loop over a block stands, a turn of it, its two ends; and the same of the loop over blocks.
-- Leans on the laws of Written and Rows and on Passing. Assumes nothing.
use Rattle.std.proofs.Common.{◌≡◌, ℕ, suc, ◌+◌, ◌*◌, ◌-◌, ◌<◌, ◌≤◌, min, Bool, true, false, List, [], ◌∷◌, ◌++◌, Option, Some, None, length, take, drop, sym, refl, ap, ◌∙◌, append_assoc, append-nil, arith, length-append, length-drop, length-take, take_all, take_at}
use Rattle.std.proofs.Math.Nat.{zero-mul, suc-mul, one-mul, add-mul, mul-le-mul_left, mul-le-mul_right}
use lib.Seq.{take-append-le, take-append-add}
use lib.Dec.{leb}
use borrow.Author.Tests.{leb-true, leb-false}
use Rattle.lists.specs.Lists.{written, flat, keep}
use Rattle.laws.proofs.TestLaws.{by_test}
use Rattle.laws.proofs.ListLaws.{keep_append, keep_snoc, skip_snoc}
use Rattle.laws.proofs.WrittenLaws.{written_nil, written_front, written_over, drop_of_written, length_written}
use Rattle.laws.proofs.RowLaws.{Wide, flat_snoc, flat_append, length_flat, wide_keep, wide_take}
use Rattle.query.specs.Query.{Record}
use Rattle.rules.specs.Layout.{max_list, list_room}
use Rattle.rules.specs.Table.{Table}
use Rattle.table.specs.TableContracts.{Stretch, records_of, up_to}
use Rattle.table.proofs.TableLists.{up_to_few, up_to_many}
use Rattle.table.proofs.Passing.{records_split, none_of, wide_records_of}

-- numbers written one behind the other
written_after : (s : List ℕ) (i : ℕ) (u v : List ℕ) (j : ℕ) → j ≡ i + length u → j ≤ length s → written (written s i u) j v ≡ written s i (u ++ v)
written_after s i u v j e h =
    let t : List ℕ = written s i u in
    let l : length t ≡ length s = length_written s i u (omega arith) in
    let m : length (u ++ v) ≡ length u + length v = length-append u v in
    let d : take (length u) (drop i t) ≡ u = ap (take (length u)) (drop_of_written s i u (omega arith)) ∙ take_at u _ (length u) refl in
    ap (λ (k : ℕ). written t k v) e
    ∙ sym (written_front t i (length u) v (omega arith))
    ∙ ap (λ (w : List ℕ). written t i (w ++ v)) d
    ∙ written_over s i u (u ++ v) (omega arith) (omega arith)

-- places in a list, for omega
pub list_wide : (j k : ℕ) → j ≤ max_list → k ≤ 4 → j * k ≤ list_room
list_wide j k h g =
    let x : j * k ≤ j * 4 = mul-le-mul_left j g in
    omega arith

-- ---- where a pass stands that has met the records of t: behind the records that `out` had, those of t that pass the test, j of them in all
pub record Listed (p : Record → Bool) (k : ℕ) (t : Table) (out₀ : List ℕ) (had : ℕ) (out : List ℕ) (j : ℕ) : Type 0 where
  pub count : j ≡ had + length (keep p t)
  pub few : j ≤ max_list
  pub behind : j * k ≡ had * k + length (flat (keep p t))
  pub out_is : out ≡ written out₀ (had * k) (flat (keep p t))
  pub same : length out ≡ length out₀

pub listed_none : (p : Record → Bool) (k : ℕ) (out : List ℕ) (had : ℕ) → had ≤ max_list → Listed p k [] out had out had
unfolding keep flat
listed_none p k out had h = record { count = omega arith; few = h; behind = omega arith; out_is = sym (written_nil out (had * k)); same = refl }

module _ (p : Record → Bool) (k : ℕ) (t : Table) (out₀ : List ℕ) (had : ℕ) (out : List ℕ) (j : ℕ) (a : Listed p k t out₀ had out j) where
  abbrev kept : Table
  kept = keep p t

  -- one more has room
  pub list_fits : (j ≡ max_list → ⊥) → k ≤ 4 → length out₀ ≡ list_room → j * k + k ≤ length out
  list_fits m h l =
      let b : suc j * k ≤ max_list * k = mul-le-mul_right k (omega (arith, a.few)) in
      let d : suc j * k ≡ j * k + k = omega (arith, suc-mul j k) in
      let f : max_list * k ≤ max_list * 4 = mul-le-mul_left max_list h in
      omega (arith, a.same)

  module _ (x : Record) where
    pub list_found : (j ≡ max_list → ⊥) → k ≤ 4 → length out₀ ≡ list_room → length x ≡ k → p x ≡ true → (out' : List ℕ) → out' ≡ written out (j * k) x
        → Listed p k (t ++ (x ∷ [])) out₀ had out' (j + 1)
    list_found m h l w e out' o =
        let room = list_fits m h l in
        let q : keep p (t ++ (x ∷ [])) ≡ kept ++ (x ∷ []) = keep_snoc p t x e in
        let n : length (keep p (t ++ (x ∷ []))) ≡ length kept + 1 = ap length q ∙ length-append kept (x ∷ []) in
        let f : flat (keep p (t ++ (x ∷ []))) ≡ flat kept ++ x = ap flat q ∙ flat_snoc kept x in
        let g : length (flat (keep p (t ++ (x ∷ [])))) ≡ length (flat kept) + length x = ap length f ∙ length-append (flat kept) x in
        record {
          count = omega (arith, a.count);
          few = omega (arith, a.few);
          behind = omega (arith, a.behind, one-mul k, add-mul j 1 k);
          out_is = rw f (o ∙ ap (λ (s : List ℕ). written s (j * k) x) a.out_is ∙ written_after out₀ (had * k) (flat kept) x (j * k) a.behind (omega (arith, a.same)));
          same = ap length o ∙ length_written out (j * k) x (omega arith) ∙ a.same;
        }

    pub list_other : p x ≡ false → (out' : List ℕ) → out' ≡ out → Listed p k (t ++ (x ∷ [])) out₀ had out' (j + 0)
    list_other e out' o =
        let q : keep p (t ++ (x ∷ [])) ≡ kept = skip_snoc p t x e in
        let n : length (keep p (t ++ (x ∷ []))) ≡ length kept = ap length q in
        let g : length (flat (keep p (t ++ (x ∷ [])))) ≡ length (flat kept) = ap (λ (u : Table). length (flat u)) q in
        record {
          count = omega (arith, a.count);
          few = omega (arith, a.few);
          behind = omega (arith, a.behind, add-mul j 0 k, zero-mul k);
          out_is = rw q (o ∙ a.out_is);
          same = ap length o ∙ a.same;
        }

    -- of all records those met, this one and others
    pub list_full : (all u : Table) → all ≡ (t ++ (x ∷ [])) ++ u → p x ≡ true → j ≡ max_list
        → (None ≡ up_to (had + length (keep p all))) × (out ≡ written out₀ (had * k) (flat (take (max_list - had) (keep p all))))
    list_full all u y e z =
        let q : keep p all ≡ (kept ++ (x ∷ [])) ++ keep p u = ap (keep p) y ∙ keep_append p (t ++ (x ∷ [])) u ∙ ap (λ (v : Table). v ++ keep p u) (keep_snoc p t x e) in
        let v : length (kept ++ (x ∷ [])) ≡ length kept + 1 = length-append kept (x ∷ []) in
        let w : length (keep p all) ≡ length kept + 1 + length (keep p u) = ap length q ∙ length-append (kept ++ (x ∷ [])) (keep p u) ∙ ap (λ (n : ℕ). n + length (keep p u)) v in
        let s : take (max_list - had) (keep p all) ≡ kept =
        ap (take (max_list - had)) (q ∙ append_assoc kept (x ∷ []) (keep p u)) ∙ take_at kept _ (max_list - had) (omega (arith, a.count, z)) in
        (sym (up_to_many _ (omega (arith, a.count))), rw s a.out_is)

  -- these are all
  pub list_all : (Some j ≡ up_to (had + length kept)) × (out ≡ written out₀ (had * k) (flat (take (max_list - had) kept)))
  list_all =
      let b = a.few in
      let s : take (max_list - had) kept ≡ kept = take_all (max_list - had) kept (omega (arith, a.count)) in
      (ap Some a.count ∙ sym (up_to_few (had + length kept) (omega (arith, a.count))), rw s a.out_is)

-- ---- the loop over blocks: `out` had none before it; u are the records of a block
module _ (p : Record → Bool) (k : ℕ) (t : Table) (out₀ out : List ℕ) (j : ℕ) (a : Listed p k t out₀ 0 out j) (u : Table) where
  abbrev more : Table
  more = keep p u

  module _ (out' : List ℕ) (room : length out₀ ≡ list_room) (small : k ≤ 4) (wide : Wide k u) (o : out' ≡ written out (j * k) (flat (take (max_list - j) more))) where
    abbrev listed : Table
    listed = take (max_list - j) more

    long : length (flat listed) ≡ length listed * k
    long = length_flat k listed (wide_take k (max_list - j) more (wide_keep k p u wide))

    in_room : j * k + length (flat listed) ≤ length out₀
    in_room =
        let b : length listed ≤ max_list - j = simp length-take (omega arith) in
        let d : (j + length listed) * k ≤ list_room = list_wide (j + length listed) k (omega (arith, a.few)) small in
        omega (arith, add-mul j (length listed) k, long)

    out_now : out' ≡ written out₀ (0 * k) (flat (keep p t ++ listed))
    out_now =
        o ∙ ap (λ (s : List ℕ). written s (j * k) (flat listed)) a.out_is
        ∙ written_after out₀ (0 * k) (flat (keep p t)) (flat listed) (j * k) a.behind (omega (arith, in_room))
        ∙ ap (written out₀ (0 * k)) (sym (flat_append (keep p t) listed))

    -- they are not too many
    pub block_on : (c : ℕ) → Some c ≡ up_to (j + length more) → Listed p k (t ++ u) out₀ 0 out' c
    block_on c e =
        by_test (leb (j + length more) max_list)
        (λ s. let b : j + length more ≤ max_list = leb-true (j + length more) max_list s in
        let y : Some c ≡ Some (j + length more) = e ∙ up_to_few (j + length more) b in
        let w : c ≡ j + length more = cc in
        let v : listed ≡ more = take_all (max_list - j) more (omega arith) in
        let q : keep p (t ++ u) ≡ keep p t ++ listed = keep_append p t u ∙ ap (λ (r : Table). keep p t ++ r) (sym v) in
        let n : length (keep p (t ++ u)) ≡ length (keep p t) + length listed = ap length q ∙ length-append (keep p t) listed in
        let x : length more ≡ length listed = ap length (sym v) in
        let g : length (flat (keep p (t ++ u))) ≡ length (flat (keep p t)) + length (flat listed) =
        ap length (ap flat q ∙ flat_append (keep p t) listed) ∙ length-append (flat (keep p t)) (flat listed) in
        record {
          count = omega (arith, a.count);
          few = omega arith;
          behind = rw w (omega (arith, add-mul j (length more) k, a.behind, long, rw (← x) at long));
          out_is = rw q out_now;
          same = ap length o ∙ length_written out (j * k) (flat listed) (omega (arith, in_room, a.same)) ∙ a.same;
        })
        (λ s. absurd (let z : ◌≡◌ {A = Option ℕ} (Some c) None = e ∙ up_to_many (j + length more) (leb-false (j + length more) max_list s) in let y : ◌≡◌ {A = ℕ} 0 1 = cc in omega arith))

    -- they are too many, whatever comes behind them
    pub block_full : None ≡ up_to (j + length more) → (all r : Table) → all ≡ keep p (t ++ u) ++ r → (None ≡ up_to (length all)) × (out' ≡ written out₀ 0 (flat (take max_list all)))
    block_full e all r y =
        let b : max_list < j + length more =
        by_test (leb (j + length more) max_list)
        (λ s. absurd (let z : ◌≡◌ {A = Option ℕ} None (Some (j + length more)) = e ∙ up_to_few (j + length more) (leb-true (j + length more) max_list s) in let y : ◌≡◌ {A = ℕ} 0 1 = cc in omega arith))
        (λ s. leb-false (j + length more) max_list s) in
        let c = a.count in
        let q : all ≡ keep p t ++ (more ++ r) = y ∙ ap (λ (v : Table). v ++ r) (keep_append p t u) ∙ append_assoc (keep p t) more r in
        let n : length all ≡ length (keep p t) + (length more + length r) = ap length q ∙ length-append (keep p t) (more ++ r) ∙ ap (λ (m : ℕ). length (keep p t) + m) (length-append more r) in
        let w : max_list ≡ length (keep p t) + (max_list - j) = omega (arith, a.few) in
        let s : take max_list all ≡ keep p t ++ listed =
        ap (take max_list) q ∙ ap (λ (m : ℕ). take m (keep p t ++ (more ++ r))) w ∙ take-append-add (keep p t) (more ++ r) (max_list - j)
        ∙ ap (λ (v : Table). keep p t ++ v) (take-append-le (max_list - j) more r (omega arith)) in
        (sym (up_to_many (length all) (omega arith)), rw s (out_now ∙ rw zero-mul))

-- ---- where the loop over blocks stands: of s the numbers in `rest` are still to be searched, and t are the records before them that it has looked at
pub record Searched (p : Record → Bool) (k : ℕ) (s out₀ out : List ℕ) (j : ℕ) (rest : List ℕ) : Type 0 where
  pub t : Table
  pub whole : keep p (records_of k s) ≡ keep p t ++ keep p (records_of k rest)
  pub listed : Listed p k t out₀ 0 out j
  pub stretch : Stretch k rest

pub searched_none : (p : Record → Bool) (k : ℕ) (s out : List ℕ) → Stretch k s → Searched p k s out out 0 s
unfolding keep
searched_none p k s out f = record { t = []; whole = refl; listed = listed_none p k out 0 (omega arith); stretch = f }

module _ (p : Record → Bool) (k : ℕ) (s out₀ out : List ℕ) (j : ℕ) (rest : List ℕ) (a : Searched p k s out₀ out j rest) where
  -- `found` is what is left behind blocks without such a record, and a block ends n numbers on
  module _ (room : length out₀ ≡ list_room) (found : List ℕ) (e : keep p (records_of k found) ≡ keep p (records_of k rest)) (f : Stretch k found) (size n : ℕ) (m : n ≡ min (length found) (size * k))
      (c : Option ℕ) (out' : List ℕ) (x : c ≡ up_to (j + length (keep p (records_of k (take n found)))))
      (o : out' ≡ written out (j * k) (flat (take (max_list - j) (keep p (records_of k (take n found)))))) where
    abbrev u : Table
    u = records_of k (take n found)

    abbrev v : Table
    v = records_of k (drop n found)

    whole_now : keep p (records_of k s) ≡ keep p (a.t ++ u) ++ keep p v
    whole_now =
        a.whole ∙ ap (λ (r : Table). keep p a.t ++ r) (sym e ∙ ap (keep p) (records_split k f.columns.0 size found n m) ∙ keep_append p u v)
        ∙ sym (append_assoc (keep p a.t) (keep p u) (keep p v)) ∙ ap (λ (r : Table). r ++ keep p v) (sym (keep_append p a.t u))

    pub searched_more : (i : ℕ) → c ≡ Some i → Searched p k s out₀ out' i (drop n found)
    searched_more i y =
        record {
          t = a.t ++ u;
          whole = whole_now;
          listed = block_on p k a.t out₀ out j a.listed u out' room f.columns.1 (wide_records_of k (take n found)) o i (sym y ∙ x);
          stretch = record { columns = f.columns; few = rw length-drop (let l = f.few in omega arith) };
        }

    pub searched_full : c ≡ None → (None ≡ up_to (length (keep p (records_of k s)))) × (out' ≡ written out₀ 0 (flat (take max_list (keep p (records_of k s)))))
    searched_full y =
        block_full p k a.t out₀ out j a.listed u out' room f.columns.1 (wide_records_of k (take n found)) o (sym y ∙ x) (keep p (records_of k s)) (keep p v) whole_now

  pub searched_all : length rest ≡ 0 → (Some j ≡ up_to (length (keep p (records_of k s)))) × (out ≡ written out₀ 0 (flat (take max_list (keep p (records_of k s)))))
  searched_all e =
      let w : keep p (records_of k s) ≡ keep p a.t = a.whole ∙ rw (none_of k rest p e) (append-nil (keep p a.t)) in
      let l = list_all p k a.t out₀ 0 out j a.listed in
      let z : 0 + length (keep p a.t) ≡ length (keep p (records_of k s)) = rw w (omega arith) in
      (l.0 ∙ ap up_to z, l.1 ∙ rw (w, zero-mul))
