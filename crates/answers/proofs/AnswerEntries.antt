-- Laws of an answers memory with other filed answers, for callers: what it holds, and that it stays fit. Leans on the rules' definitions, on
-- their laws of the memories and on laws. Assumes nothing.
use mathlib.Core.Path.{◌≡◌, refl, sym, ◌∙◌}
use mathlib.Core.Bool.{cond}
use mathlib.Core.List.{List, [], ◌∷◌, ◌++◌}
use Prim.Native.Nat.{ℕ, ◌+◌, ◌*◌, ◌≤◌, ◌<◌}
use native.Mathlib.Omega.{arith}
use lib.Dec.{ltb}
use lib.ListN.{length, get_or, length-append}
use borrow.Author.Tests.{ltb-true, ltb-false, lt-ltb, le-ltb}
use Rattle.std.specs.Prelude.{Some, None}
use Rattle.lists.specs.Lists.{without}
use Rattle.laws.proofs.EntryLaws.{with_self, with_with}
use Rattle.laws.proofs.TestLaws.{by_test}
use Rattle.laws.proofs.ListLaws.{length_without}
use Rattle.laws.proofs.RowLaws.{Wide, wide_nil, wide_snoc, wide_without, wide_at}
use Rattle.rules.specs.Answers.{Entry, key_place, filed}
use Rattle.rules.specs.Layout.{max_answers, answer_count_offset, entry_width}
use Rattle.rules.specs.Memory.{current, answers_in, with_answers}
use Rattle.rules.proofs.MemoryLaws as rules
use Rattle.answers.specs.AnswerContracts.{Fit, fetched}
use Rattle.answers.proofs.AnswerScan.{count_is, fetch_key, fetched_some, fetched_none}

-- entries of their width, no more than are kept
pub record Kept (es : List Entry) : Type 0 where
  pub wide : Wide entry_width es
  pub few : length es ≤ max_answers

-- ---- what a fit memory holds
module _ (s : List ℕ) (fit : Fit s) where
  pub room : 8 + get_or s answer_count_offset 0 * entry_width ≤ length s
  room = let a = fit.long in let b = fit.few in omega arith

  pub answers_kept : Kept (answers_in current s)
  answers_kept = let b = fit.few in let l = count_is s in record { wide = rules.wide_answers current s fit.long fit.few; few = omega arith }

  pub answer_length : (i : ℕ) → i < get_or s answer_count_offset 0 → length (get_or (answers_in current s) i []) ≡ entry_width
  answer_length i h = let l = count_is s in wide_at entry_width (answers_in current s) i answers_kept.wide (omega arith)

-- ---- what a memory with other answers holds
module _ (s : List ℕ) (fit : Fit s) (es : List Entry) (kept : Kept es) where
  pub answers_back : answers_in current (with_answers current s es) ≡ es
  answers_back = rules.answers_with current s fit.long fit.few es kept.wide kept.few

  length_kept : length (with_answers current s es) ≡ length s
  length_kept = rules.length_with_answers current s fit.long fit.few es kept.wide kept.few

  pub count_back : get_or (with_answers current s es) answer_count_offset 0 ≡ length es
  count_back = rules.count_answers current s fit.long fit.few es kept.wide kept.few

  fit_kept : Fit (with_answers current s es)
  fit_kept =
      let a = fit.long in
      let b = kept.few in
      let l = length_kept in
      let n = count_back in
      record { long = omega arith; few = omega arith }

-- ---- none, one out, one filed
pub none_kept : Kept []
none_kept = record { wide = wide_nil entry_width; few = omega arith }

snoc_kept : (x : Entry) (l : List Entry) → length x ≡ entry_width → Wide entry_width l → length l < max_answers → Kept (l ++ (x ∷ []))
snoc_kept x l h w k = let a = length-append l (x ∷ []) in record { wide = wide_snoc entry_width l x w h; few = omega arith }

-- what stays of the filed answers where x is filed
unfoldable pub beside : Entry → List Entry → List Entry
beside x es = cond (ltb (key_place x es) (length es)) (without (key_place x es) es) (cond (ltb (length es) max_answers) es (without 0 es))

pub filed_beside : (x : Entry) (es : List Entry) → filed x es ≡ beside x es ++ (x ∷ [])
unfolding filed beside
filed_beside x es = refl

module _ (x : Entry) (es : List Entry) where
  pub beside_same : (i : ℕ) → key_place x es ≡ i → key_place x es < length es → beside x es ≡ without i es
  unfolding beside
  beside_same i e h = rw (lt-ltb (key_place x es) (length es) h, e)

  pub beside_new : length es ≤ key_place x es → length es < max_answers → beside x es ≡ es
  unfolding beside
  beside_new h k = rw (le-ltb (key_place x es) (length es) h, lt-ltb (length es) max_answers k)

  pub beside_full : length es ≤ key_place x es → max_answers ≤ length es → beside x es ≡ without 0 es
  unfolding beside
  beside_full h k = rw (le-ltb (key_place x es) (length es) h, le-ltb (length es) max_answers k)

module _ (es : List Entry) (kept : Kept es) where
  pub without_kept : (i : ℕ) → i < length es → Kept (without i es)
  without_kept i h =
      let b = kept.few in
      let l = length_without i es h in
      record { wide = wide_without entry_width i es kept.wide; few = omega arith }

  -- what stays where x is filed: x goes behind it
  pub beside_few : (x : Entry) → length (beside x es) < max_answers
  unfolding beside
  beside_few x =
      let k = kept.few in
      by_test (ltb (key_place x es) (length es))
      (λ e. let q = ltb-true (key_place x es) (length es) e in let l = length_without (key_place x es) es q in rw e (omega arith))
      (λ e. rw e (by_test (ltb (length es) max_answers)
      (λ f. rw f (ltb-true (length es) max_answers f))
      (λ f. let q = ltb-false (length es) max_answers f in let l = length_without 0 es (omega arith) in rw f (omega arith))))

  pub beside_wide : (x : Entry) → Wide entry_width (beside x es)
  unfolding beside
  beside_wide x =
      by_test (ltb (key_place x es) (length es))
      (λ e. rw e (wide_without entry_width (key_place x es) es kept.wide))
      (λ e. rw e (by_test (ltb (length es) max_answers) (λ f. rw f kept.wide) (λ f. rw f (wide_without entry_width 0 es kept.wide))))

  pub filed_kept : (x : Entry) → length x ≡ entry_width → Kept (filed x es)
  filed_kept x h = rw (filed_beside x es) (snoc_kept x (beside x es) h (beside_wide x) (beside_few x))

-- the answers written last stand
over : (s : List ℕ) → Fit s → (a b : List Entry) → Wide entry_width a → Wide entry_width b → length a ≤ max_answers → length a ≤ length b
    → with_answers current (with_answers current s a) b ≡ with_answers current s b
unfolding with_answers
over s fit a b v w h k =
    let f = fit.long in
    with_with answer_count_offset entry_width s a b (omega arith) v w (room s fit) (omega arith) (λ l. absurd (omega arith))

-- ---- each operation: the memory stays fit and as long as it was, and holds the new answers
pub record Stays (s : List ℕ) (es : List Entry) : Type 0 where
  pub fit : Fit (with_answers current s es)
  pub same_length : length (with_answers current s es) ≡ length s
  pub back : answers_in current (with_answers current s es) ≡ es

pub stays : (s : List ℕ) → Fit s → (es : List Entry) → Kept es → Stays s es
stays s fit es kept = record { fit = fit_kept s fit es kept; same_length = length_kept s fit es kept; back = answers_back s fit es kept }

module _ (s : List ℕ) (fit : Fit s) where
  pub file_stays : (x : Entry) → length x ≡ entry_width → Stays s (filed x (answers_in current s))
  file_stays x h = stays s fit (filed x (answers_in current s)) (filed_kept (answers_in current s) (answers_kept s fit) x h)

  pub evict_stays : (i : ℕ) → i < get_or s answer_count_offset 0 → Stays s (without i (answers_in current s))
  evict_stays i h = let l = count_is s in stays s fit (without i (answers_in current s)) (without_kept (answers_in current s) (answers_kept s fit) i (omega arith))

  pub empty_stays : Stays s []
  empty_stays = stays s fit [] none_kept

  -- where one is out, or fewer are kept than may be, one more has room
  module _ (t : List ℕ) where
    pub room_behind : (i : ℕ) → t ≡ with_answers current s (without i (answers_in current s)) → i < get_or s answer_count_offset 0 → Fit t × (get_or t answer_count_offset 0 < max_answers)
    room_behind i e h =
        let k = fit.few in
        let l = count_is s in
        let w = length_without i (answers_in current s) (omega arith) in
        let n = count_back s fit (without i (answers_in current s)) (without_kept (answers_in current s) (answers_kept s fit) i (omega arith)) in
        (rw e (evict_stays i h).fit, rw (e, n) (omega arith))

    pub room_there : (get_or s answer_count_offset 0 ≡ max_answers → ⊥) → t ≡ s → Fit t × (get_or t answer_count_offset 0 < max_answers)
    room_there h e = let k = fit.few in (rw e fit, rw e (omega arith))

  -- ---- filing: what stays, whichever way it comes about, and then the entry behind it
  module _ (t : List ℕ) (x : Entry) where
    pub stays_same : (i : ℕ) → fetched 0 x (answers_in current s) ≡ Some i → t ≡ with_answers current s (without i (answers_in current s)) → t ≡ with_answers current s (beside x (answers_in current s))
    stays_same i f e =
        let q = fetched_some 0 x (answers_in current s) i f in
        let k = fetch_key x (answers_in current s) in
        rw (beside_same x (answers_in current s) i (sym k ∙ q.0) (omega arith)) e

    pub stays_full : fetched 0 x (answers_in current s) ≡ None → get_or s answer_count_offset 0 ≡ max_answers → t ≡ with_answers current s (without 0 (answers_in current s))
        → t ≡ with_answers current s (beside x (answers_in current s))
    stays_full f h e =
        let q = fetched_none 0 x (answers_in current s) f in
        let k = fetch_key x (answers_in current s) in
        let l = count_is s in
        rw (beside_full x (answers_in current s) (omega arith) (omega arith)) e

    pub stays_all : fetched 0 x (answers_in current s) ≡ None → (get_or s answer_count_offset 0 ≡ max_answers → ⊥) → t ≡ s → t ≡ with_answers current s (beside x (answers_in current s))
    unfolding answers_in with_answers
    stays_all f h e =
        let q = fetched_none 0 x (answers_in current s) f in
        let k = fetch_key x (answers_in current s) in
        let l = count_is s in
        let m = fit.few in
        let b : beside x (answers_in current s) ≡ answers_in current s = beside_new x (answers_in current s) (omega arith) (omega arith) in
        e ∙ rw b (sym (with_self answer_count_offset entry_width s (room s fit) (omega arith)))

    module _ (e : t ≡ with_answers current s (beside x (answers_in current s))) where
      stays_kept : Kept (beside x (answers_in current s))
      stays_kept =
          let k = beside_few (answers_in current s) (answers_kept s fit) x in
          record { wide = beside_wide (answers_in current s) (answers_kept s fit) x; few = omega arith }

      pub stays_fit : Fit t
      stays_fit = rw e (fit_kept s fit (beside x (answers_in current s)) stays_kept)

      pub stays_few : get_or t answer_count_offset 0 < max_answers
      stays_few = rw (e, count_back s fit (beside x (answers_in current s)) stays_kept) (beside_few (answers_in current s) (answers_kept s fit) x)

      pub filed_behind : length x ≡ entry_width → with_answers current t (answers_in current t ++ (x ∷ [])) ≡ with_answers current s (filed x (answers_in current s))
      filed_behind h =
          let es : List Entry = beside x (answers_in current s) in
          rw (e, answers_back s fit es stays_kept, filed_beside x (answers_in current s)) (over s fit es (es ++ (x ∷ [])) stays_kept.wide (snoc_kept x es h stays_kept.wide (beside_few (answers_in current s) (answers_kept s fit) x)).wide stays_kept.few (omega (arith, length-append es (x ∷ []))))
