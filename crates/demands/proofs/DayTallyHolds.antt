-- The day's tally: the sums of every history, and that a tally handed on holds the numbers of calls. Call by call, by what CallTells tells of it. Leans on
-- CallCounts and CallTells. Assumes nothing.
use mathlib.Core.Path.{◌≡◌, refl, sym, ap, ◌∙◌}
use mathlib.Core.Bool.{Bool, false, cond, ◌||◌, true≢false}
use mathlib.Core.List.{List, [], ◌∷◌}
use Rattle.std.specs.Prelude.{Option, None, Some}
use Prim.Native.Nat.{ℕ, zero, suc, ◌+◌, ◌≤◌, ◌<◌}
use native.Mathlib.Omega.{arith}
use lib.Dec.{eqb}
use lib.ListN.{length, get_or, take}
use Rattle.laws.proofs.TestLaws.{by_test}
use Rattle.rules.specs.declared.Outcome.TheVariants.{Accepted}
use Rattle.rules.specs.declared.Tally.{Tally}
use Rattle.rules.specs.declared.Count.{Count}
use Rattle.rules.specs.declared.Count.TheVariants.{ReadBegun, FromFile, FromTable, EndedLong, ReadAbandoned}
use Rattle.rules.specs.declared.Count.TheVariants.{WriteBegun, EndedChanged, EndedUnchanged, WriteAbandoned}
use Rattle.query.specs.Shape.{shape_of}
use Rattle.rules.specs.Memory.{Mem, opened}
use Rattle.rules.specs.Refusals.{open_code, evict_answer_code, evict_node_code, renew_code}
use Rattle.rules.specs.Calls.{unless, evict_answer_result, evict_node_result, renew_result}
use Rattle.rules.specs.Work.{Request, is_write}
use Rattle.rules.specs.History.{Call, begin, step, abandon, evict_answer, evict_node, renew, untrayed, call_result}
use Rattle.rules.specs.Tally.{rank, raises as is, one, raised, count_of, accepted_count, would_raise, is_full, is_full_for, is_tally_full, cleared_tally, Made, made, made_result, tally_after, mem_after}
use Rattle.rules.proofs.TallyLaws.{raised_none}
use Rattle.demands.specs.WholeHistory.{History, mem_at, made_at, call_at, result_at}
use Rattle.demands.specs.DayTally.{how_many, some_call, is_read, under_way, ends_begun, reads_begun, from_file, from_table, ended_long, reads_abandoned}
use Rattle.demands.specs.DayTally.{writes_begun, ended_changed, ended_unchanged, writes_abandoned, Sums, tally_at, can_raise, HandedOn, lent_on, CanHandOn, Counts, TallySums, DayTally}
use Rattle.demands.proofs.HistoryRuns.{plain_result, full_result}
use Rattle.demands.proofs.OneWorkHolds.{one_work_ends}
use Rattle.demands.proofs.CallCounts.{one_many, tests_under_way, under_way_next}
use Rattle.demands.proofs.CallTells.{Tells, ends_tested, told}

-- 1 where a test holds
abbrev num : Bool → ℕ
num b = cond b 1 0

-- ---- The sums
-- a call ends at most one work
ends_one : (h : History) (p : Request → Bool) (n : ℕ) → n < length h.calls → how_many (ends_begun p h n) n ≡ num (some_call (ends_begun p h n) n)
ends_one h p n w = one_many (ends_begun p h n) n (λ i j l m e f.
    let y = ends_tested h p n i w l e in
    let z = ends_tested h p n j w m f in
    (one_work_ends h n y.1 z.1 i j y.0 z.0 y.4 z.4).1)

read_ends : (c : Option Count) → num (is c FromFile || (is c FromTable || (is c EndedLong || is c ReadAbandoned)))
    ≡ num (is c FromFile) + num (is c FromTable) + num (is c EndedLong) + num (is c ReadAbandoned)
unfolding rank is
read_ends None = refl
read_ends (Some ReadBegun) = refl
read_ends (Some FromFile) = refl
read_ends (Some FromTable) = refl
read_ends (Some EndedLong) = refl
read_ends (Some ReadAbandoned) = refl
read_ends (Some WriteBegun) = refl
read_ends (Some EndedChanged) = refl
read_ends (Some EndedUnchanged) = refl
read_ends (Some WriteAbandoned) = refl

write_ends : (c : Option Count) → num (is c EndedChanged || (is c EndedUnchanged || is c WriteAbandoned)) ≡ num (is c EndedChanged) + num (is c EndedUnchanged) + num (is c WriteAbandoned)
unfolding rank is
write_ends None = refl
write_ends (Some ReadBegun) = refl
write_ends (Some FromFile) = refl
write_ends (Some FromTable) = refl
write_ends (Some EndedLong) = refl
write_ends (Some ReadAbandoned) = refl
write_ends (Some WriteBegun) = refl
write_ends (Some EndedChanged) = refl
write_ends (Some EndedUnchanged) = refl
write_ends (Some WriteAbandoned) = refl

sums_more : (h : History) (n : ℕ) → n < length h.calls → (c : Option Count) → Tells h n c → Sums h n → Sums h (suc n)
unfolding reads_begun from_file from_table ended_long reads_abandoned writes_begun ended_changed ended_unchanged writes_abandoned how_many
sums_more h n w c t s =
    let ra = s.reads in
    let wa = s.writes in
    let u = under_way_next is_read h n in
    let v = under_way_next is_write h n in
    let e = ends_one h is_read n w ∙ ap num t.reads_end ∙ read_ends c in
    let f = ends_one h is_write n w ∙ ap num t.writes_end ∙ write_ends c in
    let ff = ap num t.of_from_file in
    let ft = ap num t.of_from_table in
    let el = ap num t.of_ended_long in
    let rl = ap num t.of_reads_abandoned in
    let ec = ap num t.of_ended_changed in
    let eu = ap num t.of_ended_unchanged in
    let wl = ap num t.of_writes_abandoned in
    record { reads = omega arith; writes = omega arith }

sums : (h : History) (n : ℕ) → n ≤ length h.calls → Sums h n
sums h zero l = none h
  where
    none : (h : History) → Sums h 0
    none h = record {
      reads = unfold reads_begun in unfold from_file in unfold from_table in unfold ended_long in unfold reads_abandoned in unfold under_way in unfold how_many in refl;
      writes = unfold writes_begun in unfold ended_changed in unfold ended_unchanged in unfold writes_abandoned in unfold under_way in unfold how_many in refl;
    }
sums h (suc n) l = let t = told h n (omega arith) in sums_more h n (omega arith) t.0 t.1 (sums h n (omega arith))

-- ---- The tally
-- an eviction or a renewal raises no count
unless_raises : (code : ℕ) (m t : Mem) → count_of None (unless code m (record { out = Accepted; mem = t })).out ≡ None
unfolding unless count_of
unless_raises code m t = by_test (eqb code 0) (λ e. rw e refl) (λ e. rw e refl)

idle_raises : (m : Mem) (c : Call) → can_raise c ≡ false → would_raise m c ≡ None
unfolding would_raise can_raise accepted_count call_result untrayed evict_answer_result evict_node_result renew_result
idle_raises m (begin d r) e = absurd (true≢false e)
idle_raises m (step d tray) e = absurd (true≢false e)
idle_raises m (abandon d) e = absurd (true≢false e)
idle_raises m (evict_answer i) e = unless_raises (evict_answer_code m i) m _
idle_raises m (evict_node i) e = unless_raises (evict_node_code m i) m _
idle_raises m renew e = unless_raises (renew_code m) m _

would_is : (m : Mem) (c : Call) → would_raise m c ≡ count_of (accepted_count m c) (call_result m c).out
unfolding would_raise
would_is m c = refl

none_unfull : (t : Option Tally) → is_full_for t None ≡ false
unfolding is_full_for is_full
none_unfull None = refl
none_unfull (Some t) = refl

module _ (h : History) (n : ℕ) (w : n < length h.calls) (t : Tally) where
  abbrev m : Mem
  m = mem_at h n

  -- a call that is lent the tally leaves it as its outcome tells
  lent_next : (made_at h n).tally ≡ Some t → tally_after m (call_at h n) t ≡ raised t (count_of (accepted_count m (call_at h n)) (result_at h n).out)
  unfolding tally_after is_tally_full is_full_for would_raise count_of call_at
  lent_next e = by_test (is_full t (would_raise m (call_at h n)))
      (λ k. rw (full_result h n (rw e k), k) (sym (raised_none t)))
      (λ k. rw (k, plain_result h n (rw e k)) refl)

  -- and so does one that can raise none, whatever tally it is lent
  idle_next : can_raise (call_at h n) ≡ false → tally_after m (call_at h n) t ≡ raised t (count_of (accepted_count m (call_at h n)) (result_at h n).out)
  unfolding tally_after is_tally_full call_at is_full
  idle_next e =
      let k = idle_raises m (call_at h n) e in
      let o = plain_result h n (rw k (none_unfull (made_at h n).tally)) in
      rw (k, o) (ap (raised t) (sym k ∙ would_is m (call_at h n)))

tally_next : (h : History) (n : ℕ) → n < length h.calls → HandedOn h → (c : Option Count) → Tells h n c → tally_at h (suc n) ≡ raised (tally_at h n) c
unfolding tally_at
tally_next h n w g c t = by_test (can_raise (call_at h n))
    (λ k. lent_next h n w (tally_at h n) (g n w k))
    (λ k. idle_next h n w (tally_at h n) k)
    ∙ ap (raised (tally_at h n)) t.raises

counts_more : (h : History) (n : ℕ) (c : Option Count) (t u : Tally) → Tells h n c → u ≡ raised t c → Counts h n t → Counts h (suc n) u
unfolding raised one reads_begun from_file from_table ended_long reads_abandoned writes_begun ended_changed ended_unchanged writes_abandoned how_many
counts_more h n c t u x e k = rw e (record {
  of_reads_begun = let a = k.of_reads_begun in let b = ap num x.of_reads_begun in omega arith;
  of_from_file = let a = k.of_from_file in let b = ap num x.of_from_file in omega arith;
  of_from_table = let a = k.of_from_table in let b = ap num x.of_from_table in omega arith;
  of_ended_long = let a = k.of_ended_long in let b = ap num x.of_ended_long in omega arith;
  of_reads_abandoned = let a = k.of_reads_abandoned in let b = ap num x.of_reads_abandoned in omega arith;
  of_writes_begun = let a = k.of_writes_begun in let b = ap num x.of_writes_begun in omega arith;
  of_ended_changed = let a = k.of_ended_changed in let b = ap num x.of_ended_changed in omega arith;
  of_ended_unchanged = let a = k.of_ended_unchanged in let b = ap num x.of_ended_unchanged in omega arith;
  of_writes_abandoned = let a = k.of_writes_abandoned in let b = ap num x.of_writes_abandoned in omega arith;
})

no_counts : (h : History) → Counts h 0 (tally_at h 0)
unfolding tally_at reads_begun from_file from_table ended_long reads_abandoned writes_begun ended_changed ended_unchanged writes_abandoned how_many
no_counts h = record {
  of_reads_begun = refl;
  of_from_file = refl;
  of_from_table = refl;
  of_ended_long = refl;
  of_reads_abandoned = refl;
  of_writes_begun = refl;
  of_ended_changed = refl;
  of_ended_unchanged = refl;
  of_writes_abandoned = refl;
}

counts : (h : History) → HandedOn h → (n : ℕ) → n ≤ length h.calls → Counts h n (tally_at h n)
counts h g zero l = no_counts h
counts h g (suc n) l =
    let t = told h n (omega arith) in
    counts_more h n t.0 (tally_at h n) (tally_at h (suc n)) t.1 (tally_next h n (omega arith) g t.0 t.1) (counts h g n (omega arith))

tally_sums : (h : History) → HandedOn h → (n : ℕ) → n ≤ length h.calls → TallySums h n (tally_at h n)
tally_sums h g n l =
    let s = sums h n l in
    let reads = s.reads in
    let writes = s.writes in
    let k = counts h g n l in
    let a = k.of_reads_begun in
    let b = k.of_from_file in
    let c = k.of_from_table in
    let d = k.of_ended_long in
    let e = k.of_reads_abandoned in
    let i = k.of_writes_begun in
    let j = k.of_ended_changed in
    let o = k.of_ended_unchanged in
    let p = k.of_writes_abandoned in
    record { reads = omega arith; writes = omega arith }

-- ---- A tally can be handed on through any calls
-- the tally after these calls
tally_on : Mem → Tally → List Call → Tally
tally_on m t [] = t
tally_on m t (c ∷ cs) = tally_on (made_result m (made c (Some t))).mem (tally_after m c t) cs

lent_at : (cs : List Call) (m : Mem) (t : Tally) (n : ℕ) → n < length cs → get_or (lent_on m t cs) n (made renew None) ≡ made (get_or cs n renew) (Some (tally_on m t (take n cs)))
unfolding lent_on tally_on
lent_at [] m t n l = absurd (omega arith)
lent_at (c ∷ cs) m t zero l = refl
lent_at (c ∷ cs) m t (suc n) l = lent_at cs (made_result m (made c (Some t))).mem (tally_after m c t) n (omega arith)

tally_on_law : (cs : List Call) (m : Mem) (t : Tally) (n : ℕ) → n < length cs
    → tally_on m t (take (suc n) cs) ≡ tally_after (mem_after m (take n (lent_on m t cs))) (get_or cs n renew) (tally_on m t (take n cs))
unfolding lent_on tally_on mem_after
tally_on_law [] m t n l = absurd (omega arith)
tally_on_law (c ∷ cs) m t zero l = refl
tally_on_law (c ∷ cs) m t (suc n) l = tally_on_law cs (made_result m (made c (Some t))).mem (tally_after m c t) n (omega arith)

length_lent : (cs : List Call) (m : Mem) (t : Tally) → length (lent_on m t cs) ≡ length cs
unfolding lent_on
length_lent [] m t = refl
length_lent (c ∷ cs) m t = ap suc (length_lent cs (made_result m (made c (Some t))).mem (tally_after m c t))

module _ (m : Mem) (k : ℕ) (a : open_code m k ≡ 0) (cs : List Call) where
  abbrev start : Mem
  start = opened (shape_of k) m

  abbrev lent : History
  lent = record { lent = m; k = k; accepted = a; calls = lent_on start cleared_tally cs }

  tally_is : (n : ℕ) → n ≤ length cs → tally_at lent n ≡ tally_on start cleared_tally (take n cs)
  unfolding tally_at tally_on call_at made_at mem_at
  tally_is zero l = refl
  tally_is (suc n) l =
      let e : call_at lent n ≡ get_or cs n renew = ap (λ (x : Made). x.call) (lent_at cs start cleared_tally n l) in
      ap (tally_after (mem_at lent n) (call_at lent n)) (tally_is n (omega arith))
      ∙ ap (λ c. tally_after (mem_at lent n) c (tally_on start cleared_tally (take n cs))) e
      ∙ sym (tally_on_law cs start cleared_tally n l)

  handed_on : HandedOn lent
  unfolding made_at
  handed_on n l c =
      let e = length_lent cs start cleared_tally in
      rw (lent_at cs start cleared_tally n (omega arith)) (ap Some (sym (tally_is n (omega arith))))

pub can_hand_on : CanHandOn
can_hand_on m k a cs = handed_on m k a cs

pub day_tally : (h : History) → DayTally h
day_tally h = record { tests_under_way = tests_under_way h; sums = sums h; counts = counts h; tally_sums = tally_sums h }
