-- A read or write of the history and the client that keeps it: what it works at, and how many accepted steps it has made. So the calls
-- alone (StepOf) say which step of the rules a call makes. Leans on Works, LogPlaces and refinement. Assumes nothing.
use mathlib.Core.Path.{◌≡◌, refl, sym, ap, ◌∙◌, subst}
use mathlib.Core.Bool.{Bool, true, false, cond, ◌&&◌, false≢true, true≢false}
use mathlib.Core.List.{List, [], ◌∷◌, ◌++◌}
use mathlib.Core.Option.{some}
use Prim.Native.Nat.{ℕ, zero, suc, ◌+◌, ◌^◌, ◌≤◌, ◌<◌}
use native.Mathlib.Omega.{arith}
use lib.Dec.{eqb, ltb, leb}
use borrow.Author.Tests.{eqb-true, eqb-false, eq-eqb, ltb-true, lt-ltb, leb-true, leb-false, not-true}
use lib.ListN.{length, drop}
use Rattle.laws.proofs.ListLaws.{and_left, and_right}
use Rattle.laws.proofs.TestLaws.{by_test, clash}
use Rattle.query.specs.declared.Range.{Range}
use Rattle.query.specs.Query.{write_count}
use Rattle.query.specs.Shape.{Shape}
use Rattle.rules.specs.declared.Outcome.TheVariants.{Refused}
use Rattle.rules.specs.Layout.{max_clients, max_nodes, client_width, refused_unsound}
use Rattle.rules.specs.Table.{target}
use Rattle.rules.specs.Nodes.{Store}
use Rattle.rules.specs.Answers.{Entry}
use Rattle.rules.specs.Client.{Client, steps, entry_of, is_idle, work_at, saw_pending, did_change, found_full}
use Rattle.rules.specs.Memory.{Mem, store_in}
use Rattle.rules.specs.Refusals.{form, shape, client, step_code}
use Rattle.rules.specs.Steps.{now_at, store_back, progress, progress_of, read_result, write_result}
use Rattle.rules.specs.Calls.{step_result}
use Rattle.rules.specs.History.{call_result, is_accepted}
use Rattle.rules.specs.Outcome.{StepResult, result_with, number}
use Rattle.rules.specs.Sound.{Busy}
use Rattle.rules.specs.Work.{Ask, read_labels, Write, write_labels, Work, asking, writing, Request, read_of, ask_of, work_of, steps_in_all}
use Rattle.rules.proofs.ClientLaws.{client_same, client_room}
use Rattle.rules.proofs.WorkLaws.{length_write_labels}
use Rattle.revisions.specs.EffectiveRevision.{NoDup}
use Rattle.revisions.proofs.NodeRows.{AllRows}
use Rattle.machine.specs.Machine.{State, Phase, idle, looking, tabling, filing, announcing, raising, Response, is_refused, ends, starts}
use Rattle.machine.proofs.Sums.{upd_other}
use Rattle.machine.proofs.Frames.{phase_work, ClientsLeft, same_clients, begun, gone_on, ended_at, transition_frame}
use Rattle.machine.proofs.StateInv.{StateInv}
use Rattle.machine.proofs.Trace.{table_step, Trace, Job, job}
use Rattle.machine.proofs.TraceInv.{begun_by, tabled_by, JobOk}
use Rattle.machine.proofs.Claims.{fresh}
use Rattle.machine.proofs.Log.{after, steps_of, JobFrom, linked}
use Rattle.refinement.proofs.Abstraction.{reader_of, writer_of, busy_phase, phases_of, state_of, Fits}
use Rattle.refinement.proofs.ClientPhases.{idle_at, busy_phase_law, fits_at}
use Rattle.rules.proofs.MemoryLaws.{store_with, length_nodes}
use Rattle.refinement.proofs.PhaseSteps.{noted_count}
use Rattle.refinement.proofs.StepFrame.{busy_at, client_at}
use Rattle.demands.specs.WholeHistory.{History, shape_at, mem_at, call_at, result_at, accepted_at, is_step_at, UnderWay, steps_in, StepOf, AbandonOf}
use Rattle.demands.specs.Demand2Whole.{ReadsTell}
use Rattle.demands.proofs.HistoryRuns.{response_at, log_to, sound, transition_at, room_taken, call_result_law, room_accepted}
use Rattle.demands.proofs.LogPlaces.{accepted_at_law, steps_log, under_places, stepped_at}
use Rattle.demands.proofs.Works.{Since, work_since, one_work, goes_on, not_begun}
use Rattle.demands.proofs.NodeChanges.{none_some}
use Rattle.demands.proofs.Taken.{step_taken}
use Rattle.demands.proofs.Filings.{step_reply}
use Rattle.rules.specs.History as rules
use Rattle.machine.proofs.Log as log
use Rattle.machine.specs.Machine as machine

-- ---- The phase of a busy client
reader_work : (sh : Shape) (x : Ask) (e : Entry) (i : ℕ) (saw : Bool) → phase_work (reader_of sh x e i saw) ≡ some (asking x)
unfolding reader_of phase_work
reader_work sh x e i saw = by_test (leb i (length (read_labels x)))
    (λ t. rw t refl)
    (λ t. rw t (by_test (eqb i (length (read_labels x) + 1)) (λ u. rw u refl) (λ u. rw u refl)))

writer_work : (w : Write) (i : ℕ) (c f : Bool) → phase_work (writer_of w i c f) ≡ some (writing w)
unfolding writer_of phase_work
writer_work w i c f = by_test (leb i (length (write_labels w))) (λ t. rw t refl) (λ t. rw t refl)

busy_work : (sh : Shape) (c : Client) (w : Work) → phase_work (busy_phase sh c w) ≡ some w
unfolding busy_phase
busy_work sh c (asking x) = reader_work sh x (entry_of c) (steps c) (saw_pending c)
busy_work sh c (writing w) = writer_work w (steps c) (did_change c) (found_full c)

-- it does not rest
pub at_work : {sh : Shape} {c : Client} {w : Work} → Busy sh c w → is_idle c ≡ false
unfolding phase_work
at_work {sh} {c} {w} b = by_test (is_idle c)
    (λ e. none_some (ap phase_work (sym (idle_at sh c e) ∙ busy_phase_law b) ∙ busy_work sh c w))
    (λ e. e)

-- how many steps a phase has behind it
unfoldable pub made_in : Phase → ℕ
made_in idle = 0
made_in (looking q ns saw) = length ns
made_in (tabling q ns saw) = length (read_labels q) + 1
made_in (filing q ns l) = length (read_labels q) + 2
made_in (announcing w i) = i
made_in (raising w j c f) = length (write_labels w) + 1 + j

reader_made : {sh : Shape} {c : Client} {x : Ask} → Busy sh c (asking x) → made_in (busy_phase sh c (asking x)) ≡ steps c
unfolding busy_phase reader_of made_in steps_in_all
reader_made {sh} {c} {x} b =
    let late = b.going in
    by_test (leb (steps c) (length (read_labels x)))
    (λ t. rw t (noted_count b (steps c) (leb-true _ _ t)))
    (λ t. rw t (by_test (eqb (steps c) (length (read_labels x) + 1))
    (λ u. rw u (let z = eqb-true (steps c) (length (read_labels x) + 1) u in omega arith))
    (λ u. rw u (let z = leb-false (steps c) (length (read_labels x)) t in let y = eqb-false (steps c) (length (read_labels x) + 1) u in omega arith))))

writer_made : {sh : Shape} {c : Client} {w : Write} → Busy sh c (writing w) → made_in (busy_phase sh c (writing w)) ≡ steps c
unfolding busy_phase writer_of made_in
writer_made {sh} {c} {w} b =
    by_test (leb (steps c) (length (write_labels w)))
    (λ t. rw t refl)
    (λ t. rw t (let z = leb-false (steps c) (length (write_labels w)) t in omega arith))

busy_made : {sh : Shape} {c : Client} (w : Work) → Busy sh c w → made_in (busy_phase sh c w) ≡ steps c
busy_made (asking x) b = reader_made b
busy_made (writing w) b = writer_made b

-- ---- The job of a phase has its work and its steps
job_made : (B : Trace) (d : ℕ) (j : Job) (y : Phase) (x : Work) → JobOk B d j y → phase_work y ≡ some x → j ≡ job x (made_in y) (begun_by j) (tabled_by j)
unfolding phase_work made_in table_step
job_made B d j idle x o e = none_some e
job_made B d j (looking q ns saw) x o e = let k : asking q ≡ x = cc in o.is ∙ ap (λ z. job z (length ns) (begun_by j) (tabled_by j)) k
job_made B d j (tabling q ns saw) x o e =
    let k : asking q ≡ x = cc in
    let n : suc (length (read_labels q)) ≡ length (read_labels q) + 1 = omega arith in
    o.is ∙ ap (λ z. job z (suc (length (read_labels q))) (begun_by j) (tabled_by j)) k ∙ ap (λ i. job x i (begun_by j) (tabled_by j)) n
job_made B d j (filing q ns l) x o e =
    let k : asking q ≡ x = cc in
    o.has.is ∙ ap (λ z. job z (table_step (asking q)) (begun_by j) (tabled_by j)) k ∙ ap (λ i. job x i (begun_by j) (tabled_by j)) (omega arith)
job_made B d j (announcing w i) x o e = let k : writing w ≡ x = cc in o.has.is ∙ ap (λ z. job z i (begun_by j) (tabled_by j)) k
job_made B d j (raising w i c f) x o e =
    let k : writing w ≡ x = cc in
    o.has.is ∙ ap (λ z. job z (table_step (writing w) + i) (begun_by j) (tabled_by j)) k ∙ ap (λ n. job x n (begun_by j) (tabled_by j)) (omega arith)

drop_past : {A : Type 0} (a : List A) (x : A) (s : List A) → drop (suc (length a)) (a ++ (x ∷ s)) ≡ s
drop_past [] x s = refl
drop_past (y ∷ a) x s = drop_past a x s

-- the steps that the client has made are those that the calls tell
pub made_since : (h : History) (x : Work) (d b n : ℕ) → Since h x d b n → made_in ((state_of (mem_at h n)).clients d) ≡ steps_in h d b n
made_since h x d b n s =
    let B = (after (fresh (shape_at h)) (log_to h n)).trace in
    let J = B.jobs d in
    let z = job_made B d J ((state_of (mem_at h n)).clients d) x ((sound h n s.within).good.trace.job d)
    (work_since h x d b n s n s.runs.earlier (omega arith)) in
    let f = subst (λ y. JobFrom (log_to h n) d y) z (linked (shape_at h) (log_to h n) d) in
    let u = f.0 in
    let p = under_places h d n x s.within u in
    let i : length u.earlier ≡ b = one_work h d x x (length u.earlier) b n
    (record { request = p.request; is = p.is; within = s.within; runs = p.runs }) s in
    let g : drop (suc b) (log_to h n) ≡ u.since =
    ap (λ k. drop (suc k) (log_to h n)) (sym i) ∙ ap (drop (suc (length u.earlier))) u.split ∙ drop_past u.earlier _ u.since in
    f.2 ∙ ap (steps_of d) (sym g) ∙ sym (steps_log h d b n s.within)

-- ---- The client of a step
pub record Standing (m : Mem) (tray : List ℕ) (d : ℕ) (x : Work) (i : ℕ) : Type 0 where
  pub low : d < max_clients
  pub busy : Busy (shape m) (client m d) x
  pub made : steps (client m d) ≡ i
  pub takes : step_code m tray d ≡ 0

low_phase : (m : Mem) (d : ℕ) (x : Work) → phase_work ((state_of m).clients d) ≡ some x → d < max_clients
unfolding state_of phases_of phase_work
low_phase m d x e = by_test (ltb d max_clients) (λ t. ltb-true d max_clients t) (λ t. none_some (rw t at e))

same_work : {x y : Work} → some x ≡ some y → x ≡ y
same_work e = cc

-- that client by itself
pub record Keeps (m : Mem) (d : ℕ) (x : Work) (i : ℕ) : Type 0 where
  pub low : d < max_clients
  pub busy : Busy (shape m) (client m d) x
  pub made : steps (client m d) ≡ i

keeps_at : (m : Mem) (d : ℕ) (x : Work) (i : ℕ) → Fits m → phase_work ((state_of m).clients d) ≡ some x → made_in ((state_of m).clients d) ≡ i → Keeps m d x i
unfolding phase_work
keeps_at m d x i f e made =
    let low = low_phase m d x e in
    let at = client_at m d low in
    let c = client m d in
    let busy : is_idle c ≡ false = by_test (is_idle c)
    (λ t. none_some (sym (ap phase_work (at ∙ idle_at (shape m) c t)) ∙ e))
    (λ t. t) in
    let b = busy_at m f d low busy in
    let w = work_at (shape m) c in
    let p : (state_of m).clients d ≡ busy_phase (shape m) c w = at ∙ busy_phase_law b in
    let k : w ≡ x = same_work (sym (busy_work (shape m) c w) ∙ sym (ap phase_work p) ∙ e) in
    record {
      low = low;
      busy = subst (λ y. Busy (shape m) c y) k b;
      made = sym (busy_made w b) ∙ sym (ap made_in p) ∙ made;
    }

pub keeps_since : (h : History) (x : Work) (d b n i : ℕ) → Since h x d b n → steps_in h d b n ≡ i → Keeps (mem_at h n) d x i
keeps_since h x d b n i s e =
    keeps_at (mem_at h n) d x i (sound h n s.within).fits (work_since h x d b n s n s.runs.earlier (omega arith)) (made_since h x d b n s ∙ e)

-- what the client keeps of a read is what the calls tell
pub reads_tell : (h : History) → ReadsTell h
reads_tell h r d b n l u x i =
    let k = keeps_since h (work_of (shape_at h) r) d b n (steps_in h d b n) (record { request = r; is = refl; within = l; runs = u }) refl in (
      (λ y. (sym k.busy.work ∙ y.works, sym k.made ∙ y.made)),
      (λ y. record { below = k.low; busy = at_work k.busy; works = k.busy.work ∙ y.0; made = k.made ∙ y.1 }),
    )

pub since_step : (h : History) (r : Request) (d b n i : ℕ) → StepOf h r d b n i → Since h (work_of (shape_at h) r) d b n
since_step h r d b n i s = let l = s.within in record { request = r; is = refl; within = omega arith; runs = s.runs }

pub standing : (h : History) (r : Request) (d b n i : ℕ) (s : StepOf h r d b n i) → Standing (mem_at h n) s.tray d (work_of (shape_at h) r) i
standing h r d b n i s =
    let l = s.within in
    let taken : is_refused (response_at h n) ≡ false = not-true (is_refused (response_at h n)) (sym (accepted_at_law h n l) ∙ s.accepted) in
    let k = keeps_since h (work_of (shape_at h) r) d b n i (since_step h r d b n i s) s.made in
    record {
      low = k.low;
      busy = k.busy;
      made = k.made;
      takes = step_taken (shape (mem_at h n)) _ (mem_at h n) s.tray d (ap is_refused (sym (step_reply h n d s.tray (room_taken h n taken) s.calls)) ∙ taken);
    }

-- ---- What the step does, by the rules
pub progressed : (m : Mem) (tray : List ℕ) (d : ℕ) (x : Work) (i : ℕ) → Standing m tray d x i → step_result m tray d ≡ progress_of m tray d x
unfolding step_result progress
progressed m tray d x i s = rw (eq-eqb (step_code m tray d) 0 s.takes, s.busy.work) refl

step_result_law : (h : History) (n d : ℕ) (tray : List ℕ) → accepted_at h n ≡ true → call_at h n ≡ rules.step d tray → result_at h n ≡ step_result (mem_at h n) tray d
unfolding call_result
step_result_law h n d tray a e = call_result_law h n (rules.step d tray) (room_accepted h n a) e

pub read_at : (h : History) (counts : Bool) (range : Range) (a : List ℕ) (d b n i : ℕ) (s : StepOf h (read_of counts range a) d b n i)
    → result_at h n ≡ read_result (mem_at h n) s.tray d (ask_of (shape_at h) counts range a) i
unfolding progress_of work_of
read_at h counts range a d b n i s =
    let z = standing h (read_of counts range a) d b n i s in
    step_result_law h n d s.tray s.accepted s.calls ∙ progressed (mem_at h n) s.tray d (asking (ask_of (shape_at h) counts range a)) i z
    ∙ ap (read_result (mem_at h n) s.tray d (ask_of (shape_at h) counts range a)) z.made

pub write_at : (h : History) (r : Request) (w : Write) (d b n i : ℕ) → work_of (shape_at h) r ≡ writing w → (s : StepOf h r d b n i)
    → result_at h n ≡ write_result (mem_at h n) s.tray d w i
unfolding progress_of
write_at h r w d b n i e s =
    let z = standing h r d b n i s in
    step_result_law h n d s.tray s.accepted s.calls ∙ progressed (mem_at h n) s.tray d (work_of (shape_at h) r) i z
    ∙ ap (progress_of (mem_at h n) s.tray d) e
    ∙ ap (write_result (mem_at h n) s.tray d w) z.made

-- ---- The steps before a step
step_tray : (d : ℕ) (c : rules.Call) → is_step_at d c ≡ true → (tray : List ℕ) × (c ≡ rules.step d tray)
unfolding is_step_at
step_tray d (rules.begin e r) k = absurd (false≢true k)
step_tray d (rules.step e tray) k = (tray, ap (λ i. rules.step i tray) (eqb-true e d k))
step_tray d (rules.abandon e) k = absurd (false≢true k)
step_tray d (rules.evict_answer i) k = absurd (false≢true k)
step_tray d (rules.evict_node i) k = absurd (false≢true k)
step_tray d rules.renew k = absurd (false≢true k)

record Nth (h : History) (d b n i : ℕ) : Type 0 where
  at : ℕ
  after : b < at
  before : at < n
  made : steps_in h d b at ≡ i
  calls : is_step_at d (call_at h at) ≡ true
  accepted : accepted_at h at ≡ true

nth_later : (h : History) (d b n i : ℕ) → Nth h d b n i → Nth h d b (suc n) i
nth_later h d b n i x = let l = x.before in record { at = x.at; after = x.after; before = omega arith; made = x.made; calls = x.calls; accepted = x.accepted }

nth : (h : History) (d b n i : ℕ) → i < steps_in h d b n → Nth h d b n i
unfolding steps_in
nth h d b zero i l = absurd (omega arith)
nth h d b (suc n) i l =
    let test = ltb b n && (is_step_at d (call_at h n) && accepted_at h n) in
    by_test test
    (λ t. by_test (eqb i (steps_in h d b n))
    (λ e. let c = and_right (ltb b n) _ t in
    record {
      at = n;
      after = ltb-true b n (and_left (ltb b n) _ t);
      before = omega arith;
      made = sym (eqb-true i (steps_in h d b n) e);
      calls = and_left (is_step_at d (call_at h n)) _ c;
      accepted = and_right (is_step_at d (call_at h n)) _ c;
    })
    (λ e. let ne : i ≡ steps_in h d b n → ⊥ = eqb-false i (steps_in h d b n) e in
    let m : i < 1 + steps_in h d b n = rw t at l in
    nth_later h d b n i (nth h d b n i (omega arith))))
    (λ t. let m : i < 0 + steps_in h d b n = rw t at l in nth_later h d b n i (nth h d b n i (omega arith)))

-- of what is under way when call n comes
abbrev pub Under : History → Request → ℕ → ℕ → ℕ → Type 0
Under h r d b n = (n ≤ length h.calls) × UnderWay h r d b n

pub under_step : {h : History} {r : Request} {d b n i : ℕ} → StepOf h r d b n i → Under h r d b n
under_step s = let l = s.within in (omega arith, s.runs)

pub under_abandon : {h : History} {r : Request} {d b n i : ℕ} → AbandonOf h r d b n i → Under h r d b n
under_abandon s = let l = s.within in (omega arith, s.runs)

pub step_made : (h : History) (r : Request) (d b n k : ℕ) → Under h r d b n → k < steps_in h d b n → (j : ℕ) × (j < n) × StepOf h r d b j k
step_made h r d b n k y l =
    let x = nth h d b n k l in
    let t = step_tray d (call_at h x.at) x.calls in
    let low = x.before in
    let w = y.0 in
    let u = y.1 in (
      x.at,
      low,
      record {
        tray = t.0;
        within = omega arith;
        calls = t.1;
        accepted = x.accepted;
        runs = record { begins = u.begins; accepted = u.accepted; earlier = x.after; still = λ g a o. u.still g a (omega arith) };
        made = x.made;
      },
    )

pub step_before : (h : History) (r : Request) (d b n i k : ℕ) → StepOf h r d b n i → k < i → (j : ℕ) × (j < n) × StepOf h r d b j k
step_before h r d b n i k s l = let e = s.made in step_made h r d b n k (under_step s) (omega arith)

-- ---- Memories after a step
pub no_twice : (h : History) (n : ℕ) → n ≤ length h.calls → NoDup (store_in (form (mem_at h n)) (mem_at h n).nodes).nodes
no_twice h n l = go (mem_at h n) (sound h n l).good.inv
  where
    go : (m : Mem) → StateInv (state_of m) → NoDup (store_in (form m) m.nodes).nodes
    go m v = unfold state_of in v.once

pub not_refused : {A : Type 0} (h : History) (n : ℕ) (m : Mem) (tray : List ℕ) → accepted_at h n ≡ true → result_at h n ≡ result_with (Refused refused_unsound) m tray → A
unfolding accepted_at is_accepted number
not_refused h n m tray a e = absurd (false≢true (sym (ap (λ (x : StepResult). is_accepted (number x.out)) e) ∙ a))

pub nodes_after : (m : Mem) (t : Store) (d : ℕ) (c : Client) → Fits m → AllRows t.nodes → length t.nodes ≤ max_nodes
    → store_in (form (now_at (store_back m t) d c)) (now_at (store_back m t) d c).nodes ≡ t
unfolding now_at store_back
nodes_after m t d c f r l = store_with (form m) m.nodes f.long.nodes f.nodes t (record { wide = r; few = l })

pub client_after : (m : Mem) (t : Store) (d : ℕ) (c : Client) → Fits m → d < max_clients → length c ≡ client_width → client (now_at (store_back m t) d c) d ≡ c
unfolding client now_at store_back
client_after m t d c f l w = client_same (form m) m.clients d c w (client_room (form m) (shape m) m.clients d l f.long.clients)

pub client_now : (m : Mem) (d : ℕ) (c : Client) → Fits m → d < max_clients → length c ≡ client_width → client (now_at m d c) d ≡ c
unfolding client now_at
client_now m d c f l w = client_same (form m) m.clients d c w (client_room (form m) (shape m) m.clients d l f.long.clients)

pub few_nodes : (m : Mem) → Fits m → length (store_in (form m) m.nodes).nodes ≤ max_nodes
few_nodes m f = let n = length_nodes (form m) m.nodes in let y = f.nodes in omega arith

-- a write has 2^k nodes
pub nodes_count : (h : History) (w : Write) (d n : ℕ) → n ≤ length h.calls → Busy (shape (mem_at h n)) (client (mem_at h n) d) (writing w)
    → (length (write_labels w) ≡ 2 ^ (shape_at h).columns) × (length (target w.change) ≡ (shape_at h).columns)
unfolding write_count
nodes_count h w d n l b =
    let c : length (target w.change) ≡ (shape_at h).columns =
    (fits_at b).columns ∙ ap (λ (sh : Shape). sh.columns) (sound h n l).shape in
    (length_write_labels w ∙ ap (λ k. 2 ^ k) c, c)

-- ---- A client between its steps
-- no accepted step at its desk, no end and no begin there: its phase stays
phase_kept : (s : State) (d : ℕ) {c : machine.Call} {a : Response} {t : State} → ClientsLeft s c a t → log.stepped d c a ≡ 0 → ends d c a ≡ false
    → starts d c a ≡ false → t.clients d ≡ s.clients d
unfolding log.stepped is_refused starts
phase_kept s d (same_clients f e) k n b = ap (λ g. g d) e
phase_kept s d (begun {d = d'} y e i w) k n b = by_test (eqb d' d)
    (λ t. absurd (true≢false (rw t at b)))
    (λ t. ap (λ g. g d) e ∙ upd_other s.clients d' y d (λ z. eqb-false d' d t (sym z)))
phase_kept s d (gone_on {d = d'} y e w) k n b = by_test (eqb d' d)
    (λ t. absurd (let z : 1 ≡ 0 = rw t at k in omega arith))
    (λ t. ap (λ g. g d) e ∙ upd_other s.clients d' y d (λ z. eqb-false d' d t (sym z)))
phase_kept s d (ended_at d' f g e) k n b = by_test (eqb d d')
    (λ t. clash (rw (eqb-true d d' t) f) n)
    (λ t. ap (λ g. g d) e ∙ upd_other s.clients d' idle d (eqb-false d d' t))

steps_one : (h : History) (d b n : ℕ) → b < n → steps_in h d b (suc n) ≡ cond (is_step_at d (call_at h n) && accepted_at h n) 1 0 + steps_in h d b n
unfolding steps_in
steps_one h d b n l = rw (lt-ltb b n l) refl

-- an accepted step is one more
is_step : (d : ℕ) (c : rules.Call) (tray : List ℕ) → c ≡ rules.step d tray → is_step_at d c ≡ true
unfolding is_step_at
is_step d c tray e = ap (is_step_at d) e ∙ eq-eqb d d refl

pub next_step : (h : History) (r : Request) (d b n i : ℕ) → StepOf h r d b n i → steps_in h d b (suc n) ≡ suc i
next_step h r d b n i s = steps_one h d b n s.runs.earlier ∙ rw (is_step d (call_at h n) s.tray s.calls, s.accepted) (let e = s.made in omega arith)

pub steps_more : (h : History) (d b i n : ℕ) → b < i → i ≤ n → steps_in h d b i ≤ steps_in h d b n
steps_more h d b i zero l m = absurd (omega arith)
steps_more h d b i (suc n) l m = by_test (eqb i (suc n))
    (λ e. rw (eqb-true i (suc n) e) (omega arith))
    (λ e. let ne : i ≡ suc n → ⊥ = eqb-false i (suc n) e in
    let a = steps_more h d b i n l (omega arith) in let z = steps_one h d b n (omega arith) in omega arith)

-- from call i to call n, where it makes no step
pub phase_since : (h : History) (x : Work) (d b n i : ℕ) → Since h x d b n → b < i → i ≤ n → steps_in h d b i ≡ steps_in h d b n
    → (j : ℕ) → i ≤ j → j ≤ n → (state_of (mem_at h j)).clients d ≡ (state_of (mem_at h i)).clients d
phase_since h x d b n i s l m e zero lj mj = absurd (omega arith)
phase_since h x d b n i s l m e (suc j) lj mj = by_test (eqb i (suc j))
    (λ t. ap (λ k. (state_of (mem_at h k)).clients d) (sym (eqb-true i (suc j) t)))
    (λ t. let ne : i ≡ suc j → ⊥ = eqb-false i (suc j) t in
    let w = s.within in
    let a = steps_more h d b i j l (omega arith) in
    let c = steps_more h d b (suc j) n (omega arith) mj in
    let z = steps_one h d b j (omega arith) in
    let k = stepped_at h d j (omega arith) in
    phase_kept (state_of (mem_at h j)) d (transition_frame (state_of (mem_at h j)) (transition_at h j (omega arith))).clients (omega arith)
    (goes_on h x d b n j s (omega arith) (omega arith)) (not_begun h x d b n s j (omega arith) (omega arith))
    ∙ phase_since h x d b n i s l m e j (omega arith) (omega arith))
