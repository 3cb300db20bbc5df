-- Which phase of the machine a client stands for, by its work, and that what a begin or a step leaves is sound again. Leans on
-- Abstraction and rules' ClientParts, and on what rules' sound client keeps to. Assumes nothing.
use mathlib.Core.Path.{◌≡◌, refl, sym, ap, ◌∙◌}
use mathlib.Core.Bool.{Bool, true, false, cond}
use mathlib.Core.List.{List, [], ◌∷◌}
use Prim.Native.Nat.{ℕ, ◌+◌, ◌-◌, ◌≤◌, ◌<◌}
use native.Mathlib.Omega.{arith}
use lib.Dec.{eqb, ltb}
use lib.ListN.{length}
use borrow.Author.Tests.{le-leb, lt-leb, eq-eqb, ne_eqb}
use Rattle.laws.proofs.TestLaws.{by_test}
use Rattle.query.specs.Query.{Record, naming}
use Rattle.query.specs.Encoding.{key_width, key_words, record_of, bare_key}
use Rattle.query.specs.Shape.{Shape, max_columns}
use Rattle.query.proofs.EncodingLaws.{query_in_key, query_in_length, key_words_length}
use Rattle.rules.specs.Layout.{max_records, max_list, client_width, reads}
use Rattle.rules.specs.Table.{Change, insert, delete, target}
use Rattle.rules.specs.Work.{Ask, read_labels, ask_key, ask_in, Write, write_labels, Work, asking, writing, change_kind, kind_of, key_of, change_in, write_in}
use Rattle.rules.specs.Work.{work_in, work_fault, steps_in_all}
use Rattle.rules.specs.Answers.{revisions_in, key_in, is_count, most_in, is_long, value_in}
use Rattle.rules.specs.Client.{Client, kind, steps, saw_pending, did_change, found_full, entry_of, is_idle, ask_at, work_at, is_bad, begun}
use Rattle.rules.specs.Client as rules
use Rattle.rules.specs.Sound.{Busy}
use Rattle.rules.proofs.WorkLaws.{target_length, ask_key_length, ask_in_key}
use Rattle.rules.proofs.ClientLaws.{change_known, kind_known, busy_sound, idle_is, idle_wide, idle_kind, idle_sound}
use Rattle.machine.specs.Machine.{AskFits, WorkFits, Phase, idle, looking, tabling, filing, announcing, raising}
use Rattle.refinement.proofs.Abstraction.{noted_of, reader_of, writer_of, busy_phase, phase_of}
use Rattle.rules.proofs.AnswerLaws.{no_revisions}
use Rattle.rules.proofs.ClientParts.{Next, begun_kind, begun_steps, begun_saw, begun_wide, begun_key, begun_length}

-- ---- An idle client
pub idle_at : (sh : Shape) (c : Client) → is_idle c ≡ true → phase_of sh c ≡ idle
unfolding phase_of
idle_at sh c e = rw e

-- a busy client is not idle
busy_goes : {sh : Shape} {c : Client} {w : Work} → Busy sh c w → is_idle c ≡ false
busy_goes {sh} {c} {w} b =
    by_test (is_idle c) (λ e. absurd (let z = idle_kind c e in let y = b.kind in let k = kind_known w in omega (arith, k.0))) (λ e. e)

-- ---- What a call leaves at a desk: a sound client, which stands for x
pub record Left (sh : Shape) (t : Client) (x : Phase) : Type 0 where
  pub sound : is_bad sh t ≡ false
  pub wide : length t ≡ client_width
  pub phase : phase_of sh t ≡ x

pub idle_left : (sh : Shape) → Left sh rules.idle idle
idle_left sh = record { sound = idle_sound sh rules.idle idle_is; wide = idle_wide; phase = idle_at sh rules.idle idle_is }

pub busy_left : {sh : Shape} {t : Client} {w : Work} {x : Phase} → Busy sh t w → phase_of sh t ≡ x → Left sh t x
busy_left b e = record { sound = busy_sound b; wide = b.wide; phase = e }

-- ---- A client's work
-- by its kind
pub asking_at : (sh : Shape) (c : Client) → kind c ≡ reads → work_at sh c ≡ asking (ask_at sh c)
unfolding work_at work_in ask_at
asking_at sh c r = rw (eq-eqb (kind c) reads r)

-- work of a kind and a key is of the hall, with a range that a begin takes
fits_in : (sh : Shape) (kind : ℕ) (key : List ℕ) → work_fault (work_in sh kind key) ≡ 0 → WorkFits sh (work_in sh kind key)
unfolding work_in work_fault ask_in write_in
fits_in sh kind key = by_test (eqb kind reads)
    (λ e. rw e (λ g. record { shape = refl; columns = query_in_length sh (bare_key key); range = g }))
    (λ e. rw e (λ g. record { shape = refl; columns = target_length sh kind key }))

-- so a sound client's is
pub fits_at : {sh : Shape} {c : Client} {w : Work} → Busy sh c w → WorkFits sh w
unfolding work_at
fits_at {sh} {c} {w} b = rw (← b.work) (fits_in sh (kind c) (key_in (entry_of c)) (rw b.work b.fault))

-- ---- A busy client's desk
pub busy_phase_law : {sh : Shape} {c : Client} {w : Work} → Busy sh c w → phase_of sh c ≡ busy_phase sh c w
unfolding phase_of
busy_phase_law b = rw (busy_goes b, b.work)

module _ {sh : Shape} {c : Client} {x : Ask} (b : Busy sh c (asking x)) where
  pub looking_phase : steps c ≤ length (read_labels x) → phase_of sh c ≡ looking x (revisions_in (steps c) (entry_of c)) (saw_pending c)
  unfolding busy_phase reader_of
  looking_phase h = busy_phase_law b ∙ rw (le-leb _ _ h)

  pub tabling_phase : steps c ≡ length (read_labels x) + 1 → phase_of sh c ≡ tabling x (noted_of x (entry_of c)) (saw_pending c)
  unfolding busy_phase reader_of
  tabling_phase h = busy_phase_law b ∙ rw (lt-leb (steps c) (length (read_labels x)) (omega arith), eq-eqb _ _ h)

  pub filing_phase : length (read_labels x) + 1 < steps c → phase_of sh c ≡ filing x (noted_of x (entry_of c)) (value_in sh (entry_of c))
  unfolding busy_phase reader_of
  filing_phase h = busy_phase_law b ∙ rw (lt-leb (steps c) (length (read_labels x)) (omega arith), ne_eqb (steps c) (length (read_labels x) + 1) (λ e. omega arith))

module _ {sh : Shape} {c : Client} {w : Write} (b : Busy sh c (writing w)) where
  pub announcing_phase : steps c ≤ length (write_labels w) → phase_of sh c ≡ announcing w (steps c)
  unfolding busy_phase writer_of
  announcing_phase h = busy_phase_law b ∙ rw (le-leb _ _ h)

  pub raising_phase : length (write_labels w) < steps c → phase_of sh c ≡ raising w (steps c - (length (write_labels w) + 1)) (did_change c) (found_full c)
  unfolding busy_phase writer_of
  raising_phase h = busy_phase_law b ∙ rw (lt-leb _ _ h)

-- ---- One step more: the same work
pub next_busy : {sh : Shape} {c t : Client} {w : Work} → Next c t → Busy sh c w → steps c + 1 < steps_in_all w
    → is_long (entry_of t) ≡ false → Busy sh t w
unfolding work_at
next_busy n b h s = record {
  least = b.least;
  most = b.most;
  wide = n.wide;
  work = rw (n.kinds, n.keys) b.work;
  kind = n.kinds ∙ b.kind;
  key = n.keys ∙ b.key;
  fault = b.fault;
  going = rw n.one h;
  short = s;
}

-- ---- What begins
-- the phase that work begins with
abbrev pub start_of : Work → Phase
start_of (asking x) = looking x [] false
start_of (writing w) = announcing w 0

-- work of a hall is what its kind and its key tell there
record_naming : (r : Record) → record_of (naming r) ≡ r
unfolding record_of naming
record_naming [] = refl
record_naming (v ∷ r) = ap (λ (l : Record). v ∷ l) (record_naming r)

change_kept : (sh : Shape) (c : Change) → length (target c) ≡ sh.columns → change_in sh (change_kind c) (key_words (target c)) ≡ c
unfolding change_in change_kind target
change_kept sh (insert r) l = ap insert (ap record_of (query_in_key sh (naming r) l) ∙ record_naming r)
change_kept sh (delete q) l = ap delete (query_in_key sh q l)

pub ask_back : (sh : Shape) (x : Ask) → AskFits sh x → sh.columns ≤ max_columns → ask_in sh (ask_key x) ≡ x
ask_back sh x f few =
    let z = f.columns in
    let y = ap (λ (a : Shape). a.columns) f.shape in
    rw (← f.shape) (ask_in_key x (omega arith) (omega arith))

work_kept : (sh : Shape) (x : Work) → WorkFits sh x → sh.columns ≤ max_columns → work_in sh (kind_of x) (key_of x) ≡ x
unfolding work_in kind_of key_of write_in
work_kept sh (asking x) f few = ap asking (ask_back sh x f few)
work_kept sh (writing w) f few =
    let k = (change_known w.change).0 in
    rw (ne_eqb (change_kind w.change) reads (λ e. omega arith)) (λ i. writing (record { shape = sym f.shape i; change = change_kept sh w.change f.columns i }))

-- its key is that of a query of the hall
key_wide : (sh : Shape) (x : Work) → WorkFits sh x → sh.columns ≤ max_columns → length (key_of x) ≡ key_width
unfolding key_of
key_wide sh (asking x) f few = ask_key_length x (let z = f.columns in omega arith)
key_wide sh (writing w) f few = key_words_length (target w.change) (let z = f.columns in omega arith)

-- its range is one that a begin takes
range_good : (sh : Shape) (x : Work) → WorkFits sh x → work_fault x ≡ 0
unfolding work_fault
range_good sh (asking x) f = f.range
range_good sh (writing w) f = refl

-- no list is too long that has no records
none_long : (b : Bool) → ltb (cond b max_records max_list) 0 ≡ false
none_long true = refl
none_long false = refl

steps_some : (x : Work) → 0 < steps_in_all x
unfolding steps_in_all
steps_some (asking x) = omega arith
steps_some (writing w) = omega arith

pub looking_eq : {x : Ask} {ns ms : List ℕ} {a b : Bool} → ns ≡ ms → a ≡ b → looking x ns a ≡ looking x ms b
looking_eq {x} f g = λ i. looking x (f i) (g i)

module _ (sh : Shape) (least : 1 ≤ sh.columns) (most : sh.columns ≤ max_columns) where
  begun_busy : (x : Work) → WorkFits sh x → Busy sh (begun x) x
  unfolding work_at is_long most_in
  begun_busy x f =
      let h = key_wide sh x f most in
      record {
        least = least;
        most = most;
        wide = begun_wide x h;
        work = rw (begun_kind x, begun_key x h) (work_kept sh x f most);
        kind = begun_kind x;
        key = begun_key x h;
        fault = range_good sh x f;
        going = rw (begun_steps x) (steps_some x);
        short = rw (begun_length x h) (none_long (is_count (entry_of (begun x))));
      }

  begun_phase : (x : Work) → Busy sh (begun x) x → phase_of sh (begun x) ≡ start_of x
  begun_phase (asking x) b =
      let c : Client = begun (asking x) in
      let z = begun_steps (asking x) in
      looking_phase b (omega arith) ∙ looking_eq (no_revisions (steps c) (entry_of c) z) (begun_saw (asking x))
  begun_phase (writing w) b = let z = begun_steps (writing w) in announcing_phase b (omega arith) ∙ ap (announcing w) z

  pub begun_left : (x : Work) → WorkFits sh x → Left sh (begun x) (start_of x)
  begun_left x f = let b = begun_busy x f in busy_left b (begun_phase x b)
