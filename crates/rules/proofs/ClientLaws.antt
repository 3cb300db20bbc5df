-- What a sound client keeps to; and one client in the desks memory: what is read after another was written there, and that its list has
-- room. Leans on Client, on Memory and on the laws of lists. Assumes nothing.
use mathlib.Core.Path.{◌≡◌, refl, sym, ap, ◌∙◌}
use mathlib.Core.Bool.{Bool, true, false, cond, not, ◌&&◌, ◌||◌, and-false}
use mathlib.Core.List.{List, []}
use Prim.Native.Nat.{ℕ, ◌+◌, ◌-◌, ◌*◌, ◌^◌, ◌≤◌, ◌<◌}
use native.Mathlib.Nat.{mul-le-mul}
use native.Mathlib.Omega.{arith}
use lib.Dec.{eqb, ltb}
use borrow.Author.Tests.{eqb-true, eqb-false, eq-eqb, ne_eqb, ltb-true, ltb-false, le-ltb, lt-leb, leb-false, not-false}
use lib.ListN.{length, get_or, take, drop, set, length-drop, length-set, length-replicate}
use lib.Seq.{take_at, length-take-le, get_or-set_same, get_or-set_other}
use Rattle.lists.specs.Lists.{header, same, written}
use Rattle.laws.proofs.ListLaws.{same_refl, same_eq}
use Rattle.laws.proofs.TestLaws.{by_test, or_false}
use Rattle.laws.proofs.WrittenLaws.{drop_take, take_written, drop_written, drop_of_written, get_or_before, length_written}
use Rattle.query.specs.Encoding.{key_width, query_in, is_key, names_all, label_words, bare_key}
use Rattle.query.specs.Range.{is_ranged}
use Rattle.query.specs.Shape.{Form, narrow, wide, Shape, max_columns}
use Rattle.rules.specs.Layout.{max_clients, clients_least, max_list, columns_offset, list_room, entry_offset, revisions_offset, look_room, client_width, kept_client, client_offset, reads, inserts, deletes}
use Rattle.rules.specs.Answers.{key_in, length_in, is_count, most_in, is_long}
use Rattle.rules.specs.Client.{Client, kind, steps, did_change, entry_of, query_at, range_at, ask_at, write_at, work_at, idle, is_idle, is_bad, stepped, flag, wrote}
use Rattle.rules.specs.Sound.{Busy}
use Rattle.rules.specs.Table.{Change, insert, delete, target}
use Rattle.rules.specs.Work.{Ask, ask_in, is_ask_key, read_labels, Write, write_in, write_labels, Work, asking, writing, change_kind, kind_of, change_in, work_in, key_of, work_fault, steps_in_all}
use Rattle.rules.proofs.WorkLaws.{key_same, ask_key_bare, length_read_labels, length_write_labels, read_label_at, write_label_at, target_length}
use Rattle.query.specs.Query.{Query, read_node, write_node, read_count, write_count}
use Rattle.query.proofs.EncodingLaws.{query_in_key, query_in_length}
use Rattle.query.proofs.KeyLaws.{plain_bare}
use Rattle.rules.specs.Memory.{shape_in, client_from, client_to, client_in, with_client}
use Rattle.laws.proofs.HalfLaws.{length_halves_at, length_wholes_at, wholes_at_halves_at}
use Rattle.laws.proofs.RowLaws.{slot}

-- ---- A sound client's kind
-- a change is kept as no read
pub change_known : (c : Change) → (inserts ≤ change_kind c) × (change_kind c ≤ deletes)
unfolding change_kind
change_known (insert r) = (omega arith, omega arith)
change_known (delete q) = (omega arith, omega arith)

-- work has a kind that is in range
pub kind_known : (x : Work) → (1 ≤ kind_of x) × (kind_of x ≤ deletes)
unfolding kind_of
kind_known (asking x) = (omega arith, omega arith)
kind_known (writing w) = let k = change_known w.change in (omega (arith, k.0), k.1)

change_kind_law : (sh : Shape) (kind : ℕ) (key : List ℕ) → inserts ≤ kind → kind ≤ deletes → change_kind (change_in sh kind key) ≡ kind
unfolding change_in change_kind
change_kind_law sh kind key low high = by_test (eqb kind inserts)
    (λ e. rw e (sym (eqb-true kind inserts e)))
    (λ e. rw e (let z = eqb-false kind inserts e in omega arith))

-- and a kind in range is that of the work read from it
kind_back : (sh : Shape) (kind : ℕ) (key : List ℕ) → 1 ≤ kind → kind ≤ deletes → kind_of (work_in sh kind key) ≡ kind
unfolding work_in kind_of write_in
kind_back sh kind key low high = by_test (eqb kind reads)
    (λ e. rw e (sym (eqb-true kind reads e)))
    (λ e. rw e (change_kind_law sh kind key (let z = eqb-false kind reads e in omega arith) high))

kind_at : (sh : Shape) (c : Client) → 1 ≤ kind c → kind c ≤ deletes → kind_of (work_at sh c) ≡ kind c
unfolding work_at
kind_at sh c low high = kind_back sh (kind c) (key_in (entry_of c)) low high

-- ---- A sound, busy client
-- its key is seven numbers
pub key_wide : (c : Client) → length c ≡ client_width → length (key_in (entry_of c)) ≡ key_width
unfolding key_in entry_of
key_wide c h = length-take-le key_width (drop entry_offset c) (rw length-drop (omega arith))

-- the key's part of the test, as the three tests that it stands for
pub key_tests : (sh : Shape) (c : Client) → length c ≡ client_width → sh.columns ≤ max_columns
    → not (same (key_in (entry_of c)) (key_of (work_at sh c)))
    ≡ not (is_key sh (bare_key (key_in (entry_of c))))
    || ((not (eqb (kind c) reads) && (is_count (entry_of c) || is_ranged (range_at c))) || (eqb (kind c) inserts && not (names_all (query_at sh c))))
unfolding work_at query_at range_at is_count
key_tests sh c w h = key_same sh (kind c) (key_in (entry_of c)) (key_wide c w) h

pub busy_of : (sh : Shape) (c : Client) → 1 ≤ sh.columns → sh.columns ≤ max_columns → length c ≡ client_width
    → is_bad sh c ≡ false → is_idle c ≡ false → Busy sh c (work_at sh c)
unfolding is_bad
busy_of sh c least most wd h e =
    let a = or_false _ _ (rw e at h) in
    let b = or_false _ _ a.0 in
    let y = or_false _ _ a.1 in
    let g = or_false _ _ y.1 in
    let w = or_false _ _ g.1 in
    let n = eqb-false (kind c) 0 b.0 in
    record {
      least = least;
      most = most;
      wide = wd;
      work = refl;
      kind = sym (kind_at sh c (omega arith) (ltb-false deletes (kind c) b.1));
      key = same_eq _ _ (not-false _ y.0);
      fault = eqb-true _ 0 (not-false _ g.0);
      going = leb-false _ _ w.0;
      short = w.1;
    }

pub busy_sound : {sh : Shape} {c : Client} {w : Work} → Busy sh c w → is_bad sh c ≡ false
unfolding is_bad
busy_sound {sh} {c} {w} b =
    let k = kind_known w in
    let l = b.kind in
    rw (
      ne_eqb (kind c) 0 (λ z. omega (arith, k.0)),
      le-ltb deletes (kind c) (omega (arith, k.1)),
      b.work,
      b.key,
      same_refl (key_of w),
      eq-eqb (work_fault w) 0 b.fault,
      lt-leb _ _ b.going,
      b.short,
    )
    (and-false (not (is_idle c)))

-- its key is that of a query of the hall, but for what is wanted and the range
pub busy_key : {sh : Shape} {c : Client} {w : Work} → Busy sh c w → is_key sh (bare_key (key_in (entry_of c))) ≡ true
busy_key {sh} {c} {w} b =
    let e : not (same (key_in (entry_of c)) (key_of (work_at sh c))) ≡ false = rw (b.work, b.key, same_refl (key_of w)) in
    not-false _ (or_false _ _ (sym (key_tests sh c b.wide b.most) ∙ e)).0

-- and a reader's is that of an ask
pub busy_ask : {sh : Shape} {c : Client} {w : Work} → Busy sh c w → is_ask_key sh (key_in (entry_of c)) ≡ true
busy_ask {sh} {c} b = ask_key_bare sh (key_in (entry_of c)) (key_wide c b.wide) b.most ∙ busy_key b

-- a list's entry that is not long has room for its records
pub list_short : (e : List ℕ) → is_count e ≡ false → is_long e ≡ false → length_in e ≤ max_list
unfolding is_long most_in
list_short e c h = ltb-false max_list (length_in e) (rw c at h)

-- what a reader asks
pub asks_at : {sh : Shape} {c : Client} {x : Ask} → Busy sh c (asking x) → ask_at sh c ≡ x
unfolding kind_of work_at work_in ask_at
asks_at {sh} {c} {x} b = let z = (rw (eq-eqb (kind c) reads b.kind) at b.work) in cc

-- what a writer writes; it is no reader
no_reader : {sh : Shape} {c : Client} {w : Write} → Busy sh c (writing w) → kind c ≡ reads → ⊥
unfolding kind_of
no_reader {sh} {c} {w} b e = let k = change_known w.change in let z = b.kind in omega (arith, k.0)

pub writes_at : {sh : Shape} {c : Client} {w : Write} → Busy sh c (writing w) → write_at sh c ≡ w
unfolding work_at work_in write_at
writes_at {sh} {c} {w} b = let z = (rw (ne_eqb (kind c) reads (no_reader b)) at b.work) in cc

-- what its key says is what it wants, and its range; the query of its key is the one that it reads, or that a write's nodes are made of
pub asked_counts : {sh : Shape} {c : Client} {x : Ask} → Busy sh c (asking x) → is_count (entry_of c) ≡ x.counts
unfolding ask_at ask_in is_count
asked_counts b = ap (λ (y : Ask). y.counts) (asks_at b)

pub asked_range : {sh : Shape} {c : Client} {x : Ask} → Busy sh c (asking x) → range_at c ≡ x.range
unfolding ask_at ask_in range_at
asked_range b = ap (λ (y : Ask). y.range) (asks_at b)

pub asked_query : {sh : Shape} {c : Client} {x : Ask} → Busy sh c (asking x) → query_at sh c ≡ x.query
unfolding ask_at ask_in query_at
asked_query b = ap (λ (y : Ask). y.query) (asks_at b)

pub written_query : {sh : Shape} {c : Client} {w : Write} → Busy sh c (writing w) → query_at sh c ≡ target w.change
unfolding query_at key_of write_at write_in
written_query {sh} {c} {w} b =
    let l : length (target w.change) ≡ sh.columns = rw (← writes_at b) (target_length sh (kind c) (key_in (entry_of c))) in
    ap (query_in sh) (ap bare_key b.key ∙ plain_bare (target w.change) (let z = b.most in omega arith)) ∙ query_in_key sh (target w.change) l

-- ---- Its work, by the query of its key
-- how many nodes it has
pub looks_at : (sh : Shape) (c : Client) → length (read_labels (ask_at sh c)) ≡ read_count (query_at sh c)
unfolding ask_at ask_in query_at
looks_at sh c = length_read_labels (ask_at sh c)

announcements_at : (sh : Shape) (c : Client) → length (write_labels (write_at sh c)) ≡ write_count (query_at sh c)
unfolding write_at write_in query_at write_count
announcements_at sh c =
    length_write_labels (write_at sh c)
    ∙ ap (λ (n : ℕ). 2 ^ n) (target_length sh (kind c) (key_in (entry_of c)) ∙ sym (query_in_length sh (bare_key (key_in (entry_of c)))))

pub steps_at : (sh : Shape) (c : Client)
    → steps_in_all (work_at sh c) ≡ cond (eqb (kind c) reads) (read_count (query_at sh c) + 3) (write_count (query_at sh c) + 1 + write_count (query_at sh c))
unfolding work_at work_in steps_in_all
steps_at sh c = by_test (eqb (kind c) reads)
    (λ e. rw e (ap (λ (n : ℕ). n + 3) (unfold ask_at in looks_at sh c)))
    (λ e. rw e (ap (λ (n : ℕ). n + 1 + n) (unfold write_at in announcements_at sh c)))

-- the same of a reader and of a writer, and which they are
module _ {sh : Shape} {c : Client} {x : Ask} (b : Busy sh c (asking x)) where
  pub look_count_of : length (read_labels x) ≡ read_count (query_at sh c)
  look_count_of = rw (← asks_at b) (looks_at sh c)

  pub read_label_of : (i : ℕ) → i < length (read_labels x) → get_or (read_labels x) i [] ≡ label_words (read_node (query_at sh c) i)
  read_label_of i h = read_label_at x i h ∙ ap (λ (q : Query). label_words (read_node q i)) (sym (asked_query b))

module _ {sh : Shape} {c : Client} {w : Write} (b : Busy sh c (writing w)) where
  pub announcement_count_of : length (write_labels w) ≡ write_count (query_at sh c)
  announcement_count_of = rw (← writes_at b) (announcements_at sh c)

  pub write_label_of : (i : ℕ) → i < length (write_labels w) → get_or (write_labels w) i [] ≡ label_words (write_node (query_at sh c) i)
  write_label_of i h = write_label_at w i h ∙ ap (λ (q : Query). label_words (write_node q i)) (sym (written_query b))

-- an idle client
pub idle_is : is_idle idle ≡ true
unfolding is_idle
idle_is = same_refl idle

pub idle_wide : length idle ≡ client_width
unfolding idle
idle_wide = length-replicate {A = ℕ} client_width 0

pub idle_kind : (c : Client) → is_idle c ≡ true → kind c ≡ 0
unfolding is_idle kind idle
idle_kind c e = ap (λ (x : Client). get_or x 0 0) (same_eq c idle e)

pub idle_sound : (sh : Shape) (c : Client) → is_idle c ≡ true → is_bad sh c ≡ false
unfolding is_bad
idle_sound sh c e = rw e

-- ---- A write past its table step
-- a flag as it is kept
pub flag_read : (b : Bool) → not (eqb (flag b) 0) ≡ b
unfolding flag
flag_read true = refl
flag_read false = refl

module _ (c : Client) (w : length c ≡ client_width) (changed full : Bool) where
  pub wrote_wide : length (wrote changed full c) ≡ client_width
  unfolding wrote stepped
  wrote_wide = rw (length-set, length-set, length-set) w

  pub wrote_change : did_change (wrote changed full c) ≡ changed
  unfolding wrote did_change stepped
  wrote_change =
      let x : List ℕ = set c 1 (steps c + 1) in
      let l : length x ≡ length c = length-set c 1 (steps c + 1) in
      ap (λ (y : ℕ). not (eqb y 0)) (get_or-set_other (set x 3 (flag changed)) 4 3 (flag full) 0 (λ e. omega arith) ∙ get_or-set_same x 3 (flag changed) 0 (omega arith))
      ∙ flag_read changed

-- ---- In the desks memory
-- a list of at most 32 records of at most 4 numbers
pub list_room_law : (n k : ℕ) → n ≤ max_list → k ≤ max_columns → n * k ≤ list_room
list_room_law n k h g = mul-le-mul h g

-- a client as it is kept, and as it is read from that
pub client_to_wide : (f : Form) (c : Client) → length c ≡ client_width → length (client_to f c) ≡ kept_client f
client_to_wide narrow c w = w
client_to_wide wide c w = length_halves_at (entry_offset + revisions_offset) look_room c (omega arith) ∙ (rw w refl)

pub client_from_wide : (f : Form) (c : List ℕ) → length c ≡ kept_client f → length (client_from f c) ≡ client_width
client_from_wide narrow c w = w
client_from_wide wide c w = let a = length_wholes_at (entry_offset + revisions_offset) look_room c (omega arith) in omega arith

pub client_back : (f : Form) (c : Client) → length c ≡ client_width → client_from f (client_to f c) ≡ c
client_back narrow c w = refl
client_back wide c w = wholes_at_halves_at (entry_offset + revisions_offset) look_room c (omega arith)

-- a memory of the least length has room for each of the twelve
pub client_end : (f : Form) (sh : Shape) (d : ℕ) → d < max_clients → client_offset f d + kept_client f ≤ clients_least f sh
client_end narrow sh d h = omega arith
client_end wide sh d h = omega arith

pub client_room : (f : Form) (sh : Shape) (s : List ℕ) (d : ℕ) → d < max_clients → clients_least f sh ≤ length s → client_offset f d + kept_client f ≤ length s
client_room f sh s d h l = let e = client_end f sh d h in omega arith

pub client_wide : (f : Form) (s : List ℕ) (d : ℕ) → client_offset f d + kept_client f ≤ length s → length (client_in f s d) ≡ client_width
unfolding client_in
client_wide f s d h = client_from_wide f _ (length-take-le (kept_client f) (drop (client_offset f d) s) (rw length-drop (omega arith)))

-- what stands in front of them stays
pub front_with : (f : Form) (s : List ℕ) (d : ℕ) (c : Client) → client_offset f d + kept_client f ≤ length s → (i : ℕ) → i < header → get_or (with_client f s d c) i 0 ≡ get_or s i 0
unfolding with_client
front_with f s d c h i l = get_or_before s (client_offset f d) (client_to f c) (omega arith) i 0 (omega arith)

module _ (f : Form) (s : List ℕ) (d : ℕ) (c : Client) (w : length c ≡ client_width) (room : client_offset f d + kept_client f ≤ length s) where
  start : client_offset f d ≤ length s
  start = omega arith

  kept_wide : length (client_to f c) ≡ kept_client f
  kept_wide = client_to_wide f c w

  pub client_same : client_in f (with_client f s d c) d ≡ c
  unfolding client_in with_client
  client_same =
      rw (drop_of_written s (client_offset f d) (client_to f c) start)
      (ap (client_from f) (take_at (client_to f c) (drop ((client_offset f d) + length (client_to f c)) s) (kept_client f) kept_wide) ∙ client_back f c w)

  -- an earlier part of the memory
  part_before : (j n : ℕ) → j + n ≤ client_offset f d → take n (drop j (written s (client_offset f d) (client_to f c))) ≡ take n (drop j s)
  part_before j n h =
      let e : j + n - j ≡ n = omega arith in
      let a : (l : List ℕ) → take n (drop j l) ≡ drop j (take (j + n) l) = λ l. rw (drop_take j (j + n) l, e) in
      a (written s (client_offset f d) (client_to f c)) ∙ ap (drop j) (take_written s (client_offset f d) (client_to f c) start (j + n) h) ∙ sym (a s)

  pub client_other : (e : ℕ) → (e ≡ d → ⊥) → client_in f (with_client f s d c) e ≡ client_in f s e
  unfolding client_in with_client
  client_other e ne =
      by_test (ltb e d)
      (λ t. let z : e < d = ltb-true e d t in let y : e * kept_client f + kept_client f ≤ d * kept_client f = slot (kept_client f) d e z in
      ap (client_from f) (part_before (client_offset f e) (kept_client f) (omega arith)))
      (λ t. let z : d ≤ e = ltb-false e d t in let k : d < e = omega arith in let y : d * kept_client f + kept_client f ≤ e * kept_client f = slot (kept_client f) e d k in
      let l = kept_wide in
      ap (λ (x : List ℕ). client_from f (take (kept_client f) x)) (drop_written s (client_offset f d) (client_to f c) start (client_offset f e) (omega arith)))

  pub columns_with : (shape_in (with_client f s d c)).columns ≡ (shape_in s).columns
  columns_with = front_with f s d c room columns_offset (omega arith)

  pub length_with : length (with_client f s d c) ≡ length s
  unfolding with_client
  length_with = let l = kept_wide in length_written s (client_offset f d) (client_to f c) (omega arith)

-- nothing past the least length is altered
pub past_client : (f : Form) (sh : Shape) (s : List ℕ) (d : ℕ) (c : Client) → length c ≡ client_width → d < max_clients → clients_least f sh ≤ length s
    → drop (clients_least f sh) (with_client f s d c) ≡ drop (clients_least f sh) s
unfolding with_client
past_client f sh s d c w h l =
    let a = client_to_wide f c w in
    let b = client_end f sh d h in
    drop_written s (client_offset f d) (client_to f c) (omega arith) (clients_least f sh) (omega arith)
