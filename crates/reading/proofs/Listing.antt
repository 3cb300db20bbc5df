-- Laws of the table step: the list in the client's place for it, the client that holds it, and the step's three ends; a count, the client
-- that holds it, and the two ends of its step. Leans on rules, on ReadClient and on the laws of clients. Assumes nothing.
use mathlib.Core.Path.{◌≡◌, refl, sym, ap, ◌∙◌}
use Rattle.std.specs.Prelude.{Some, None}
use Rattle.std.proofs.lemmas.Option.{cond_some, none-some}
use mathlib.Core.Bool.{Bool, true, false}
use mathlib.Core.List.{List, []}
use Prim.Native.Nat.{ℕ, ◌+◌, ◌*◌, ◌-◌, ◌≤◌, ◌<◌}
use native.Mathlib.Nat.{add-zero}
use native.Mathlib.Omega.{arith}
use lib.Dec.{leb}
use lib.ListN.{length, take, drop, length-drop, length-take}
use lib.Seq.{take_all, length-take-le}
use borrow.Author.Tests.{le-leb, lt-leb, leb-true, leb-false}
use borrow.Rule.Slice.PartMut.{put_mid}
use Rattle.lists.specs.Lists.{written, flat, keep}
use Rattle.laws.proofs.TestLaws.{by_test}
use Rattle.laws.proofs.ListLaws.{keep_le}
use Rattle.laws.proofs.WrittenLaws.{written_nil, mid_written, length_written, written_self}
use Rattle.laws.proofs.RowLaws.{Wide, length_flat, wide_take, wide_keep}
use Rattle.query.specs.declared.Range.{Range}
use Rattle.query.specs.Query.{Query, Record, lies}
use Rattle.query.specs.Range.{within}
use Rattle.query.specs.Shape.{Shape, shape_of}
use Rattle.rules.specs.declared.Outcome.{Outcome}
use Rattle.rules.specs.declared.Outcome.TheVariants.{Accepted, Answered, Long}
use Rattle.rules.specs.Table.{list_of}
use Rattle.rules.specs.Work.{Value, of_records, of_number, list_within, value_of, may_answer, ask_in}
use Rattle.rules.specs.Answers.{length_in, is_count, list_in, is_long}
use Rattle.rules.specs.Client.{Client, steps, saw_pending, entry_of, idle, query_at, range_at, ask_at, holding}
use Rattle.rules.specs.Memory.{current, mem, shape_in, client_in, with_client, records_in}
use Rattle.rules.specs.Outcome.{result_with}
use Rattle.rules.specs.Refusals.{client}
use Rattle.rules.specs.Steps.{now_at, answered, table_result, read_result}
use Rattle.rules.specs.Layout.{max_records, max_list, list_room, client_width, client_offset, held_list_offset}
use Rattle.rules.proofs.ClientLaws.{idle_wide, list_room_law}
use Rattle.rules.proofs.ClientParts.{holding_wide}
use Rattle.rules.proofs.HoldingLaws.{Whole, holding_length, holding_list}
use Rattle.clients.specs.declared.Held.{Held}
use Rattle.clients.specs.ClientContracts.{Reader, asked_at, value_set}
use Rattle.clients.proofs.ClientMemory.{length_client, with_self, with_words, client_same, with_twice, written_inside}
use Rattle.clients.proofs.ClientChanges.{listed_steps, value_written, count_set}
use Rattle.clients.proofs.HeldLaws.{reader_counts}
use Rattle.answers.proofs.AnswerScan.{short_not}
use Rattle.table.specs.TableContracts as table
use Rattle.table.specs.TableContracts.{up_to, gathered}
use Rattle.rules.proofs.MemoryLaws.{length_records}
use Rattle.table.proofs.TableMemory.{wide_list}
use Rattle.reading.specs.ReadContracts.{looks, made, asked_for}
use Rattle.reading.proofs.ReadClient.{table_is}

-- a part that was lent and came back with v from its start on
part_written : (s : List ℕ) (at n : ℕ) (v t : List ℕ) → t ≡ written (take (at + n - at) (drop at s)) 0 v → length v ≤ n → at + n ≤ length s
    → put_mid at (at + n - at) s t ≡ written s at v
part_written s at n v t e h l =
    let m : at + n - at ≡ n = omega arith in
    let p : List ℕ = take n (drop at s) in
    let a : length p ≡ n = length-take-le n (drop at s) (rw length-drop (omega arith)) in
    let f : t ≡ written p 0 v = e ∙ rw m in
    let b : length t ≡ n = ap length f ∙ length_written p 0 v (omega arith) ∙ a in
    rw m
    (mid_written s at n t b ∙ ap (written s at) f ∙ sym (written_inside s at p 0 v (omega arith) (omega arith))
    ∙ ap (λ (x : List ℕ). written x (at + 0) v) (written_self s at n l) ∙ ap (λ (x : ℕ). written s x v) (add-zero at))

-- ---- how many there are
counted : (l : List Record) (n : ℕ) → Some n ≡ gathered l → (length l ≡ n) × (n ≤ max_list)
unfolding gathered up_to
counted l n e =
    let q = cond_some (leb (length l) max_list) (length l) n (sym e) in
    let m = leb-true (length l) max_list q.0 in
    (q.1, omega (arith, q.1))

pub list_few : (l : List Record) (n : ℕ) → Some n ≡ gathered l → n ≤ max_list
list_few l n e = (counted l n e).1

over : (l : List Record) → None ≡ gathered l → max_list < length l
unfolding gathered up_to
over l e = by_test (leb (length l) max_list) (λ z. absurd (none-some (length l) (e ∙ rw z))) (leb-false (length l) max_list)

wide_within : (k : ℕ) (s : List ℕ) (q : Query) (g : Range) → table.Fit k s → Wide k (list_within g q (records_in k s))
unfolding list_within
wide_within k s q g f = wide_keep k (within g) (list_of q (records_in k s)) (wide_list k s q f)

-- what the read gets: of a count the number alone
module _ (s clients : List ℕ) (d k : ℕ) where
  pub value_list : (asked_at clients d).counts ≡ false
      → value_of (asked_at clients d) (records_in k s) ≡ record { count = length (asked_for k s clients d); numbers = flat (asked_for k s clients d) }
  unfolding value_of of_records ask_at ask_in query_at range_at
  value_list e = rw e

  value_count : (asked_at clients d).counts ≡ true → value_of (asked_at clients d) (records_in k s) ≡ record { count = length (asked_for k s clients d); numbers = [] }
  unfolding value_of of_number ask_at ask_in query_at range_at
  value_count e = rw e

-- and what the step then leaves
pub table_at : {h : Held} {clients : List ℕ} {d : ℕ} → Reader h clients d → (s : List ℕ) (v : Value) → value_of (asked_at clients d) (records_in h.query.k s) ≡ v
    → made clients d ≡ looks clients d + 1 → (tray ns a : List ℕ)
    → read_result (mem s ns a clients) tray d (asked_at clients d) (made clients d) ≡ table_result (mem s ns a clients) tray d (asked_at clients d) v
table_at {h} {clients} {d} r s v e p tray ns a =
    table_is (mem s ns a clients) tray d (asked_at clients d) (made clients d) p
    ∙ ap (λ (x : ℕ). table_result (mem s ns a clients) tray d (asked_at clients d) (value_of (asked_at clients d) (records_in x s))) (sym r.held.columns)
    ∙ ap (table_result (mem s ns a clients) tray d (asked_at clients d)) e

module _ {h : Held} {clients : List ℕ} {d : ℕ} (r : Reader h clients d) (s : List ℕ) (f : table.Fit h.query.k s) where
  -- the list, what the read gets with it, and where it stands in the client
  abbrev list : List Record
  list = asked_for h.query.k s clients d

  abbrev got : Value
  got = record { count = length list; numbers = flat list }

  abbrev offset : ℕ
  offset = held_list_offset (shape_of h.query.k)

  wide : Wide h.query.k list
  wide = wide_within h.query.k s (query_at (shape_in clients) (client_in current clients d)) (range_at (client_in current clients d)) f

  list_short : length (flat (take max_list list)) ≤ list_room
  list_short =
      let k : ℕ = h.query.k in
      let a : length (flat (take max_list list)) ≡ length (take max_list list) * k = length_flat k (take max_list list) (wide_take k max_list list wide) in
      let b : length (take max_list list) ≤ max_list = rw length-take (omega arith) in
      rw a (list_room_law (length (take max_list list)) k b h.query.few)

  list_wide : length (flat list) ≡ length list * h.query.k
  list_wide = length_flat h.query.k list wide

  -- as many as are listed have their room
  pub list_fits : (n : ℕ) → Some n ≡ gathered list → n * h.query.k ≤ list_room
  list_fits n o = list_room_law n h.query.k (list_few list n o) h.query.few

  -- what the gathering leaves, l being the list that the code's query and range take; at: where the client's list stands
  pub gather_left : (l : List Record) (t : List ℕ) (at : ℕ) → l ≡ list → at ≡ client_offset current d + offset → t ≡ written (take (at + list_room - at) (drop at clients)) 0 (flat (take max_list l))
      → put_mid at (at + list_room - at) clients t ≡ written clients (client_offset current d + offset) (flat (take max_list list))
  gather_left l t at e a o =
      let z = r.fit.long in
      let b = r.fit.below in
      rw a (part_written clients (client_offset current d + offset) list_room (flat (take max_list list)) t (rw a at o ∙ rw e) list_short (omega arith))

  -- clients₁: what the gathering leaves
  module _ (clients₁ : List ℕ) (g : clients₁ ≡ written clients (client_offset current d + offset) (flat (take max_list list))) where
    gathered_in : Client
    gathered_in = written (client_in current clients d) offset (flat (take max_list list))

    gathered_long : length gathered_in ≡ client_width
    unfolding gathered_in
    gathered_long =
        let l : length (client_in current clients d) ≡ client_width = length_client clients d r.fit in
        let o = list_short in
        length_written (client_in current clients d) offset (flat (take max_list list)) (omega arith) ∙ l

    gathered_is : clients₁ ≡ with_client current clients d gathered_in
    unfolding gathered_in
    gathered_is =
        let v : List ℕ = flat (take max_list list) in
        let o : length v ≤ list_room = list_short in
        g ∙ ap (λ (x : List ℕ). written x (client_offset current d + offset) v) (sym (with_self clients d r.fit))
        ∙ with_words clients d r.fit (client_in current clients d) (length_client clients d r.fit) offset v (omega arith)

    pub steps_kept : made clients₁ d ≡ made clients d
    unfolding gathered_in
    steps_kept =
        ap (λ (x : List ℕ). made x d) gathered_is
        ∙ ap steps (client_same clients d r.fit gathered_in gathered_long)
        ∙ listed_steps (client_in current clients d) (shape_of h.query.k) (flat (take max_list list)) (length_client clients d r.fit)

    -- ---- the step's ends, where the read wants a list
    module _ (w : h.counts ≡ false) where
      wants_list : (asked_at clients d).counts ≡ false
      wants_list = sym (reader_counts r) ∙ w

      list_at : made clients d ≡ looks clients d + 1 → (tray ns a : List ℕ)
          → read_result (mem s ns a clients) tray d (asked_at clients d) (made clients d) ≡ table_result (mem s ns a clients) tray d (asked_at clients d) got
      list_at = table_at r s got (value_list s clients d h.query.k wants_list)

      pub table_long : None ≡ gathered list → (clients₂ : List ℕ) → clients₂ ≡ with_client current clients₁ d idle → made clients d ≡ looks clients d + 1 → (tray ns a : List ℕ)
          → result_with Long (mem s ns a clients₂) tray ≡ read_result (mem s ns a clients) tray d (asked_at clients d) (made clients d)
      unfolding table_result may_answer now_at
      table_long o clients₂ u p tray ns a =
          let z : clients₂ ≡ with_client current clients d idle = u ∙ rw gathered_is (with_twice clients d r.fit gathered_in gathered_long idle idle_wide) in
          rw (list_at p tray ns a, wants_list, lt-leb (length list) max_list (over list o), z)

      -- clients₂: the client holds the list
      module _ (n : ℕ) (o : Some n ≡ gathered list) (clients₂ : List ℕ) (u : clients₂ ≡ with_client current clients₁ d (value_set n (n * h.query.k) (shape_of h.query.k) (client_in current clients₁ d))) where
        many : length list ≡ n
        many = (counted list n o).0

        few : n ≤ max_list
        few = list_few list n o

        long_flat : length (flat list) ≡ n * h.query.k
        long_flat = list_wide ∙ ap (λ (x : ℕ). x * h.query.k) many

        room : length (flat list) ≤ list_room
        room = rw long_flat (list_fits n o)

        -- the client then
        abbrev holder : Client
        holder = holding (shape_of h.query.k) got (client_in current clients d)

        holder_long : length holder ≡ client_width
        holder_long = holding_wide (client_in current clients d) (length_client clients d r.fit) (shape_of h.query.k) got room

        held_is : clients₂ ≡ with_client current clients d holder
        held_is =
            let l = many in
            let m = few in
            let v : clients₁ ≡ written clients (client_offset current d + offset) (flat list) = g ∙ rw (take_all max_list list (omega arith)) in
            u ∙ value_written clients d r.fit clients₁ n (n * h.query.k) (shape_of h.query.k) got v many long_flat (list_fits n o)

        client_is : client_in current clients₂ d ≡ holder
        client_is = ap (λ (x : List ℕ). client_in current x d) held_is ∙ client_same clients d r.fit holder holder_long

        held_length : length_in (entry_of (client_in current clients₂ d)) ≡ length list
        held_length = ap (λ (c : Client). length_in (entry_of c)) client_is ∙ holding_length (client_in current clients d) (length_client clients d r.fit) (shape_of h.query.k) got

        held_whole : Whole (shape_of h.query.k) (is_count (entry_of (client_in current clients d))) got
        held_whole = rw (sym r.held.counts ∙ w) list_wide

        held_list : list_in (shape_of h.query.k) (entry_of (client_in current clients₂ d)) ≡ flat list
        held_list =
            ap (λ (c : Client). list_in (shape_of h.query.k) (entry_of c)) client_is
            ∙ holding_list (client_in current clients d) (length_client clients d r.fit) (shape_of h.query.k) got held_whole

        pub held_short : is_long (entry_of (client_in current clients₂ d)) ≡ false
        held_short = let l = many in let m = few in short_not (entry_of (client_in current clients₂ d)) (rw held_length (omega arith))

        not_long : leb (length list) max_list ≡ true
        not_long = let l = many in let m = few in le-leb (length list) max_list (omega arith)

        -- b: whether a look saw a mark
        module _ (p : made clients d ≡ looks clients d + 1) (tray : List ℕ) (b : Bool) (q : b ≡ saw_pending (client_in current clients d)) where
          pub table_held : b ≡ false → (ns a : List ℕ)
              → result_with Accepted (mem s ns a clients₂) tray ≡ read_result (mem s ns a clients) tray d (asked_at clients d) (made clients d)
          unfolding table_result may_answer now_at client
          table_held x ns a = rw (list_at p tray ns a, wants_list, not_long, ← q, x, held_is, r.held.columns)

          -- y, tray', clients₃: what giving the client's list returns and leaves
          pub table_given : b ≡ true → (y : Outcome) (tray' clients₃ : List ℕ) → y ≡ Answered (length_in (entry_of (client_in current clients₂ d))) false
              → tray' ≡ written tray 0 (list_in (shape_of h.query.k) (entry_of (client_in current clients₂ d))) → clients₃ ≡ with_client current clients₂ d idle → (ns a : List ℕ)
              → result_with y (mem s ns a clients₃) tray' ≡ read_result (mem s ns a clients) tray d (asked_at clients d) (made clients d)
          unfolding table_result may_answer answered now_at client
          table_given x y tray' clients₃ v t i ns a =
              let z : clients₃ ≡ with_client current clients d idle = i ∙ rw held_is (with_twice clients d r.fit holder holder_long idle idle_wide) in
              rw (list_at p tray ns a, wants_list, not_long, ← q, x, v, held_length, t, held_list, z)

-- ---- a count
pub count_most : (k : ℕ) (s : List ℕ) (q : Query) (x : Range) (n : ℕ) → table.Fit k s → n ≡ length (list_within x q (records_in k s)) → n ≤ max_records
unfolding list_of list_within
count_most k s q x n f e =
    let a = keep_le (lies q) (records_in k s) in
    let c = keep_le (within x) (keep (lies q) (records_in k s)) in
    let b = length_records k s in
    let l = f.few in
    omega arith

-- n: what was counted; b: whether a look saw a mark
module _ {h : Held} {clients : List ℕ} {d : ℕ} (r : Reader h clients d) (s : List ℕ) (n : ℕ) (g : n ≡ length (asked_for h.query.k s clients d)) (w : h.counts ≡ true)
    (p : made clients d ≡ looks clients d + 1) (clients₂ : List ℕ) (b : Bool) (q : b ≡ saw_pending (client_in current clients d)) (ns a tray : List ℕ) where
  wants_count : (asked_at clients d).counts ≡ true
  wants_count = sym (reader_counts r) ∙ w

  counted_at : read_result (mem s ns a clients) tray d (asked_at clients d) (made clients d)
      ≡ table_result (mem s ns a clients) tray d (asked_at clients d) (record { count = n; numbers = [] })
  counted_at = table_at r s (record { count = n; numbers = [] }) (value_count s clients d h.query.k wants_count ∙ rw g) p tray ns a

  -- the client holds it
  pub count_held : b ≡ false → ((sh : Shape) → clients₂ ≡ with_client current clients d (value_set n 0 sh (client_in current clients d)))
      → result_with Accepted (mem s ns a clients₂) tray ≡ read_result (mem s ns a clients) tray d (asked_at clients d) (made clients d)
  unfolding table_result may_answer now_at client
  count_held x u =
      let v : clients₂ ≡ with_client current clients d (holding (shape_in clients) (record { count = n; numbers = [] }) (client_in current clients d)) =
      u (shape_in clients) ∙ ap (with_client current clients d) (count_set (client_in current clients d) n (shape_in clients) (record { count = n; numbers = [] }) refl refl) in
      rw (counted_at, wants_count, ← q, x, v)

  -- it is answered with, and the tray stays
  pub count_given : b ≡ true → clients₂ ≡ with_client current clients d idle
      → result_with (Answered n false) (mem s ns a clients₂) tray ≡ read_result (mem s ns a clients) tray d (asked_at clients d) (made clients d)
  unfolding table_result may_answer answered now_at client
  count_given x u = rw (counted_at, wants_count, ← q, x, u, written_nil tray 0)
