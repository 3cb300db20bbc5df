-- Laws of the memories, in both forms: how many entries each holds and how wide they are, that what is written is read back, how many there are
-- then, how long the memory is, and that nothing is altered past where its last entry ends. How entries stand in a memory is opened here, and
-- in the crate of that memory. Those of the clients stand in ClientLaws. Leans on Memory and on the laws of entries and parts. Assumes nothing.
use mathlib.Core.Path.{◌≡◌, refl, sym, ap, ◌∙◌}
use mathlib.Core.Logic.{inl, inr}
use mathlib.Core.List.{List, map}
use Prim.Native.Nat.{ℕ, ◌+◌, ◌-◌, ◌*◌, ◌/◌, ◌%◌, ◌≤◌}
use native.Mathlib.Nat.{mul-le-mul_right}
use native.Mathlib.Omega.{arith}
use lib.ListN.{length, get_or, drop, set, length-set}
use lib.Seq.{drop-drop, drop-set-lt, get_or-set_same, get_or-set_other}
use Rattle.lists.specs.Lists.{header, entries_in, with_entries, kept_in, with_kept, width_of, radix}
use Rattle.laws.proofs.RowLaws.{Wide}
use Rattle.laws.proofs.EntryLaws.{length_entries, wide_entries, entries_header, entries_with, length_with, count_with, past_with}
use Rattle.laws.proofs.PartLaws.{Clear, Apart, length_each, wide_each, back_each, length_kept, kept_header, wide_kept, length_with_kept, count_with_kept, kept_with, past_with_kept}
use Rattle.laws.proofs.HalfLaws.{length_halves_at, length_wholes_at, wholes_at_halves_at}
use Rattle.query.specs.Shape.{Form, narrow, wide, Shape, max_columns}
use Rattle.rules.specs.Layout.{max_records, max_nodes, max_answers, table_least, nodes_least, answers_least, floor_offset, upper_floor_offset}
use Rattle.rules.specs.Layout.{node_width, node_parts, nodes_end, kept_node, revisions_offset, look_room, entry_width, kept_entry, answer_parts, answers_end}
use Rattle.rules.specs.Table.{Table}
use Rattle.rules.specs.Nodes.{Store}
use Rattle.rules.specs.Answers.{Entry}
use Rattle.rules.specs.Memory.{records_in, with_records, wide_floor, with_wide_floor, node_from, node_to, store_in, with_store, entry_from, entry_to, answers_in, with_answers}
use Rattle.rules.proofs.CheckLaws.{node_back, from_wide, to_wide}
use Rattle.rules.proofs.NodeSizes.{Sized}

-- ---- Records
pub length_records : (k : ℕ) (s : List ℕ) → length (records_in k s) ≡ get_or s 0 0
unfolding records_in
length_records k s = length_entries 0 k s

records_room : (k n : ℕ) → k ≤ max_columns → n ≤ max_records → header + n * k ≤ table_least
records_room k n h g = let a : n * k ≤ max_records * k = mul-le-mul_right k g in omega arith

module _ (k : ℕ) (s : List ℕ) (few : k ≤ max_columns) (long : table_least ≤ length s) (count : get_or s 0 0 ≤ max_records) where
  records_fit : header + get_or s 0 0 * k ≤ table_least
  records_fit = records_room k (get_or s 0 0) few count

  pub wide_records : Wide k (records_in k s)
  unfolding records_in
  wide_records = let a = records_fit in wide_entries 0 k s (omega arith)

  module _ (t : Table) (wt : Wide k t) (most : length t ≤ max_records) where
    room_records : header + length t * k ≤ table_least
    room_records = records_room k (length t) few most

    pub records_with : records_in k (with_records k s t) ≡ t
    unfolding records_in with_records
    records_with = let a = records_fit in let b = room_records in entries_with 0 k s t wt (omega arith) (omega arith) (omega arith)

    pub length_with_records : length (with_records k s t) ≡ length s
    unfolding with_records
    length_with_records = let a = records_fit in let b = room_records in length_with 0 k s t wt (omega arith) (omega arith)

    pub count_records : get_or (with_records k s t) 0 0 ≡ length t
    unfolding with_records
    count_records = let a = records_fit in let b = room_records in count_with 0 k s t wt (omega arith) (omega arith) (omega arith)

    pub past_records : drop table_least (with_records k s t) ≡ drop table_least s
    unfolding with_records
    past_records = let a = records_fit in let b = room_records in past_with 0 k s t wt (omega arith) (omega arith) table_least (omega arith) a b

-- ---- The stretches of the wide form do not meet
pub apart_nodes : Apart max_nodes (nodes_end wide) node_parts
unfolding Apart Clear
apart_nodes = (
  (omega arith, omega arith),
  (
    (inl (omega arith), (inl (omega arith), tt)),
    ((omega arith, omega arith), ((inl (omega arith), tt), ((omega arith, omega arith), (tt, tt)))),
  ),
)

pub apart_answers : Apart max_answers (answers_end wide) answer_parts
unfolding Apart Clear
apart_answers = (
  (omega arith, omega arith),
  (
    (inr (omega arith), (inl (omega arith), tt)),
    ((omega arith, omega arith), ((inl (omega arith), tt), ((omega arith, omega arith), (tt, tt)))),
  ),
)

-- past one place, so past a later one
past_more : (n k : ℕ) (s t : List ℕ) → n ≤ k → drop n t ≡ drop n s → drop k t ≡ drop k s
past_more n k s t h e = cut t ∙ ap (drop (k - n)) e ∙ sym (cut s)
  where
    cut : (u : List ℕ) → drop k u ≡ drop (k - n) (drop n u)
    cut u = let f : n + (k - n) ≡ k = omega arith in ap (λ (z : ℕ). drop z u) (sym f) ∙ sym (drop-drop (k - n) n u)

-- ---- Nodes
pub length_nodes : (f : Form) (s : List ℕ) → length (store_in f s).nodes ≡ get_or s 1 0
unfolding store_in
length_nodes narrow s = length_entries 1 node_width s
length_nodes wide s = length_each node_from (kept_in 1 node_parts s) ∙ length_kept 1 node_parts s

pub wide_nodes : (f : Form) (s : List ℕ) → nodes_least f ≤ length s → get_or s 1 0 ≤ max_nodes → Wide node_width (store_in f s).nodes
unfolding store_in width_of
wide_nodes narrow s l h = wide_entries 1 node_width s (omega arith)
wide_nodes wide s l h =
    wide_each (kept_node wide) node_width node_from from_wide (kept_in 1 node_parts s) (wide_kept max_nodes (nodes_end wide) 1 node_parts apart_nodes s (omega arith) h)

pub sized_in : (f : Form) (s : List ℕ) → nodes_least f ≤ length s → get_or s 1 0 ≤ max_nodes → Sized (store_in f s)
sized_in f s l h = let n = length_nodes f s in record { wide = wide_nodes f s l h; few = omega arith }

-- the floor's halves
floor_back : (s : List ℕ) (x : ℕ) → header ≤ length s → wide_floor (with_wide_floor s x) ≡ x
unfolding wide_floor with_wide_floor
floor_back s x h =
    let t : List ℕ = set s floor_offset (x % radix) in
    let l : length t ≡ length s = length-set s floor_offset (x % radix) in
    let a : get_or (set t upper_floor_offset (x / radix)) floor_offset 0 ≡ x % radix =
    get_or-set_other t upper_floor_offset floor_offset (x / radix) 0 (λ e. omega arith) ∙ get_or-set_same s floor_offset (x % radix) 0 (omega arith) in
    let b : get_or (set t upper_floor_offset (x / radix)) upper_floor_offset 0 ≡ x / radix = get_or-set_same t upper_floor_offset (x / radix) 0 (omega arith) in
    rw (a, b) (omega arith)

floor_count : (s : List ℕ) (x : ℕ) → get_or (with_wide_floor s x) 1 0 ≡ get_or s 1 0
unfolding with_wide_floor
floor_count s x =
    get_or-set_other (set s floor_offset (x % radix)) upper_floor_offset 1 (x / radix) 0 (λ e. omega arith) ∙ get_or-set_other s floor_offset 1 (x % radix) 0 (λ e. omega arith)

floor_length : (s : List ℕ) (x : ℕ) → length (with_wide_floor s x) ≡ length s
unfolding with_wide_floor
floor_length s x = length-set (set s floor_offset (x % radix)) upper_floor_offset (x / radix) ∙ length-set s floor_offset (x % radix)

floor_past : (n : ℕ) (s : List ℕ) (x : ℕ) → header ≤ n → drop n (with_wide_floor s x) ≡ drop n s
unfolding with_wide_floor
floor_past n s x h = drop-set-lt n (set s floor_offset (x % radix)) upper_floor_offset (x / radix) (omega arith) ∙ drop-set-lt n s floor_offset (x % radix) (omega arith)

floor_beside : (s : List ℕ) (x : ℕ) → kept_in 1 node_parts (with_wide_floor s x) ≡ kept_in 1 node_parts s
unfolding with_wide_floor
floor_beside s x =
    kept_header max_nodes (nodes_end wide) 1 node_parts (set s floor_offset (x % radix)) upper_floor_offset (x / radix) apart_nodes (omega arith) (λ e. omega arith)
    ∙ kept_header max_nodes (nodes_end wide) 1 node_parts s floor_offset (x % radix) apart_nodes (omega arith) (λ e. omega arith)

-- the nodes as they are kept in the wide form, written
module _ (s : List ℕ) (long : nodes_least wide ≤ length s) (count : get_or s 1 0 ≤ max_nodes) (t : Store) (z : Sized t) where
  kept_nodes : List (List ℕ)
  kept_nodes = map node_to t.nodes

  kept_wide : Wide (width_of node_parts) kept_nodes
  unfolding kept_nodes width_of
  kept_wide = wide_each node_width (kept_node wide) node_to to_wide t.nodes z.wide

  kept_few : length kept_nodes ≤ max_nodes
  unfolding kept_nodes
  kept_few = let l = length_each node_to t.nodes in let k = z.few in omega arith

  nodes_there : length (with_kept 1 node_parts s kept_nodes) ≡ length s
  nodes_there = length_with_kept max_nodes (nodes_end wide) 1 node_parts apart_nodes s (omega arith) count kept_nodes kept_wide kept_few

  nodes_read : kept_in 1 node_parts (with_kept 1 node_parts s kept_nodes) ≡ kept_nodes
  nodes_read = kept_with max_nodes (nodes_end wide) 1 node_parts apart_nodes s (omega arith) count kept_nodes kept_wide kept_few (omega arith) (omega arith)

  nodes_count : get_or (with_kept 1 node_parts s kept_nodes) 1 0 ≡ length kept_nodes
  nodes_count = count_with_kept max_nodes (nodes_end wide) 1 node_parts apart_nodes s (omega arith) count kept_nodes kept_wide kept_few (omega arith) (omega arith)

  nodes_past : drop (nodes_least wide) (with_kept 1 node_parts s kept_nodes) ≡ drop (nodes_least wide) s
  nodes_past =
      past_more (nodes_end wide) (nodes_least wide) s (with_kept 1 node_parts s kept_nodes) (omega arith)
      (past_with_kept max_nodes (nodes_end wide) 1 node_parts apart_nodes s (omega arith) count kept_nodes kept_wide kept_few (omega arith) (omega arith))

-- what is written is read back
pub store_with : (f : Form) (s : List ℕ) → nodes_least f ≤ length s → get_or s 1 0 ≤ max_nodes → (t : Store) → Sized t → store_in f (with_store f s t) ≡ t
unfolding store_in with_store kept_nodes
store_with narrow s l h t z =
    let n = z.few in
    let a : length (with_entries 1 node_width s t.nodes) ≡ length s = length_with 1 node_width s t.nodes z.wide (omega arith) (omega arith) in
    let b : get_or (set (with_entries 1 node_width s t.nodes) 0 t.floor) 0 0 ≡ t.floor = get_or-set_same (with_entries 1 node_width s t.nodes) 0 t.floor 0 (omega arith) in
    let c : entries_in 1 node_width (set (with_entries 1 node_width s t.nodes) 0 t.floor) ≡ t.nodes =
    entries_header 1 node_width (with_entries 1 node_width s t.nodes) 0 t.floor (omega arith) (λ e. omega arith)
    ∙ entries_with 1 node_width s t.nodes z.wide (omega arith) (omega arith) (omega arith) in
    λ i. record { floor = b i; nodes = c i }
store_with wide s l h t z =
    let a = nodes_there s l h t z in
    let b = floor_back (with_kept 1 node_parts s (kept_nodes s l h t z)) t.floor (omega arith) in
    let c : map node_from (kept_in 1 node_parts (with_wide_floor (with_kept 1 node_parts s (map node_to t.nodes)) t.floor)) ≡ t.nodes =
    ap (map node_from) (floor_beside (with_kept 1 node_parts s (map node_to t.nodes)) t.floor ∙ nodes_read s l h t z) ∙ back_each node_width node_from node_to node_back t.nodes z.wide in
    λ i. record { floor = b i; nodes = c i }

pub length_with_store : (f : Form) (s : List ℕ) → nodes_least f ≤ length s → get_or s 1 0 ≤ max_nodes → (t : Store) → Sized t → length (with_store f s t) ≡ length s
unfolding with_store kept_nodes
length_with_store narrow s l h t z =
    let n = z.few in length-set (with_entries 1 node_width s t.nodes) 0 t.floor ∙ length_with 1 node_width s t.nodes z.wide (omega arith) (omega arith)
length_with_store wide s l h t z = floor_length (with_kept 1 node_parts s (map node_to t.nodes)) t.floor ∙ nodes_there s l h t z

pub count_nodes : (f : Form) (s : List ℕ) → nodes_least f ≤ length s → get_or s 1 0 ≤ max_nodes → (t : Store) → Sized t → get_or (with_store f s t) 1 0 ≡ length t.nodes
unfolding with_store kept_nodes
count_nodes narrow s l h t z =
    let n = z.few in
    get_or-set_other (with_entries 1 node_width s t.nodes) 0 1 t.floor 0 (λ e. omega arith)
    ∙ count_with 1 node_width s t.nodes z.wide (omega arith) (omega arith) (omega arith)
count_nodes wide s l h t z = floor_count (with_kept 1 node_parts s (map node_to t.nodes)) t.floor ∙ nodes_count s l h t z ∙ length_each node_to t.nodes

pub past_store : (f : Form) (s : List ℕ) → nodes_least f ≤ length s → get_or s 1 0 ≤ max_nodes → (t : Store) → Sized t → drop (nodes_least f) (with_store f s t) ≡ drop (nodes_least f) s
unfolding with_store kept_nodes
past_store narrow s l h t z =
    let n = z.few in
    drop-set-lt (nodes_least narrow) (with_entries 1 node_width s t.nodes) 0 t.floor (omega arith)
    ∙ past_with 1 node_width s t.nodes z.wide (omega arith) (omega arith) (nodes_least narrow) (omega arith) (omega arith) (omega arith)
past_store wide s l h t z = floor_past (nodes_least wide) (with_kept 1 node_parts s (map node_to t.nodes)) t.floor (omega arith) ∙ nodes_past s l h t z

-- ---- Filed answers
pub answers_room : (f : Form) (sh : Shape) (n : ℕ) → answers_least f sh ≤ n → answers_end f ≤ n
answers_room narrow sh n h = omega arith
answers_room wide sh n h = omega arith

entry_from_wide : (e : List ℕ) → length e ≡ kept_entry wide → length (entry_from e) ≡ entry_width
unfolding entry_from
entry_from_wide e h = let a = length_wholes_at revisions_offset look_room e (omega arith) in omega arith

entry_to_wide : (e : Entry) → length e ≡ entry_width → length (entry_to e) ≡ kept_entry wide
unfolding entry_to
entry_to_wide e h = length_halves_at revisions_offset _ e (omega arith) ∙ rw h refl

entry_back : (e : Entry) → length e ≡ entry_width → entry_from (entry_to e) ≡ e
unfolding entry_from entry_to
entry_back e h = wholes_at_halves_at revisions_offset look_room e (omega arith)

pub length_answers : (f : Form) (s : List ℕ) → length (answers_in f s) ≡ get_or s 0 0
unfolding answers_in
length_answers narrow s = length_entries 0 entry_width s
length_answers wide s = length_each entry_from (kept_in 0 answer_parts s) ∙ length_kept 0 answer_parts s

pub wide_answers : (f : Form) (s : List ℕ) → answers_end f ≤ length s → get_or s 0 0 ≤ max_answers → Wide entry_width (answers_in f s)
unfolding answers_in width_of
wide_answers narrow s l h = wide_entries 0 entry_width s (omega arith)
wide_answers wide s l h =
    wide_each (kept_entry wide) entry_width entry_from entry_from_wide (kept_in 0 answer_parts s) (wide_kept max_answers (answers_end wide) 0 answer_parts apart_answers s l h)

-- as they are kept in the wide form, written
module _ (s : List ℕ) (long : answers_end wide ≤ length s) (count : get_or s 0 0 ≤ max_answers) (es : List Entry) (w : Wide entry_width es) (few : length es ≤ max_answers) where
  kept_entries : Wide (width_of answer_parts) (map entry_to es)
  unfolding width_of
  kept_entries = wide_each entry_width (kept_entry wide) entry_to entry_to_wide es w

  kept_most : length (map entry_to es) ≤ max_answers
  kept_most = let l = length_each entry_to es in omega arith

  answers_read : kept_in 0 answer_parts (with_kept 0 answer_parts s (map entry_to es)) ≡ map entry_to es
  answers_read = kept_with max_answers (answers_end wide) 0 answer_parts apart_answers s long count (map entry_to es) kept_entries kept_most (omega arith) (omega arith)

  answers_there : length (with_kept 0 answer_parts s (map entry_to es)) ≡ length s
  answers_there = length_with_kept max_answers (answers_end wide) 0 answer_parts apart_answers s long count (map entry_to es) kept_entries kept_most

  answers_number : get_or (with_kept 0 answer_parts s (map entry_to es)) 0 0 ≡ length (map entry_to es)
  answers_number = count_with_kept max_answers (answers_end wide) 0 answer_parts apart_answers s long count (map entry_to es) kept_entries kept_most (omega arith) (omega arith)

  answers_behind : drop (answers_end wide) (with_kept 0 answer_parts s (map entry_to es)) ≡ drop (answers_end wide) s
  answers_behind = past_with_kept max_answers (answers_end wide) 0 answer_parts apart_answers s long count (map entry_to es) kept_entries kept_most (omega arith) (omega arith)

pub answers_with : (f : Form) (s : List ℕ) → answers_end f ≤ length s → get_or s 0 0 ≤ max_answers → (es : List Entry) → Wide entry_width es → length es ≤ max_answers
    → answers_in f (with_answers f s es) ≡ es
unfolding answers_in with_answers
answers_with narrow s l h es w k = entries_with 0 entry_width s es w (omega arith) (omega arith) (omega arith)
answers_with wide s l h es w k = ap (map entry_from) (answers_read s l h es w k) ∙ back_each entry_width entry_from entry_to entry_back es w

pub length_with_answers : (f : Form) (s : List ℕ) → answers_end f ≤ length s → get_or s 0 0 ≤ max_answers → (es : List Entry) → Wide entry_width es → length es ≤ max_answers
    → length (with_answers f s es) ≡ length s
unfolding with_answers
length_with_answers narrow s l h es w k = length_with 0 entry_width s es w (omega arith) (omega arith)
length_with_answers wide s l h es w k = answers_there s l h es w k

pub count_answers : (f : Form) (s : List ℕ) → answers_end f ≤ length s → get_or s 0 0 ≤ max_answers → (es : List Entry) → Wide entry_width es → length es ≤ max_answers
    → get_or (with_answers f s es) 0 0 ≡ length es
unfolding with_answers
count_answers narrow s l h es w k = count_with 0 entry_width s es w (omega arith) (omega arith) (omega arith)
count_answers wide s l h es w k = answers_number s l h es w k ∙ length_each entry_to es

pub past_answers : (f : Form) (sh : Shape) (s : List ℕ) → answers_least f sh ≤ length s → get_or s 0 0 ≤ max_answers → (es : List Entry) → Wide entry_width es → length es ≤ max_answers
    → drop (answers_least f sh) (with_answers f s es) ≡ drop (answers_least f sh) s
unfolding with_answers
past_answers narrow sh s l h es w k = past_with 0 entry_width s es w (omega arith) (omega arith) (answers_least narrow sh) (omega arith) (omega arith) (omega arith)
past_answers wide sh s l h es w k =
    past_more (answers_end wide) (answers_least wide sh) s (with_kept 0 answer_parts s (map entry_to es)) (omega arith) (answers_behind s (omega arith) h es w k)
