-- Laws of what is read of one client: idleness, entry, range, key, list's length. Leans on rules and on the laws of ClientMemory. Assumes nothing.
use Rattle.std.proofs.Common.{◌≡◌, refl, sym, ap, ◌∙◌, Bool, true, false, List, [], ◌∷◌, ℕ, suc, ◌+◌, ◌-◌, ◌/◌, ◌%◌, ◌≤◌, ◌<◌, eqb, ltb, length, get_or, take, drop, set, replicate, length-set, length-drop, length-take-le, get_or-take, get_or-drop, drop-cons, drop-drop, arith}
use native.Mathlib.Numerals.{add-one}
use Rattle.laws.proofs.ListLaws.{below_next, below_not}
use lib.Seq.{take_all, take-take, take-set-le}
use Rattle.lists.specs.Lists.{same, padded, all_below}
use Rattle.laws.proofs.WrittenLaws.{drop_take}
use Rattle.rules.specs.Answers.{key_in, length_in, is_count, most_in, is_long}
use Rattle.rules.specs.Client.{Client, entry_of, is_idle, idle, range_at}
use Rattle.rules.specs.Memory.{current, mem, client_in}
use Rattle.rules.specs.Refusals.{client, all_idle}
use Rattle.query.specs.declared.Range.{Range}
use Rattle.query.specs.declared.Range.TheVariants.{None, Between}
use Rattle.query.specs.Range.{is_ranged}
use Rattle.query.specs.Encoding.{key_width, count_bit, counts_in, range_unit, lowest_offset, highest_offset, range_of, range_in, unranged, bare_key, is_key}
use Rattle.query.specs.Shape.{Shape, max_columns}
use Rattle.rules.specs.Layout.{max_records, max_clients, max_list, entry_width, entry_offset, client_width, client_offset, held_values_offset, held_length_offset}
use Rattle.columns.specs.KeyContracts.{query_width}
use Rattle.columns.proofs.KeyLoops.{bare_first}
use Rattle.clients.specs.ClientContracts.{idle_at}
use Rattle.clients.proofs.ClientMemory.{part_at}

-- ---- the client's part of the memory, and the entry in it
pub client_part : (s : List ℕ) (d at : ℕ) → at ≡ client_offset current d → take (at + client_width - at) (drop at s) ≡ client_in current s d
unfolding client_in
client_part s d at e =
    let m : at + client_width - at ≡ client_width = omega arith in
    rw (m, e)

pub entry_part : (c : Client) → take (length c - entry_offset) (drop entry_offset c) ≡ entry_of c
unfolding entry_of
entry_part c = take_all (length c - entry_offset) (drop entry_offset c) (rw length-drop (omega arith))

-- ---- idleness
-- all numbers of a client are 0
pub idle_read : (c : Client) → length c ≡ client_width → same c (replicate (length c) 0) ≡ is_idle c
unfolding is_idle idle
idle_read c w = rw w

-- the search for a busy one: r says whether client d is idle
module _ (s : List ℕ) (d : ℕ) where
  pub idle_next : (r : Bool) → r ≡ is_idle (client_in current s d) → r ≡ true → all_below d (idle_at s) ≡ true → all_below (d + 1) (idle_at s) ≡ true
  unfolding idle_at
  idle_next r e h k = below_next d (idle_at s) k (sym e ∙ h)

  pub idle_stops : (r : Bool) (n : ℕ) → r ≡ is_idle (client_in current s d) → r ≡ false → d < n → false ≡ all_below n (idle_at s)
  unfolding idle_at
  idle_stops r n e h k = sym (below_not n (idle_at s) d k (sym e ∙ h))

-- the rules' test of all clients
pub all_idle_law : (tb nd an cl : List ℕ) → all_idle (mem tb nd an cl) ≡ all_below max_clients (idle_at cl)
unfolding all_idle idle_at client
all_idle_law tb nd an cl = refl

-- ---- the range, and the query's key
pub ends_read : (e : List ℕ) → range_of (get_or e 0 0 / range_unit) (get_or e lowest_offset 0) (get_or e highest_offset 0) ≡ range_in (key_in e)
unfolding range_in key_in
ends_read e =
    rw (get_or-take key_width e 0 0 (omega arith), get_or-take key_width e lowest_offset 0 (omega arith), get_or-take key_width e highest_offset 0 (omega arith))

-- without what is wanted and without its range: its marks, and behind them its query's numbers, 0 for the ends
bare_seven : (n a b c d l h : ℕ) (g : Range) → range_in (n ∷ a ∷ b ∷ c ∷ d ∷ l ∷ h ∷ []) ≡ g
    → bare_key (n ∷ a ∷ b ∷ c ∷ d ∷ l ∷ h ∷ []) ≡ (n % count_bit) ∷ padded (key_width - 1) (take (query_width g) (a ∷ b ∷ c ∷ d ∷ l ∷ h ∷ []))
unfolding bare_key unranged query_width is_ranged padded
bare_seven n a b c d l h None e = rw e
bare_seven n a b c d l h (Between i x y) e = rw e

pub bare_rest : (key : List ℕ) → length key ≡ key_width → bare_key key ≡ get_or (bare_key key) 0 0 ∷ padded (key_width - 1) (take (query_width (range_in key)) (drop 1 key))
bare_rest (n ∷ a ∷ b ∷ c ∷ d ∷ l ∷ h ∷ []) e =
    let key : List ℕ = n ∷ a ∷ b ∷ c ∷ d ∷ l ∷ h ∷ [] in
    bare_seven n a b c d l h (range_in key) refl
    ∙ ap (λ (m : ℕ). m ∷ padded (key_width - 1) (take (query_width (range_in key)) (drop 1 key))) (bare_first n (a ∷ b ∷ c ∷ d ∷ l ∷ h ∷ []))
bare_rest [] e = absurd (omega arith)
bare_rest (n ∷ []) e = absurd (omega arith)
bare_rest (n ∷ a ∷ []) e = absurd (omega arith)
bare_rest (n ∷ a ∷ b ∷ []) e = absurd (omega arith)
bare_rest (n ∷ a ∷ b ∷ c ∷ []) e = absurd (omega arith)
bare_rest (n ∷ a ∷ b ∷ c ∷ d ∷ []) e = absurd (omega arith)
bare_rest (n ∷ a ∷ b ∷ c ∷ d ∷ l ∷ []) e = absurd (omega arith)
bare_rest (n ∷ a ∷ b ∷ c ∷ d ∷ l ∷ h ∷ x ∷ r) e = absurd (omega arith)

-- its first four values are the key's
values_unranged : (g : Range) (l : List ℕ) → take max_columns (drop 1 (unranged g l)) ≡ take max_columns (drop 1 l)
unfolding unranged
values_unranged None l = refl
values_unranged (Between i x y) [] = refl
values_unranged (Between i x y) (m ∷ vs) = take-set-le max_columns (set vs 4 0) 5 0 (omega arith) ∙ take-set-le max_columns vs 4 0 (omega arith)

pub bare_values : (key : List ℕ) → take max_columns (drop 1 (bare_key key)) ≡ take max_columns (drop 1 key)
unfolding bare_key
bare_values [] = values_unranged (range_in []) []
bare_values (x ∷ key) = values_unranged (range_in (x ∷ key)) ((x % count_bit) ∷ key)

pub length_bare : (key : List ℕ) → length (bare_key key) ≡ length key
unfolding bare_key unranged
length_bare key = go (range_in key) (set key 0 (get_or key 0 0 % count_bit)) ∙ length-set key 0 (get_or key 0 0 % count_bit)
  where
    go : (g : Range) (l : List ℕ) → length (unranged g l) ≡ length l
    go None l = refl
    go (Between i x y) l = length-set (set l lowest_offset 0) highest_offset 0 ∙ length-set l lowest_offset 0

bare_same : (key : List ℕ) → length key ≡ key_width → get_or key 0 0 % count_bit ≡ get_or (bare_key key) 0 0
bare_same [] l = absurd (omega arith)
bare_same (x ∷ key) l = bare_first x key

-- an entry's first number, and a client's
key_first : (e : List ℕ) → get_or e 0 0 ≡ get_or (key_in e) 0 0
unfolding key_in
key_first e = sym (get_or-take key_width e 0 0 (omega arith))

pub first_read : (c : Client) → get_or c entry_offset 0 ≡ get_or (key_in (entry_of c)) 0 0
unfolding entry_of
first_read c = sym (get_or-drop entry_offset c 0 0) ∙ key_first (drop entry_offset c)

module _ (e : List ℕ) (w : length e ≡ entry_width) where
  key_long : length (key_in e) ≡ key_width
  unfolding key_in
  key_long = length-take-le key_width e (omega arith)

  -- m of the numbers behind it
  behind_first : (m : ℕ) → m ≤ key_width - 1 → take (1 + m - 1) (drop 1 e) ≡ take m (drop 1 (key_in e))
  unfolding key_in
  behind_first m few =
      let z : 1 + m - 1 ≡ m = omega arith in
      rw (z, drop_take 1 key_width e) (sym (take-take m (key_width - 1) (drop 1 e) few))

-- the key's numbers behind its first, from the client's; and the part of a memory that holds so many of them
key_rest : (c : Client) → drop 1 (key_in (entry_of c)) ≡ take (key_width - 1) (drop held_values_offset c)
unfolding key_in entry_of
key_rest c = drop_take 1 key_width (drop entry_offset c) ∙ ap (take (key_width - 1)) (drop-drop 1 entry_offset c)

pub rest_read : (s : List ℕ) (d n : ℕ) → n ≤ key_width - 1
    → take (client_offset current d + held_values_offset + n - (client_offset current d + held_values_offset)) (drop (client_offset current d + held_values_offset) s)
    ≡ take n (drop 1 (key_in (entry_of (client_in current s d))))
rest_read s d n h =
    let m : client_offset current d + held_values_offset + n - (client_offset current d + held_values_offset) ≡ n = omega arith in
    rw m (sym (part_at s d held_values_offset n (omega arith)) ∙ sym (ap (take n) (key_rest (client_in current s d)) ∙ take-take n (key_width - 1) (drop held_values_offset (client_in current s d)) h))

-- four numbers, one after another
next_one : (s : List ℕ) (i j n : ℕ) → i < length s → i + 1 ≡ j → get_or s i 0 ∷ take n (drop j s) ≡ take (suc n) (drop i s)
next_one s i j n h e = sym (ap (take (suc n)) (drop-cons s i 0 h) ∙ ap (λ (x : ℕ). get_or s i 0 ∷ take n (drop x s)) (sym (add-one i) ∙ e))

four_at : (s : List ℕ) (i : ℕ) → i + 3 < length s
    → (get_or s i 0 ∷ get_or s (i + 1) 0 ∷ get_or s (i + 2) 0 ∷ get_or s (i + 3) 0 ∷ []) ≡ take 4 (drop i s)
four_at s i h =
    ap (λ (l : List ℕ). get_or s i 0 ∷ get_or s (i + 1) 0 ∷ get_or s (i + 2) 0 ∷ l) (next_one s (i + 3) (i + 3 + 1) 0 h refl)
    ∙ ap (λ (l : List ℕ). get_or s i 0 ∷ get_or s (i + 1) 0 ∷ l) (next_one s (i + 2) (i + 3) 1 (omega arith) (omega arith))
    ∙ ap (λ (l : List ℕ). get_or s i 0 ∷ l) (next_one s (i + 1) (i + 2) 2 (omega arith) (omega arith))
    ∙ next_one s i (i + 1) 3 (omega arith) refl

-- what is read of a client's entry: its marks n, what it wants, its range g, and the m numbers behind its first that are its query's
module _ (c : Client) (e : List ℕ) (own : e ≡ entry_of c) (w : length e ≡ entry_width) where
  pub marks_read : (n : ℕ) → ((vs : List ℕ) → n ≡ get_or (bare_key (get_or e 0 0 ∷ vs)) 0 0) → n ≡ get_or (bare_key (key_in (entry_of c))) 0 0
  marks_read n f =
      f [] ∙ sym (bare_first (get_or e 0 0) []) ∙ ap (λ (x : ℕ). x % count_bit) (key_first e) ∙ bare_same (key_in e) (key_long e w)
      ∙ ap (λ (l : List ℕ). get_or (bare_key (key_in l)) 0 0) own

  pub counts_read : (r : Bool) → ((vs : List ℕ) → r ≡ counts_in (get_or e 0 0 ∷ vs)) → r ≡ is_count (entry_of c)
  unfolding is_count counts_in
  counts_read r f = f [] ∙ ap (λ (x : ℕ). eqb (x / count_bit % 2) 1) (key_first e) ∙ ap is_count own

  -- its first four values, one by one
  pub four_read : (get_or e 1 0 ∷ get_or e 2 0 ∷ get_or e 3 0 ∷ get_or e 4 0 ∷ []) ≡ take max_columns (drop 1 (key_in (entry_of c)))
  four_read = four_at e 1 (omega arith) ∙ behind_first e w 4 (omega arith) ∙ ap (λ (l : List ℕ). take max_columns (drop 1 (key_in l))) own

  module _ (g : Range) (r : g ≡ range_in (key_in e)) where
    pub range_read : g ≡ range_at c
    unfolding range_at
    range_read = r ∙ ap (λ (l : List ℕ). range_in (key_in l)) own

    module _ (m : ℕ) (h : m ≡ query_width g) (few : m ≤ key_width - 1) where
      pub values_read : max_columns ≤ m → take max_columns (take (1 + m - 1) (drop 1 e)) ≡ take max_columns (drop 1 (key_in (entry_of c)))
      values_read l = rw (behind_first e w m few, own) (take-take max_columns m (drop 1 (key_in (entry_of c))) l)

      pub key_read : (sh : Shape) (n : ℕ) → ((vs : List ℕ) → n ≡ get_or (bare_key (get_or e 0 0 ∷ vs)) 0 0)
          → is_key sh (n ∷ padded (key_width - 1) (take (1 + m - 1) (drop 1 e))) ≡ is_key sh (bare_key (key_in (entry_of c)))
      key_read sh n f =
          ap (λ (l : List ℕ). is_key sh (n ∷ padded (key_width - 1) l)) (behind_first e w m few)
          ∙ ap (is_key sh) (rw (marks_read n f, h, r, own) (sym (bare_rest (key_in (entry_of c)) (rw own at (key_long e w)))))

-- ---- the list's length, or the count
pub length_read : (c : Client) → get_or c held_length_offset 0 ≡ length_in (entry_of c)
unfolding length_in entry_of
length_read c = sym (get_or-drop 5 c 7 0)

-- it is tested by what the entry is: a count, or a list
module _ (c : Client) (n : ℕ) (e : n ≡ get_or c held_length_offset 0) (counts : Bool) (f : counts ≡ is_count (entry_of c)) where
  pub long_count : counts ≡ true → ltb max_records n ≡ is_long (entry_of c)
  unfolding is_long most_in
  long_count h = rw (← f, h) (ap (ltb max_records) (e ∙ length_read c))

  pub long_list : counts ≡ false → ltb max_list n ≡ is_long (entry_of c)
  unfolding is_long most_in
  long_list h = rw (← f, h) (ap (ltb max_list) (e ∙ length_read c))
