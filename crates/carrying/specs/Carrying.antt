-- Document 02, S-8: a hall carried over into four fresh memories, cleared first; when the carrying is refused; and the claim about the calls that
-- come after it. Leans on rules and on Alike. Definitions only. Assumes nothing.
use Rattle.std.specs.Prelude.{◌≡◌, List, Bool, true, false, not, ◌||◌, ℕ, zero, suc, ◌<◌, eqb, get_or, set}
use Rattle.lists.specs.Lists.{all_below}
use Rattle.query.specs.Shape.{Form, narrow, wide}
use Rattle.rules.specs.declared.Outcome.TheVariants.{Refused, Accepted}
use Rattle.rules.specs.Outcome.{Result, result_of}
use Rattle.rules.specs.Calls.{unless}
use Rattle.rules.specs.Layout.{max_clients, table_least, nodes_least, answers_least, clients_least, columns_offset, form_offset, tells_wide, refused_short, refused_unsound}
use Rattle.rules.specs.Client.{Client, is_bad}
use Rattle.rules.specs.Memory.{Mem, mem_in, records_in, with_records, store_in, with_store, answers_in, with_answers, with_client, cleared, told}
use Rattle.rules.specs.Refusals.{form, shape, columns, client, is_short, is_unsound, refuse}
use Rattle.rules.specs.Tally.{Made, mem_after}
use Rattle.carrying.specs.Alike.{Alike, SameAnswers}

-- the first n desks written, one after another
unfoldable pub with_clients_of : Form → ℕ → (ℕ → Client) → List ℕ → List ℕ
with_clients_of f zero c s = s
with_clients_of f (suc n) c s = with_client f (with_clients_of f n c s) n (c n)

-- "carried over between two calls, desks mid-work included, into four fresh memories, cleared first": what o holds, in the form of n. "the old
-- ones staying as they are": o is not written. Cleared up to the least lengths of a hall of that form and of o's shape; past them n stays
unfoldable pub carried : Mem → Mem → Mem
carried o n =
    mem_in (form n) (with_records (columns o) (cleared table_least n.table) (records_in (columns o) o.table))
    (with_store (form n) (cleared (nodes_least (form n)) n.nodes) (store_in (form o) o.nodes))
    (with_answers (form n) (cleared (answers_least (form n) (shape o)) n.answers) (answers_in (form o) o.answers))
    (with_clients_of (form n) max_clients (client o) (told (form n) (set (cleared (clients_least (form n) (shape o)) n.clients) columns_offset (columns o))))

-- "The desks memory tells the form.": by the number at its place 1
abbrev pub form_number : Form → ℕ
form_number narrow = 0
form_number wide = tells_wide

unfoldable pub tells : Form → List ℕ → Bool
tells f s = eqb (get_or s form_offset 0) (form_number f)

-- "16 carried, the hall handed in is already wide, tested after 1"
abbrev pub refused_carried : ℕ
refused_carried = 16

-- 1 of any of the eight memories, the old ones by the form of o and the fresh ones by that of n; 16; 3: "An old hall unsound at any desk is 3.", as it
-- is for what every call looks at, and where the desks memory tells neither form. What only a step finds at its nodes is no refusal here: the step
-- finds it in the hall that was carried
unfoldable pub carry_code : Mem → Mem → ℕ
carry_code o n =
    refuse (is_short (shape o) o || is_short (shape o) n) refused_short
    (refuse (tells wide o.clients) refused_carried
    (refuse (not (tells narrow o.clients)) refused_unsound
    (refuse (is_unsound o) refused_unsound
    (refuse (not (all_below max_clients (λ d. not (is_bad (shape o) (client o d))))) refused_unsound 0))))

-- the same, number by number in its order, with the words of each
pub record Refuses (o n : Mem) : Type 0 where
  -- "1 short: a lent memory is below its least length"
  pub short : is_short (shape o) o || is_short (shape o) n ≡ true → carry_code o n ≡ refused_short
  -- "16 carried, the hall handed in is already wide, tested after 1"
  pub already : is_short (shape o) o || is_short (shape o) n ≡ false → tells wide o.clients ≡ true → carry_code o n ≡ refused_carried
  -- 3: what every call looks at; "An old hall unsound at any desk is 3."
  pub unsound : is_short (shape o) o || is_short (shape o) n ≡ false → tells wide o.clients ≡ false → is_unsound o ≡ true → carry_code o n ≡ refused_unsound
  pub desk : is_short (shape o) o || is_short (shape o) n ≡ false → tells wide o.clients ≡ false
      → (d : ℕ) → d < max_clients → is_bad (shape o) (client o d) ≡ true → carry_code o n ≡ refused_unsound
  -- and under no other conditions, but that a desks memory which tells neither form is 3 too
  pub none : is_short (shape o) o || is_short (shape o) n ≡ false → tells narrow o.clients ≡ true → is_unsound o ≡ false
      → ((d : ℕ) → d < max_clients → is_bad (shape o) (client o d) ≡ false) → carry_code o n ≡ 0

-- what the carrying returns, and what it leaves in the fresh memories: refused, it alters none
unfoldable pub carry_result : Mem → Mem → Result
carry_result o n = unless (carry_code o n) n (result_of Accepted (carried o n))

-- of memories of any contents: an accepted carrying leaves a hall that is alike and sound, in the form of n; a refused one leaves n as it was
pub record Carries (o n : Mem) : Type 0 where
  pub alike : (carry_result o n).out ≡ Accepted → Alike o (carry_result o n).mem
  pub sound : (carry_result o n).out ≡ Accepted → (is_short (shape o) (carry_result o n).mem ≡ false) × (is_unsound (carry_result o n).mem ≡ false)
  pub form : form (carry_result o n).mem ≡ form n
  pub refused : ((carry_result o n).out ≡ Accepted → ⊥) → ((carry_result o n).out ≡ Refused (carry_code o n)) × ((carry_result o n).mem ≡ n)

-- S-8's claim of an old hall o, carried into n, with the calls ys after that: the carrying is accepted; "every later call .. answers as the old hall
-- would have"; and the desks memory goes on telling the wide form
pub record CarriedOver (o n : Mem) (ys : List Made) : Type 0 where
  pub accepted : (carry_result o n).out ≡ Accepted
  pub same : SameAnswers o (carry_result o n).mem ys
  pub form : tells wide (mem_after (carry_result o n).mem ys).clients ≡ true
