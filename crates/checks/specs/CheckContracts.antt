-- What the checks find, by the numbers of the refusals: parts of the refusals that several of them share, and what begins, where
-- crates/rules/specs has no name for it. Leans on rules and clients. Definitions only. Assumes nothing.
use Rattle.std.specs.Prelude.{Bool, cond, not, ◌&&◌, List, [], ℕ, eqb, leb, get_or}
use Rattle.query.specs.declared.Range.{Range}
use Rattle.query.specs.Shape.{Form, Shape}
use Rattle.rules.specs.Layout.{answer_count_offset, node_count_offset, reads, inserts, refused_short, refused_unsound, refused_no_client, refused_taken}
use Rattle.rules.specs.Layout.{refused_no_entry, refused_pending, refused_worn}
use Rattle.rules.specs.Work.{Request, read_of, insert_of, delete_of, is_write, fault_of}
use Rattle.rules.specs.Nodes.{is_worn, is_free}
use Rattle.rules.specs.Client.{is_idle, is_bad}
use Rattle.rules.specs.Memory.{current, Mem, store_in}
use Rattle.rules.specs.Refusals.{form, shape, client, is_short, bad_columns, is_unsound, no_client, refuse, evict_answer_code, evict_node_code}
use Rattle.checks.specs.declared.Request as begins
use Rattle.checks.specs.declared.Request.TheVariants.{Read, Insert, Delete}
use Rattle.checks.specs.declared.Kept.{Kept}
use Rattle.checks.specs.declared.Kept.TheVariants.{Answer, Node}

-- 1 short or 3 unsound, by the four memories alone
abbrev pub sound_code : Mem → ℕ
sound_code m = refuse (is_short (shape m) m) refused_short (refuse (is_unsound m) refused_unsound 0)

-- ---- Begins
-- what begins, and the numbers that arrive
abbrev pub request_of : begins.Request → List ℕ → Request
request_of (Read counts range) a = read_of counts range a
request_of Insert a = insert_of a
request_of Delete a = delete_of a

-- what begins by the number of its kind, of a read whether it wants a count and its range, and the numbers that arrive
abbrev pub numbered_request : ℕ → Bool → Range → List ℕ → Request
numbered_request kind counts range a = cond (eqb kind reads) (read_of counts range a) (cond (eqb kind inserts) (insert_of a) (delete_of a))

-- 3 unsound, by the number of columns alone
abbrev pub columns_code : Shape → ℕ
columns_code sh = refuse (bad_columns sh.columns) refused_unsound 0

-- what x is turned down with for itself, and then by the number of columns alone
abbrev pub asked_code : Shape → Request → ℕ
asked_code sh x = refuse (not (eqb (fault_of sh x) 0)) (fault_of sh x) (columns_code sh)

-- 10 worn, by the nodes alone
abbrev pub fresh_code : Form → Shape → List ℕ → Request → ℕ
fresh_code f sh s x = refuse (is_write x && is_worn f sh (store_in f s)) refused_worn 0

-- what a begin is refused with that is not short and not turned down for itself
unfoldable pub desk_code : Mem → ℕ → Request → ℕ
desk_code m d x =
    refuse (is_unsound m) refused_unsound
    (refuse (no_client d) refused_no_client
    (refuse (is_bad (shape m) (client m d)) refused_unsound
    (refuse (not (is_idle (client m d))) refused_taken (fresh_code (form m) (shape m) m.nodes x))))

-- ---- Evictions
abbrev pub answer_code : List ℕ → ℕ → ℕ
answer_code s i = refuse (leb (get_or s answer_count_offset 0) i) refused_no_entry 0

abbrev pub node_code : List ℕ → ℕ → ℕ
node_code s i =
    refuse (leb (get_or s node_count_offset 0) i) refused_no_entry (refuse (not (is_free (get_or (store_in current s).nodes i []))) refused_pending 0)

unfoldable pub evict_code : Mem → Kept → ℕ → ℕ
evict_code m Answer i = evict_answer_code m i
evict_code m Node i = evict_node_code m i
