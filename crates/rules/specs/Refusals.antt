-- Document 01, "What the controller turns down": the first number that applies, in the order 1, 2, 14, 3, 4 and so on
-- (the smallest, but for 14), or 0. Leans on Memory. Definitions only.
-- Assumes nothing. 3 that only a step or an abandoning can find (a node missing, unmarked, ..) stands in Steps
-- and Calls; 15, which only a call that is lent a tally is given, in Tally.
use Rattle.std.specs.Prelude.{Bool, cond, not, ◌&&◌, ◌||◌, List, [], ℕ, eqb, ltb, leb, length, get_or}
use Rattle.lists.specs.Lists.{all_below}
use Rattle.query.specs.Shape.{Form, Shape, shape_of, max_columns}
use Rattle.rules.specs.Layout.{max_records, max_nodes, max_answers, max_clients, table_least, nodes_least, answers_least, clients_least, tray_least}
use Rattle.rules.specs.Layout.{record_count_offset, node_count_offset, answer_count_offset, refused_short, refused_columns, refused_unsound, refused_no_client}
use Rattle.rules.specs.Layout.{refused_taken, refused_idle, refused_no_entry, refused_pending, refused_worn, refused_occupied}
use Rattle.rules.specs.Work.{Request, is_write, fault_of}
use Rattle.rules.specs.Nodes.{is_worn, pending}
use Rattle.rules.specs.Answers.{some_long}
use Rattle.rules.specs.Client.{Client, is_idle, is_bad}
use Rattle.rules.specs.Memory.{Mem, shape_in, client_in, store_in, answers_in}

-- the form in which the memories are read; the hall's shape as the desks memory tells it, and its k
abbrev pub form : Mem → Form
form m = m.form

abbrev pub shape : Mem → Shape
shape m = shape_in m.clients

abbrev pub columns : Mem → ℕ
columns m = (shape m).columns

unfoldable pub client : Mem → ℕ → Client
client m d = client_in (form m) m.clients d

-- 1 short: "a lent memory is below its least length"
unfoldable pub is_short : Shape → Mem → Bool
is_short sh m =
    ltb (length m.table) table_least
    || (ltb (length m.nodes) (nodes_least (form m))
    || (ltb (length m.answers) (answers_least (form m) sh) || ltb (length m.clients) (clients_least (form m) sh)))

-- 2 columns: "k not 1 to 4"
unfoldable pub bad_columns : ℕ → Bool
bad_columns k = eqb k 0 || ltb max_columns k

-- 3 unsound: "k, an entry count or a filed list's length in memory out of range"; "a filed .. count above 2,048 is 3" (S-1)
unfoldable pub is_unsound : Mem → Bool
is_unsound m =
    bad_columns (columns m)
    || (ltb max_records (get_or m.table record_count_offset 0)
    || (ltb max_nodes (get_or m.nodes node_count_offset 0)
    || (ltb max_answers (get_or m.answers answer_count_offset 0) || some_long (answers_in (form m) m.answers))))

-- 4 no desk: "desk above 11"
unfoldable pub no_client : ℕ → Bool
no_client d = leb max_clients d

-- 11 occupied: "renew with a busy desk"
unfoldable pub all_idle : Mem → Bool
all_idle m = all_below max_clients (λ d. is_idle (client m d))

-- a number where the test holds, the rest where it does not
abbrev pub refuse : Bool → ℕ → ℕ → ℕ
refuse b n rest = cond b n rest

unfoldable pub open_code : Mem → ℕ → ℕ
open_code m k = refuse (is_short (shape_of k) m) refused_short (refuse (bad_columns k) refused_columns 0)

-- right after 1 what begins is judged by itself (Work, `fault_of`). 10 worn: "a write begins while the floor or a counter is above 4,294,967,103"
unfoldable pub begin_code : Mem → ℕ → Request → ℕ
begin_code m d r =
    refuse (is_short (shape m) m) refused_short
    (refuse (not (eqb (fault_of (shape m) r) 0)) (fault_of (shape m) r)
    (refuse (is_unsound m) refused_unsound
    (refuse (no_client d) refused_no_client
    (refuse (is_bad (shape m) (client m d)) refused_unsound
    (refuse (not (is_idle (client m d))) refused_taken
    (refuse (is_write r && is_worn (form m) (shape m) (store_in (form m) m.nodes)) refused_worn 0))))))

-- "6 idle: step or abandon at an idle desk"
unfoldable pub at_client : Mem → ℕ → ℕ
at_client m d =
    refuse (is_unsound m) refused_unsound
    (refuse (no_client d) refused_no_client
    (refuse (is_bad (shape m) (client m d)) refused_unsound
    (refuse (is_idle (client m d)) refused_idle 0)))

unfoldable pub step_code : Mem → List ℕ → ℕ → ℕ
step_code m tray d = refuse (is_short (shape m) m || ltb (length tray) tray_least) refused_short (at_client m d)

-- "7 is given no longer" (S-4): an abandoning has no number of its own
unfoldable pub abandon_code : Mem → ℕ → ℕ
abandon_code m d = refuse (is_short (shape m) m) refused_short (at_client m d)

-- "8 no entry: place to put out not below the count"; "9 marked: node to put out has marks"
unfoldable pub evict_answer_code : Mem → ℕ → ℕ
evict_answer_code m i =
    refuse (is_short (shape m) m) refused_short
    (refuse (is_unsound m) refused_unsound (refuse (leb (get_or m.answers answer_count_offset 0) i) refused_no_entry 0))

unfoldable pub evict_node_code : Mem → ℕ → ℕ
evict_node_code m i =
    refuse (is_short (shape m) m) refused_short
    (refuse (is_unsound m) refused_unsound
    (refuse (leb (get_or m.nodes node_count_offset 0) i) refused_no_entry
    (refuse (ltb 0 (pending (get_or (store_in (form m) m.nodes).nodes i []))) refused_pending 0)))

unfoldable pub renew_code : Mem → ℕ
renew_code m =
    refuse (is_short (shape m) m) refused_short (refuse (is_unsound m) refused_unsound (refuse (not (all_idle m)) refused_occupied 0))
