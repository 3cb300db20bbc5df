-- Document 01, "The hall's stock": what each memory holds and where (docs/LAYOUT.md has the pictures). What is read here, records, nodes, filed
-- answers and clients, is in every form the same lists of numbers: besides these functions only Layout's places and limits know a form, and what
-- asks for a limit (Nodes). Leans on the entries above. Definitions only. Assumes nothing.
use Rattle.std.specs.Prelude.{List, [], ◌∷◌, ◌++◌, map, ℕ, ◌+◌, ◌*◌, ◌/◌, ◌%◌, get_or, take, drop, set, replicate}
use Rattle.lists.specs.Lists.{entries_in, with_entries, kept_in, with_kept, written, radix, wholes_at, halves_at}
use Rattle.query.specs.Shape.{Form, narrow, wide, Shape}
use Rattle.rules.specs.Layout.{table_least, nodes_least, answers_least, clients_least, first_floor, record_count_offset, floor_offset, upper_floor_offset, node_count_offset, answer_count_offset}
use Rattle.rules.specs.Layout.{columns_offset, form_offset, tells_wide, node_width, node_parts, revision_offset, entry_width, answer_parts, revisions_offset, look_room}
use Rattle.rules.specs.Layout.{entry_offset, kept_client, client_offset}
use Rattle.rules.specs.Table.{Table}
use Rattle.rules.specs.Nodes.{Node, Store, store}
use Rattle.rules.specs.Checks.{labelled, bared, check_for}
use Rattle.rules.specs.Answers.{Entry}
use Rattle.rules.specs.Client.{Client}

-- the four lent memories, and the form in which they are read
pub record Mem : Type 0 where
  pub form : Form
  pub table : List ℕ
  pub nodes : List ℕ
  pub answers : List ℕ
  pub clients : List ℕ

abbrev pub mem_in : Form → List ℕ → List ℕ → List ℕ → List ℕ → Mem
mem_in f t n a d = record { form = f; table = t; nodes = n; answers = a; clients = d }

-- the form that the calls serve: the contracts are about memories that are read so. Which form it is, is said here alone. No rule looks at the
-- number by which the desks memory tells its form: that test comes with S-8
abbrev pub current : Form
current = narrow

abbrev pub mem : List ℕ → List ℕ → List ℕ → List ℕ → Mem
mem t n a d = mem_in current t n a d

-- ---- Table: how many records; the records, k numbers each. A list of entries stands behind the header (lists, `entries_in`, `with_entries`): "What a
-- call takes out of use it sets to 0"
unfoldable pub records_in : ℕ → List ℕ → Table
records_in k s = entries_in record_count_offset k s

unfoldable pub with_records : ℕ → List ℕ → Table → List ℕ
with_records k s t = with_entries record_count_offset k s t

-- ---- Nodes: the floor, how many nodes; the nodes. In the wide form the parts of the nodes stand in stretches (lists, `kept_in`, `with_kept`)
-- the floor's halves in the wide form, the lower first
unfoldable pub wide_floor : List ℕ → ℕ
wide_floor s = get_or s floor_offset 0 + radix * get_or s upper_floor_offset 0

unfoldable pub with_wide_floor : List ℕ → ℕ → List ℕ
with_wide_floor s x = set (set s floor_offset (x % radix)) upper_floor_offset (x / radix)

-- in the wide form, a node as it is read from the numbers that are kept of it: its check, then its own, the revision's halves among them; and as
-- it is kept
unfoldable pub node_from : List ℕ → Node
node_from r = labelled (get_or r 0 0) (wholes_at revision_offset 1 (drop 1 r))

unfoldable pub node_to : Node → List ℕ
node_to n = check_for n ∷ halves_at revision_offset 1 (bared n)

unfoldable pub store_in : Form → List ℕ → Store
store_in narrow s = store (get_or s floor_offset 0) (entries_in node_count_offset node_width s)
store_in wide s = store (wide_floor s) (map node_from (kept_in node_count_offset node_parts s))

unfoldable pub with_store : Form → List ℕ → Store → List ℕ
with_store narrow s st = set (with_entries node_count_offset node_width s st.nodes) floor_offset st.floor
with_store wide s st = with_wide_floor (with_kept node_count_offset node_parts s (map node_to st.nodes)) st.floor

-- ---- Answers: how many; the filed answers. In the wide form an entry as it is read, and as it is kept
unfoldable pub entry_from : List ℕ → Entry
entry_from e = wholes_at revisions_offset look_room e

unfoldable pub entry_to : Entry → List ℕ
entry_to e = halves_at revisions_offset look_room e

unfoldable pub answers_in : Form → List ℕ → List Entry
answers_in narrow s = entries_in answer_count_offset entry_width s
answers_in wide s = map entry_from (kept_in answer_count_offset answer_parts s)

unfoldable pub with_answers : Form → List ℕ → List Entry → List ℕ
with_answers narrow s es = with_entries answer_count_offset entry_width s es
with_answers wide s es = with_kept answer_count_offset answer_parts s (map entry_to es)

-- ---- Desks: k; desks 0 to 11, one after another. The hall's shape is what this memory tells of it
abbrev pub shape_in : List ℕ → Shape
shape_in s = record { columns = get_or s columns_offset 0 }

-- a client as it is read from the numbers that are kept of it, and as it is kept
abbrev pub client_from : Form → List ℕ → Client
client_from narrow c = c
client_from wide c = wholes_at (entry_offset + revisions_offset) look_room c

abbrev pub client_to : Form → Client → List ℕ
client_to narrow c = c
client_to wide c = halves_at (entry_offset + revisions_offset) look_room c

unfoldable pub client_in : Form → List ℕ → ℕ → Client
client_in f s d = client_from f (take (kept_client f) (drop (client_offset f d) s))

unfoldable pub with_client : Form → List ℕ → ℕ → Client → List ℕ
with_client f s d c = written s (client_offset f d) (client_to f c)

-- "The desks memory tells the form." (S-8): what an opening writes there
unfoldable pub told : Form → List ℕ → List ℕ
told narrow s = s
told wide s = set s form_offset tells_wide

-- "Opening clears the four memories, sets the floor to 1 and leaves every desk idle."
unfoldable pub cleared : ℕ → List ℕ → List ℕ
cleared n s = replicate n 0 ++ drop n s

unfoldable pub opened : Shape → Mem → Mem
opened sh m =
    mem_in m.form (cleared table_least m.table) (set (cleared (nodes_least m.form) m.nodes) floor_offset first_floor)
    (cleared (answers_least m.form sh) m.answers)
    (told m.form (set (cleared (clients_least m.form sh) m.clients) columns_offset sh.columns))

-- "Renew. ..: answers and nodes are emptied, the floor is 1, the table stays."
unfoldable pub renewed : Mem → Mem
renewed m = mem_in m.form m.table (with_store m.form m.nodes (store first_floor [])) (with_answers m.form m.answers []) m.clients

-- a record has no update: one function for each memory that a call changes
abbrev pub with_table : Mem → List ℕ → Mem
with_table m x = mem_in m.form x m.nodes m.answers m.clients

abbrev pub with_nodes : Mem → List ℕ → Mem
with_nodes m x = mem_in m.form m.table x m.answers m.clients

abbrev pub with_filed : Mem → List ℕ → Mem
with_filed m x = mem_in m.form m.table m.nodes x m.clients

abbrev pub with_clients : Mem → List ℕ → Mem
with_clients m x = mem_in m.form m.table m.nodes m.answers x
