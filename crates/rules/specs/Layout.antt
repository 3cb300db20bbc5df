-- Document 01, "The hall's stock": the sizes, the least lengths, and the place of every number in a memory, a node, an entry and a
-- client (docs/LAYOUT.md has the pictures), each named once. What a hall of another form or shape would have otherwise is
-- a function of them: limits, least lengths, and where things stand in a memory. A node, an entry and a client as they are read know no form.
-- Leans on lists' header and on query's Shape and Encoding. Definitions only. Assumes nothing.
use Rattle.std.specs.Prelude.{List, [], ◌∷◌, ℕ, ◌+◌, ◌*◌}
use Rattle.lists.specs.Lists.{header, Part, part}
use Rattle.query.specs.Shape.{Form, narrow, wide, Shape, max_columns}
use Rattle.query.specs.Encoding.{label_width, key_width}

-- ---- Sizes
-- "These sizes are fixed for every hall: 2,048 records, 1,024 nodes, 64 answers, 12 desks." (The paper's desk is a client.)
abbrev pub max_records : ℕ
max_records = 2048

abbrev pub max_nodes : ℕ
max_nodes = 1024

abbrev pub max_answers : ℕ
max_answers = 64

abbrev pub max_clients : ℕ
max_clients = 12

-- "More than 32 records ends the read with 12."
abbrev pub max_list : ℕ
max_list = 32

-- "marks at 12 or more to add to"
abbrev pub max_pending : ℕ
max_pending = 12

-- the largest 32-bit number
abbrev pub max_word : ℕ
max_word = 4294967295

-- "a counter at its largest to raise": of 32 bits, or of 64 (S-8)
abbrev pub max_revision : Form → ℕ
max_revision narrow = max_word
max_revision wide = 18446744073709551615

-- "a write begins while the floor or a counter is above 4,294,967,103"; "A write is worn above 18,446,744,073,709,551,423" (S-8)
abbrev pub worn_above : Form → Shape → ℕ
worn_above narrow sh = 4294967103
worn_above wide sh = 18446744073709551423

-- the floor that an opening and a renewal set: "sets the floor to 1"
abbrev pub first_floor : ℕ
first_floor = 1

-- ---- The table "memory | least length"; "Lengths count 32-bit numbers."; "the table length stays, desks become 2,300, nodes 10,300 and answers
-- 11,100, in 32-bit numbers" (S-8)
abbrev pub table_least : ℕ
table_least = 8200

abbrev pub nodes_least : Form → ℕ
nodes_least narrow = 8200
nodes_least wide = 10300

abbrev pub answers_least : Form → Shape → ℕ
answers_least narrow sh = 10000
answers_least wide sh = 11100

abbrev pub clients_least : Form → Shape → ℕ
clients_least narrow sh = 2000
clients_least wide sh = 2300

abbrev pub tray_least : ℕ
tray_least = 128

-- ---- Headers: what stands in the first numbers of each memory
abbrev pub record_count_offset : ℕ
record_count_offset = 0

abbrev pub floor_offset : ℕ
floor_offset = 0

abbrev pub node_count_offset : ℕ
node_count_offset = 1

-- the floor's upper half, in the wide form
abbrev pub upper_floor_offset : ℕ
upper_floor_offset = 2

abbrev pub answer_count_offset : ℕ
answer_count_offset = 0

abbrev pub columns_offset : ℕ
columns_offset = 0

-- "The desks memory tells the form." (S-8): where it does
abbrev pub form_offset : ℕ
form_offset = 1

-- the number there in the wide form; in the narrow one it is 0
abbrev pub tells_wide : ℕ
tells_wide = 1

-- ---- A node: its label, its marks (pending writes), its counter (revision), and a number that is not used
abbrev pub pending_offset : ℕ
pending_offset = label_width

abbrev pub revision_offset : ℕ
revision_offset = pending_offset + 1

abbrev pub node_width : ℕ
node_width = revision_offset + 2

-- how many numbers it takes in a memory: in the wide form two for its revision, and one for its check (Checks)
abbrev pub kept_node : Form → ℕ
kept_node narrow = node_width
kept_node wide = node_width + 2

-- where the parts of the nodes stand in the wide form: 1,024 checks; then of each node its label, its marks and its revision's halves; then the
-- numbers that are not used
abbrev pub checks_offset : ℕ
checks_offset = header

abbrev pub nodes_offset : ℕ
nodes_offset = checks_offset + max_nodes

abbrev pub unused_offset : ℕ
unused_offset = nodes_offset + max_nodes * node_width

abbrev pub node_parts : List Part
node_parts = part checks_offset 1 ∷ part nodes_offset node_width ∷ part unused_offset 1 ∷ []

-- where the last node ends
abbrev pub nodes_end : Form → ℕ
nodes_end f = header + max_nodes * kept_node f

-- ---- An entry (a filed answer): its query's key, the list's length or the count, the revisions noted, the list
abbrev pub length_offset : ℕ
length_offset = key_width

abbrev pub revisions_offset : ℕ
revisions_offset = length_offset + 1

-- the most looks of a read
abbrev pub max_looks : Shape → ℕ
max_looks sh = 16

abbrev pub list_offset : Shape → ℕ
list_offset sh = revisions_offset + max_looks sh

-- the most numbers of a list
abbrev pub list_width : Shape → ℕ
list_width sh = max_list * max_columns

-- an entry has room for so many revisions and so many numbers of a list: enough for every shape, so that its width does not depend on it
abbrev pub look_room : ℕ
look_room = 16

abbrev pub list_room : ℕ
list_room = max_list * max_columns

abbrev pub entry_width : ℕ
entry_width = revisions_offset + look_room + list_room

-- how many numbers it takes in a memory: in the wide form two for each revision
abbrev pub kept_entry : Form → ℕ
kept_entry narrow = entry_width
kept_entry wide = entry_width + look_room

-- where the parts of the filed answers stand in the wide form: 64 lengths, 64 keys, 64 bodies (the revisions' halves and the list)
abbrev pub lengths_offset : ℕ
lengths_offset = header

abbrev pub keys_offset : ℕ
keys_offset = lengths_offset + max_answers

abbrev pub bodies_offset : ℕ
bodies_offset = keys_offset + max_answers * key_width

abbrev pub body_width : ℕ
body_width = 2 * look_room + list_room

abbrev pub answer_parts : List Part
answer_parts = part keys_offset key_width ∷ part lengths_offset 1 ∷ part bodies_offset body_width ∷ []

-- where the last entry ends
abbrev pub answers_end : Form → ℕ
answers_end f = header + max_answers * kept_entry f

-- ---- A client (the paper's desk): its kind, how many steps it has made, three flags, then an entry
abbrev pub kind_offset : ℕ
kind_offset = 0

abbrev pub steps_offset : ℕ
steps_offset = 1

-- not 0: a look saw a mark
abbrev pub saw_offset : ℕ
saw_offset = 2

-- not 0: the write changed the table
abbrev pub changed_offset : ℕ
changed_offset = 3

-- not 0: the insert found the table full
abbrev pub full_offset : ℕ
full_offset = 4

abbrev pub entry_offset : ℕ
entry_offset = 5

abbrev pub client_width : ℕ
client_width = entry_offset + entry_width

-- how many numbers it takes in a memory
abbrev pub kept_client : Form → ℕ
kept_client f = entry_offset + kept_entry f

-- where client d stands; where the last ends
abbrev pub client_offset : Form → ℕ → ℕ
client_offset f d = header + d * kept_client f

abbrev pub clients_end : Form → ℕ
clients_end f = client_offset f max_clients

-- the parts of a client's own entry: the values of its key, the list's length or the count, the revision noted by look j, the list
abbrev pub held_values_offset : ℕ
held_values_offset = entry_offset + 1

abbrev pub held_length_offset : ℕ
held_length_offset = entry_offset + length_offset

abbrev pub noted_offset : ℕ → ℕ
noted_offset j = entry_offset + revisions_offset + j

abbrev pub held_list_offset : Shape → ℕ
held_list_offset sh = entry_offset + list_offset sh

-- ---- Kinds of a client's work: 0 stands at an idle one
abbrev pub reads : ℕ
reads = 1

abbrev pub inserts : ℕ
inserts = 2

abbrev pub deletes : ℕ
deletes = 3

-- ---- "What the controller turns down": the numbers, with the paper's words
-- 1 short
abbrev pub refused_short : ℕ
refused_short = 1

-- 2 columns
abbrev pub refused_columns : ℕ
refused_columns = 2

-- 3 unsound
abbrev pub refused_unsound : ℕ
refused_unsound = 3

-- 4 no desk
abbrev pub refused_no_client : ℕ
refused_no_client = 4

-- 5 taken
abbrev pub refused_taken : ℕ
refused_taken = 5

-- 6 idle
abbrev pub refused_idle : ℕ
refused_idle = 6

-- 7 is not among them: "7 is given no longer" (S-4), and the number stays unused
abbrev pub not_given : ℕ
not_given = 7

-- 8 no entry
abbrev pub refused_no_entry : ℕ
refused_no_entry = 8

-- 9 marked
abbrev pub refused_pending : ℕ
refused_pending = 9

-- 10 worn
abbrev pub refused_worn : ℕ
refused_worn = 10

-- 11 occupied
abbrev pub refused_occupied : ℕ
refused_occupied = 11

-- 12 long and 13 full end the work they name
abbrev pub ended_long : ℕ
ended_long = 12

abbrev pub ended_full : ℕ
ended_full = 13

-- 14 reversed (S-3): it turns a begin down, and alters nothing, as 1 to 11 do
abbrev pub refused_reversed : ℕ
refused_reversed = 14

-- 15 tally full (S-7): it turns down a call that is lent a tally, and alters nothing
abbrev pub refused_tally_full : ℕ
refused_tally_full = 15

-- "a count that stands at 4,294,967,295": the largest that a count of a tally holds
abbrev pub max_count : ℕ
max_count = 4294967295
