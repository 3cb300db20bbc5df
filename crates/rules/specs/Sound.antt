-- What the refusals of a call have established where the call goes on: its memories are long and sound, and the client that it names is sound
-- and busy. For contracts and proofs: each part is the other side of a refusal (Refusals, Client's `is_bad`).
-- Leans on Memory. Definitions only. Assumes nothing.
use Rattle.std.specs.Prelude.{◌≡◌, false, ◌≤◌, ◌<◌, length, get_or}
use Rattle.query.specs.Shape.{Shape, max_columns}
use Rattle.rules.specs.Layout.{max_records, max_nodes, max_answers, table_least, nodes_least, answers_least, clients_least, client_width}
use Rattle.rules.specs.Layout.{record_count_offset, node_count_offset, answer_count_offset}
use Rattle.rules.specs.Work.{Work, kind_of, key_of, work_fault, steps_in_all}
use Rattle.rules.specs.Answers.{key_in, is_long, some_long}
use Rattle.rules.specs.Client.{Client, kind, steps, entry_of, work_at}
use Rattle.rules.specs.Memory.{Mem, answers_in}
use Rattle.rules.specs.Refusals.{form, shape, columns}

-- not 1: no memory "is below its least length"
pub record Long (m : Mem) : Type 0 where
  pub table : table_least ≤ length m.table
  pub nodes : nodes_least (form m) ≤ length m.nodes
  pub answers : answers_least (form m) (shape m) ≤ length m.answers
  pub clients : clients_least (form m) (shape m) ≤ length m.clients

-- nor 3: not "k, an entry count or a filed list's length in memory out of range"
pub record Sound (m : Mem) : Type 0 where
  pub long : Long m
  pub least : 1 ≤ columns m
  pub most : columns m ≤ max_columns
  pub records : get_or m.table record_count_offset 0 ≤ max_records
  pub nodes : get_or m.nodes node_count_offset 0 ≤ max_nodes
  pub answers : get_or m.answers answer_count_offset 0 ≤ max_answers
  pub lists : some_long (answers_in (form m) m.answers) ≡ false

-- A sound, busy client: c, in a hall of this shape, is busy with w, and neither "its kind, query, step or list length is out of
-- range" nor is there "a held range that a begin would refuse" (3). It is a reader where w is `asking` what it reads, and a writer where w is
-- `writing` its change.
pub record Busy (sh : Shape) (c : Client) (w : Work) : Type 0 where
  pub least : 1 ≤ sh.columns
  pub most : sh.columns ≤ max_columns
  pub wide : length c ≡ client_width
  pub work : work_at sh c ≡ w
  pub kind : kind c ≡ kind_of w
  pub key : key_in (entry_of c) ≡ key_of w
  pub fault : work_fault w ≡ 0
  pub going : steps c < steps_in_all w
  pub short : is_long (entry_of c) ≡ false
