-- A hall of any contents that is sound, carried over: it is alike, and sound; and as a history leaves it where the old one was. Leans on rules' laws of
-- the memories. Assumes nothing.
use mathlib.Core.Path.{◌≡◌, refl, sym, ap, subst, ◌∙◌}
use mathlib.Core.List.{List}
use Prim.Native.Nat.{ℕ, zero, suc, ◌+◌, ◌≤◌, ◌<◌}
use native.Mathlib.Omega.{arith}
use lib.Dec.{eqb}
use lib.ListN.{length, get_or, set, length-set}
use lib.Seq.{get_or-set_same}
use borrow.Author.Tests.{eqb-true, eqb-false}
use Rattle.lists.specs.Lists.{header}
use Rattle.laws.proofs.TestLaws.{by_test}
use Rattle.query.specs.Shape.{Form, wide, Shape, shape_of}
use Rattle.rules.specs.Layout.{max_records, max_nodes, max_answers, max_clients, table_least, nodes_least, answers_least, clients_least, columns_offset, form_offset, tells_wide, client_width, entry_width, kept_client, client_offset, answers_end}
use Rattle.rules.specs.Table.{Table}
use Rattle.rules.specs.Nodes.{Store}
use Rattle.rules.specs.Answers.{Entry, some_long}
use Rattle.rules.specs.Client.{Client}
use Rattle.rules.specs.Memory.{Mem, records_in, store_in, answers_in, client_in, cleared, told}
use Rattle.rules.specs.Refusals.{form, shape, columns, client}
use Rattle.rules.specs.Sound.{Long, Sound}
use Rattle.rules.proofs.ClientLaws.{client_room, client_wide, client_same, client_other, front_with, length_with}
use Rattle.rules.proofs.PassedChecks.{answers_any, clients_any}
use Rattle.laws.proofs.RowLaws.{Wide}
use Rattle.machine.specs.Machine.{State}
use Rattle.machine.proofs.StateInv.{StateInv}
use Rattle.machine.proofs.Headroom.{Headroom}
use Rattle.refinement.proofs.Abstraction.{Fits, state_of}
use Rattle.refinement.proofs.SoundCodes.{sound_of}
use Rattle.rules.proofs.NodeSizes.{Sized}
use Rattle.rules.proofs.MemoryLaws.{length_records, wide_records, wide_nodes, wide_answers, records_with, length_with_records, length_nodes, store_with, length_with_store, answers_room, length_answers, answers_with, length_with_answers}
use Rattle.rules.proofs.OpenedLaws.{length_cleared, cleared_at, told_length, told_columns, told_wide, some_nodes, some_answers, some_clients}
use Rattle.refinement.proofs.NeverRefused.{Lasting}
use Rattle.carrying.specs.Alike.{Alike, Wider}
use Rattle.carrying.specs.Carrying.{with_clients_of, carried}
use Rattle.carrying.proofs.AlikeParts.{alike_state}

-- ---- Clients written one after another
module _ (f : Form) (sh : Shape) (s : List ℕ) (long : clients_least f sh ≤ length s) (c : ℕ → Client) where
  -- those below n have their width
  abbrev All : ℕ → Type 0
  All n = (d : ℕ) → d < n → length (c d) ≡ client_width

  length_clients : (n : ℕ) → n ≤ max_clients → All n → length (with_clients_of f n c s) ≡ length s
  unfolding with_clients_of
  length_clients zero h w = refl
  length_clients (suc n) h w =
      let i = length_clients n (omega arith) (λ d l. w d (omega arith)) in
      length_with f (with_clients_of f n c s) n (c n) (w n (omega arith)) (client_room f sh (with_clients_of f n c s) n (omega arith) (omega arith)) ∙ i

  room_for : (n : ℕ) → n < max_clients → All n → client_offset f n + kept_client f ≤ length (with_clients_of f n c s)
  room_for n h w = let i = length_clients n (omega arith) w in client_room f sh (with_clients_of f n c s) n h (omega arith)

  -- what stands in front of them stays
  front_clients : (i : ℕ) → i < header → (n : ℕ) → n ≤ max_clients → All n → get_or (with_clients_of f n c s) i 0 ≡ get_or s i 0
  unfolding with_clients_of
  front_clients i l zero h w = refl
  front_clients i l (suc n) h w =
      let r = room_for n (omega arith) (λ d l. w d (omega arith)) in
      front_with f (with_clients_of f n c s) n (c n) r i l
      ∙ front_clients i l n (omega arith) (λ d l. w d (omega arith))

  clients_back : (n : ℕ) → n ≤ max_clients → All n → (d : ℕ) → d < n → client_in f (with_clients_of f n c s) d ≡ c d
  unfolding with_clients_of
  clients_back zero h w d l = absurd (omega arith)
  clients_back (suc n) h w d l =
      let r = room_for n (omega arith) (λ d l. w d (omega arith)) in
      by_test (eqb d n)
      (λ q. let z : d ≡ n = eqb-true d n q in rw z (client_same f (with_clients_of f n c s) n (c n) (w n (omega arith)) r))
      (λ q. let z : d ≡ n → ⊥ = eqb-false d n q in
      client_other f (with_clients_of f n c s) n (c n) (w n (omega arith)) r d z ∙ clients_back n (omega arith) (λ d l. w d (omega arith)) d (omega arith))

-- ---- The carrying
module _ (o n : Mem) (f : Sound o) (l : Long n) where
  abbrev g : Form
  g = form n

  abbrev sh : Shape
  sh = shape o

  long_answers : answers_least g sh ≤ length n.answers
  long_answers = rw (answers_any g sh (shape n)) l.answers

  long_clients : clients_least g sh ≤ length n.clients
  long_clients = rw (clients_any g sh (shape n)) l.clients

  -- the records
  abbrev table : List ℕ
  table = cleared table_least n.table

  abbrev records : Table
  records = records_in (columns o) o.table

  table_long : table_least ≤ length table
  table_long = let a = length_cleared table_least n.table l.table in let b = l.table in omega arith

  table_none : get_or table 0 0 ≤ max_records
  table_none = let a = cleared_at table_least n.table 0 (omega arith) in omega arith

  records_wide : Wide (columns o) records
  records_wide = wide_records (columns o) o.table f.most f.long.table f.records

  few_records : length records ≤ max_records
  few_records = let a = length_records (columns o) o.table in let b = f.records in omega arith

  -- the nodes
  abbrev nodes : List ℕ
  nodes = cleared (nodes_least g) n.nodes

  abbrev kept : Store
  kept = store_in (form o) o.nodes

  nodes_long : nodes_least g ≤ length nodes
  nodes_long = let a = length_cleared (nodes_least g) n.nodes l.nodes in let b = l.nodes in omega arith

  nodes_none : get_or nodes 1 0 ≤ max_nodes
  nodes_none = let z = some_nodes g in let a = cleared_at (nodes_least g) n.nodes 1 (omega arith) in omega arith

  few_nodes : length kept.nodes ≤ max_nodes
  few_nodes = let a = length_nodes (form o) o.nodes in let b = f.nodes in omega arith

  sized : Sized kept
  sized = record { wide = wide_nodes (form o) o.nodes f.long.nodes f.nodes; few = few_nodes }

  -- the answers
  abbrev answers : List ℕ
  answers = cleared (answers_least g sh) n.answers

  abbrev entries : List Entry
  entries = answers_in (form o) o.answers

  answers_least_law : answers_least g sh ≤ length answers
  answers_least_law = let a = length_cleared (answers_least g sh) n.answers long_answers in let b = long_answers in omega arith

  answers_long : answers_end g ≤ length answers
  answers_long = answers_room g sh (length answers) answers_least_law

  answers_none : get_or answers 0 0 ≤ max_answers
  answers_none = let z = some_answers g sh in let a = cleared_at (answers_least g sh) n.answers 0 (omega arith) in omega arith

  answers_wide : Wide entry_width entries
  answers_wide = wide_answers (form o) o.answers (answers_room (form o) (shape o) (length o.answers) f.long.answers) f.answers

  few_answers : length entries ≤ max_answers
  few_answers = let a = length_answers (form o) o.answers in let b = f.answers in omega arith

  -- the desks
  abbrev header_only : List ℕ
  header_only = told g (set (cleared (clients_least g sh) n.clients) columns_offset (columns o))

  header_length : length header_only ≡ length n.clients
  header_length =
      told_length g (set (cleared (clients_least g sh) n.clients) columns_offset (columns o))
      ∙ length-set (cleared (clients_least g sh) n.clients) columns_offset (columns o) ∙ length_cleared (clients_least g sh) n.clients long_clients

  header_long : clients_least g sh ≤ length header_only
  header_long = let a = header_length in let b = long_clients in omega arith

  header_columns : get_or header_only columns_offset 0 ≡ columns o
  header_columns =
      let a = length_cleared (clients_least g sh) n.clients long_clients in
      let b = long_clients in
      let c = some_clients g sh in
      told_columns g (set (cleared (clients_least g sh) n.clients) columns_offset (columns o))
      ∙ get_or-set_same (cleared (clients_least g sh) n.clients) columns_offset (columns o) 0 (omega arith)

  desks_wide : (d : ℕ) → d < max_clients → length (client o d) ≡ client_width
  unfolding client
  desks_wide d h = client_wide (form o) o.clients d (client_room (form o) (shape o) o.clients d h f.long.clients)

  -- ---- It is read back
  pub carried_form : form (carried o n) ≡ form n
  unfolding carried
  carried_form = refl

  pub carried_columns : columns (carried o n) ≡ columns o
  unfolding carried
  carried_columns = front_clients g sh header_only header_long (client o) columns_offset (omega arith) max_clients (omega arith) desks_wide ∙ header_columns

  pub carried_shape : shape (carried o n) ≡ shape o
  carried_shape = ap shape_of carried_columns

  pub carried_client : (d : ℕ) → d < max_clients → client (carried o n) d ≡ client o d
  unfolding carried client
  carried_client d h = clients_back g sh header_only header_long (client o) max_clients (omega arith) desks_wide d h

  pub carried_records : records_in (columns o) (carried o n).table ≡ records
  unfolding carried
  carried_records = records_with (columns o) table f.most table_long table_none records records_wide few_records

  pub carried_store : store_in (form (carried o n)) (carried o n).nodes ≡ kept
  unfolding carried
  carried_store = store_with g nodes nodes_long nodes_none kept sized

  pub carried_answers : answers_in (form (carried o n)) (carried o n).answers ≡ entries
  unfolding carried
  carried_answers = answers_with g answers answers_long answers_none entries answers_wide few_answers

  pub alike_carried : Alike o (carried o n)
  alike_carried = record {
    shape = sym carried_shape;
    table = sym (ap (λ (k : ℕ). records_in k (carried o n).table) carried_columns ∙ carried_records);
    store = sym carried_store;
    answers = sym carried_answers;
    clients = λ d h. sym (carried_client d h);
  }

  -- ---- It is sound
  pub carried_long : Long (carried o n)
  unfolding carried
  carried_long = record {
    table = let a = length_with_records (columns o) table f.most table_long table_none records records_wide few_records in let b = table_long in omega arith;
    nodes = let a = length_with_store g nodes nodes_long nodes_none kept sized in let b = nodes_long in omega arith;
    answers = rw (answers_any g (shape (carried o n)) sh) (let a = length_with_answers g answers answers_long answers_none entries answers_wide few_answers in let b = answers_least_law in omega arith);
    clients = rw (clients_any g (shape (carried o n)) sh) (let a = length_clients g sh header_only header_long (client o) max_clients (omega arith) desks_wide in let b = header_long in omega arith);
  }

  pub carried_sound : Sound (carried o n)
  carried_sound = record {
    long = carried_long;
    least = let a = carried_columns in let b = f.least in omega arith;
    most = let a = carried_columns in let b = f.most in omega arith;
    records = let a = count_kept in let b = few_records in omega arith;
    nodes = let a = nodes_kept in let b = few_nodes in omega arith;
    answers = let a = answers_kept in let b = few_answers in omega arith;
    lists = ap some_long carried_answers ∙ f.lists;
  }
    where
      count_kept : get_or (carried o n).table 0 0 ≡ length records
      count_kept = sym (length_records (columns o) (carried o n).table) ∙ ap length carried_records

      nodes_kept : get_or (carried o n).nodes 1 0 ≡ length kept.nodes
      nodes_kept = sym (length_nodes (form (carried o n)) (carried o n).nodes) ∙ ap (λ (s : Store). length s.nodes) carried_store

      answers_kept : get_or (carried o n).answers 0 0 ≡ length entries
      answers_kept = sym (length_answers (form (carried o n)) (carried o n).answers) ∙ ap length carried_answers

-- where the old one is as a history leaves it, so is the new one
pub carried_fits : (o n : Mem) → Fits o → Long n → Fits (carried o n)
carried_fits o n f l =
    let s = sound_of o f in
    let c = carried_sound o n s l in
    record {
      long = c.long;
      some = c.least;
      few = c.most;
      records = c.records;
      nodes = c.nodes;
      answers = c.answers;
      kept = λ e i. rw (carried_shape o n s l) (f.kept e (rw (carried_answers o n s l) at i));
      sound = λ d h. rw (carried_shape o n s l, carried_client o n s l d h) (f.sound d h);
    }

-- the number that tells the form
pub told_carried : (o n : Mem) → Sound o → Long n → form n ≡ wide → get_or (carried o n).clients form_offset 0 ≡ tells_wide
unfolding carried
told_carried o n f l e =
    let a = length_cleared (clients_least (form n) (shape o)) n.clients (long_clients o n f l) in
    let z = long_clients o n f l in
    let y = some_clients (form n) (shape o) in
    let b = length-set (cleared (clients_least (form n) (shape o)) n.clients) columns_offset (columns o) in
    front_clients (form n) (shape o) (header_only o n f l) (header_long o n f l) (client o) 1 (omega arith) max_clients (omega arith) (desks_wide o n f l)
    ∙ told_wide (form n) (set (cleared (clients_least (form n) (shape o)) n.clients) columns_offset (columns o)) e (omega arith)

-- what a history leaves, carried over, is as a history leaves it
more_room : (f g : Form) (s t : State) → Wider f g → s ≡ t → Headroom f s → Headroom g t
more_room f g s t w e r = subst (λ x. Headroom g x) e (r.0, r.1, let k = w.most in let z = r.2 in omega arith)

pub carried_lasting : (o n : Mem) → Lasting o → Long n → Wider (form o) (form n) → Lasting (carried o n)
carried_lasting o n g l w =
    let e = alike_state o (carried o n) (alike_carried o n (sound_of o g.fits) l) in
    record {
      fits = carried_fits o n g.fits l;
      inv = subst StateInv e g.inv;
      room = subst (λ (f : Form). Headroom f (state_of (carried o n))) (sym (carried_form o n (sound_of o g.fits) l)) (more_room (form o) (form n) (state_of o) (state_of (carried o n)) w e g.room);
    }
