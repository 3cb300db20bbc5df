-- What the functions over the nodes memory require of it and leave in it. Leans on the rules' Nodes and Memory
-- and on the refusals. Definitions only. Assumes nothing.
use Rattle.std.specs.Prelude.{Bool, cond, List, [], ℕ, ◌+◌, ◌-◌, ◌≤◌, length, get_or, set, Result, Ok, Err}
use Rattle.std.proofs.Math.Option.{Option, none, some}
use Rattle.rules.specs.Nodes.{Words, Node, Store, store, pending, revision, with_pending, with_revision, node_place, node_of, may_retire}
use Rattle.rules.specs.Memory.{current, with_store}
use Rattle.hall.specs.declared.refusal.Refusal.{Refusal}
use Rattle.hall.specs.declared.refusal.Refusal.TheVariants.{Unsound}
use Rattle.nodes.specs.declared.Sight.{Sight}
use Rattle.rules.specs.Layout.{max_nodes, nodes_least, node_count_offset}

-- a memory long enough, with at most as many nodes as there may be: its first 8,200 numbers hold all of them
pub record Fit (s : List ℕ) : Type 0 where
  pub long : nodes_least current ≤ length s
  pub few : get_or s node_count_offset 0 ≤ max_nodes

-- ---- an operation that may find no way: its result, and the memory it leaves
pub record Tried (A : Type 0) : Type 0 where
  pub result : Result A Refusal
  pub mem : List ℕ

abbrev pub attempt : {A : Type 0} → Result A Refusal → List ℕ → Tried A
attempt r m = record { result = r; mem = m }

-- the store that it leaves, with what f tells of it; where it found none it is turned down with 3, and the memory is as it was
unfoldable pub telling : {A : Type 0} → (Store → A) → List ℕ → Option Store → Tried A
telling f s none = attempt (Err Unsound) s
telling f s (some t) = attempt (Ok (f t)) (with_store current s t)

-- what it tells: nothing, what a look saw of the label's node, or where that node stands
abbrev pub tried : List ℕ → Option Store → Tried (Unit {0})
tried s o = telling (λ t. tt) s o

abbrev pub seen : Words → Store → Sight
seen p t = record { revision = revision (node_of p t); pending = pending (node_of p t) }

abbrev pub looked : Words → List ℕ → Option Store → Tried Sight
looked p s o = telling (seen p) s o

abbrev pub placed : Words → List ℕ → Option Store → Tried ℕ
placed p s o = telling (λ t. node_place p t.nodes) s o

-- ---- where the label's node stands, if a mark can be taken off it, with a lift or without
unfoldable pub retirable_place : Bool → Words → Store → Result ℕ Refusal
retirable_place lift p s = cond (may_retire current lift p s) (Ok (node_place p s.nodes)) (Err Unsound)

-- ---- one mark taken off node i: the rules' `lifted`, then `released`, with the place in place of the label
abbrev pub node_at : ℕ → Store → Node
node_at i s = get_or s.nodes i []

abbrev pub with_node_at : ℕ → Node → Store → Store
with_node_at i n s = store s.floor (set s.nodes i n)

unfoldable pub released_at : ℕ → Store → Store
released_at i s = with_node_at i (with_pending (node_at i s) (pending (node_at i s) - 1)) s

unfoldable pub lifted_at : Bool → ℕ → Store → Store
lifted_at lift i s = cond lift (with_node_at i (with_revision (node_at i s) (revision (node_at i s) + 1)) s) s

unfoldable pub retired_at : Bool → ℕ → Store → Store
retired_at lift i s = released_at i (lifted_at lift i s)
