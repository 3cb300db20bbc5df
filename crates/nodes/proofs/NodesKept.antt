-- Every operation on the nodes memory leaves it fit and as long as it was. Leans on the rules' laws of sizes and on
-- the laws of NodeStores and NodeSpots. Assumes nothing.
use mathlib.Core.Path.{◌≡◌, refl}
use mathlib.Core.Bool.{Bool}
use mathlib.Core.List.{List, []}
use mathlib.Core.Option.{Option, none, some}
use Prim.Native.Nat.{ℕ, ◌<◌}
use native.Mathlib.Omega.{arith}
use lib.ListN.{length, get_or}
use Rattle.query.specs.Encoding.{label_width}
use Rattle.rules.specs.Layout.{max_nodes, node_count_offset}
use Rattle.rules.specs.Nodes.{Words, Store, store, evict_node, added, ensured, announced, retired}
use Rattle.rules.specs.Memory.{current, store_in, with_store}
use Rattle.rules.proofs.NodeSizes.{AllSized, sized_none, sized_evict, sized_added, sized_ensured, sized_announced, sized_retired}
use Rattle.nodes.specs.NodeContracts.{Fit, telling, tried, seen, looked, retired_at}
use Rattle.nodes.proofs.NodeStores.{Keeps, count_nodes, sized_in, keeps_store}
use Rattle.nodes.proofs.NodeSpots.{sized_retired_at}

module _ (s : List ℕ) (f : Fit s) where
  keeps_self : Keeps s s
  keeps_self = record { fit = f; size = refl }

  -- ---- the operations that always find a way
  pub keeps_evict : (i : ℕ) → Keeps s (with_store current s (evict_node i (store_in current s)))
  keeps_evict i = keeps_store s (evict_node i (store_in current s)) f (sized_evict i (store_in current s) (sized_in s f))

  pub keeps_added : (p : Words) → length p ≡ label_width → get_or s node_count_offset 0 < max_nodes → Keeps s (with_store current s (added p (store_in current s)))
  keeps_added p h k =
      let l : length (store_in current s).nodes ≡ get_or s node_count_offset 0 = count_nodes s in
      keeps_store s (added p (store_in current s)) f (sized_added p (store_in current s) h (omega arith) (sized_in s f))

  pub keeps_retired_at : (lift : Bool) (i : ℕ) → Keeps s (with_store current s (retired_at lift i (store_in current s)))
  keeps_retired_at lift i = keeps_store s (retired_at lift i (store_in current s)) f (sized_retired_at lift i (store_in current s) (sized_in s f))

  pub keeps_empty : Keeps s (with_store current s (store 1 []))
  keeps_empty = keeps_store s (store 1 []) f (sized_none 1)

  -- ---- those that may find none, whatever is told of what they leave
  keeps_telling : {A : Type 0} (tell : Store → A) (o : Option Store) → AllSized o → Keeps s (telling tell s o).mem
  unfolding telling
  keeps_telling tell none z = keeps_self
  keeps_telling tell (some t) z = keeps_store s t f z

  pub keeps_announced : (p : Words) → length p ≡ label_width → Keeps s (tried s (announced p (store_in current s))).mem
  keeps_announced p h = keeps_telling (λ t. tt) (announced p (store_in current s)) (sized_announced p (store_in current s) h (sized_in s f))

  pub keeps_retired : (lift : Bool) (ps : List Words) → Keeps s (tried s (retired current lift ps (store_in current s))).mem
  keeps_retired lift ps = keeps_telling (λ t. tt) (retired current lift ps (store_in current s)) (sized_retired current lift ps (store_in current s) (sized_in s f))

  pub keeps_looked : (p : Words) → length p ≡ label_width → Keeps s (looked p s (ensured p (store_in current s))).mem
  keeps_looked p h = keeps_telling (seen p) (ensured p (store_in current s)) (sized_ensured p (store_in current s) h (sized_in s f))
