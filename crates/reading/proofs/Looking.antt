-- Laws of a look: what is noted, and the refusal where there is no room for the node. Leans on rules, on nodes, on clients and on
-- ReadClient. Assumes nothing.
use mathlib.Core.Path.{◌≡◌, refl, ◌∙◌}
use mathlib.Core.List.{List, []}
use mathlib.Core.Option.{Option}
use Prim.Native.Nat.{ℕ, ◌<◌}
use lib.ListN.{get_or}
use Rattle.query.specs.Query.{read_node, read_count}
use Rattle.query.specs.Encoding.{label_words}
use Rattle.std.specs.Prelude.{Result, Ok, Err}
use Rattle.hall.specs.declared.refusal.Refusal.{Refusal}
use Rattle.hall.specs.Refusal.{outcome_of}
use Rattle.rules.specs.declared.Outcome.{Outcome}
use Rattle.rules.specs.declared.Outcome.TheVariants.{Accepted}
use Rattle.rules.specs.Nodes.{Words, Store, ensured}
use Rattle.rules.specs.Work.{read_labels}
use Rattle.rules.specs.Client.{noted}
use Rattle.rules.specs.Memory.{current, mem, client_in, with_client, store_in}
use Rattle.rules.specs.Outcome.{result_with}
use Rattle.rules.specs.Refusals.{client}
use Rattle.rules.specs.Steps.{now_at, store_back, look_result, read_result}
use Rattle.rules.proofs.ClientLaws.{look_count_of}
use Rattle.nodes.specs.declared.Sight.{Sight}
use Rattle.nodes.specs.NodeContracts.{attempt, seen, looked}
use Rattle.nodes.proofs.NodePresent.{Went, went_well, went_not}
use Rattle.clients.specs.declared.Held.{Held}
use Rattle.clients.specs.ClientContracts.{Reader, asked_at, held_query}
use Rattle.clients.proofs.HeldLaws.{at_query, reader_label}
use Rattle.reading.specs.ReadContracts.{looks, made}
use Rattle.reading.proofs.ReadClient.{look_is}

-- s: what was seen of the label's node
noted_left : (t a y ns ns' clients clients' : List ℕ) (d j : ℕ) (p : Words) (o : Option Store) (s : Sight) → Went (seen p) ns o s ns'
    → clients' ≡ with_client current clients d (noted j s.revision s.pending (client_in current clients d))
    → result_with Accepted (mem t ns' a clients') y ≡ look_result (mem t ns a clients) y d j p o
unfolding look_result now_at store_back client
noted_left t a y ns ns' clients clients' d j p o s w u = rw (w.is, u, w.mem, w.told)

-- p: the label, as the code makes it of what was read
module _ {h : Held} {clients : List ℕ} {d : ℕ} (r : Reader h clients d) (i : made clients d < looks clients d) where
  pub look_below : h.steps < read_count (held_query h)
  look_below = rw (r.held.steps, at_query r, ← look_count_of r.busy) i

  module _ (ns : List ℕ) (p : Words) (f : p ≡ label_words (read_node (held_query h) h.steps)) (ns' t a y : List ℕ) where
    label_is : p ≡ get_or (read_labels (asked_at clients d)) (made clients d) []
    label_is = f ∙ rw r.held.steps (reader_label r (made clients d) i)

    look_here : read_result (mem t ns a clients) y d (asked_at clients d) (made clients d) ≡ look_result (mem t ns a clients) y d (made clients d) p (ensured p (store_in current ns))
    look_here = rw (look_is (mem t ns a clients) y d (asked_at clients d) (made clients d) i, ← label_is)

    pub look_stuck : (e : Refusal) → attempt (Err e) ns' ≡ looked p ns (ensured p (store_in current ns)) → (q : Result Outcome Refusal) → q ≡ Err e
        → result_with (outcome_of q) (mem t ns' a clients) y ≡ read_result (mem t ns a clients) y d (asked_at clients d) (made clients d)
    unfolding look_result
    look_stuck e z q u =
        let w = went_not (seen p) ns (ensured p (store_in current ns)) (Err e) e ns' z refl in
        rw (look_here, w.0, u, w.1, w.2)

    pub look_noted : (s : Sight) → attempt (Ok s) ns' ≡ looked p ns (ensured p (store_in current ns)) → (clients' : List ℕ) → clients' ≡ with_client current clients d (noted h.steps s.revision s.pending (client_in current clients d))
        → result_with Accepted (mem t ns' a clients') y ≡ read_result (mem t ns a clients) y d (asked_at clients d) (made clients d)
    look_noted s z clients' u =
        let w = went_well (seen p) ns (ensured p (store_in current ns)) (Ok s) s ns' z refl in
        rw look_here (noted_left t a y ns ns' clients clients' d (made clients d) p (ensured p (store_in current ns)) s w (u ∙ rw r.held.steps))
