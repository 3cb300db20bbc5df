-- What the parts of the refusals' numbers say of the whole ones. Leans on the rules' Refusals and on the laws of nodes and clients. Assumes nothing.
use mathlib.Core.Path.{◌≡◌, refl, ◌∙◌}
use mathlib.Core.Bool.{Bool, true, false, cond, not}
use mathlib.Core.List.{List}
use Prim.Native.Nat.{ℕ, ◌<◌}
use lib.Dec.{eqb}
use borrow.Author.Tests.{lt-leb, ne_eqb}
use Rattle.rules.specs.Layout.{max_clients, refused_taken, refused_idle}
use Rattle.rules.specs.Client.{is_idle, is_bad}
use Rattle.rules.specs.Work.{Request}
use Rattle.rules.specs.Memory.{Mem, mem}
use Rattle.rules.specs.Refusals.{form, shape, client, is_unsound, no_client, at_client}
use Rattle.clients.specs.ClientContracts.{client_code}
use Rattle.checks.specs.CheckContracts.{fresh_code, desk_code}

-- ---- What is found at a client
pub client_there : (tb nd an cl : List ℕ) (d : ℕ) → is_unsound (mem tb nd an cl) ≡ false → d < max_clients → at_client (mem tb nd an cl) d ≡ client_code cl d
unfolding at_client no_client client client_code
client_there tb nd an cl d a b = rw (a, lt-leb max_clients d b) refl

-- it decides a begin, but for the last test
begin_found : (u n b i : Bool) (r : ℕ)
    → cond u 3 (cond n 4 (cond b 3 (cond (not i) 5 r)))
    ≡ cond (eqb (cond u 3 (cond n 4 (cond b 3 (cond i 6 0)))) 0) 5
    (cond (eqb (cond u 3 (cond n 4 (cond b 3 (cond i 6 0)))) 6) r (cond u 3 (cond n 4 (cond b 3 (cond i 6 0)))))
begin_found true n b i r = refl
begin_found false true b i r = refl
begin_found false false true i r = refl
begin_found false false false true r = refl
begin_found false false false false r = refl

module _ (m : Mem) (d : ℕ) (x : Request) where
  desk_rest : desk_code m d x ≡ cond (eqb (at_client m d) 0) refused_taken (cond (eqb (at_client m d) refused_idle) (fresh_code (form m) (shape m) m.nodes x) (at_client m d))
  unfolding at_client desk_code
  desk_rest = begin_found (is_unsound m) (no_client d) (is_bad (shape m) (client m d)) (is_idle (client m d)) (fresh_code (form m) (shape m) m.nodes x)

  pub desk_taken : at_client m d ≡ 0 → desk_code m d x ≡ refused_taken
  desk_taken h = desk_rest ∙ rw h

  pub desk_free : at_client m d ≡ refused_idle → desk_code m d x ≡ fresh_code (form m) (shape m) m.nodes x
  desk_free h = desk_rest ∙ rw h

  pub desk_other : (at_client m d ≡ 0 → ⊥) → (at_client m d ≡ refused_idle → ⊥) → desk_code m d x ≡ at_client m d
  desk_other h g = desk_rest ∙ rw (ne_eqb (at_client m d) 0 h, ne_eqb (at_client m d) refused_idle g)
