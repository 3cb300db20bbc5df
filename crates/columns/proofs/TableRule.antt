-- A rule of a table, proved at all of its entries by one test that antt computes. Assumes nothing.
use Rattle.std.proofs.Common.{◌≡◌, ℕ, ◌<◌, Bool, true, false, T, eqb, List, length, get_or, refl, eqb→eq}
use Rattle.std.proofs.lemmas.Bool.{agree_below, agree_below_at}
use Rattle.std.proofs.lemmas.Float.{T_from_true}

true_from_T : (b : Bool) → T b → b ≡ true
true_from_T true t = refl
true_from_T false t = absurd t

-- the test f passes at each entry of the list and its place
abbrev pub every : (ℕ → ℕ → Bool) → List ℕ → Bool
every f xs = agree_below (λ i. f i (get_or xs i 0)) (λ i. true) (length xs)

pub at : (f : ℕ → ℕ → Bool) (xs : List ℕ) → T (every f xs) → (k : ℕ) → k < length xs → T (f k (get_or xs k 0))
at f xs t k h = T_from_true _ (agree_below_at (λ i. f i (get_or xs i 0)) (λ i. true) (length xs) k (true_from_T (every f xs) t) h)

-- the rule f of a table, as an equation for `rw` to find the table in the goal: its test then computes on the source's own numbers
pub ruled : (f : ℕ → ℕ) (xs : List ℕ) (k : ℕ) → T (every (λ i x. eqb x (f i)) xs) → k < length xs → get_or xs k 0 ≡ f k
ruled f xs k t h = eqb→eq (get_or xs k 0) (f k) (at (λ i x. eqb x (f i)) xs t k h)
