-- Laws of what an insert takes, column after column as they arrive, and of the record that it then has. Leans on ColumnLoops.
-- Assumes nothing.
use Rattle.std.proofs.Common.{◌≡◌, ℕ, suc, ◌+◌, ◌<◌, ◌≤◌, true, false, List, [], ◌∷◌, ◌++◌, length, take, drop, set, replicate, sym, refl, ap, ◌∙◌, append_assoc, append-nil, arith, length-append, drop_of_length-le, take_all}
use Rattle.lists.specs.Lists.{padded}
use Rattle.laws.proofs.ListLaws.{take_padded}
use Rattle.query.specs.declared.Column.TheVariants.{Is, Wildcard}
use Rattle.query.specs.Query.{Query, Record, named, naming}
use Rattle.query.specs.Encoding.{names_all, record_of, key_words}
use Rattle.query.specs.Shape.{max_columns}
use Rattle.columns.specs.ColumnContracts.{front, taken_of}
use Rattle.columns.proofs.ColumnLoops.{names_value, names_wildcard}

-- ---- One value more
-- the first four of what was taken, zeros behind
abbrev kept : List ℕ → List ℕ
kept a = padded max_columns (take max_columns a)

-- v stored at its place, if there is one
stored : (a : List ℕ) (i v : ℕ) → length a ≡ i → i < max_columns → set (kept a) i v ≡ kept (a ++ (v ∷ []))
unfolding padded
stored [] i v e h = rw (← e)
stored (x ∷ []) i v e h = rw (← e)
stored (x ∷ y ∷ []) i v e h = rw (← e)
stored (x ∷ y ∷ z ∷ []) i v e h = rw (← e)
stored (x ∷ y ∷ z ∷ w ∷ a) i v e h = absurd (omega arith)

passed : (a : List ℕ) (i v : ℕ) → length a ≡ i → max_columns ≤ i → kept a ≡ kept (a ++ (v ∷ []))
unfolding padded
passed [] i v e h = absurd (omega arith)
passed (x ∷ []) i v e h = absurd (omega arith)
passed (x ∷ y ∷ []) i v e h = absurd (omega arith)
passed (x ∷ y ∷ z ∷ []) i v e h = absurd (omega arith)
passed (x ∷ y ∷ z ∷ w ∷ a) i v e h = refl

-- ---- The loop: after i columns, which all name a value, `sofar` are their values
pub record Taking (q : Query) (values : List ℕ) (i : ℕ) : Type 0 where
  pub names : names_all q ≡ names_all (drop i q)
  pub sofar : List ℕ
  pub many : length sofar ≡ i
  pub fronts : front q ≡ sofar ++ front (drop i q)
  pub are : values ≡ kept sofar

pub taking_none : (q : Query) → Taking q (replicate 4 0) 0
unfolding padded
taking_none q = record { names = refl; sofar = []; many = refl; fronts = refl; are = refl }

module _ (q : Query) (values : List ℕ) (i : ℕ) (t : Taking q values i) where
  module _ (v : ℕ) (h : drop i q ≡ Is v ∷ drop (i + 1) q) where
    on : (l : List ℕ) → l ≡ kept (t.sofar ++ (v ∷ [])) → Taking q l (i + 1)
    unfolding front
    on l g =
        record {
          names = t.names ∙ ap names_all h ∙ names_value v (drop (i + 1) q);
          sofar = t.sofar ++ (v ∷ []);
          many = length-append t.sofar (v ∷ []) ∙ ap (λ (n : ℕ). n + 1) t.many;
          fronts = t.fronts ∙ ap (λ (y : Query). t.sofar ++ front y) h ∙ sym (append_assoc t.sofar (v ∷ []) (front (drop (i + 1) q)));
          are = g;
        }

    pub taking_more : i < max_columns → Taking q (set values i v) (i + 1)
    taking_more l = on (set values i v) (rw t.are (stored t.sofar i v t.many l))

    pub taking_past : max_columns ≤ i → Taking q values (i + 1)
    taking_past l = on values (t.are ∙ passed t.sofar i v t.many l)

  pub taking_stops : drop i q ≡ Wildcard ∷ drop (i + 1) q → names_all q ≡ false
  taking_stops h = t.names ∙ ap names_all h ∙ names_wildcard (drop (i + 1) q)

  -- then the values are those before it
  pub taking_before : drop i q ≡ Wildcard ∷ drop (i + 1) q → values ≡ taken_of q
  unfolding front
  taking_before h =
      let a : front q ≡ t.sofar = t.fronts ∙ ap (λ (y : Query). t.sofar ++ front y) h ∙ append-nil t.sofar in
      rw a t.are

  module _ (h : length q ≤ i) where
    pub taking_named : names_all q ≡ true
    unfolding names_all named
    taking_named = t.names ∙ ap names_all (drop_of_length-le q h)

    pub taking_all : values ≡ taken_of q
    unfolding front
    taking_all =
        let a : front q ≡ t.sofar = t.fronts ∙ ap (λ (y : Query). t.sofar ++ front y) (drop_of_length-le q h) ∙ append-nil t.sofar in
        rw a t.are

-- ---- An insert that is accepted takes its record
front_all : (q : Query) → names_all q ≡ true → front q ≡ record_of q
unfolding front record_of
front_all [] e = refl
front_all (Is v ∷ q) e = rw (front_all q (sym (names_value v q) ∙ e))
front_all (Wildcard ∷ q) e = absurd (let z : false ≡ true = sym (names_wildcard q) ∙ e in let w : ◌≡◌ {A = ℕ} 0 1 = cc in omega arith)

length_record : (q : Query) → length (record_of q) ≡ length q
unfolding record_of
length_record [] = refl
length_record (Is v ∷ q) = ap suc (length_record q)
length_record (Wildcard ∷ q) = ap suc (length_record q)

-- the key made of the values taken is that of the record
pub taken_key : (q : Query) (k : ℕ) (values key : List ℕ) → values ≡ taken_of q → length q ≡ k → k ≤ max_columns → names_all q ≡ true
    → key ≡ key_words (naming (take k values)) → key ≡ key_words (naming (record_of q))
taken_key q k values key e l h n f =
    let rec : Record = record_of q in
    let w : length rec ≡ k = length_record q ∙ l in
    let a : values ≡ padded max_columns rec =
    e ∙ ap (λ (x : Record). padded max_columns (take max_columns x)) (front_all q n)
    ∙ ap (padded max_columns) (take_all max_columns rec (omega arith)) in
    let b : take k values ≡ rec = ap (take k) a ∙ ap (λ (i : ℕ). take i (padded max_columns rec)) (sym w) ∙ take_padded max_columns rec in
    f ∙ ap (λ (x : Record). key_words (naming x)) b
