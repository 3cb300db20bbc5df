-- The labels of reads and of writes by one rule: which columns change, and to what a value changes. Leans on query.
-- Definitions only. Assumes nothing.
use Rattle.std.specs.Prelude.{ℕ, zero, suc, ◌+◌, ◌*◌, ◌/◌, ◌%◌, [], ◌∷◌}
use Rattle.query.specs.declared.Column.{Column}
use Rattle.query.specs.declared.Column.TheVariants.{Is, Wildcard}
use Rattle.columns.specs.declared.labels.Turned.{Turned}
use Rattle.columns.specs.declared.labels.Turned.TheVariants as turned
use Rattle.query.specs.Query.{Query, Term, value, wildcard, any, Label, pick}

-- what a value changes to
abbrev pub turned_term : Turned → Term
turned_term turned.Any = any
turned_term turned.Wildcard = wildcard

-- a column changes where n is odd: a value to t, a star to ?
unfoldable pub changed_term : Term → Column → ℕ → Term
changed_term t (Is v) n = pick n (value v) t
changed_term t Wildcard n = pick n wildcard any

-- the label with the columns changed that n's bits say. A read's with t = ? and the sheet's entry, a write's with t = *
unfoldable pub changed_node : Term → Query → ℕ → Label
changed_node t [] n = []
changed_node t (c ∷ q) n = changed_term t c n ∷ changed_node t q (n / 2)

-- n bits as n bytes of 0 or 1, the lowest first
unfoldable pub spread : ℕ → ℕ → ℕ
spread zero x = 0
spread (suc n) x = x % 2 + 256 * spread n (x / 2)
