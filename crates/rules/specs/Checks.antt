-- The check word of a node: a number made of its label, kept apart from it, so that a search reads numbers that lie close together. A node is read
-- with what its check tells: its label's first number, below 2^32 by itself, becomes 2^32 or more where the check is not its label's, so that it is
-- no label's node. What is added is a number that tells the check, so that nothing is lost. Leans on lists' `radix` and on the width of a label.
-- Definitions only. Assumes nothing.
use Rattle.std.specs.Prelude.{cond, List, ℕ, ◌+◌, ◌*◌, ◌/◌, ◌%◌, eqb, get_or, take, set}
use Rattle.lists.specs.Lists.{radix}
use Rattle.query.specs.Encoding.{label_width}

-- a label's five numbers, each with its factor; the factors are below 2^29, so that no sum reaches 2^64
unfoldable pub check_of : List ℕ → ℕ
check_of l = (get_or l 0 0 * 268435459 + get_or l 1 0 * 402653189 + get_or l 2 0 * 201326611 + get_or l 3 0 * 335544323 + get_or l 4 0 * 469762049) % radix

-- a and 0 change places, all others stay: 0 exactly at a, and twice the same is the number itself
unfoldable pub misfit : ℕ → ℕ → ℕ
misfit a c = cond (eqb c a) 0 (cond (eqb c 0) a c)

-- a node n with what its check c tells
unfoldable pub labelled : ℕ → List ℕ → List ℕ
labelled c n = set n 0 (get_or n 0 0 + radix * misfit (check_of (take label_width n)) c)

-- and back: the node by itself, and its check
unfoldable pub bared : List ℕ → List ℕ
bared n = set n 0 (get_or n 0 0 % radix)

unfoldable pub check_for : List ℕ → ℕ
check_for n = misfit (check_of (take label_width (bared n))) (get_or n 0 0 / radix)
