-- `columns::sheet::turned` meets its contract: the sheet's rule holds at each of its 256 entries, by one computed test.
-- Assumes nothing.
use Rattle.std.proofs.Common.{◌≡◌, ℕ, ◌+◌, ◌*◌, ◌/◌, ◌%◌, ◌<◌, ◌∙◌, arith}
use Rattle.query.specs.Sheet.{sheet_entry, turned, looks}
use Rattle.columns.proofs.TableRule.{ruled}
use Rattle.columns.proofs.sheet.turned.Goals as goal

-- the rule by an entry's place
by_place : ℕ → ℕ
by_place k = sheet_entry (k / 16) (k % 16)

row : (s l : ℕ) → s < 16 → l < 16 → by_place (s * 16 + l) ≡ sheet_entry s l
unfolding by_place
row s l hs hl =
    let a : (s * 16 + l) / 16 ≡ s = omega arith in
    let b : (s * 16 + l) % 16 ≡ l = omega arith in
    rw (a, b)

-- `passed` is the test of all 256 entries, computed
pub returns : goal.returns
unfolding by_place sheet_entry turned looks
returns c =
    let a = c.args in
    let h : a.stars * 16 + a.look < 256 = omega arith in
    let passed : Unit {0} = tt in
    c.from.ensures ∙ rw (ruled by_place) (row a.stars a.look (omega arith) (omega arith))
