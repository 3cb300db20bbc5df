-- `table::insert` meets its contract: by what the scan gave. Assumes nothing.
use Rattle.std.proofs.Common.{ℕ, ◌+◌, ◌*◌, ◌≤◌, arith}
use Rattle.std.proofs.Math.Nat.{mul-le-mul_right}
use Rattle.table.proofs.TableMemory.{ends, room_for}
use Rattle.table.proofs.Seeking.{insert_there, spot_in, insert_full, insert_added}
use Rattle.table.proofs.insert.Goals as goal

pub returns-in_default : goal.returns-in_default
returns-in_default c = let x = insert_there _ _ c.requires _ c.seek.ensures c.in_default.is in record { value = x.0; table_after = x.1 }

pub returns-then-n-ge-RECORDS : goal.returns-then-n-ge-RECORDS
returns-then-n-ge-RECORDS c =
    let x = insert_full _ _ c.requires _ c.seek.ensures c.in-Some.i c.in-Some.is c.if-n-ge-RECORDS.true in
    record { value = x.0; table_after = x.1 }

-- the place is one of the table's records, or behind the last
place_in : (k n i : ℕ) → k ≤ 4 → n ≤ 2048 → i ≤ n → (i * k ≤ n * k) × (8 + n * k ≤ 8200)
place_in k n i h g l = (mul-le-mul_right k l, ends k n h g)

pub overflow_mul-at : goal.overflow_mul-at
overflow_mul-at c =
    let p = place_in _ _ _ c.requires.columns.1 c.requires.few (spot_in _ _ c.requires _ c.seek.ensures c.in-Some.i c.in-Some.is) in
    omega (arith, p.0, p.1)

pub overflow_add-at : goal.overflow_add-at
overflow_add-at c =
    let p = place_in _ _ _ c.requires.columns.1 c.requires.few (spot_in _ _ c.requires _ c.seek.ensures c.in-Some.i c.in-Some.is) in
    omega (arith, p.0, p.1)

pub insert-requires : goal.insert-requires
insert-requires c =
    let p = place_in _ _ _ c.requires.columns.1 c.requires.few (spot_in _ _ c.requires _ c.seek.ensures c.in-Some.i c.in-Some.is) in
    (omega (arith, p.0), room_for _ _ c.requires c.if-n-ge-RECORDS.false)

pub returns : goal.returns
returns c =
    let x = insert_added _ _ c.requires _ c.seek.ensures c.in-Some.i c.in-Some.is _ c.if-n-ge-RECORDS.false c.insert.ensures in
    record { value = x.0; table_after = x.1 }
