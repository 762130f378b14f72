-- The directions: row k = 9a + 3b + c of the table, with a, b and c in 0..2, is (a - 1, b - 1, c - 1).
use Rattle.std.specs.Prelude.{◌≡◌, ℕ, ◌+◌, ◌*◌, ◌/◌, ◌%◌, ◌<◌, if◌then◌else◌, ℤ, pos, negsuc, ◌-ℤ◌, Some, None, Option, Result, ◌==◌, nat_lt, ok_or}
use Rattle.lattice.specs.declared.direction.TheConstants.{ROWS, STILL}
use Rattle.lattice.specs.declared.direction.Direction.{Direction}
use Rattle.lattice.specs.declared.direction.NoRow.{NoRow}

-- a direction by its three parts
abbrev pub Way : Type 0
Way = ℤ × ℤ × ℤ

abbrev pub way : Direction → Way
way d = (d.x, d.y, d.z)

-- row k of the table
abbrev pub triple : ℕ → Way
triple k = (pos (k / 9) -ℤ pos 1, pos (k / 3 % 3) -ℤ pos 1, pos (k % 3) -ℤ pos 1)

-- the row that a number names: none outside 0..26, nor at the one that does not move
abbrev pub row_of : ℤ → Option Way
row_of (pos k) = if nat_lt k ROWS then (if k == STILL then None else Some (triple k)) else None
row_of (negsuc k) = None

-- the number and the place of the refusal
abbrev pub row_code : NoRow → ℕ × ℕ
row_code fault = (5, fault.place)

-- the row that the number at a place names, or its refusal
abbrev pub row_answer : (n : ℤ) (place : ℕ) → Result Way NoRow
row_answer n place = ok_or (row_of n) (record { place = place })

-- the table's rule
abbrev pub TableRule : Type 0
TableRule =
    (a b c : ℕ) → a < 3 → b < 3 → c < 3
    → triple (9 * a + 3 * b + c) ≡ (pos a -ℤ pos 1, pos b -ℤ pos 1, pos c -ℤ pos 1)
