-- A number that has to lie in a range, and the refusal of one that does not.
use Rattle.std.specs.Prelude.{ℕ, Bool, if◌then◌else◌, ◌&&◌, ℤ, int_le, Result, Ok, Err, unsigned_abs}
use Rattle.std.specs.Result.{result_map_both}
use Rattle.refusal.specs.declared.range.OutOfRange.{OutOfRange}

-- does n lie in least..most?
abbrev pub between : (least most n : ℤ) → Bool
between least most n = int_le least n && int_le n most

-- the number at a place, where it lies in least..most
abbrev pub in_range : (n least most : ℤ) (place : ℕ) → Result ℤ OutOfRange
in_range n least most place = if between least most n then Ok n else Err (record { place = place })

-- its size, where it does
abbrev pub count_in : (n least most : ℤ) (place : ℕ) → Result ℕ OutOfRange
count_in n least most place = result_map_both unsigned_abs (λ e. e) (in_range n least most place)
