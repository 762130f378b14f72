-- The numbers that a layer takes, and why others are refused.
use Rattle.std.specs.Prelude.{ℕ, ℤ, pos, neg_ℤ, Ok, Result, nat_le}
use Rattle.std.specs.Result.{result_map_both}
use Rattle.refusal.specs.declared.range.OutOfRange.{OutOfRange}
use Rattle.refusal.specs.Ranges.{in_range, count_in}
use Rattle.refusal.specs.Checks.{and_then, unless}
use Rattle.lattice.specs.declared.TheConstants.{MOST_OFFSET}
use Rattle.lattice.specs.declared.Point.{Point}
use Rattle.lattice.specs.Space.{norm}
use Rattle.solid.specs.declared.TheConstants.{MOST_CLEARANCE}
use Rattle.piles.specs.declared.TheConstants.{LEAST_THICKNESS, MOST_THICKNESS, LEAST_CAP}
use Rattle.layers.specs.declared.fault.LayerFault.{LayerFault}
use Rattle.layers.specs.declared.fault.LayerFault.TheVariants.{Range, PastReach}

-- a number that is refused, as a fault of the layer
abbrev pub layer_range_fault : {A : Type 0} → Result A OutOfRange → Result A LayerFault
layer_range_fault = result_map_both (λ x. x) (λ fault. Range fault.place)

-- each part of an offset is looked at in its order, then the reach below
abbrev pub check_offset : (reach : ℕ) → Point → Result Unit LayerFault
check_offset reach by =
    and_then (part by.x 1) (λ _. and_then (part by.y 2) (λ _. and_then (part by.z 3) (λ _.
    unless (nat_le (norm by) reach) PastReach (Ok tt))))
  where
    part : ℤ → (place : ℕ) → Result ℤ LayerFault
    part n place = layer_range_fault (in_range n (neg_ℤ MOST_OFFSET) MOST_OFFSET place)

-- a distance to thicken by
abbrev pub thicken_number : ℤ → Result ℕ LayerFault
thicken_number by = layer_range_fault (count_in by LEAST_THICKNESS MOST_THICKNESS 1)

-- a bound on the clearances
abbrev pub cap_number : ℤ → Result ℕ LayerFault
cap_number most = layer_range_fault (count_in most LEAST_CAP (pos MOST_CLEARANCE) 1)
