-- What is made of a ball's or a box's numbers, or the first refusal that applies: `result_and` goes on where a check passes,
-- and else stops with its fault.
use Rattle.std.specs.Prelude.{ℕ, ◌+◌, ℤ, Ok, Result}
use Rattle.std.specs.Result.{result_and, result_map_both}
use Rattle.refusal.specs.declared.range.OutOfRange.{OutOfRange}
use Rattle.refusal.specs.Checks.{unless}
use Rattle.refusal.specs.Ranges.{in_range, count_in}
use Rattle.lattice.specs.declared.TheConstants.{LEAST_COORDINATE, MOST_COORDINATE}
use Rattle.lattice.specs.declared.Point.{Point}
use Rattle.lattice.specs.Space.{ordered}
use Rattle.leaves.specs.declared.ball.TheConstants.{LEAST_RADIUS, MOST_RADIUS}
use Rattle.leaves.specs.declared.fault.LeafFault.{LeafFault}
use Rattle.leaves.specs.declared.fault.LeafFault.TheVariants.{Range, Crossed}

-- a number that is out of its range, as a leaf's fault
abbrev pub leaf_range_fault : OutOfRange → LeafFault
leaf_range_fault fault = Range fault.place

-- the checks of a point's three coordinates, the first of which stands at the place `first`
unfoldable pub point_in_range : Point → (first : ℕ) → Result Unit LeafFault
point_in_range p first =
    result_and (coordinate p.x first) (result_and (coordinate p.y (first + 1)) (coordinate p.z (first + 2)))
  where
    coordinate : ℤ → ℕ → Result Unit LeafFault
    coordinate n place = result_map_both (λ _. tt) leaf_range_fault (in_range n LEAST_COORDINATE MOST_COORDINATE place)

-- a ball, by its centre and radius
abbrev pub ball_made : Point → ℤ → Result (Point × ℕ) LeafFault
ball_made centre radius =
    result_and (point_in_range centre 1)
    (result_map_both (λ r. (centre, r)) leaf_range_fault (count_in radius LEAST_RADIUS MOST_RADIUS 4))

-- a box, by its corners
abbrev pub box_made : (lo hi : Point) → Result (Point × Point) LeafFault
box_made lo hi =
    result_and (point_in_range lo 1)
    (result_and (point_in_range hi 4)
    (unless (ordered lo hi) Crossed
    (Ok (lo, hi))))
