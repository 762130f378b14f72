-- The numbers of a view, checked one by one in the order of a job: each has its place, and the first
-- that is refused gives the answer.
use Rattle.std.specs.Prelude.{ℕ, ◌+◌, ℤ, pos, Ok, Result}
use Rattle.std.specs.Result.{result_map_both}
use Rattle.lattice.specs.declared.Point.{Point}
use Rattle.lattice.specs.declared.TheConstants.{LEAST_COORDINATE, MOST_COORDINATE}
use Rattle.lattice.specs.declared.direction.Direction.{Direction}
use Rattle.lattice.specs.declared.direction.NoRow.{NoRow}
use Rattle.lattice.specs.Rows.{Way, way, row_answer}
use Rattle.refusal.specs.declared.range.OutOfRange.{OutOfRange}
use Rattle.refusal.specs.Checks.{and_then}
use Rattle.refusal.specs.Ranges.{in_range, count_in}
use Rattle.march.specs.declared.view.TheConstants.{LEAST_SIDE, MOST_SIDE, MOST_FAR}
use Rattle.march.specs.declared.view.ViewNumbers.{ViewNumbers}
use Rattle.march.specs.declared.view.View.{View}
use Rattle.march.specs.declared.fault.ViewFault.{ViewFault}
use Rattle.march.specs.declared.fault.ViewFault.TheVariants.{Range, Row}

-- the places of a view's numbers, which are those of a job; the origin's other parts come after its first
abbrev pub origin_place : ℕ
origin_place = 1

abbrev pub ray_place : ℕ
ray_place = 4

abbrev pub across_place : ℕ
across_place = 5

abbrev pub down_place : ℕ
down_place = 6

abbrev pub width_place : ℕ
width_place = 7

abbrev pub height_place : ℕ
height_place = 8

abbrev pub far_place : ℕ
far_place = 9

-- three directions by their parts
abbrev pub three_ways : Direction × Direction × Direction → Way × Way × Way
three_ways d = (way d.0, way d.1, way d.2)

-- a view by plain numbers
pub record PlainView : Type 0 where
  pub origin : Point
  pub ray : Way
  pub across : Way
  pub down : Way
  pub width : ℕ
  pub height : ℕ
  pub far : ℕ

abbrev pub plain_view : View → PlainView
plain_view v = record {
  origin = v.origin;
  ray = way v.ray;
  across = way v.across;
  down = way v.down;
  width = v.width;
  height = v.height;
  far = v.far;
}

-- the view of no pixels
abbrev pub blank_view : PlainView
blank_view = record {
  origin = record { x = pos 0; y = pos 0; z = pos 0 };
  ray = (pos 0, pos 0, pos 1);
  across = (pos 1, pos 0, pos 0);
  down = (pos 0, pos 1, pos 0);
  width = 0;
  height = 0;
  far = 0;
}

-- a view, or why there is none, by plain numbers
abbrev pub plain_view_in : Result View ViewFault → Result PlainView ViewFault
plain_view_in r = result_map_both plain_view (λ f. f) r

-- what a check of a number answers, with its fault as that of a view
abbrev pub with_range_fault : {A : Type 0} → Result A OutOfRange → Result A ViewFault
with_range_fault r = result_map_both (λ n. n) (λ e. Range e.place) r

abbrev pub with_row_fault : Result Way NoRow → Result Way ViewFault
with_row_fault r = result_map_both (λ w. w) (λ e. Row e.place) r

-- a part of the origin
unfoldable pub coordinate_answer : (n : ℤ) (place : ℕ) → Result ℤ ViewFault
coordinate_answer n place = with_range_fault (in_range n LEAST_COORDINATE MOST_COORDINATE place)

unfoldable pub origin_answer : ViewNumbers → Result Point ViewFault
origin_answer n =
    and_then (coordinate_answer n.origin.x origin_place) (λ x.
    and_then (coordinate_answer n.origin.y (origin_place + 1)) (λ y.
    and_then (coordinate_answer n.origin.z (origin_place + 2)) (λ z.
    Ok (record { x = x; y = y; z = z }))))

unfoldable pub ways_answer : ViewNumbers → Result (Way × Way × Way) ViewFault
ways_answer n =
    and_then (with_row_fault (row_answer n.ray ray_place)) (λ ray.
    and_then (with_row_fault (row_answer n.across across_place)) (λ across.
    and_then (with_row_fault (row_answer n.down down_place)) (λ down.
    Ok (ray, across, down))))

unfoldable pub sizes_answer : ViewNumbers → Result (ℕ × ℕ × ℕ) ViewFault
sizes_answer n =
    and_then (with_range_fault (count_in n.width LEAST_SIDE MOST_SIDE width_place)) (λ width.
    and_then (with_range_fault (count_in n.height LEAST_SIDE MOST_SIDE height_place)) (λ height.
    and_then (with_range_fault (count_in n.far (pos 0) MOST_FAR far_place)) (λ far.
    Ok (width, height, far))))

abbrev pub view_answer : ViewNumbers → Result PlainView ViewFault
view_answer n =
    and_then (origin_answer n) (λ o. and_then (ways_answer n) (λ w. and_then (sizes_answer n) (λ s.
    Ok (record { origin = o; ray = w.0; across = w.1; down = w.2; width = s.0; height = s.1; far = s.2 }))))
