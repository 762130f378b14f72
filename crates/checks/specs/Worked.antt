-- Worked numbers, as one table. Each row is a clearance at a point, or how one whole march ends.
use Rattle.std.specs.Prelude.{ℕ, ◌+◌, Bool, true, false, ◌&&◌, List, [], ◌∷◌, pos, negsuc, ◌==◌, IsTrue}
use Rattle.std.proofs.Common.{lit≤}
use Rattle.lattice.specs.declared.Point.{Point}
use Rattle.lattice.specs.Space.{point_of}
use Rattle.lattice.specs.declared.direction.Direction.{Direction}
use Rattle.solid.specs.Body.{Body}
use Rattle.piles.specs.Leaves.{ball, block, surface}
use Rattle.piles.specs.Layers.{thicken, cap}
use Rattle.march.specs.declared.pixel.Pixel.{Pixel}
use Rattle.march.specs.declared.pixel.Pixel.TheVariants.{Marching, Hit, Miss}
use Rattle.march.specs.View.{along}
use Rattle.march.specs.March.{new_pixel, settle}

-- row 12 of the table of directions: straight down
abbrev pub plumb_down : Direction
plumb_down = record {
  x = pos 0;
  y = pos 0;
  z = negsuc 0;
  x_in_range = lit≤ tt;
  y_in_range = lit≤ tt;
  z_in_range = lit≤ tt;
  moves = lit≤ tt;
}

-- a clearance at a point; or the state in which the march from a start along a direction up to far ends
pub data Row : Type 0 where
  clearance : Body → Point → ℕ → Row
  march_end : Body → (start : Point) → (toward : Direction) → (far : ℕ) → Pixel → Row

-- are two states the same?
abbrev pub same_pixel : Pixel → Pixel → Bool
same_pixel (Marching t n) (Marching u m) = t == u && n == m
same_pixel (Marching t n) (Hit d m) = false
same_pixel (Marching t n) (Miss m) = false
same_pixel (Hit d n) (Marching u m) = false
same_pixel (Hit d n) (Hit e m) = d == e && n == m
same_pixel (Hit d n) (Miss m) = false
same_pixel (Miss n) (Marching u m) = false
same_pixel (Miss n) (Hit e m) = false
same_pixel (Miss n) (Miss m) = n == m

-- is the row what the definitions give?
abbrev pub is_right : Row → Bool
is_right (clearance b p c) = b.clear p == c
is_right (march_end b start toward far end) =
    same_pixel (settle (λ t. b.clear (along start t toward)) far (far + 1) new_pixel).0 end

abbrev pub all_right : List Row → Bool
all_right [] = true
all_right (r ∷ rs) = is_right r && all_right rs

-- the ball of radius 5, the box of side 3, a sheet of two columns, and a plate of stock at z = 0
abbrev pub five : Body
five = ball (point_of (pos 0) (pos 0) (pos 0)) 5

abbrev pub cube : Body
cube = block (point_of (pos 0) (pos 0) (pos 0)) (point_of (pos 2) (pos 2) (pos 2))

abbrev pub sheet : Body
sheet = surface 2 1 (pos 3 ∷ (pos 0 ∷ []))

abbrev pub stock : Body
stock = block (point_of (negsuc 0) (negsuc 0) (pos 0)) (point_of (pos 1) (pos 1) (pos 0))

abbrev pub from_above : Body → ℕ → Pixel → Row
from_above b far end = march_end b (point_of (pos 0) (pos 0) (pos 100)) plumb_down far end

abbrev pub table : List Row
table =
    clearance five (point_of (pos 10) (pos 10) (pos 0)) 7
    ∷ clearance five (point_of (pos 10) (pos 10) (pos 10)) 8
    ∷ clearance five (point_of (pos 3) (pos 4) (pos 0)) 0
    ∷ clearance five (point_of (pos 3) (pos 4) (pos 1)) 1
    ∷ clearance cube (point_of (pos 5) (pos 1) (negsuc 6)) 7
    ∷ clearance (thicken 3 cube) (point_of (pos 5) (pos 1) (negsuc 6)) 4
    ∷ clearance (thicken 3 cube) (point_of (pos 5) (pos 1) (pos 1)) 0
    ∷ clearance sheet (point_of (pos 1) (pos 0) (pos 2)) 1
    ∷ clearance sheet (point_of (pos 1) (pos 0) (pos 9)) 6
    ∷ from_above stock 100 (Hit 100 2)
    ∷ from_above (cap 64 stock) 100 (Hit 100 3)
    ∷ from_above stock 99 (Miss 1)
    ∷ from_above (cap 64 stock) 99 (Miss 2)
    ∷ []

abbrev pub Worked : Type 0
Worked = IsTrue (all_right table)
