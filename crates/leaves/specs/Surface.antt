-- What a surface's size, its sheet and the surface itself are.
use Rattle.std.specs.Prelude.{ℕ, ◌*◌, ◌≤◌, Bool, ◌&&◌, List, length, take, ℤ, Ok, Result, nat_le, unsigned_abs}
use Rattle.std.specs.Result.{result_map_both}
use Rattle.refusal.specs.Checks.{unless}
use Rattle.refusal.specs.Ranges.{between}
use Rattle.solid.specs.Body.{Body}
use Rattle.piles.specs.Leaves.{surface}
use Rattle.leaves.specs.declared.surface.TheConstants.{SHORTEST_SIDE, LONGEST_SIDE}
use Rattle.leaves.specs.declared.surface.SurfaceSize.{SurfaceSize}
use Rattle.leaves.specs.declared.fault.SurfaceFault.{SurfaceFault}
use Rattle.leaves.specs.declared.fault.SurfaceFault.TheVariants.{Size, Buffer}

-- how many columns stand along x, along y, and in all
abbrev pub width_columns : SurfaceSize → ℕ
width_columns size = size.width

abbrev pub depth_columns : SurfaceSize → ℕ
depth_columns size = size.depth

abbrev pub all_columns : SurfaceSize → ℕ
all_columns size = width_columns size * depth_columns size

-- a side may have so many columns: as a test of a number, and as a fact of a count
abbrev pub is_side : ℤ → Bool
is_side n = between SHORTEST_SIDE LONGEST_SIDE n

abbrev pub IsSide : ℕ → Type 0
IsSide n = (unsigned_abs SHORTEST_SIDE ≤ n) × (n ≤ unsigned_abs LONGEST_SIDE)

-- a size, by its width and depth, where there is room for so many heights
abbrev pub size_made : (width depth : ℤ) → (room : ℕ) → Result SurfaceSize SurfaceFault
size_made width depth room =
    unless (is_side width && is_side depth) Size
    (unless (nat_le (unsigned_abs width * unsigned_abs depth) room) Buffer
    (Ok (record { width = unsigned_abs width; depth = unsigned_abs depth })))

-- a sheet, by its size and its heights: as many of those given as it has columns
abbrev pub sheet_made : (width depth : ℤ) → List ℤ → Result (SurfaceSize × List ℤ) SurfaceFault
sheet_made width depth hs =
    result_map_both (λ size. (size, take (all_columns size) hs)) (λ e. e) (size_made width depth (length hs))

-- the surface of that size and those heights
abbrev pub surface_body : SurfaceSize → List ℤ → Body
surface_body size hs = surface (width_columns size) (depth_columns size) hs
