-- The points of a pixel's ray.
use Rattle.std.specs.Prelude.{ℕ, ◌+◌, ◌*◌, Bool, ◌&&◌, pos, ◌+ℤ◌, ◌*ℤ◌, Ok, Result, nat_lt}
use Rattle.std.specs.Result.{result_map_both}
use Rattle.lattice.specs.declared.Point.{Point}
use Rattle.lattice.specs.declared.direction.Direction.{Direction}
use Rattle.lattice.specs.Rows.{Way, way}
use Rattle.refusal.specs.Checks.{unless}
use Rattle.solid.specs.Body.{Body}
use Rattle.march.specs.declared.view.View.{View}
use Rattle.march.specs.declared.fault.PixelFault.{PixelFault}
use Rattle.march.specs.declared.fault.PixelFault.TheVariants.{NoPixel}
use Rattle.march.specs.declared.ray.Ray.{Ray}
use Rattle.march.specs.Checks.{PlainView, plain_view}

-- n steps from p, a direction being given by its parts, and in a direction
abbrev pub along_way : Point → ℕ → Way → Point
along_way p n w = record { x = p.x +ℤ (pos n *ℤ w.0); y = p.y +ℤ (pos n *ℤ w.1); z = p.z +ℤ (pos n *ℤ w.2) }

abbrev pub along : Point → ℕ → Direction → Point
along p n d = along_way p n (way d)

-- where the ray of pixel (i, j) starts: at origin + i across + j down
abbrev pub plain_start : PlainView → (i j : ℕ) → Point
plain_start v i j = along_way (along_way v.origin i v.across) j v.down

abbrev pub start : View → (i j : ℕ) → Point
start v i j = plain_start (plain_view v) i j

-- and its point at t
abbrev pub point : View → (i j t : ℕ) → Point
point v i j t = along (start v i j) t v.ray

-- is there a pixel (i, j) in a picture of so many columns and rows?
abbrev pub has_pixel_in : (width height i j : ℕ) → Bool
has_pixel_in width height i j = nat_lt i width && nat_lt j height

-- has the view a pixel (i, j)?
abbrev pub has_pixel : View → (i j : ℕ) → Bool
has_pixel v i j = has_pixel_in v.width v.height i j

-- the place of that pixel, row by row
abbrev pub place_answer : View → (i j : ℕ) → Result ℕ PixelFault
place_answer v i j = unless (has_pixel v i j) NoPixel (Ok (j * v.width + i))

-- a ray by what it is made of: its start, its direction and its far
abbrev pub ray_parts : Ray → Point × Direction × ℕ
ray_parts r = (r.start, r.toward, r.far)

-- how far it goes
abbrev pub far_of : Ray → ℕ
far_of r = r.far

abbrev pub ray_parts_in : Result Ray PixelFault → Result (Point × Direction × ℕ) PixelFault
ray_parts_in r = result_map_both ray_parts (λ f. f) r

-- the ray of pixel (i, j)
abbrev pub ray_parts_answer : View → (i j : ℕ) → Result (Point × Direction × ℕ) PixelFault
ray_parts_answer v i j = unless (has_pixel v i j) NoPixel (Ok (start v i j, v.ray, v.far))

-- the clearance of a body at each t of a ray: of a ray from a point, by the parts of its direction, and of a view's
abbrev pub clear_from : Body → (start : Point) → Way → (t : ℕ) → ℕ
clear_from b start toward t = b.clear (along_way start t toward)

abbrev pub clear_along : Body → Ray → (t : ℕ) → ℕ
clear_along b r t = clear_from b r.start (way r.toward) t
