-- The points of a ray: two of them are no further apart than their t, and all lie in the working range.
use Rattle.std.proofs.Common.{ℕ, zero, suc, ◌+◌, ◌-◌, ◌<◌, ◌≤◌, ℤ, pos, negsuc, ◌+ℤ◌, ◌*ℤ◌, nat_abs, arith}
use Rattle.std.proofs.lemmas.Int.{ints}
use Rattle.lattice.specs.Space.{gap, dist, In}
use Rattle.lattice.specs.declared.Point.{Point}
use Rattle.lattice.specs.declared.direction.Direction.{Direction}
use Rattle.lattice.specs.declared.TheConstants.{LEAST_COORDINATE}
use Rattle.lattice.proofs.Distance.{in_less}
use Rattle.march.specs.declared.deep.TheConstants.{WORKING_RANGE}
use Rattle.march.specs.declared.ray.TheConstants.{MOST_START}
use Rattle.march.specs.declared.view.TheConstants.{MOST_FAR}
use Rattle.march.specs.declared.view.View.{View}
use Rattle.march.specs.View.{along, start, point}

-- one axis, along which a part d of a direction goes
gap_along : (a d : ℤ) (s t : ℕ) → nat_abs d ≤ 1 → s ≤ t → gap (a +ℤ (pos s *ℤ d)) (a +ℤ (pos t *ℤ d)) ≤ t - s
gap_along a (pos zero) s t h le = omega (arith, ints)
gap_along a (pos (suc zero)) s t h le = omega (arith, ints)
gap_along a (pos (suc (suc n))) s t h le = absurd (omega arith)
gap_along a (negsuc zero) s t h le = omega (arith, ints)
gap_along a (negsuc (suc n)) s t h le = absurd (omega arith)

size_along : (a d : ℤ) (n r m : ℕ) → nat_abs d ≤ 1 → nat_abs a ≤ r → n ≤ m → nat_abs (a +ℤ (pos n *ℤ d)) ≤ r + m
size_along a (pos zero) n r m h ha hn = omega (arith, ints)
size_along a (pos (suc zero)) n r m h ha hn = omega (arith, ints)
size_along a (pos (suc (suc k))) n r m h ha hn = absurd (omega arith)
size_along a (negsuc zero) n r m h ha hn = omega (arith, ints)
size_along a (negsuc (suc k)) n r m h ha hn = absurd (omega arith)

-- at most m steps from a point whose parts are at most r in size
pub in_along : (p : Point) (d : Direction) (n r m : ℕ) → In r p → n ≤ m → In (r + m) (along p n d)
in_along p d n r m hp hn = (
  size_along p.x d.x n r m d.x_in_range hp.0 hn,
  size_along p.y d.y n r m d.y_in_range hp.1 hn,
  size_along p.z d.z n r m d.z_in_range hp.2 hn,
)

-- two points of one ray
pub dist_along : (p : Point) (d : Direction) (s t : ℕ) → s ≤ t → dist (along p s d) (along p t d) ≤ t - s
dist_along p d s t le =
    let a = gap_along p.x d.x s t d.x_in_range le in
    let b = gap_along p.y d.y s t d.y_in_range le in
    let c = gap_along p.z d.z s t d.z_in_range le in
    omega arith

-- a ray that starts where a view's rays may start stays in the working range
pub point_in_range : (p : Point) (d : Direction) (t far : ℕ) → In MOST_START p → far ≤ nat_abs MOST_FAR → t ≤ far → In WORKING_RANGE (along p t d)
point_in_range p d t far hp hf ht =
    in_less (MOST_START + nat_abs MOST_FAR) WORKING_RANGE (along p t d) (omega arith) (in_along p d t MOST_START (nat_abs MOST_FAR) hp (omega arith))

-- the rays of a view
pub across_in : (v : View) (i : ℕ) → i < v.width → In 16447 (along v.origin i v.across)
across_in v i h = in_along v.origin v.across i (nat_abs LEAST_COORDINATE) 63 (v.x_in_range, v.y_in_range, v.z_in_range) (omega (arith, v.width_in_range))

pub start_in : (v : View) (i j : ℕ) → i < v.width → j < v.height → In MOST_START (start v i j)
start_in v i j hi hj = in_along (along v.origin i v.across) v.down j 16447 63 (across_in v i hi) (omega (arith, v.height_in_range))

pub point_in : (v : View) (i j t : ℕ) → i < v.width → j < v.height → t ≤ v.far → In WORKING_RANGE (point v i j t)
point_in v i j t hi hj ht = point_in_range (start v i j) v.ray t v.far (start_in v i j hi hj) v.far_in_range ht
