-- The lattice: points of three whole numbers, and their distance.
use Rattle.std.specs.Prelude.{ℕ, int_le, ◌≤◌, ◌≤ℤ◌, max, Bool, ◌&&◌, ℤ, ◌+ℤ◌, ◌-ℤ◌, nat_le, unsigned_abs, FitsSigned}
use Rattle.std.specs.Int.{w32, int_wrapping_sub}
use Rattle.lattice.specs.declared.Point.{Point}
use Rattle.lattice.specs.declared.TheConstants.{LEAST_COORDINATE, MOST_COORDINATE, MOST_OFFSET}

-- how far apart two whole numbers are
abbrev pub gap : ℤ → ℤ → ℕ
gap a b = unsigned_abs (a -ℤ b)

-- the distance of two points: the greatest of the three differences
abbrev pub dist : Point → Point → ℕ
dist p q = max (gap p.x q.x) (max (gap p.y q.y) (gap p.z q.z))

-- the greatest part of a point, in size
abbrev pub norm : Point → ℕ
norm p = max (unsigned_abs p.x) (max (unsigned_abs p.y) (unsigned_abs p.z))

-- no part of the point is above r in size: `within` tests it, `In` says it
abbrev pub within : ℕ → Point → Bool
within r p = nat_le (unsigned_abs p.x) r && (nat_le (unsigned_abs p.y) r && nat_le (unsigned_abs p.z) r)

abbrev pub In : ℕ → Point → Type 0
In r p = (unsigned_abs p.x ≤ r) × (unsigned_abs p.y ≤ r) × (unsigned_abs p.z ≤ r)

-- a point moved by an offset, and moved back by it
abbrev pub onward : Point → Point → Point
onward v p = record { x = p.x +ℤ v.x; y = p.y +ℤ v.y; z = p.z +ℤ v.z }

abbrev pub back : Point → Point → Point
back v p = record { x = p.x -ℤ v.x; y = p.y -ℤ v.y; z = p.z -ℤ v.z }

-- the same in 32 bits, where a part that they do not hold wraps around
abbrev pub back_wrapped : Point → Point → Point
back_wrapped v p = record {
  x = int_wrapping_sub w32 p.x v.x;
  y = int_wrapping_sub w32 p.y v.y;
  z = int_wrapping_sub w32 p.z v.z;
}

-- is each part one that 32 bits hold?
abbrev pub FitsI32 : Point → Type 0
FitsI32 p = FitsSigned w32 p.x × FitsSigned w32 p.y × FitsSigned w32 p.z

-- a point at which a ball, a box or a view may be placed: each coordinate is one that its centre, its corner or its
-- origin may have
abbrev pub IsPlacement : Point → Type 0
IsPlacement p =
    (LEAST_COORDINATE ≤ℤ p.x) × (p.x ≤ℤ MOST_COORDINATE)
    × (LEAST_COORDINATE ≤ℤ p.y) × (p.y ≤ℤ MOST_COORDINATE)
    × (LEAST_COORDINATE ≤ℤ p.z) × (p.z ≤ℤ MOST_COORDINATE)

-- an offset by which a solid may be moved: no part is above MOST_OFFSET in size
abbrev pub IsOffset : Point → Type 0
IsOffset v = In (unsigned_abs MOST_OFFSET) v

-- is lo above hi on no axis?
abbrev pub ordered : (lo hi : Point) → Bool
ordered lo hi = int_le lo.x hi.x && (int_le lo.y hi.y && int_le lo.z hi.z)

-- the point of three coordinates
abbrev pub point_of : (x y z : ℤ) → Point
point_of x y z = record { x = x; y = y; z = z }
