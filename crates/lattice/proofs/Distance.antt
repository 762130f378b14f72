-- The laws of the distance: it is symmetric, keeps the triangle, and does not see a common offset.
use Rattle.std.proofs.Common.{◌≡◌, ℕ, ◌+◌, ◌≤◌, ℤ, ◌-ℤ◌, arith}
use borrow.Author.Differences.{ints}
use Rattle.lattice.specs.Space.{gap, dist, In, IsPlacement, back}
use Rattle.lattice.specs.declared.Point.{Point}

pub gap_self : (a : ℤ) → gap a a ≡ 0
gap_self a = omega (arith, ints)

pub gap_swap : (a b : ℤ) → gap a b ≡ gap b a
gap_swap a b = omega (arith, ints)

pub gap_triangle : (a b c : ℤ) → gap a c ≤ gap a b + gap b c
gap_triangle a b c = omega (arith, ints)

pub gap_back : (v a b : ℤ) → gap (a -ℤ v) (b -ℤ v) ≡ gap a b
gap_back v a b = omega (arith, ints)

pub dist_self : (p : Point) → dist p p ≡ 0
dist_self p = omega (arith, gap_self p.x, gap_self p.y, gap_self p.z)

pub dist_swap : (p q : Point) → dist p q ≡ dist q p
dist_swap p q = omega (arith, gap_swap p.x q.x, gap_swap p.y q.y, gap_swap p.z q.z)

pub dist_triangle : (p q r : Point) → dist p r ≤ dist p q + dist q r
dist_triangle p q r = omega (arith, gap_triangle p.x q.x r.x, gap_triangle p.y q.y r.y, gap_triangle p.z q.z r.z)

pub dist_back : (v p q : Point) → dist (back v p) (back v q) ≡ dist p q
dist_back v p q = simp (gap_back)

pub in_less : (r s : ℕ) (p : Point) → r ≤ s → In r p → In s p
in_less r s p l i = omega arith

-- what may be placed somewhere lies near the origin
pub placement_in : (p : Point) → IsPlacement p → In 16384 p
placement_in p i = (omega (arith, ints, i.0, i.1), omega (arith, ints, i.2, i.3), omega (arith, ints, i.4, i.5))
