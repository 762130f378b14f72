-- Lower bounds of a ball's clearance, clearances by signed differences, and the boxes about balls and boxes.
use Rattle.std.proofs.Common.{◌≡◌, ℕ, ◌+◌, ◌-◌, ◌≤◌, max, ℤ, pos, ◌+ℤ◌, ◌-ℤ◌, ◌≤ℤ◌, nat_abs, refl, ⊎_elim, arith}
use Rattle.std.specs.Int.{int_max}
use Rattle.std.proofs.lemmas.Int.{ints, clamps}
use Rattle.std.proofs.lemmas.Bool.{both_ways, cases_lt}
use Rattle.lattice.specs.Space.{gap}
use Rattle.lattice.specs.declared.Point.{Point}
use Rattle.piles.specs.Leaves.{least, fits, ball, above, beside, block, BoxHolds, last_column, off_bounding_block}
use Rattle.piles.proofs.Least.{least_holds}
use Rattle.piles.proofs.Axes.{rise_is}
use Rattle.piles.proofs.Balls.{fits_far, fits_last}

-- a ball's clearance, by the offsets from its centre; it is at least the greatest of them less the radius
fits_at_least : (r a b c : ℕ) → max a (max b c) - r ≤ least (max a (max b c)) (fits r a b c)
fits_at_least r a b c =
    let n = max a (max b c) in
    let k = least n (fits r a b c) in
    let fit = least_holds n (fits r a b c) (fits_last r a b c n (omega arith) (omega arith) (omega arith)) in
    ⊎_elim (λ l. absurd (both_ways (fits r a b c k) (fits_far r a b c k l) fit)) (λ l. omega arith) (cases_lt (k + r) n)

module _ (m p : Point) (r a b c : ℕ) (ea : a ≡ gap p.x m.x) (eb : b ≡ gap p.y m.y) (ec : c ≡ gap p.z m.z) where
  pub ball_clear : least (max a (max b c)) (fits r a b c) ≡ (ball m r).clear p
  ball_clear t = least (max (ea t) (max (eb t) (ec t))) (fits r (ea t) (eb t) (ec t))

  pub ball_at_least : max a (max b c) - r ≤ (ball m r).clear p
  ball_at_least = omega (arith, fits_at_least r a b c, ball_clear)

-- how far a number lies outside lo..hi, by a difference that is below 0 inside
axis_clear : (lo hi a x : ℤ) → x ≡ int_max (lo -ℤ a) (a -ℤ hi) → nat_abs (int_max x (pos 0)) ≡ beside lo hi a
axis_clear lo hi a x e = omega (arith, ints, clamps, rise_is (lo -ℤ a), rise_is (a -ℤ hi))

max_or_none : (x y : ℤ) → nat_abs (int_max (int_max x y) (pos 0)) ≡ max (nat_abs (int_max x (pos 0))) (nat_abs (int_max y (pos 0)))
max_or_none x y = omega (arith, ints, clamps)

-- a box's clearance, by such differences on its three axes
pub block_clear : (lo hi p : Point) (x y z : ℤ) → x ≡ int_max (lo.x -ℤ p.x) (p.x -ℤ hi.x) → y ≡ int_max (lo.y -ℤ p.y) (p.y -ℤ hi.y) → z ≡ int_max (lo.z -ℤ p.z) (p.z -ℤ hi.z) → nat_abs (int_max (int_max x (int_max y z)) (pos 0)) ≡ (block lo hi).clear p
block_clear lo hi p x y z ex ey ez =
    rw (max_or_none x (int_max y z), max_or_none y z) (λ t. max (axis_clear lo.x hi.x p.x x ex t) (max (axis_clear lo.y hi.y p.y y ey t) (axis_clear lo.z hi.z p.z z ez t)))

-- how far a point lies off the bounding block of a sheet, in the same way
pub off_block_is : (w d : ℕ) (top : ℤ) (p : Point) (x y z : ℤ) → x ≡ int_max (pos 0 -ℤ p.x) (p.x -ℤ last_column w) → y ≡ int_max (pos 0 -ℤ p.y) (p.y -ℤ last_column d) → z ≡ p.z -ℤ top → nat_abs (int_max (int_max x (int_max y z)) (pos 0)) ≡ off_bounding_block w d top p
off_block_is w d top p x y z ex ey ez =
    rw (max_or_none x (int_max y z), max_or_none y z) (λ t. max (axis_clear (pos 0) (last_column w) p.x x ex t) (max (axis_clear (pos 0) (last_column d) p.y y ey t) (risen t)))
  where
    risen : nat_abs (int_max z (pos 0)) ≡ above p.z top
    risen = omega (arith, ints, clamps, rise_is (p.z -ℤ top))

axis_held : (low high lo hi a : ℤ) → low ≤ℤ lo → hi ≤ℤ high → beside low high a ≤ beside lo hi a
axis_held low high lo hi a l h = omega (arith, ints, rise_is (lo -ℤ a), rise_is (a -ℤ hi), rise_is (low -ℤ a), rise_is (a -ℤ high))

-- a box that another holds is no nearer than that one
pub held_no_nearer : (low high lo hi p : Point) → BoxHolds low high lo hi → (block low high).clear p ≤ (block lo hi).clear p
held_no_nearer low high lo hi p h =
    omega (arith, axis_held low.x high.x lo.x hi.x p.x h.0 h.3, axis_held low.y high.y lo.y hi.y p.y h.1 h.4, axis_held low.z high.z lo.z hi.z p.z h.2 h.5)

-- the corners of the box about a ball
abbrev pub ball_low : (m : Point) (r : ℕ) → Point
ball_low m r = record { x = m.x -ℤ pos r; y = m.y -ℤ pos r; z = m.z -ℤ pos r }

abbrev pub ball_high : (m : Point) (r : ℕ) → Point
ball_high m r = record { x = m.x +ℤ pos r; y = m.y +ℤ pos r; z = m.z +ℤ pos r }

axis_ball : (m a : ℤ) (r : ℕ) → beside (m -ℤ pos r) (m +ℤ pos r) a ≤ gap a m - r
axis_ball m a r = omega (arith, ints, rise_is ((m -ℤ pos r) -ℤ a), rise_is (a -ℤ (m +ℤ pos r)))

-- a ball is no nearer than the box about it
pub ball_no_nearer : (m p : Point) (r : ℕ) → (block (ball_low m r) (ball_high m r)).clear p ≤ (ball m r).clear p
ball_no_nearer m p r = omega (arith, axis_ball m.x p.x r, axis_ball m.y p.y r, axis_ball m.z p.z r, ball_at_least m p r (gap p.x m.x) (gap p.y m.y) (gap p.z m.z) refl refl refl)
