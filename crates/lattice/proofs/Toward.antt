-- A number, and a point, that goes toward another by at most k, and what that does to the two distances.
use Rattle.std.proofs.Common.{◌≡◌, ℕ, suc, ◌-◌, min, ℤ, pos, negsuc, ◌+ℤ◌, ◌-ℤ◌, neg_ℤ, nat_abs, refl, ap, ◌∙◌, arith}
use borrow.Author.Differences.{ints}
use Rattle.lattice.specs.Space.{gap, dist}
use Rattle.lattice.specs.declared.Point.{Point}

-- z cut to at most k in size
unfoldable pub trunc : ℕ → ℤ → ℤ
trunc k (pos n) = pos (min n k)
trunc k (negsuc n) = neg_ℤ (pos (min (suc n) k))

unfoldable pub toward : ℕ → ℤ → ℤ → ℤ
toward k a b = a +ℤ trunc k (b -ℤ a)

trunc_size : (k : ℕ) (z : ℤ) → nat_abs (trunc k z) ≡ min (nat_abs z) k
unfolding trunc
trunc_size k (pos n) = refl
trunc_size k (negsuc n) = omega (arith, ints)

trunc_rest : (k : ℕ) (z : ℤ) → nat_abs (z -ℤ trunc k z) ≡ nat_abs z - k
unfolding trunc
trunc_rest k (pos n) = omega (arith, ints)
trunc_rest k (negsuc n) = omega (arith, ints)

gap_plus : (a t : ℤ) → gap a (a +ℤ t) ≡ nat_abs t
gap_plus a t = omega (arith, ints)

gap_minus : (a b : ℤ) → nat_abs (b -ℤ a) ≡ gap a b
gap_minus a b = omega (arith, ints)

-- how far it went
pub gap_toward : (k : ℕ) (a b : ℤ) → gap a (toward k a b) ≡ min (gap a b) k
unfolding toward
gap_toward k a b = gap_plus a (trunc k (b -ℤ a)) ∙ trunc_size k (b -ℤ a) ∙ ap (λ n. min n k) (gap_minus a b)

-- how far is left
pub toward_gap : (k : ℕ) (a b : ℤ) → gap (toward k a b) b ≡ gap a b - k
unfolding toward
toward_gap k a b = omega (arith, ints, trunc_rest k (b -ℤ a))

abbrev pub go : ℕ → Point → Point → Point
go k p q = record { x = toward k p.x q.x; y = toward k p.y q.y; z = toward k p.z q.z }

pub dist_go : (k : ℕ) (p q : Point) → dist p (go k p q) ≡ min (dist p q) k
dist_go k p q = omega (arith, gap_toward k p.x q.x, gap_toward k p.y q.y, gap_toward k p.z q.z)

pub go_dist : (k : ℕ) (p q : Point) → dist (go k p q) q ≡ dist p q - k
go_dist k p q = omega (arith, toward_gap k p.x q.x, toward_gap k p.y q.y, toward_gap k p.z q.z)
