use Rattle.std.proofs.Common.{◌≡◌, ℕ, ◌≤◌, ℤ, pos, ◌+ℤ◌, ◌-ℤ◌, nat_abs, w32, to_z, of_z, arith}
use Rattle.std.proofs.lemmas.Int.{ints}
use Rattle.lattice.proofs.Distance.{placement_in}
use Rattle.piles.proofs.Bounds.{ball_no_nearer}
use Rattle.scene.proofs.bound.Bound.about_ball.Goals as goal

-- a corner, as the code computes it in 32 bits
less_is : (a : ℤ) (r : ℕ) → nat_abs a ≤ 16384 → r ≤ 16383
    → to_z w32 (of_z w32 (to_z w32 (of_z w32 a) -ℤ to_z w32 r)) ≡ a -ℤ pos r
less_is a r la lr = omega (arith, ints)

more_is : (a : ℤ) (r : ℕ) → nat_abs a ≤ 16384 → r ≤ 16383
    → to_z w32 (of_z w32 (to_z w32 (of_z w32 a) +ℤ to_z w32 r)) ≡ a +ℤ pos r
more_is a r la lr = omega (arith, ints)

pub invariant_of-result : goal.invariant_of-result
invariant_of-result c =
    let b = c.args.leaf.now in let i = placement_in b.centre b.centre_is_placement in record { in_reach = (omega (arith, ints, i.0), omega (arith, ints, i.1), omega (arith, ints, i.2)) }

pub invariant_of-result-2 : goal.invariant_of-result-2
invariant_of-result-2 c =
    let b = c.args.leaf.now in let i = placement_in b.centre b.centre_is_placement in record { in_reach = (omega (arith, ints, i.0), omega (arith, ints, i.1), omega (arith, ints, i.2)) }

pub returns : goal.returns
returns c =
    let b = c.args.leaf.now in
    let m = b.centre in
    let r = b.radius in
    let i = placement_in m b.centre_is_placement in
    let lx = less_is m.x r i.0 b.radius_in_range in
    let ly = less_is m.y r i.1 b.radius_in_range in
    let lz = less_is m.z r i.2 b.radius_in_range in
    let hx = more_is m.x r i.0 b.radius_in_range in
    let hy = more_is m.y r i.1 b.radius_in_range in
    let hz = more_is m.z r i.2 b.radius_in_range in
    λ p _. rw (lx, ly, lz, hx, hy, hz) (ball_no_nearer m p r)
