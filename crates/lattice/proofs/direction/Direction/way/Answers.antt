use Rattle.std.proofs.Common.{◌/◌, ◌%◌, nat_abs, ap, arith}
use Rattle.lattice.proofs.Ways.{short, moves, x_is, y_is, z_is}
use Rattle.lattice.proofs.direction.Direction.way.Goals as goal

pub invariant_of-result : goal.invariant_of-result
invariant_of-result c =
    let k = c.args.k in
    let t = c.triple-x.result in
    let ex = ap nat_abs (x_is t k c.requires.0 c.triple-x.ensures) in
    let ey = ap nat_abs (y_is t k c.requires.0 c.triple-x.ensures) in
    let ez = ap nat_abs (z_is t k c.requires.0 c.triple-x.ensures) in
    let sx = short (k / 9) (omega arith) in
    let sy = short (k / 3 % 3) (omega arith) in
    let sz = short (k % 3) (omega arith) in
    record { x_in_range = omega arith; y_in_range = omega arith; z_in_range = omega arith; moves = omega (arith, moves k c.requires.1) }

pub returns : goal.returns
returns c =
    let ex = x_is c.triple-x.result c.args.k c.requires.0 c.triple-x.ensures in
    let ey = y_is c.triple-x.result c.args.k c.requires.0 c.triple-x.ensures in
    let ez = z_is c.triple-x.result c.args.k c.requires.0 c.triple-x.ensures in
    λ i. (ex i, ey i, ez i)
