use Rattle.std.proofs.Common.{◌≡◌, ◌-ℤ◌, rules}
use Rattle.std.specs.Int.{int_max}
use Rattle.std.proofs.lemmas.Int.{to_z-of_z}
use Rattle.piles.proofs.Bounds.{block_clear}
use Rattle.leaves.proofs.leaf_point.LeafPoint.off_block.Goals as goal

pub returns : goal.returns
returns c =
    let lo = c.args.lo.at in
    let hi = c.args.hi.at in
    let p = c.args.self.at in
    let x = c.outside-x.result in
    let y = c.outside-y.result in
    let z = c.outside-z.result in
    let ex : x ≡ int_max (lo.x -ℤ p.x) (p.x -ℤ hi.x) = search (rules, to_z-of_z) in
    let ey : y ≡ int_max (lo.y -ℤ p.y) (p.y -ℤ hi.y) = search (rules, to_z-of_z) in
    let ez : z ≡ int_max (lo.z -ℤ p.z) (p.z -ℤ hi.z) = search (rules, to_z-of_z) in
    search (rules, to_z-of_z, block_clear lo hi p x y z ex ey ez)
