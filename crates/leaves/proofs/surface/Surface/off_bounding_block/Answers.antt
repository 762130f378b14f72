use Rattle.std.proofs.Common.{◌≡◌, ◌-ℤ◌, pos, refl, w32, to_z, of_z, arith, rules}
use Rattle.std.specs.Int.{int_max}
use Rattle.std.proofs.lemmas.Int.{ints, clamps, to_z-of_z}
use Rattle.piles.specs.Leaves.{last_column}
use Rattle.piles.proofs.Bounds.{off_block_is}
use Rattle.leaves.proofs.surface.Surface.off_bounding_block.Goals as goal

pub overflow_cast-result : goal.overflow_cast-result
overflow_cast-result c = (search (rules, to_z-of_z), omega (arith, ints, clamps))

pub returns : goal.returns
returns c =
    let s = c.args.self.now in
    let w = s.sheet.size.width in
    let d = s.sheet.size.depth in
    let p = c.args.p.at in
    let x = c.outside-x.result in
    let y = c.outside-y.result in
    let ex : x ≡ int_max (pos 0 -ℤ p.x) (p.x -ℤ last_column w) = search (rules, to_z-of_z) in
    let ey : y ≡ int_max (pos 0 -ℤ p.y) (p.y -ℤ last_column d) = search (rules, to_z-of_z) in
    let ez : to_z w32 (of_z w32 (p.z -ℤ s.top)) ≡ p.z -ℤ s.top = omega (arith, ints) in
    search (rules, to_z-of_z, ez, off_block_is w d s.top p x y (p.z -ℤ s.top) ex ey refl)
