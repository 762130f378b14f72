use Rattle.std.proofs.Common.{◌≡◌, ◌+◌, ◌*◌, ◌<◌, length, true, pos, nat_abs, refl, arith, w32, to_z, of_z, rules}
use Rattle.std.proofs.lemmas.Int.{to_z-of_z}
use Rattle.refusal.specs.Ranges.{between}
use Rattle.piles.specs.Leaves.{last_column, height}
use Rattle.piles.proofs.Surfaces.{column_is, column_below}
use Rattle.leaves.proofs.surface.Surface.in_column.Goals as goal

pub bounds-self-column : goal.bounds-self-column
bounds-self-column c =
    let s = c.args.self.now.sheet in
    let p = c.args.p in
    let ex : between (pos 0) (last_column s.size.width) p.x ≡ true = search (rules, to_z-of_z) in
    let ey : between (pos 0) (last_column s.size.depth) p.y ≡ true = search (rules, to_z-of_z) in
    let x : to_z w32 (of_z w32 p.x) ≡ p.x = search (rules, to_z-of_z) in
    let y : to_z w32 (of_z w32 p.y) ≡ p.y = search (rules, to_z-of_z) in
    let below : nat_abs p.y * s.size.width + nat_abs p.x < length s.heights.now = omega (arith, s.a_height_each, column_below s.size.width s.size.depth s.heights.now p ex ey) in
    search (rules, x, y, below)

pub returns : goal.returns
returns c =
    let s = c.args.self.now.sheet in
    let p = c.args.p in
    let h = height s.size.width s.heights.now (nat_abs p.x) (nat_abs p.y) in
    let ex : between (pos 0) (last_column s.size.width) p.x ≡ true = search (rules, to_z-of_z) in
    let ey : between (pos 0) (last_column s.size.depth) p.y ≡ true = search (rules, to_z-of_z) in
    let is = column_is s.size.width s.size.depth s.heights.now p h ex ey refl in
    search (rules, to_z-of_z, is)
