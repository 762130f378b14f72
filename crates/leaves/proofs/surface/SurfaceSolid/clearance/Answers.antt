use Rattle.std.proofs.Common.{◌≡◌, true, false, ap, ◌∙◌, arith}
use Rattle.std.proofs.lemmas.Grind.{common_steps}
use Rattle.lattice.specs.Space.{within}
use Rattle.piles.specs.Leaves.{leaf_reach, in_column, off_bounding_block}
use Rattle.piles.proofs.Surfaces.{asked_off}
use Rattle.leaves.proofs.surface.SurfaceSolid.clearance.Goals as goal

pub returns : goal.returns
returns c =
    let s = c.args.self.now in
    let w = s.sheet.size.width in
    let d = s.sheet.size.depth in
    let hs = s.sheet.heights.now in
    let p = c.args.p in
    let at : c.in_ok-p.p.at ≡ p = grind (arith, common_steps, c.in_ok-p.ensures) in
    let i : within leaf_reach p ≡ true = grind (arith, common_steps, c.in_ok-p.ensures) in
    let m : in_column w d hs p ≡ false = grind (arith, common_steps, at, c.in_column.ensures) in
    let off : c.off_bounding_block.result ≡ off_bounding_block w d s.top p =
    c.off_bounding_block.ensures ∙ ap (off_bounding_block w d s.top) at in
    asked_off w d hs p s.top c.max.result i m s.top_is_greatest (omega (arith, off))
