use Rattle.std.proofs.Common.{◌≡◌, ◌*◌, ap, ◌∙◌, refl, add-one, arith, rules}
use Rattle.std.proofs.lemmas.Int.{to_z-of_z}
use Rattle.piles.specs.Leaves.{greatest}
use Rattle.leaves.proofs.surface.Sheet.greatest.Goals as goal

pub loop-height-init : goal.loop-height-init
unfolding greatest
loop-height-init c = refl

pub loop-height-preserved : goal.loop-height-preserved
unfolding greatest
loop-height-preserved c = rw add-one (search (rules, to_z-of_z, c.loop-height.invariant))

pub returns : goal.returns
returns c =
    let s = c.args.self.now in
    let n : c.loop-height.height-index ≡ s.size.width * s.size.depth = omega (arith, s.a_height_each) in
    c.loop-height.invariant ∙ ap (λ k. greatest k s.heights.now) n
