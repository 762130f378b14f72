use Rattle.std.proofs.Common.{min, ap, ◌∙◌, arith}
use Rattle.piles.proofs.Bounds.{ball_clear, ball_at_least}
use Rattle.leaves.proofs.ball.Ball.clear_up_to.Goals as goal

pub returns-then-saturating_sub-most : goal.returns-then-saturating_sub-most
returns-then-saturating_sub-most c =
    let s = c.args.self.now in
    let o = c.offsets-offsets.result in
    let e = c.offsets-offsets.ensures in
    omega (arith, ball_at_least s.centre c.args.p.at s.radius o.x o.y o.z e.x e.y e.z)

pub returns : goal.returns
returns c =
    let s = c.args.self.now in
    let o = c.offsets-offsets.result in
    let e = c.offsets-offsets.ensures in
    c.min.ensures ∙ ap (min c.args.most) (c.smallest_of.ensures ∙ ball_clear s.centre c.args.p.at s.radius o.x o.y o.z e.x e.y e.z)
