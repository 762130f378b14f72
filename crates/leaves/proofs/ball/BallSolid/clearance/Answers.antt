use Rattle.std.proofs.Common.{◌≡◌, Ok, Err, Result, sym, ap, ◌∙◌}
use Rattle.std.specs.Result.{result_and}
use Rattle.lattice.specs.declared.Point.{Point}
use Rattle.solid.specs.declared.QuestionFault.{QuestionFault}
use Rattle.solid.specs.Answer.{answer}
use Rattle.solid.proofs.Asked.{answer_in}
use Rattle.piles.specs.Leaves.{ball}
use Rattle.piles.proofs.Bounds.{ball_clear}
use Rattle.leaves.proofs.ball.BallSolid.clearance.Goals as goal

-- the point that was taken is the one that was given
same_point : (x p : Point) (r : Result (Unit {0}) QuestionFault) → ◌≡◌ {A = Result Point QuestionFault} (Ok x) (result_and r (Ok p)) → x ≡ p
same_point x p (Ok u) h = cc
same_point x p (Err f) h = cc

pub returns : goal.returns
returns c =
    let s = c.args.self.now in
    let q = c.in_ok-asked.asked in
    let o = c.offsets.result in
    let e = c.offsets.ensures in
    ap Ok (c.smallest.ensures ∙ ball_clear s.centre q.at s.radius o.x o.y o.z e.x e.y e.z)
    ∙ sym (answer_in (ball s.centre s.radius) q.at q.in_reach)
    ∙ ap (answer (ball s.centre s.radius)) (same_point q.at c.args.p _ c.in_ok-asked.ensures)
