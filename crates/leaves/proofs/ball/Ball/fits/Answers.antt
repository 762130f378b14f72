use Rattle.piles.specs.Leaves.{fits}
use Rattle.leaves.proofs.ball.Ball.fits.Goals as goal

pub returns : goal.returns
unfolding fits
returns c = cc (c.less.ensures.x, c.less.ensures.y, c.less.ensures.z, c.squared.ensures, c.square.ensures)
