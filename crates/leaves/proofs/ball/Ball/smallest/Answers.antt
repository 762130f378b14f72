use Rattle.std.proofs.Common.{◌≡◌, ℕ, ◌+◌, ◌-◌, ◌/◌, ◌<◌, max, true, false, sym, ap, ◌∙◌, arith}
use Rattle.piles.specs.Leaves.{fits, least}
use Rattle.piles.proofs.Least.{least_is, fails_below}
use Rattle.piles.proofs.Balls.{fits_last, fits_more, fits_far, fits_half}
use Rattle.leaves.proofs.ball.Ball.smallest.Goals as goal

-- the first that fits, of numbers of which the last does
first : (r a b c k : ℕ) → fits r a b c k ≡ true → ((j : ℕ) → j < k → fits r a b c j ≡ false)
    → k ≡ least (max a (max b c)) (fits r a b c)
first r a b c k e below =
    let last = fits_last r a b c (max a (max b c)) (omega arith) (omega arith) (omega arith) in
    least_is (max a (max b c)) (fits r a b c) k last e below

pub returns-then-fits : goal.returns-then-fits
returns-then-fits c =
    let r = c.args.self.radius in
    let o = c.args.offsets in
    first r o.x o.y o.z c.saturating_sub-low.result (sym c.if-fits.ensures)
    (λ k l. fits_far r o.x o.y o.z k (omega arith))

pub loop-low-init : goal.loop-low-init
loop-low-init c =
    let r = c.args.self.radius in
    let o = c.args.offsets in (
      omega arith,
      omega arith,
      fits_half r o.x o.y o.z c.saturating_sub-high.result (omega arith),
      λ k l. fits_far r o.x o.y o.z k (omega arith),
    )

pub loop-low-preserved : goal.loop-low-preserved
loop-low-preserved c =
    let r = c.args.self.radius in
    let o = c.args.offsets in
    let mid = c.loop-low.low + (c.loop-low.high - c.loop-low.low) / 2 in (
      omega arith,
      c.loop-low.invariant.1,
      c.loop-low.invariant.2,
      λ k l. fails_below (fits r o.x o.y o.z) (fits_more r o.x o.y o.z) k mid (omega arith) (sym c.if-fits-2.ensures),
    )

pub returns : goal.returns
returns c =
    let r = c.args.self.radius in
    let o = c.args.offsets in
    let same : c.loop-low.low ≡ c.loop-low.high = omega arith in
    first r o.x o.y o.z c.loop-low.low (ap (fits r o.x o.y o.z) same ∙ c.loop-low.invariant.2) c.loop-low.invariant.3
