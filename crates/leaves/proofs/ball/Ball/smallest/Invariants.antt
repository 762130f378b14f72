use Rattle.std.proofs.Common.{◌≡◌, ℕ, ◌-◌, ◌<◌, ◌≤◌, true, false}
use Rattle.piles.specs.Leaves.{fits}
use Rattle.leaves.proofs.ball.Ball.smallest.Given as goal

-- high fits and nothing below low does
abbrev pub invariant-loop-low : goal.invariant-loop-low
invariant-loop-low l =
    (l.low ≤ l.high) × (l.high ≤ l.greatest)
    × (fits l.self.radius l.offsets.x l.offsets.y l.offsets.z l.high ≡ true)
    × ((k : ℕ) → k < l.low → fits l.self.radius l.offsets.x l.offsets.y l.offsets.z k ≡ false)

abbrev pub decreases-loop-low : goal.decreases-loop-low
decreases-loop-low l = l.high - l.low
