use Rattle.std.proofs.Common.{◌≡◌}
use Rattle.piles.specs.Leaves.{greatest}
use Rattle.leaves.proofs.surface.Sheet.greatest.Given as goal

abbrev pub invariant-loop-height : goal.invariant-loop-height
invariant-loop-height l = l.top ≡ greatest l.height-index l.height-items
