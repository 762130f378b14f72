use Rattle.std.proofs.Common.{refl}
use Rattle.piles.specs.Leaves.{least, fits, greatest}
use Rattle.checks.proofs.worked_numbers.Goals as goal

pub returns : goal.returns
unfolding least fits greatest
returns c = record { count = refl; right = refl }
