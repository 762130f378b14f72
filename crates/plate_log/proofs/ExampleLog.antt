-- The log that is worked out.
use Rattle.std.proofs.Common.{refl}
use Rattle.piles.specs.Leaves.{greatest}
use Rattle.plate_log.specs.Example.{ExampleHolds}

pub example_holds : ExampleHolds
unfolding greatest
example_holds = refl
