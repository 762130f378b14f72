use Rattle.std.proofs.Common.{arith}
use Rattle.std.proofs.lemmas.Int.{ints, clamps}
use Rattle.leaves.proofs.axis.outside.Goals as goal

pub returns : goal.returns
returns c = omega (arith, ints, clamps)
