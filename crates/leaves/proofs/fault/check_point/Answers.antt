use Rattle.std.proofs.Common.{arith}
use Rattle.std.proofs.lemmas.Grind.{common_steps}
use Rattle.leaves.specs.Made.{point_in_range}
use Rattle.leaves.proofs.fault.check_point.Goals as goal

pub returns-clause-placement : goal.returns-clause-placement
unfolding point_in_range
returns-clause-placement c = grind (arith, common_steps)
