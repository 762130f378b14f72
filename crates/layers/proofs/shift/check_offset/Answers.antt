use Rattle.std.proofs.Common.{arith}
use Rattle.std.proofs.lemmas.Grind.{common_steps}
use Rattle.layers.proofs.shift.check_offset.Goals as goal

pub returns-in_err-in_range-3 : goal.returns-in_err-in_range-3
returns-in_err-in_range-3 c = grind (arith, common_steps)

pub returns-then-norm-reach : goal.returns-then-norm-reach
returns-then-norm-reach c = grind (arith, common_steps)

pub returns : goal.returns
returns c = grind (arith, common_steps)
