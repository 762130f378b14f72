use Rattle.std.proofs.Common.{rules}
use Rattle.layers.proofs.Piled.{shifts_piles}
use Rattle.layers.proofs.shift.Shift.new.Goals as goal

pub returns-clause-piled : goal.returns-clause-piled
returns-clause-piled g c = shifts_piles _ _ (search rules)
