use Rattle.std.proofs.Common.{rules}
use Rattle.layers.proofs.Piled.{caps_piles}
use Rattle.layers.proofs.cap.Cap.new.Goals as goal

pub returns-clause-piled : goal.returns-clause-piled
returns-clause-piled g c = caps_piles _ _ (search rules) (search rules)
