use Rattle.layers.proofs.Piled.{meets_piles}
use Rattle.layers.proofs.meet.Meet.new.Goals as goal

pub returns-clause-piled : goal.returns-clause-piled
returns-clause-piled g c = meets_piles _ _
