use Rattle.layers.proofs.Piled.{unites_piles}
use Rattle.layers.proofs.unite.Unite.new.Goals as goal

pub returns-clause-piled : goal.returns-clause-piled
returns-clause-piled g c = unites_piles _ _
