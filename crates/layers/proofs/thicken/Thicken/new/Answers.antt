use Rattle.std.proofs.Common.{rules}
use Rattle.piles.proofs.Near.{near_decides}
use Rattle.layers.proofs.Piled.{thickens_piles}
use Rattle.layers.proofs.thicken.Thicken.new.Goals as goal

pub returns-clause-near : goal.returns-clause-near
returns-clause-near g c = near_decides

pub returns-in_err-by-clause-near : goal.returns-in_err-by-clause-near
returns-in_err-by-clause-near g c = near_decides

pub returns-clause-piled : goal.returns-clause-piled
returns-clause-piled g c = thickens_piles c.args.by _ _ (search rules) (search rules)
