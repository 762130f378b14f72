use Rattle.std.proofs.Common.{rules}
use Rattle.std.proofs.lemmas.Int.{to_z-of_z}
use Rattle.lattice.proofs.ordered.Goals as goal

pub returns-then-lo-hi-2 : goal.returns-then-lo-hi-2
returns-then-lo-hi-2 c = search (rules, to_z-of_z)
