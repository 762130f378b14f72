use Rattle.scene.specs.Searches.{IsSearchOf}
use Rattle.scene.proofs.search.Search.parts_of.Given as goal

abbrev pub invariant-loop-k : goal.invariant-loop-k
invariant-loop-k l = IsSearchOf l.table l.search l.k
