use Rattle.std.proofs.Common.{arith}
use Rattle.scene.specs.Standing.{fold_first}
use Rattle.scene.proofs.draft.Draft.new.Goals as goal

pub invariant_of-result : goal.invariant_of-result
unfolding fold_first
invariant_of-result c = record { summaries_in_range = omega arith; are_summaries = simp (c.new.ensures, c.new-2.ensures) }

pub returns : goal.returns
unfolding fold_first
returns c = simp (c.new.ensures)
