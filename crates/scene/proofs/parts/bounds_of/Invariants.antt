use Rattle.std.proofs.Common.{◌≡◌, length}
use Rattle.scene.specs.declared.parts.TheConstants.{MOST_GROUPS}
use Rattle.scene.specs.Parts.{AreBounds}
use Rattle.scene.proofs.parts.bounds_of.Given as goal

abbrev pub invariant-loop-i : goal.invariant-loop-i
invariant-loop-i l = (length l.bounds ≡ MOST_GROUPS) × AreBounds l.table.nodes.items l.row.items l.i l.bounds
