use Rattle.std.proofs.Common.{arith}
use Rattle.lattice.specs.Space.{In, IsPlacement}
use Rattle.lattice.specs.declared.Point.{Point}
use Rattle.lattice.proofs.Distance.{placement_in, in_less}
use Rattle.solid.specs.declared.TheConstants.{MOST_REACH}
use Rattle.leaves.proofs.axis_box.AxisBox.clear_up_to.Goals as goal

-- leaves are asked at what may be placed somewhere
placement_in_reach : (p : Point) → IsPlacement p → In MOST_REACH p
placement_in_reach p i = in_less 16384 MOST_REACH p (omega arith) (placement_in p i)

pub invariant_of-lo : goal.invariant_of-lo
invariant_of-lo c = let s = c.args.self.now in record { in_reach = placement_in_reach s.lo s.lo_is_placement }

pub invariant_of-hi : goal.invariant_of-hi
invariant_of-hi c = let s = c.args.self.now in record { in_reach = placement_in_reach s.hi s.hi_is_placement }
