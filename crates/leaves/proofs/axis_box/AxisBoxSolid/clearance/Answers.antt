use Rattle.std.proofs.Common.{◌∙◌}
use Rattle.lattice.proofs.Distance.{placement_in}
use Rattle.solid.proofs.Asked.{up_to_most}
use Rattle.piles.specs.Leaves.{block}
use Rattle.piles.proofs.Boxes.{block_lawful}
use Rattle.leaves.proofs.axis_box.AxisBoxSolid.clearance.Goals as goal

pub returns : goal.returns
returns c =
    let s = c.args.self.now in
    c.clearance_up_to.ensures ∙ up_to_most (block s.lo s.hi) c.args.p
    (block_lawful s.lo s.hi (placement_in s.lo s.lo_is_placement) (placement_in s.hi s.hi_is_placement) s.in_order)
