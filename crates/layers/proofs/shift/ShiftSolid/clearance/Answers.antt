use Rattle.std.proofs.Common.{◌∙◌}
use Rattle.solid.proofs.Asked.{up_to_most}
use Rattle.piles.proofs.Kept.{shift_lawful}
use Rattle.layers.proofs.shift.ShiftSolid.clearance.Goals as goal

pub returns : goal.returns
returns g c =
    let s = c.args.self.now in
    c.clearance_up_to.ensures ∙ up_to_most _ c.args.p (shift_lawful s.by _ (g.met.S.Solid.lawful s.below))
