use Rattle.std.proofs.Common.{◌≡◌, ◌-◌, ◌≤◌, true, ap, ◌∙◌, arith, rules}
use Rattle.lattice.specs.Space.{norm, within}
use Rattle.solid.specs.Answer.{answer_up_to}
use Rattle.layers.proofs.Shifts.{back_fits, shift_asked}
use Rattle.layers.proofs.shift.ShiftSolid.clearance_up_to.Goals as goal

pub returns : goal.returns
returns g c =
    let s = c.args.self.now in
    let p = c.args.p in
    let a = g.S.Solid.body s.below in
    let l : norm s.by ≤ a.reach = omega arith in
    let w : within (a.reach - norm s.by) p ≡ true = search rules in
    c.clearance_up_to-2.ensures ∙ ap (answer_up_to c.args.most a) (c.wrapping_sub.ensures.held (back_fits s.by p a l w (g.met.S.Solid.lawful s.below))) ∙ shift_asked s.by p a l w c.args.most
