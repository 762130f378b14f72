use Rattle.std.proofs.Common.{◌-ℤ◌, FitsSigned, ◌∙◌, w32, rules}
use Rattle.std.proofs.lemmas.Int.{wrapping_sub_is, int_wrap_fits}
use Rattle.lattice.proofs.Point.wrapping_sub.Goals as goal

pub returns-clause-held : goal.returns-clause-held
returns-clause-held c =
    let p = c.args.self in
    let v = c.args.by in
    let px : FitsSigned w32 p.x = search rules in
    let py : FitsSigned w32 p.y = search rules in
    let pz : FitsSigned w32 p.z = search rules in
    let vx : FitsSigned w32 v.x = search rules in
    let vy : FitsSigned w32 v.y = search rules in
    let vz : FitsSigned w32 v.z = search rules in
    λ h t. record {
      x = (wrapping_sub_is w32 p.x v.x px vx ∙ int_wrap_fits w32 (p.x -ℤ v.x) h.0) t;
      y = (wrapping_sub_is w32 p.y v.y py vy ∙ int_wrap_fits w32 (p.y -ℤ v.y) h.1) t;
      z = (wrapping_sub_is w32 p.z v.z pz vz ∙ int_wrap_fits w32 (p.z -ℤ v.z) h.2) t;
    }
