use Rattle.std.proofs.Common.{arith}
use mathlib.Core.Path.{subst⁻¹}
use Rattle.lattice.specs.Space.{In}
use Rattle.march.specs.declared.ray.TheConstants.{MOST_START}
use Rattle.march.proofs.Space.{start_in}
use Rattle.march.proofs.view.View.ray_of.Goals as goal

pub invariant_of-result : goal.invariant_of-result
invariant_of-result c =
    let v = c.args.self.now in
    let p = subst⁻¹ (In MOST_START) c.start_of.ensures (start_in v c.args.i c.args.j (grind arith) (grind arith)) in
    record { x_in_range = p.0; y_in_range = p.1; z_in_range = p.2; far_in_range = v.far_in_range }
