use mathlib.Core.Path.{subst⁻¹}
use Rattle.std.proofs.Common.{arith}
use Rattle.lattice.specs.Space.{In}
use Rattle.lattice.proofs.Distance.{in_less}
use Rattle.march.specs.declared.deep.TheConstants.{WORKING_RANGE}
use Rattle.march.proofs.Space.{across_in}
use Rattle.march.proofs.view.View.start_of.Goals as goal

pub along-requires-2 : goal.along-requires-2
along-requires-2 c =
    let v = c.args.self.now in
    let p = subst⁻¹ (In 16447) c.along.ensures (across_in v c.args.i c.requires.0) in
    (in_less 16447 WORKING_RANGE c.along.result (omega arith) p, omega (arith, v.height_in_range))
