use Rattle.std.proofs.Common.{arith}
use Rattle.lattice.proofs.Distance.{in_less}
use Rattle.march.specs.declared.deep.TheConstants.{WORKING_RANGE}
use Rattle.march.specs.declared.ray.TheConstants.{MOST_START}
use Rattle.march.proofs.ray.Ray.at.Goals as goal

pub along-requires : goal.along-requires
along-requires c =
    let r = c.args.self.now in
    (in_less MOST_START WORKING_RANGE r.start (omega arith) (r.x_in_range, r.y_in_range, r.z_in_range), omega (arith, r.far_in_range))
