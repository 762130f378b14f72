use Rattle.std.proofs.Common.{◌≡◌, ◌+◌, ◌-◌}
use Rattle.march.specs.Rays.{plain_ray, end_of}
use Rattle.march.proofs.marching.Marching.run.Given as goal

abbrev pub invariant-loop-next : goal.invariant-loop-next
invariant-loop-next g l = let b = g.S.Solid.body l.solid.solid.now in end_of b (plain_ray l.ray) ≡ end_of b (plain_ray l.initial.ray)

abbrev pub decreases-loop-next : goal.decreases-loop-next
decreases-loop-next g l = l.ray.ray.far + 1 - l.ray.t
