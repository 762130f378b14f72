use Rattle.std.proofs.Common.{◌∙◌}
use Rattle.march.specs.Rays.{plain_ray, settled_pixel}
use Rattle.march.proofs.Ends.{step_on, step_done, contact}
use Rattle.march.proofs.marching.Marching.run.Goals as goal

pub loop-next-preserved : goal.loop-next-preserved
loop-next-preserved g c =
    (step_on (g.S.Solid.body c.args.solid.now.solid.now) (plain_ray c.loop-next.ray) (plain_ray c.in-On.next) c.in-On.ensures).0 ∙ c.loop-next.invariant

pub returns-in-Done : goal.returns-in-Done
returns-in-Done g c =
    let d = c.args.solid.now in
    let b = g.S.Solid.body d.solid.now in
    let s = c.in-Done.settled in
    let e = step_done b (plain_ray c.loop-next.ray) (settled_pixel s) c.in-Done.ensures ∙ c.loop-next.invariant in
    record { value = e; law = contact b (g.met.S.Solid.lawful d.solid.now) d.is_deep c.args.self s e }
