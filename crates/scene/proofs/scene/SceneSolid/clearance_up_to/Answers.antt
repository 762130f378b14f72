use Rattle.std.proofs.Common.{◌≡◌, true, rules}
use Rattle.lattice.specs.Space.{within}
use Rattle.lattice.proofs.Distance.{in_less}
use Rattle.solid.specs.declared.TheConstants.{MOST_REACH}
use Rattle.solid.proofs.Asked.{within_in}
use Rattle.scene.specs.Scenes.{scene_body, scene_lawful}
use Rattle.scene.proofs.scene.SceneSolid.clearance_up_to.Goals as goal

pub invariant_of-ask : goal.invariant_of-ask
invariant_of-ask c =
    let s = c.args.self.now in
    let p = c.args.p in
    let b = scene_body s in
    let w : within b.reach p ≡ true = search rules in
    record { in_reach = in_less b.reach MOST_REACH p (scene_lawful s).near_enough (within_in b.reach p w) }
