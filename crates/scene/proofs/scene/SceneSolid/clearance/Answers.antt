use Rattle.std.proofs.Common.{◌∙◌}
use Rattle.solid.proofs.Asked.{up_to_most}
use Rattle.scene.specs.Scenes.{scene_body, scene_lawful}
use Rattle.scene.proofs.scene.SceneSolid.clearance.Goals as goal

pub returns : goal.returns
returns c = let s = c.args.self.now in c.clearance_up_to.ensures ∙ up_to_most (scene_body s) c.args.p (scene_lawful s)
