-- What an exact scene means, and how it is filled.
use Rattle.std.specs.Prelude.{if◌then◌else◌, Ok, Err, Result}
use Rattle.solid.specs.Body.{Body}
use Rattle.scene.specs.declared.fault.ExactFault.{ExactFault}
use Rattle.scene.specs.declared.fault.ExactFault.TheVariants.{Inexact}
use Rattle.scene.specs.declared.exact.ExactScene.{ExactScene}
use Rattle.scene.specs.Scenes.{scene_body}

abbrev pub exact_scene_body : ExactScene → Body
exact_scene_body e = scene_body e.scene

-- what the call answers, and the body after it: that of an exact scene, and else the one that was there
abbrev pub exact_fill_outcome : Body → Body → Result Unit ExactFault × Body
exact_fill_outcome b old = if b.exact then (Ok tt, b) else (Err Inexact, old)
