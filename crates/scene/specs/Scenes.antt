-- What a scene means, and how it is filled.
use Rattle.std.specs.Prelude.{List, [], ◌∷◌, Ok, Err, Result}
use Rattle.solid.specs.Body.{Body, Lawful}
use Rattle.scene.specs.declared.scene.Scene.{Scene}
use Rattle.scene.specs.declared.fault.DraftFault.{DraftFault}
use Rattle.scene.specs.declared.fault.DraftFault.TheVariants.{Unfinished}
use Rattle.scene.specs.Tables.{bodies_of, table_body, table_count, nodes_of}
use Rattle.scene.specs.Laws.{last_lawful, all_lawful}

abbrev pub scene_body : Scene → Body
scene_body s = table_body s.table

pub scene_lawful : (s : Scene) → Lawful (scene_body s)
scene_lawful s = last_lawful (bodies_of s.table) (all_lawful (nodes_of s.table) (table_count s.table))

-- what the call answers, and the body after it: where one node alone stands its body, and else the one that was there
abbrev pub fill_outcome : List Body → Body → Result Unit DraftFault × Body
fill_outcome [] old = (Err Unfinished, old)
fill_outcome (b ∷ []) old = (Ok tt, b)
fill_outcome (b ∷ (a ∷ s)) old = (Err Unfinished, old)
