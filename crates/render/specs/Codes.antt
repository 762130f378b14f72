-- The part, the number and the place of a refused input, and the number and the place of a refused call.
use Rattle.std.specs.Prelude.{ℕ}
use Rattle.readers.specs.Codes.{job_code, scene_code, surface_read_code}
use Rattle.render.specs.declared.fault.InputFault.{InputFault}
use Rattle.render.specs.declared.fault.InputFault.TheVariants.{Job, Scene, Surface, Left, Inexact, Shallow}
use Rattle.render.specs.declared.fault.RenderFault.{RenderFault}
use Rattle.render.specs.declared.fault.RenderFault.TheVariants.{Records, Room}

-- parts are 1 job, 2 scene, 3 surface, 4 the whole
abbrev pub input_code : InputFault → ℕ × ℕ × ℕ
input_code (Job e) = (1, (job_code e).0, (job_code e).1)
input_code (Scene e) = (2, (scene_code e).0, (scene_code e).1)
input_code (Surface e) = (3, (surface_read_code e).0, (surface_read_code e).1)
input_code Left = (4, 14, 0)
input_code Inexact = (4, 15, 0)
input_code Shallow = (4, 16, 0)

abbrev pub input_refusal : InputFault → ℕ × ℕ
input_refusal e = ((input_code e).1, (input_code e).2)

abbrev pub render_code : RenderFault → ℕ × ℕ
render_code Records = (18, 0)
render_code Room = (21, 0)
