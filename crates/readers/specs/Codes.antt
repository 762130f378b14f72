-- The number and the place of a refused job, scene or surface.
use Rattle.std.specs.Prelude.{ℕ}
use Rattle.words.specs.Codes.{word_code, place_as_u32}
use Rattle.scene.specs.Codes.{draft_code}
use Rattle.leaves.specs.declared.fault.SurfaceFault.{SurfaceFault}
use Rattle.leaves.specs.declared.fault.SurfaceFault.TheVariants.{Size as NoSheet, Buffer as FewHeights}
use Rattle.readers.specs.declared.fault.JobFault.{JobFault}
use Rattle.readers.specs.declared.fault.JobFault.TheVariants.{Word, Corners}
use Rattle.readers.specs.declared.fault.SceneFault.{SceneFault}
use Rattle.readers.specs.declared.fault.SceneFault.TheVariants.{Word as SceneWord, Count, Numbers, Node}
use Rattle.readers.specs.declared.fault.SurfaceReadFault.{SurfaceReadFault}
use Rattle.readers.specs.declared.fault.SurfaceReadFault.TheVariants.{Word as SurfaceWord, Size, Buffer}

abbrev pub job_code : JobFault → ℕ × ℕ
job_code (Word e) = word_code e
job_code Corners = (6, 14)

abbrev pub scene_code : SceneFault → ℕ × ℕ
scene_code (SceneWord e) = word_code e
scene_code Count = (7, 0)
scene_code (Numbers k) = (12, place_as_u32 k)
scene_code (Node e k) = ((draft_code e).0, place_as_u32 k)

abbrev pub surface_read_code : SurfaceReadFault → ℕ × ℕ
surface_read_code (SurfaceWord e) = word_code e
surface_read_code Size = (13, 0)
surface_read_code Buffer = (18, 0)

-- the reader's fault for each fault of a surface's size
abbrev pub surface_read_fault : SurfaceFault → SurfaceReadFault
surface_read_fault NoSheet = Size
surface_read_fault FewHeights = Buffer
