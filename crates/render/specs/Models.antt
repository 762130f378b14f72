-- What an input says: job, scene and surface, joined; and the pile that it asks for.
use Rattle.std.specs.Prelude.{ℕ, zero, suc, ◌+◌, ◌*◌, Bool, ◌&&◌, ◌||◌, List, length, drop, ℤ, Ok, Result, ◌==◌}
use Rattle.std.specs.Result.{result_map_both}
use Rattle.lattice.specs.Space.{back}
use Rattle.lattice.specs.declared.Point.{Point}
use Rattle.solid.specs.Body.{Body}
use Rattle.piles.specs.Leaves.{block, surface, in_column}
use Rattle.piles.specs.Layers.{unite, meet, shift, thicken, cap, near}
use Rattle.refusal.specs.Checks.{and_then, unless}
use Rattle.march.specs.Deep.{is_deep}
use Rattle.words.specs.declared.writing.TheConstants.{WORD}
use Rattle.leaves.specs.declared.surface.TheConstants.{MOST_COLUMNS}
use Rattle.readers.specs.Jobs.{JobNumbers, job_of}
use Rattle.readers.specs.Surfaces.{surface_of}
use Rattle.readers.specs.Scenes.{scene_of}
use Rattle.readers.specs.declared.job.TheConstants.{JOB_WORDS}
use Rattle.render.specs.declared.fault.InputFault.{InputFault}
use Rattle.render.specs.declared.fault.InputFault.TheVariants.{Job, Scene, Surface, Left, Inexact, Shallow}

pub record Model : Type 0 where
  pub job : JobNumbers
  pub scene : Body
  pub width : ℕ
  pub depth : ℕ
  pub heights : List ℤ

-- a guard of 1 or more thickens the scene by it; at 0 that layer is absent
abbrev pub guarded_scene : ℕ → Body → Body
guarded_scene zero s = s
guarded_scene (suc g) s = thicken (suc g) s

-- a cap of 64 over meet of the clip box with unite of the shifted surface and the scene
abbrev pub job_pile : JobNumbers → (sheet scene : Body) → Body
job_pile j sheet scene = cap 64 (meet (block j.lo j.hi) (unite (shift j.shift sheet) scene))

abbrev pub pile_of : Model → Body
pile_of m = job_pile m.job (surface m.width m.depth m.heights) (guarded_scene m.job.guard m.scene)

-- its members, by set algebra: in the clip box, and in the surface moved by its shift or within the guard of the scene
abbrev pub guarded_members : ℕ → (Point → Bool) → Point → Bool
guarded_members zero S p = S p
guarded_members (suc g) S p = near (suc g) S p

abbrev pub members : Model → Point → Bool
members m p =
    (block m.job.lo m.job.hi).member p
    && (in_column m.width m.depth m.heights (back m.job.shift p) || guarded_members m.job.guard m.scene.member p)

-- the bytes from the word n on
abbrev pub bytes_from : (n : ℕ) → List ℕ → List ℕ
bytes_from n bs = drop (WORD * n) bs

-- the bytes after the job; after a scene of so many words past its first; and after a surface of so many columns
abbrev pub after_job : List ℕ → List ℕ
after_job bs = bytes_from JOB_WORDS bs

abbrev pub after_scene : (count : ℕ) → List ℕ → List ℕ
after_scene count bs = bytes_from (1 + count) (after_job bs)

abbrev pub after_surface : (columns count : ℕ) → List ℕ → List ℕ
after_surface columns count bs = bytes_from (1 + columns) (after_scene count bs)

-- the three parts, each of which begins where the one before it ends, and then no byte is left
unfoldable pub unchecked_model : List ℕ → Result Model InputFault
unchecked_model bs =
    and_then (result_map_both (λ j. j) Job (job_of bs)) (λ job.
    and_then (result_map_both (λ s. s) Scene (scene_of (after_job bs))) (λ scene.
    and_then (result_map_both (λ s. s) Surface (surface_of (after_scene scene.0 bs) MOST_COLUMNS)) (λ sheet.
    unless (length (after_surface (sheet.0.width * sheet.0.depth) scene.0 bs) == 0) Left
    (Ok (record { job = job; scene = scene.1; width = sheet.0.width; depth = sheet.0.depth; heights = sheet.1 })))))

-- only an exact scene is thickened, and the pile answers in the whole working range
abbrev pub checked_model : Model → Result Model InputFault
checked_model m =
    unless (m.job.guard == 0 || m.scene.exact) Inexact
    (unless (is_deep (pile_of m)) Shallow
    (Ok m))

-- the model that an input says, or why there is none
abbrev pub input_model : List ℕ → Result Model InputFault
input_model bs = and_then (unchecked_model bs) checked_model
