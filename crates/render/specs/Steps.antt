-- What the steps of the call do. A step that refuses the input has written nowhere.
use Rattle.std.specs.Prelude.{ℕ, ◌*◌, if◌then◌else◌, List, take, ℤ, Ok, Err, Result}
use Rattle.solid.specs.Body.{Body}
use Rattle.march.specs.Deep.{is_deep}
use Rattle.march.specs.declared.pixel.Pixel.{Pixel}
use Rattle.march.specs.declared.view.ViewNumbers.{ViewNumbers}
use Rattle.readers.specs.declared.job.Job.{Job}
use Rattle.leaves.specs.declared.surface.SurfaceSize.{SurfaceSize}
use Rattle.readers.specs.Jobs.{JobNumbers, job_numbers}
use Rattle.render.specs.declared.fault.InputFault.{InputFault}
use Rattle.render.specs.declared.fault.InputFault.TheVariants.{Shallow}
use Rattle.render.specs.Models.{Model, pile_of}
use Rattle.render.specs.Render.{AfterCall, accepted_call, plain_of, body_drawing}

-- a model by what was read: a job, the scene's body, and the first heights of a buffer
abbrev pub model_of : JobNumbers → Body → SurfaceSize → List ℤ → Model
model_of j scene size buffer =
    let columns = size.width * size.depth in
    record { job = j; scene = scene; width = size.width; depth = size.depth; heights = take columns buffer }

abbrev pub model_in : Result (Job × SurfaceSize) InputFault → Body → List ℤ → Result Model InputFault
model_in (Ok x) scene buffer = Ok (model_of (job_numbers x.0) scene x.1 buffer)
model_in (Err e) scene buffer = Err e

-- the picture of a body, as an accepted answer
abbrev pub picture_answer : Body → ViewNumbers → List Pixel → List ℕ → AfterCall InputFault
picture_answer b n rs out = accepted_call (body_drawing b (plain_of n) rs out)

-- of a body that has to answer in the whole working range
abbrev pub pile_answer : Body → ViewNumbers → List Pixel → List ℕ → AfterCall InputFault
pile_answer b n rs out = if is_deep b then picture_answer b n rs out else (Err Shallow, rs, out)

-- of the model that was read, if one was
abbrev pub model_answer : Result Model InputFault → List Pixel → List ℕ → AfterCall InputFault
model_answer (Err e) rs out = (Err e, rs, out)
model_answer (Ok m) rs out = picture_answer (pile_of m) m.job.view rs out
