-- What is promised of the call, in the words of rays, members, words and files.
use Rattle.std.specs.Prelude.{◌≡◌, ℕ, ◌+◌, ◌*◌, ◌<◌, ◌≤◌, Bool, false, ◌&&◌, List, ◌++◌, length, ℤ, pos, Some, Ok, Err, ◌≢◌, IsTrue}
use Rattle.lattice.specs.declared.Point.{Point}
use Rattle.solid.specs.Body.{Body}
use Rattle.march.specs.declared.pixel.Pixel.{Pixel}
use Rattle.march.specs.March.{marches, IsRight}
use Rattle.march.specs.Checks.{PlainView}
use Rattle.march.specs.Rays.{new_ray}
use Rattle.march.specs.View.{along_way}
use Rattle.words.specs.Words.{image_word, number_word}
use Rattle.words.specs.Encoding.{bytes_of}
use Rattle.readers.specs.declared.job.Job.{Job}
use Rattle.readers.specs.Jobs.{job_numbers}
use Rattle.readers.specs.JobsBack.{job_words}
use Rattle.leaves.specs.Surface.{is_side}
use Rattle.readers.specs.SurfacesBack.{surface_words, all_fit_i16}
use Rattle.readers.specs.ScenesBack.{Tree, tree_body, node_count, is_sound, scene_words}
use Rattle.scene.specs.declared.table.TheConstants.{MOST_NODES}
use Rattle.plate_log.specs.declared.TheConstants.{HEAD}
use Rattle.plate_log.specs.Law.{IsPileOf}
use Rattle.plate_log.specs.Lines.{word_in, pixel_of_word}
use Rattle.render.specs.declared.TheConstants.{MOST_INPUT}
use Rattle.render.specs.declared.fault.InputFault.{InputFault}
use Rattle.render.specs.Codes.{input_code}
use Rattle.render.specs.Models.{Model, members, checked_model, input_model}
use Rattle.render.specs.Render.{plain_of}

-- the point at t of the ray of pixel (i, j)
abbrev pub ray_point : PlainView → (i j t : ℕ) → Point
ray_point v i j t = along_way (new_ray v i j).start t v.ray

-- pixel (i, j) in an image: its word reads back as a state that has settled, which says what is so of the
-- members M along its ray: a hit is at the first of them, and a miss means that there is none up to far
pub record ShowsPixel (v : PlainView) (M : Point → Bool) (bs : List ℕ) (i j : ℕ) : Type 0 where
  pub pixel : Pixel
  pub word : pixel_of_word (word_in bs (HEAD + (j * v.width + i))) ≡ Some pixel
  pub settled : marches pixel ≡ false
  pub right : IsRight (λ t. M (ray_point v i j t)) v.far pixel

-- the bytes begin with an image of the members M: its sides, far, and each pixel
pub record ImageShows (v : PlainView) (M : Point → Bool) (bs : List ℕ) : Type 0 where
  pub start : word_in bs 0 ≡ image_word v.width v.height
  pub far : word_in bs 1 ≡ number_word v.far
  pub pixels : (i j : ℕ) → i < v.width → j < v.height → ShowsPixel v M bs i j

-- the bytes show the body: whatever set it is a pile of, they begin with an image of that
abbrev pub ShowsBody : PlainView → Body → List ℕ → Type 0
ShowsBody v b bs = (M : Point → Bool) → IsPileOf M b → ImageShows v M bs

-- the bytes show the model: its members are the points of the clip box that lie in the moved surface or within the
-- guard of the scene
abbrev pub ShowsModel : Model → List ℕ → Type 0
ShowsModel m bs = ImageShows (plain_of m.job.view) (members m) bs

-- the bytes show the model that the input says, if it says one
abbrev pub ShowsInput : (input bs : List ℕ) → Type 0
ShowsInput input bs = (m : Model) → input_model input ≡ Ok m → ShowsModel m bs

-- no lawful input is longer than that
abbrev pub ShortInputs : Type 0
ShortInputs = (input : List ℕ) (m : Model) → input_model input ≡ Ok m → length input ≤ MOST_INPUT

-- Checks run in the order of the input: an input that is refused goes on to be refused, by the same number at the same
-- place, whatever bytes are added to it. Only 1, which says that it ended too early, and 15 and 16, which are looked at
-- once no byte is left, wait for the end.
abbrev pub InOrder : Type 0
InOrder =
    (bs more : List ℕ) (e : InputFault) → input_model bs ≡ Err e
    → ((input_code e).1 ≢ 1) → ((input_code e).1 ≢ 15) → ((input_code e).1 ≢ 16)
    → input_model (bs ++ more) ≡ Err e

-- Every job, sound tree of at most MOST_NODES nodes and surface, written one after another, is read as that model; only
-- 15 and 16 are then left to be looked at.
abbrev pub InputsReadBack : Type 0
InputsReadBack =
    (j : Job) (t : Tree) (w d : ℕ) (hs : List ℤ)
    → IsTrue (is_sound t) → node_count t ≤ MOST_NODES
    → IsTrue (is_side (pos w) && is_side (pos d)) → length hs ≡ w * d → IsTrue (all_fit_i16 hs)
    → input_model (bytes_of (job_words j) ++ (bytes_of (scene_words t) ++ bytes_of (surface_words w d hs)))
    ≡ checked_model (record { job = job_numbers j; scene = tree_body t; width = w; depth = d; heights = hs })

-- what is so of all files
pub record Files : Type 0 where
  pub short : ShortInputs
  pub order : InOrder
  pub back : InputsReadBack
