-- What the call does: from input bytes, records and output bytes to its answer, the records and the bytes that it
-- leaves.
use Rattle.std.specs.Prelude.{ℕ, zero, suc, ◌+◌, ◌*◌, ◌/◌, ◌%◌, min, if◌then◌else◌, List, [], ◌∷◌, ◌++◌, length, drop, Ok, Err, Result, nat_lt, unsigned_abs, ◌-◌, ◌^◌}
use Rattle.lattice.specs.Rows.{triple}
use Rattle.solid.specs.Body.{Body}
use Rattle.march.specs.declared.pixel.Pixel.{Pixel}
use Rattle.march.specs.declared.view.ViewNumbers.{ViewNumbers}
use Rattle.march.specs.Checks.{PlainView}
use Rattle.march.specs.Rays.{new_ray, end_of}
use Rattle.words.specs.declared.writing.TheConstants.{WORD}
use Rattle.words.specs.Words.{four_bytes, refusal_word}
use Rattle.plate_log.specs.Image.{image_of, image_size}
use Rattle.march.specs.declared.view.TheConstants.{MOST_PIXELS}
use Rattle.render.specs.declared.TheConstants.{MOST_BYTES}
use Rattle.render.specs.declared.fault.InputFault.{InputFault}
use Rattle.render.specs.declared.fault.RenderFault.{RenderFault}
use Rattle.render.specs.declared.fault.RenderFault.TheVariants.{Records, Room}
use Rattle.render.specs.Codes.{input_code}
use Rattle.render.specs.Models.{Model, pile_of, input_model}

-- the one word of a refused input; a place has 16 bits there, and one past them would be written as the greatest
abbrev pub refusal_of : InputFault → ℕ
refusal_of e = refusal_word (input_code e).0 (input_code e).1 (min (input_code e).2 (2 ^ 16 - 1))

-- the view of numbers that are in their ranges
abbrev pub plain_of : ViewNumbers → PlainView
plain_of n = record {
  origin = n.origin;
  ray = triple (unsigned_abs n.ray);
  across = triple (unsigned_abs n.across);
  down = triple (unsigned_abs n.down);
  width = unsigned_abs n.width;
  height = unsigned_abs n.height;
  far = unsigned_abs n.far;
}

abbrev pub area_of : PlainView → ℕ
area_of v = v.width * v.height

-- n pixels from place k on, row by row: each as its own ray, newly made, ends when it is stepped over the body until
-- it settles
unfoldable pub settled_pixels : Body → PlainView → (k n : ℕ) → List Pixel
settled_pixels b v k zero = []
settled_pixels b v k (suc n) = end_of b (new_ray v (k % v.width) (k / v.width)) ∷ settled_pixels b v (k + 1) n

-- a picture: all pixels of the view
abbrev pub picture : Body → PlainView → List Pixel
picture b v = settled_pixels b v 0 (area_of v)

-- the picture of a body stands in front of the records, its image in front of the bytes, and what is past them stays:
-- the length of the image, the records and the bytes
abbrev pub body_drawing : Body → PlainView → List Pixel → List ℕ → ℕ × List Pixel × List ℕ
body_drawing b v rs out = (
  image_size (area_of v),
  picture b v ++ drop (area_of v) rs,
  image_of v.width v.height v.far (picture b v) ++ drop (image_size (area_of v)) out,
)

-- what a call leaves: its answer, the records and the bytes
abbrev pub AfterCall : Type 0 → Type 0
AfterCall E = Result ℕ E × List Pixel × List ℕ

-- the picture of the model that was read; or, of a refused input, one word in front of the bytes, and the records as
-- they were
unfoldable pub drawing : Result Model InputFault → List Pixel → List ℕ → ℕ × List Pixel × List ℕ
drawing (Err e) rs out = (WORD, rs, four_bytes (refusal_of e) ++ drop WORD out)
drawing (Ok m) rs out = body_drawing (pile_of m) (plain_of m.job.view) rs out

-- an accepted call
abbrev pub accepted_call : {E : Type 0} → ℕ × List Pixel × List ℕ → AfterCall E
accepted_call d = (Ok d.0, d.1, d.2)

-- the whole call; it wants its records and then its bytes before it reads, and refused it leaves both as they were
abbrev pub rendering : (input : List ℕ) → List Pixel → List ℕ → AfterCall RenderFault
rendering input rs out =
    if nat_lt (length rs) MOST_PIXELS then (Err Records, rs, out)
    else if nat_lt (length out) MOST_BYTES then (Err Room, rs, out)
    else accepted_call (drawing (input_model input) rs out)
