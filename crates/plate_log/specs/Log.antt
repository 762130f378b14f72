-- A plate's log: its calls from the opening on, and what the rules say of each line.
use Rattle.std.specs.Prelude.{ℕ, ◌+◌, ◌-◌, ◌*◌, ◌/◌, ◌%◌, Bool, if◌then◌else◌, List, [], ◌∷◌, length, replicate, ◌==◌, nat_le, slice_index_or, slice_set}
use Rattle.solid.specs.Body.{Body}
use Rattle.march.specs.Deep.{is_deep}
use Rattle.march.specs.declared.pixel.Pixel.{Pixel}
use Rattle.march.specs.declared.view.View.{View}
use Rattle.march.specs.View.{point, has_pixel}
use Rattle.march.specs.March.{new_pixel, marches, settle}
use Rattle.plate_log.specs.declared.fault.PlateFault.{PlateFault}
use Rattle.plate_log.specs.declared.fault.PlateFault.TheVariants.{NoPixel, Shallow, StillMarching, NoRoom}
use Rattle.plate_log.specs.Sweep.{past_the_end, sweep, count_marching}
use Rattle.plate_log.specs.Image.{image, image_size}

-- a call, with what it was given: a body and a budget of probes, a pixel, so many bytes to write into
pub data Call : Type 0 where
  sweeping : Body → (budget : ℕ) → Call
  touching : (i j : ℕ) → Body → (budget : ℕ) → Call
  reading : (i j : ℕ) → Call
  writing : (room : ℕ) → Call

-- an answer: probes spent and pixels still marching, a pixel's state, a length with the bytes of an image, or a refusal
pub data Answer : Type 0 where
  counted : (probes left : ℕ) → Answer
  read_as : Pixel → Answer
  wrote : (length : ℕ) (bytes : List ℕ) → Answer
  refused : PlateFault → Answer

-- a line of a log: the call, its answer, and every pixel after it
pub record Line : Type 0 where
  pub call : Call
  pub answer : Answer
  pub after : List Pixel

-- how many pixels a view has, and the place of pixel (i, j) among them, row by row
abbrev pub area : View → ℕ
area v = v.width * v.height

abbrev pub place_of : View → (i j : ℕ) → ℕ
place_of v i j = j * v.width + i

-- pixel (i, j) in a list of pixels
abbrev pub pixel_in : View → List Pixel → (i j : ℕ) → Pixel
pixel_in v ps i j = slice_index_or ps (place_of v i j) past_the_end

-- the clearance along the ray of pixel (i, j), and along that of the pixel at place k
abbrev pub clear_at : View → Body → (i j t : ℕ) → ℕ
clear_at v b i j t = b.clear (point v i j t)

abbrev pub clear_on_ray : View → Body → (k t : ℕ) → ℕ
clear_on_ray v b k t = clear_at v b (k % v.width) (k / v.width) t

-- a sweep and a touch, over a body that answers in the whole working range
abbrev pub sweep_line : View → List Pixel → Body → (budget : ℕ) → Answer × List Pixel
sweep_line v ps b budget =
    let s = sweep (clear_on_ray v b) v.far budget 0 ps in
    (counted (budget - s.1) (count_marching s.0), s.0)

abbrev pub touch_line : View → List Pixel → (i j : ℕ) → Body → (budget : ℕ) → Answer × List Pixel
touch_line v ps i j b budget =
    let s = settle (clear_on_ray v b (place_of v i j)) v.far budget (pixel_in v ps i j) in
    (counted (budget - s.1) (if marches s.0 then 1 else 0), slice_set ps (place_of v i j) s.0)

-- the line where the test holds; else a refusal, with every pixel as it was
abbrev pub line_unless : Bool → PlateFault → List Pixel → Answer × List Pixel → Answer × List Pixel
line_unless test fault ps line = if test then line else (refused fault, ps)

-- one line: what a call on the pixels as they stand answers, and how it leaves them
abbrev pub line_of : View → List Pixel → Call → Answer × List Pixel
line_of v ps (sweeping b budget) = line_unless (is_deep b) Shallow ps (sweep_line v ps b budget)
line_of v ps (touching i j b budget) =
    line_unless (has_pixel v i j) NoPixel ps
    (line_unless (is_deep b) Shallow ps
    (touch_line v ps i j b budget))
line_of v ps (reading i j) = line_unless (has_pixel v i j) NoPixel ps (read_as (pixel_in v ps i j), ps)
line_of v ps (writing room) =
    line_unless (count_marching ps == 0) StillMarching ps
    (line_unless (nat_le (image_size (length ps)) room) NoRoom ps
    (wrote (image_size (length ps)) (image v ps), ps))

-- the pixels as an opening makes them, the lines of calls from given pixels on, and the log of a plate
abbrev pub new_pixels : View → List Pixel
new_pixels v = replicate (area v) new_pixel

abbrev pub log_from : View → List Pixel → List Call → List Line
log_from v ps [] = []
log_from v ps (c ∷ cs) = let l = line_of v ps c in record { call = c; answer = l.0; after = l.1 } ∷ log_from v l.1 cs

abbrev pub log : View → List Call → List Line
log v cs = log_from v (new_pixels v) cs

-- the pixels after the last line, and as they stand after the calls
abbrev pub pixels_after_lines : List Pixel → List Line → List Pixel
pixels_after_lines ps [] = ps
pixels_after_lines ps (l ∷ ls) = pixels_after_lines l.after ls

abbrev pub pixels_after : View → List Call → List Pixel
pixels_after v cs = pixels_after_lines (new_pixels v) (log v cs)

-- pixel (i, j) as it stands after the calls
abbrev pub pixel_after : View → List Call → (i j : ℕ) → Pixel
pixel_after v cs i j = pixel_in v (pixels_after v cs) i j
