-- What a line of a log may answer and leave, in the words of pixels, probes, words, and the rules that refuse.
use Rattle.std.specs.Prelude.{◌≡◌, ℕ, suc, ◌+◌, ◌*◌, ◌^◌, ◌/◌, ◌%◌, ◌<◌, ◌≤◌, if◌then◌else◌, ◌&&◌, ◌⊎◌, List, [], ◌∷◌, length, Some, None, Option, ◌==◌, ◌≢◌, nat_lt, slice_index, slice_index_or, IsTrue}
use Rattle.refusal.specs.declared.Rule.{Rule}
use Rattle.refusal.specs.declared.Rule.TheVariants.{Shallow, NoPixel, StillMarching, NoRoom}
use Rattle.refusal.specs.Numbers.{rule_number}
use Rattle.solid.specs.Body.{Body}
use Rattle.march.specs.declared.deep.TheConstants.{WORKING_RANGE}
use Rattle.march.specs.declared.pixel.Pixel.{Pixel}
use Rattle.march.specs.declared.pixel.Pixel.TheVariants.{Marching, Hit, Miss}
use Rattle.march.specs.declared.view.View.{View}
use Rattle.march.specs.Deep.{IsDeep}
use Rattle.march.specs.March.{after_probe, marches}
use Rattle.words.specs.declared.kind.Kind.TheVariants.{Hit as HitWord, Miss as MissWord}
use Rattle.words.specs.declared.kind.TheConstants.{FIRST_OF_TWO}
use Rattle.words.specs.declared.writing.TheConstants.{WORD}
use Rattle.words.specs.Kinds.{kind_number}
use Rattle.words.specs.Reading.{kind_and_rest}
use Rattle.words.specs.Words.{image_word, number_word}
use Rattle.plate_log.specs.declared.TheConstants.{HEAD}
use Rattle.plate_log.specs.declared.fault.PlateFault.{PlateFault}
use Rattle.plate_log.specs.Codes.{plate_code}
use Rattle.plate_log.specs.Sweep.{past_the_end, count_marching, count_probes}
use Rattle.plate_log.specs.Image.{pixel_word, image_size}
use Rattle.plate_log.specs.Log.{Call, Line, Answer, sweeping, touching, reading, writing, counted, read_as, wrote, refused, area, place_of, pixel_in, clear_at}

-- So many steps over a clearance take a pixel from one state to another. Only a marching pixel takes a step.
pub data StepsTo (clear : ℕ → ℕ) (far : ℕ) : ℕ → Pixel → Pixel → Type 0 where
  stays : {p : Pixel} → StepsTo clear far 0 p p
  steps : {k t n : ℕ} {q : Pixel} → StepsTo clear far k (after_probe far t n (clear t)) q
      → StepsTo clear far (suc k) (Marching t n) q

-- is there such a pixel?
abbrev pub Inside : View → (i j : ℕ) → Type 0
Inside v i j = (i < v.width) × (j < v.height)

abbrev pub Outside : View → (i j : ℕ) → Type 0
Outside v i j = (v.width ≤ i) ⊎ (v.height ≤ j)

-- the answer is a refusal by this rule, at place 0, and every pixel is as it was
abbrev pub RefusesBy : Rule → Answer → (ps qs : List Pixel) → Type 0
RefusesBy rule a ps qs = (f : PlateFault) × ((a ≡ refused f) × (plate_code f ≡ (rule_number rule, 0)) × (qs ≡ ps))

-- a sweep over the body spent s of its budget: each pixel took steps along its own ray, and where one still marches,
-- the budget is spent and no later pixel, row by row, was stepped
pub record Sweeps (v : View) (b : Body) (budget s : ℕ) (ps qs : List Pixel) : Type 0 where
  pub as_many : length qs ≡ length ps
  pub counts : count_probes qs ≡ count_probes ps + s
  pub within : s ≤ budget
  pub walks : (i j : ℕ) → Inside v i j
      → (k : ℕ) × StepsTo (clear_at v b i j) v.far k (pixel_in v ps i j) (pixel_in v qs i j)
  pub all_spent : (i j : ℕ) → Inside v i j → IsTrue (marches (pixel_in v qs i j)) → s ≡ budget
  pub in_order : (i j x y : ℕ) → Inside v i j → Inside v x y → place_of v i j < place_of v x y
      → IsTrue (marches (pixel_in v qs i j)) → pixel_in v qs x y ≡ pixel_in v ps x y

-- a touch spent s of its budget on pixel (i, j), and no other changed
pub record Touches (v : View) (i j : ℕ) (b : Body) (budget s : ℕ) (ps qs : List Pixel) : Type 0 where
  pub as_many : length qs ≡ length ps
  pub counts : count_probes qs ≡ count_probes ps + s
  pub within : s ≤ budget
  pub walks : StepsTo (clear_at v b i j) v.far s (pixel_in v ps i j) (pixel_in v qs i j)
  pub all_spent : IsTrue (marches (pixel_in v qs i j)) → s ≡ budget
  pub others : (k : ℕ) → k ≢ place_of v i j → slice_index_or qs k past_the_end ≡ slice_index_or ps k past_the_end

-- the k-th word of an image, least significant byte first
abbrev pub word_in : List ℕ → ℕ → ℕ
word_in bs k =
    slice_index bs (WORD * k) + 256 * slice_index bs (WORD * k + 1) + 256 ^ 2 * slice_index bs (WORD * k + 2)
    + 256 ^ 3 * slice_index bs (WORD * k + 3)

-- the state that a word stands for, by its kind and its rest: a hit has a depth and its probes, a miss has probes alone
abbrev pub pixel_of_kind : (kind rest : ℕ) → Option Pixel
pixel_of_kind kind rest =
    if kind == kind_number HitWord then Some (Hit (rest / FIRST_OF_TWO) (rest % FIRST_OF_TWO))
    else (if kind == kind_number MissWord && nat_lt rest FIRST_OF_TWO then Some (Miss rest) else None)

abbrev pub pixel_of_word : ℕ → Option Pixel
pixel_of_word w = pixel_of_kind (kind_and_rest w).0 (kind_and_rest w).1

-- these bytes are an image of the pixels
pub record IsImage (v : View) (ps : List Pixel) (bs : List ℕ) : Type 0 where
  pub long : length bs ≡ image_size (area v)
  pub start : word_in bs 0 ≡ image_word v.width v.height
  pub far : word_in bs 1 ≡ number_word v.far
  pub words : (i j : ℕ) → Inside v i j → word_in bs (HEAD + place_of v i j) ≡ pixel_word (pixel_in v ps i j)
  pub shown : (i j : ℕ) → Inside v i j → pixel_of_word (word_in bs (HEAD + place_of v i j)) ≡ Some (pixel_in v ps i j)

-- the call, on the pixels ps, answered a and left qs: by which rule it refuses, and else what it spends, tells, writes
abbrev pub LineIsRight : View → List Pixel → Call → Answer → List Pixel → Type 0
LineIsRight v ps (sweeping b budget) a qs =
    (b.reach < WORKING_RANGE → RefusesBy Shallow a ps qs)
    × (IsDeep b → (s : ℕ) × ((a ≡ counted s (count_marching qs)) × Sweeps v b budget s ps qs))
LineIsRight v ps (touching i j b budget) a qs =
    (Outside v i j → RefusesBy NoPixel a ps qs)
    × (Inside v i j → b.reach < WORKING_RANGE → RefusesBy Shallow a ps qs)
    × (Inside v i j → IsDeep b
    → (s : ℕ) × ((a ≡ counted s (if marches (pixel_in v qs i j) then 1 else 0)) × Touches v i j b budget s ps qs))
LineIsRight v ps (reading i j) a qs =
    (Outside v i j → RefusesBy NoPixel a ps qs)
    × (Inside v i j → (a ≡ read_as (pixel_in v ps i j)) × (qs ≡ ps))
LineIsRight v ps (writing room) a qs =
    (0 < count_marching ps → RefusesBy StillMarching a ps qs)
    × (count_marching ps ≡ 0 → room < image_size (area v) → RefusesBy NoRoom a ps qs)
    × (count_marching ps ≡ 0 → image_size (area v) ≤ room
    → (bs : List ℕ) × ((a ≡ wrote (image_size (area v)) bs) × (qs ≡ ps) × IsImage v ps bs))

-- each line of a log is right
abbrev pub LinesAreRight : View → List Pixel → List Line → Type 0
LinesAreRight v ps [] = Unit {0}
LinesAreRight v ps (l ∷ ls) = LineIsRight v ps l.call l.answer l.after × LinesAreRight v l.after ls
