-- The bytes of an image: its start, its far, and a word for each pixel, row by row.
use Rattle.std.specs.Prelude.{ℕ, ◌+◌, ◌*◌, List, [], ◌∷◌, ◌++◌}
use Rattle.march.specs.declared.pixel.Pixel.{Pixel}
use Rattle.march.specs.declared.pixel.Pixel.TheVariants.{Marching, Hit, Miss}
use Rattle.march.specs.declared.view.View.{View}
use Rattle.words.specs.declared.writing.TheConstants.{WORD}
use Rattle.words.specs.Words.{four_bytes, image_word, number_word, hit_word, miss_word}
use Rattle.plate_log.specs.declared.TheConstants.{HEAD}

-- how many bytes the image of so many pixels has
abbrev pub image_size : ℕ → ℕ
image_size pixels = WORD * (HEAD + pixels)

-- a pixel's word in an image, which is written only when no pixel marches
abbrev pub pixel_word : Pixel → ℕ
pixel_word (Marching t n) = 0
pixel_word (Hit d n) = hit_word d n
pixel_word (Miss n) = miss_word n

abbrev pub pixel_bytes : List Pixel → List ℕ
pixel_bytes [] = []
pixel_bytes (p ∷ ps) = four_bytes (pixel_word p) ++ pixel_bytes ps

-- an image by the numbers of a view, and of a view
abbrev pub image_of : (width height far : ℕ) → List Pixel → List ℕ
image_of w h far ps = (four_bytes (image_word w h) ++ four_bytes (number_word far)) ++ pixel_bytes ps

abbrev pub image : View → List Pixel → List ℕ
image v ps = image_of v.width v.height v.far ps
