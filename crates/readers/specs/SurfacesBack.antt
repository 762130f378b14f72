-- A surface as it is written, and the law that it is read back.
use Rattle.std.specs.Prelude.{◌≡◌, ℕ, ◌+◌, ◌*◌, ◌≤◌, Bool, true, IsTrue, ◌&&◌, List, [], ◌∷◌, ◌++◌, map, length, ℤ, pos, Ok}
use Rattle.leaves.specs.Surface.{is_side}
use Rattle.words.specs.declared.kind.Kind.TheVariants as kind
use Rattle.words.specs.declared.kind.TheConstants.{FIRST_OF_TWO}
use Rattle.words.specs.Words.{kind_word, fits_i16}
use Rattle.words.specs.Encoding.{bytes_of, signed_word}
use Rattle.readers.specs.Surfaces.{surface_of}

abbrev pub surface_words : (width depth : ℕ) → List ℤ → List ℕ
surface_words width depth hs = kind_word kind.Surface (width * FIRST_OF_TWO + depth) ∷ map signed_word hs

-- every height has 16 bits
abbrev pub all_fit_i16 : List ℤ → Bool
all_fit_i16 [] = true
all_fit_i16 (h ∷ hs) = fits_i16 h && all_fit_i16 hs

-- every surface is read back from its words, whatever follows them, where there is room for its heights
abbrev pub SurfacesReadBack : Type 0
SurfacesReadBack =
    (width depth : ℕ) (hs : List ℤ) (room : ℕ) (rest : List ℕ)
    → IsTrue (is_side (pos width) && is_side (pos depth))
    → length hs ≡ width * depth
    → IsTrue (all_fit_i16 hs)
    → width * depth ≤ room
    → surface_of (bytes_of (surface_words width depth hs) ++ rest) room ≡ Ok (record { width = width; depth = depth }, hs)
