-- Words as they are written into a file, and the law that what is written is read back.
use Rattle.std.specs.Prelude.{◌≡◌, ℕ, ◌-◌, ◌^◌, ◌<◌, IsTrue, List, [], ◌∷◌, ◌++◌, length, ℤ, pos, negsuc, Ok, slice_index}
use Rattle.words.specs.declared.kind.Kind.TheVariants.{Number}
use Rattle.words.specs.Kinds.{kind_number}
use Rattle.words.specs.Words.{four_bytes, of_kind, fits_i16}
use Rattle.words.specs.Reading.{number_at}

-- words as bytes
abbrev pub bytes_of : List ℕ → List ℕ
bytes_of [] = []
bytes_of (w ∷ ws) = four_bytes w ++ bytes_of ws

-- the word of a number, in two's complement
abbrev pub signed_word : ℤ → ℕ
signed_word (pos n) = of_kind (kind_number Number) n
signed_word (negsuc n) = of_kind (kind_number Number) (2 ^ 16 - 1 - n)

-- the word of a 16-bit number, at any place among others, is read as that number
abbrev pub NumbersReadBack : Type 0
NumbersReadBack =
    (ws rest : List ℕ) (k : ℕ) (n : ℤ) → k < length ws → slice_index ws k ≡ signed_word n
    → IsTrue (fits_i16 n) → number_at (bytes_of ws ++ rest) k ≡ Ok n
