-- The words of a file: 32 bits, the least significant byte first. Bits 31..28 are the word's kind; a bit that no rule names
-- is zero.
use Rattle.std.specs.Prelude.{ℕ, ◌+◌, ◌*◌, ◌/◌, ◌%◌, ◌^◌, Bool, if◌then◌else◌, List, [], ◌∷◌, ℤ, pos, negsuc, ◌-ℤ◌, nat_lt}
use Rattle.refusal.specs.Ranges.{between}
use Rattle.words.specs.declared.kind.TheConstants.{WORDS_OF_A_KIND, FIRST_OF_TWO}
use Rattle.words.specs.declared.kind.Kind.{Kind}
use Rattle.words.specs.declared.kind.Kind.TheVariants.{Number, Image, Hit, Miss, Refusal}
use Rattle.words.specs.Kinds.{kind_number}

-- a word as bytes
abbrev pub four_bytes : ℕ → List ℕ
four_bytes w = (w % 256) ∷ (w / 256 % 256) ∷ (w / 65536 % 256) ∷ (w / 16777216 % 256) ∷ []

-- a word of a kind, by its other 28 bits
abbrev pub of_kind : (kind rest : ℕ) → ℕ
of_kind kind rest = kind * WORDS_OF_A_KIND + rest

-- the same whose other bits are the low 28 of a number
abbrev pub kind_word : Kind → (rest : ℕ) → ℕ
kind_word kind rest = of_kind (kind_number kind) (rest % WORDS_OF_A_KIND)

-- is it a number that 16 bits hold in two's complement?
abbrev pub fits_i16 : ℤ → Bool
fits_i16 n = between (negsuc 32767) (pos 32767) n

-- 16 bits as a number in two's complement
abbrev pub signed_number : ℕ → ℤ
signed_number n = if nat_lt n (2 ^ 15) then pos n else pos n -ℤ pos (2 ^ 16)

-- a number word: a 16-bit two's complement number in bits 15..0; this is the one of a natural number below 32,768
abbrev pub number_word : ℕ → ℕ
number_word n = of_kind (kind_number Number) n

-- image start: bits 27..16 width, 15..0 height
abbrev pub image_word : (width height : ℕ) → ℕ
image_word w h = of_kind (kind_number Image) (w * FIRST_OF_TWO + h)

-- a hit: bits 27..16 depth, 15..0 probes
abbrev pub hit_word : (depth probes : ℕ) → ℕ
hit_word d n = of_kind (kind_number Hit) (d * FIRST_OF_TWO + n)

-- a miss: bits 15..0 probes
abbrev pub miss_word : (probes : ℕ) → ℕ
miss_word n = of_kind (kind_number Miss) n

-- a refusal: bits 27..24 part, 23..16 number, 15..0 place
abbrev pub refusal_word : (part number place : ℕ) → ℕ
refusal_word part number place = of_kind (kind_number Refusal) (part * 2 ^ 24 + number * 2 ^ 16 + place)
