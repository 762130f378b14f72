-- The number and the place of a word that is refused, of a number that names no kind, and of a word that is not written.
use Rattle.std.specs.Prelude.{ℕ, min}
use Rattle.words.specs.declared.fault.WordFault.{WordFault}
use Rattle.words.specs.declared.fault.WordFault.TheVariants.{Short, Kind, Unnamed, Range, Row}
use Rattle.words.specs.declared.kind.UnknownKind.{UnknownKind}
use Rattle.words.specs.declared.writing.PutFault.{PutFault}
use Rattle.words.specs.declared.writing.PutFault.TheVariants.{NoRoom}

-- a place in 32 bits: one past the greatest of them counts as that
abbrev pub place_as_u32 : ℕ → ℕ
place_as_u32 k = min k 4294967295

abbrev pub word_code : WordFault → ℕ × ℕ
word_code (Short k) = (1, place_as_u32 k)
word_code (Kind k) = (2, place_as_u32 k)
word_code (Unnamed k) = (3, place_as_u32 k)
word_code (Range k) = (4, place_as_u32 k)
word_code (Row k) = (5, place_as_u32 k)

abbrev pub kind_code : UnknownKind → ℕ × ℕ
kind_code fault = (2, 0)

abbrev pub put_code : PutFault → ℕ × ℕ
put_code NoRoom = (21, 0)
