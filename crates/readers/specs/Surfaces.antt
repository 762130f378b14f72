-- What a surface's words say: a start word with width and depth, and then one height a column, x fastest.
use Rattle.std.specs.Prelude.{ℕ, zero, suc, ◌+◌, ◌*◌, ◌/◌, ◌%◌, List, [], ◌∷◌, ◌++◌, drop, ℤ, pos, Ok, Err, Result}
use Rattle.std.specs.Result.{result_map_both}
use Rattle.refusal.specs.Checks.{and_then}
use Rattle.leaves.specs.declared.surface.SurfaceSize.{SurfaceSize}
use Rattle.leaves.specs.Surface.{size_made}
use Rattle.words.specs.declared.fault.WordFault.{WordFault}
use Rattle.words.specs.declared.kind.Kind.TheVariants as word
use Rattle.words.specs.declared.kind.TheConstants.{FIRST_OF_TWO}
use Rattle.words.specs.Kinds.{kind_number}
use Rattle.words.specs.Reading.{rest_at, number_at}
use Rattle.readers.specs.declared.fault.SurfaceReadFault.{SurfaceReadFault}
use Rattle.readers.specs.declared.fault.SurfaceReadFault.TheVariants.{Word}
use Rattle.readers.specs.Codes.{surface_read_fault}

abbrev pub in_surface : {A : Type 0} → Result A WordFault → Result A SurfaceReadFault
in_surface = result_map_both (λ x. x) Word

-- the size of two sides, where the caller has room for so many heights
abbrev pub size_answer : (width depth room : ℕ) → Result SurfaceSize SurfaceReadFault
size_answer width depth room = result_map_both (λ s. s) surface_read_fault (size_made (pos width) (pos depth) room)

-- the start word: bits 27..16 width, 15..0 depth
unfoldable pub size_of : List ℕ → (room : ℕ) → Result SurfaceSize SurfaceReadFault
size_of bs room =
    and_then (in_surface (rest_at bs 0 (kind_number word.Surface))) (λ sides.
    size_answer (sides / FIRST_OF_TWO) (sides % FIRST_OF_TWO) room)

-- n heights from place k on
unfoldable pub heights_at : List ℕ → (place : ℕ) → (n : ℕ) → Result (List ℤ) WordFault
heights_at bs k zero = Ok []
heights_at bs k (suc n) =
    and_then (number_at bs k) (λ h.
    and_then (heights_at bs (k + 1) n) (λ hs.
    Ok (h ∷ hs)))

-- the whole surface: its size and its heights
unfoldable pub surface_of : List ℕ → (room : ℕ) → Result (SurfaceSize × List ℤ) SurfaceReadFault
surface_of bs room =
    and_then (size_of bs room) (λ s.
    and_then (in_surface (heights_at bs 1 (s.width * s.depth))) (λ hs.
    Ok (s, hs)))

-- the answer, with what the caller's buffer then holds: heights past the last column are left, and all of them where the
-- surface is refused
abbrev pub put_into : List ℤ → Result (SurfaceSize × List ℤ) SurfaceReadFault
    → Result SurfaceSize SurfaceReadFault × List ℤ
put_into old (Ok x) = (Ok x.0, x.1 ++ drop (x.0.width * x.0.depth) old)
put_into old (Err e) = (Err e, old)
