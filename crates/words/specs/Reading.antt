-- What is read of a word, from the bytes of a part and the word's place in it: a value, or why the word is refused.
use Rattle.std.specs.Prelude.{ℕ, is_some, ◌+◌, ◌*◌, ◌/◌, ◌%◌, ◌^◌, Bool, ◌&&◌, List, length, ℤ, neg_ℤ, Ok, Result, ◌==◌, nat_le, nat_lt, slice_index}
use Rattle.std.specs.Result.{result_map_both}
use Rattle.refusal.specs.Checks.{and_then, unless}
use Rattle.refusal.specs.Ranges.{between}
use Rattle.lattice.specs.declared.TheConstants.{LEAST_COORDINATE, MOST_COORDINATE, MOST_OFFSET}
use Rattle.lattice.specs.declared.Point.{Point}
use Rattle.lattice.specs.Rows.{row_of}
use Rattle.words.specs.declared.fault.WordFault.{WordFault}
use Rattle.words.specs.declared.fault.WordFault.TheVariants.{Short, Kind, Unnamed, Range, Row}
use Rattle.words.specs.declared.kind.TheConstants.{WORDS_OF_A_KIND}
use Rattle.words.specs.declared.kind.Kind.TheVariants.{Number}
use Rattle.words.specs.declared.writing.TheConstants.{WORD}
use Rattle.words.specs.Kinds.{kind_number}
use Rattle.words.specs.Words.{signed_number}

-- what a call answers, with a value that it leaves
abbrev pub answer_with : {A B E : Type 0} → Result A E → B → Result B E
answer_with r y = result_map_both (λ _. y) (λ e. e) r

-- a word's four bytes, least significant first
unfoldable pub word_at : List ℕ → (place : ℕ) → Result ℕ WordFault
word_at bs k =
    unless (nat_le (WORD * k + WORD) (length bs)) (Short k)
    (Ok (slice_index bs (WORD * k) + slice_index bs (WORD * k + 1) * 256
    + slice_index bs (WORD * k + 2) * 65536 + slice_index bs (WORD * k + 3) * 16777216))

-- a word's kind, and its other 28 bits
abbrev pub kind_and_rest : ℕ → ℕ × ℕ
kind_and_rest w = (w / WORDS_OF_A_KIND, w % WORDS_OF_A_KIND)

-- a word whose kind is from least to most
unfoldable pub kind_at : List ℕ → (place least most : ℕ) → Result (ℕ × ℕ) WordFault
kind_at bs k least most =
    and_then (word_at bs k) (λ w.
    unless (nat_le least (w / WORDS_OF_A_KIND) && nat_le (w / WORDS_OF_A_KIND) most) (Kind k)
    (Ok (kind_and_rest w)))

-- such a word of one kind: its other 28 bits
abbrev pub rest_at : List ℕ → (place kind : ℕ) → Result ℕ WordFault
rest_at bs k kind = and_then (kind_at bs k kind kind) (λ w. Ok w.1)

-- such a word of which all other bits are unnamed
unfoldable pub bare_at : List ℕ → (place least most : ℕ) → Result ℕ WordFault
bare_at bs k least most = and_then (kind_at bs k least most) (λ w. unless (w.1 == 0) (Unnamed k) (Ok w.0))

-- a number word: its kind, and a number in bits 15..0
unfoldable pub number_at : List ℕ → (place : ℕ) → Result ℤ WordFault
number_at bs k =
    and_then (kind_at bs k (kind_number Number) (kind_number Number)) (λ w.
    unless (nat_lt w.1 (2 ^ 16)) (Unnamed k) (Ok (signed_number w.1)))

-- a number from lo to hi
unfoldable pub number_in : List ℕ → (place : ℕ) → (lo hi : ℤ) → Result ℤ WordFault
number_in bs k lo hi = and_then (number_at bs k) (λ n. unless (between lo hi n) (Range k) (Ok n))

-- does the number name a row of the table of directions that moves?
abbrev pub is_row : ℤ → Bool
is_row n = is_some (row_of n)

-- a number that does
unfoldable pub row_at : List ℕ → (place : ℕ) → Result ℤ WordFault
row_at bs k = and_then (number_at bs k) (λ n. unless (is_row n) (Row k) (Ok n))

-- is each coordinate of the point from lo to hi?
abbrev pub point_in : (lo hi : ℤ) → Point → Bool
point_in lo hi p = between lo hi p.x && (between lo hi p.y && between lo hi p.z)

-- a point: three numbers, each from lo to hi
unfoldable pub point_at : List ℕ → (place : ℕ) → (lo hi : ℤ) → Result Point WordFault
point_at bs k lo hi =
    and_then (number_in bs k lo hi) (λ x.
    and_then (number_in bs (k + 1) lo hi) (λ y.
    and_then (number_in bs (k + 2) lo hi) (λ z.
    Ok (record { x = x; y = y; z = z }))))

-- an origin, a centre or a corner
abbrev pub placement_at : List ℕ → (place : ℕ) → Result Point WordFault
placement_at bs k = point_at bs k LEAST_COORDINATE MOST_COORDINATE

-- an offset: no part is above MOST_OFFSET in size
abbrev pub offset_at : List ℕ → (place : ℕ) → Result Point WordFault
offset_at bs k = point_at bs k (neg_ℤ MOST_OFFSET) MOST_OFFSET
