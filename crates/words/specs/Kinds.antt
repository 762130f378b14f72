-- The number of each kind of word.
use Rattle.std.specs.Prelude.{◌≡◌, ℕ, ◌≢◌, MatchResult, Result}
use Rattle.words.specs.declared.kind.Kind.{Kind}
use Rattle.words.specs.declared.kind.Kind.TheVariants.{Scene, Number, Ball, Block, Unite, Meet, Shift, Thicken, Surface, Image, Hit, Miss, Job, Refusal}
use Rattle.words.specs.declared.kind.UnknownKind.{UnknownKind}

abbrev pub kind_number : Kind → ℕ
kind_number Scene = 1
kind_number Number = 2
kind_number Ball = 3
kind_number Block = 4
kind_number Unite = 5
kind_number Meet = 6
kind_number Shift = 7
kind_number Thicken = 8
kind_number Surface = 9
kind_number Image = 10
kind_number Hit = 11
kind_number Miss = 12
kind_number Job = 13
kind_number Refusal = 14

-- the answer is the kind of this number, or the number, which no kind has
abbrev pub Names : ℕ → Result Kind UnknownKind → Type 0
Names n r = MatchResult r
    (λ kind. kind_number kind ≡ n)
    (λ e. (e.0 ≡ n) × ((kind : Kind) → kind_number kind ≢ n))
