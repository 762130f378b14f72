-- What stands once a node is laid down by its numbers on what stood before, or why it is refused. The last that stands
-- comes first in these lists.
use Rattle.std.specs.Prelude.{ℕ, if◌then◌else◌, List, [], ◌∷◌, ℤ, Ok, Err, Result}
use Rattle.std.specs.Result.{result_map_both}
use Rattle.lattice.specs.declared.Point.{Point}
use Rattle.solid.specs.Body.{Body}
use Rattle.piles.specs.Leaves.{ball, block}
use Rattle.piles.specs.Layers.{shift, thicken}
use Rattle.leaves.specs.Made.{ball_made, box_made}
use Rattle.layers.specs.Checks.{check_offset, thicken_number}
use Rattle.scene.specs.declared.fault.DraftFault.{DraftFault}
use Rattle.scene.specs.declared.fault.DraftFault.TheVariants.{TooFew, Inexact, Leaf, Layer}

-- what stands, or the refusal
abbrev pub LayAnswer : Type 0
LayAnswer = Result (List Body) DraftFault

-- a ball or a box stands beside the others
abbrev pub ball_on : Point → ℤ → List Body → LayAnswer
ball_on m r s = result_map_both (λ (b : Point × ℕ). ball b.0 b.1 ∷ s) Leaf (ball_made m r)

abbrev pub box_on : (lo hi : Point) → List Body → LayAnswer
box_on lo hi s = result_map_both (λ (b : Point × Point). block b.0 b.1 ∷ s) Leaf (box_made lo hi)

-- unite and meet take the last two; the one that was laid down earlier is the left
abbrev pub two_on : (Body → Body → Body) → List Body → LayAnswer
two_on f [] = Err TooFew
two_on f (b ∷ []) = Err TooFew
two_on f (b ∷ (a ∷ s)) = Ok (f a b ∷ s)

-- a shift takes the last one, and must not pass its reach
abbrev pub shift_on : Point → List Body → LayAnswer
shift_on v [] = Err TooFew
shift_on v (a ∷ s) = result_map_both (λ _. shift v a ∷ s) Layer (check_offset a.reach v)

-- a thickening takes the last one, which must be exact
abbrev pub thicken_on : ℤ → List Body → LayAnswer
thicken_on h [] = Err TooFew
thicken_on h (a ∷ s) = if a.exact then result_map_both (λ n. thicken n a ∷ s) Layer (thicken_number h) else Err Inexact
