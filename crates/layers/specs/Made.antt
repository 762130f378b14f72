-- What the making of a layer answers: the layer, or why it is refused.
use Rattle.std.specs.Prelude.{ℕ, ℤ, Result}
use Rattle.std.specs.Result.{result_map_both}
use Rattle.lattice.specs.declared.Point.{Point}
use Rattle.layers.specs.declared.fault.LayerFault.{LayerFault}
use Rattle.layers.specs.declared.unite.Unite.{Unite}
use Rattle.layers.specs.declared.meet.Meet.{Meet}
use Rattle.layers.specs.declared.shift.Shift.{Shift}
use Rattle.layers.specs.declared.thicken.Thicken.{Thicken}
use Rattle.layers.specs.declared.cap.Cap.{Cap}
use Rattle.layers.specs.Checks.{check_offset, thicken_number, cap_number}

-- the union and the intersection of any two
abbrev pub unite_of : {S T : Type 0} → S → T → Unite S T
unite_of left right = record { left = left; right = right }

abbrev pub meet_of : {S T : Type 0} → S → T → Meet S T
meet_of left right = record { left = left; right = right }

-- a shift by an offset that passes the checks, over a reach
abbrev pub shift_answer : {S : Type 0} → (reach : ℕ) → S → Point → Result (Shift S) LayerFault
shift_answer reach below by = result_map_both (λ _. record { below = below; by = by }) (λ e. e) (check_offset reach by)

-- a thickening by a distance that passes its check
abbrev pub thicken_answer : {S : Type 0} → S → ℤ → Result (Thicken S) LayerFault
thicken_answer below by = result_map_both (λ h. record { below = below; by = h }) (λ e. e) (thicken_number by)

-- what lies below a cap, and its bound
abbrev pub cap_parts : {S : Type 0} → Cap S → S × ℕ
cap_parts c = (c.below, c.most)

-- and those of a cap by a bound that passes its check
abbrev pub cap_answer : {S : Type 0} → S → ℤ → Result (S × ℕ) LayerFault
cap_answer below most = result_map_both (λ s. (below, s)) (λ e. e) (cap_number most)
