-- The number and the place of a layer that was refused.
use Rattle.std.specs.Prelude.{ℕ}
use Rattle.layers.specs.declared.fault.LayerFault.{LayerFault}
use Rattle.layers.specs.declared.fault.LayerFault.TheVariants.{Range, PastReach}

abbrev pub layer_code : LayerFault → ℕ × ℕ
layer_code (Range place) = (4, place)
layer_code PastReach = (11, 0)
