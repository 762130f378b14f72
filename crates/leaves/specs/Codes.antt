-- The number and the place of each refusal.
use Rattle.std.specs.Prelude.{ℕ}
use Rattle.leaves.specs.declared.fault.LeafFault.{LeafFault}
use Rattle.leaves.specs.declared.fault.LeafFault.TheVariants.{Range, Crossed}
use Rattle.leaves.specs.declared.fault.SurfaceFault.{SurfaceFault}
use Rattle.leaves.specs.declared.fault.SurfaceFault.TheVariants.{Size, Buffer}

abbrev pub leaf_code : LeafFault → ℕ × ℕ
leaf_code (Range place) = (4, place)
leaf_code Crossed = (6, 0)

abbrev pub surface_code : SurfaceFault → ℕ × ℕ
surface_code Size = (13, 0)
surface_code Buffer = (18, 0)
