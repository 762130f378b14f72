-- The number and the place of each refusal.
use Rattle.std.specs.Prelude.{ℕ}
use Rattle.march.specs.declared.fault.ViewFault.{ViewFault}
use Rattle.march.specs.declared.fault.ViewFault.TheVariants.{Range, Row}
use Rattle.march.specs.declared.fault.PixelFault.{PixelFault}
use Rattle.march.specs.declared.fault.PixelFault.TheVariants.{NoPixel as no_pixel}
use Rattle.march.specs.declared.fault.StepFault.{StepFault}
use Rattle.march.specs.declared.fault.StepFault.TheVariants.{Shallow}
use Rattle.march.specs.declared.fault.RayFault.{RayFault}
use Rattle.march.specs.declared.fault.RayFault.TheVariants.{View, NoPixel}

abbrev pub view_code : ViewFault → ℕ × ℕ
view_code (Range place) = (4, place)
view_code (Row place) = (5, place)

abbrev pub pixel_code : PixelFault → ℕ × ℕ
pixel_code no_pixel = (19, 0)

abbrev pub step_code : StepFault → ℕ × ℕ
step_code Shallow = (16, 0)

abbrev pub ray_code : RayFault → ℕ × ℕ
ray_code (View fault) = view_code fault
ray_code NoPixel = (19, 0)
