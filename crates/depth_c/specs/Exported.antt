-- What the exported call does: from input bytes and output bytes to the length that it wrote and the bytes that
-- it leaves.
use Rattle.std.specs.Prelude.{ℕ, List, replicate, Ok, Err}
use Rattle.march.specs.declared.view.TheConstants.{MOST_PIXELS}
use Rattle.march.specs.declared.pixel.Pixel.TheVariants.{Miss}
use Rattle.render.specs.declared.fault.RenderFault.{RenderFault}
use Rattle.render.specs.Render.{AfterCall, rendering}

-- the length that is answered, and the bytes: a refused call wrote nothing, and answers 0
abbrev pub length_answer : AfterCall RenderFault → ℕ × List ℕ
length_answer (Ok n, rs, out) = (n, out)
length_answer (Err e, rs, out) = (0, out)

-- the rendering over records of its own
abbrev pub depth_render : (input out : List ℕ) → ℕ × List ℕ
depth_render input out = length_answer (rendering input (replicate MOST_PIXELS (Miss 0)) out)
