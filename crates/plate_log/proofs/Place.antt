-- The place of a pixel among its view's pixels.
use Rattle.std.proofs.Common.{ℕ, ◌/◌, ◌%◌, ◌<◌, sym, subst₂, mul_comm}
use lib.Arith.{digits_mod, digits_div, digits_lt}
use Rattle.march.specs.declared.view.View.{View}
use Rattle.plate_log.specs.Log.{area, place_of}

pub place_in : (v : View) (i j : ℕ) → i < v.width → j < v.height → place_of v i j < area v
place_in v i j a b = rw (mul_comm v.width v.height) (digits_lt b a)

-- from the pixel at a place to pixel (i, j), and back
pub at_pixel : (P : ℕ → ℕ → Type 0) (v : View) (i j : ℕ) → i < v.width → P (place_of v i j % v.width) (place_of v i j / v.width) → P i j
at_pixel P v i j h = subst₂ P (digits_mod j h) (digits_div j h)

pub from_pixel : (P : ℕ → ℕ → Type 0) (v : View) (i j : ℕ) → i < v.width → P i j → P (place_of v i j % v.width) (place_of v i j / v.width)
from_pixel P v i j h = subst₂ P (sym (digits_mod j h)) (sym (digits_div j h))
