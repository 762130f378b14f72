-- A chain of readings that answers Ok answered Ok at each link.
use Rattle.std.proofs.Common.{◌≡◌, ℕ, Bool, true, false, Ok, Err, Result, refl, arith}
use Rattle.refusal.specs.Checks.{and_then, unless}

pub first_ok : {A B E : Type 0} (r : Result A E) (f : A → Result B E) (y : B) → and_then r f ≡ Ok y → (x : A) × ((r ≡ Ok x) × (f x ≡ Ok y))
first_ok (Ok x) f y h = (x, (refl, h))
first_ok (Err e) f y h = absurd (let z : ◌≡◌ {A = ℕ} 0 1 = cc in omega arith)

pub test_held : {A E : Type 0} (b : Bool) (e : E) (r : Result A E) (y : A) → unless b e r ≡ Ok y → ((b ≡ true) × (r ≡ Ok y))
test_held true e r y h = (refl, h)
test_held false e r y h = absurd (let z : ◌≡◌ {A = ℕ} 0 1 = cc in omega arith)

pub same_ok : {A E : Type 0} (x y : A) → ◌≡◌ {A = Result A E} (Ok x) (Ok y) → x ≡ y
same_ok x y h = cc
