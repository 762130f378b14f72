-- One ray's march: the clearance at each t of its ray is all that it sees.
use Rattle.std.specs.Prelude.{◌≡◌, ℕ, zero, suc, ◌+◌, ◌<◌, ◌≤◌, Bool, true, false, if◌then◌else◌, ◌&&◌, ◌==◌, nat_le, nat_lt}
use Rattle.march.specs.declared.pixel.Pixel.{Pixel}
use Rattle.march.specs.declared.pixel.Pixel.TheVariants.{Marching, Hit, Miss}

-- a ray as it is made
abbrev pub new_pixel : Pixel
new_pixel = Marching 0 0

-- one step at t, with n probes so far, over a clearance c
abbrev pub after_probe : (far t n c : ℕ) → Pixel
after_probe far t n c =
    if c == 0 then Hit t (n + 1)
    else if nat_lt far (t + c) then Miss (n + 1)
    else Marching (t + c) (n + 1)

abbrev pub marches : Pixel → Bool
marches (Marching t n) = true
marches (Hit d n) = false
marches (Miss n) = false

abbrev pub probes : Pixel → ℕ
probes (Marching t n) = n
probes (Hit d n) = n
probes (Miss n) = n

-- a pixel's numbers as a march leaves them: each step goes on by 1 or more
abbrev pub is_sane : ℕ → Pixel → Bool
is_sane far (Marching t n) = nat_le t far && nat_le n t
is_sane far (Hit d n) = nat_le d far && nat_le n (far + 1)
is_sane far (Miss n) = nat_le n (far + 1)

-- a pixel after a step along its ray: a settled one stays as it is, and so does one whose numbers no march leaves
abbrev pub after_step : (clear : ℕ → ℕ) (far : ℕ) → Pixel → Pixel
after_step clear far (Marching t n) =
    if is_sane far (Marching t n) then after_probe far t n (clear t) else Marching t n
after_step clear far (Hit d n) = Hit d n
after_step clear far (Miss n) = Miss n

-- a ray stepped until it settles or the budget is spent, and what is left of the budget
abbrev pub settle : (clear : ℕ → ℕ) (far budget : ℕ) → Pixel → Pixel × ℕ
settle clear far zero p = (p, 0)
settle clear far (suc b) (Marching t n) = settle clear far b (after_probe far t n (clear t))
settle clear far (suc b) (Hit d n) = (Hit d n, suc b)
settle clear far (suc b) (Miss n) = (Miss n, suc b)

-- One whole march over a clearance, from t on: it settles with that many probes.
pub data Takes (clear : ℕ → ℕ) (far : ℕ) : ℕ → ℕ → Type 0 where
  hits : {t : ℕ} → clear t ≡ 0 → Takes clear far t 1
  misses : {t : ℕ} → 0 < clear t → far < t + clear t → Takes clear far t 1
  goes_on : {t n : ℕ} → 0 < clear t → t + clear t ≤ far → Takes clear far (t + clear t) n → Takes clear far t (suc n)

-- the first member of a ray is at d, where M tells at each t whether the ray's point is a member
pub record IsFirst (M : ℕ → Bool) (d : ℕ) : Type 0 where
  pub there : M d ≡ true
  pub none_before : (t : ℕ) → t < d → M t ≡ false

-- what a pixel's state says of the members along its ray: a hit is at the first member, a miss has none
-- up to far, and none lies before a marching pixel's t
abbrev pub IsRight : (ℕ → Bool) → ℕ → Pixel → Type 0
IsRight M far (Marching t n) = (t ≤ far) × ((u : ℕ) → u < t → M u ≡ false)
IsRight M far (Hit d n) = (d ≤ far) × IsFirst M d
IsRight M far (Miss n) = (u : ℕ) → u ≤ far → M u ≡ false
