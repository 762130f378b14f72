-- A sweep over pixels in their order, and what is counted of them.
use Rattle.std.specs.Prelude.{ℕ, ◌+◌, Bool, true, if◌then◌else◌, ◌&&◌, List, [], ◌∷◌}
use Rattle.march.specs.declared.pixel.Pixel.{Pixel}
use Rattle.march.specs.declared.pixel.Pixel.TheVariants.{Miss}
use Rattle.march.specs.March.{marches, probes, is_sane, settle}

-- what stands past the end of a list of pixels
abbrev pub past_the_end : Pixel
past_the_end = Miss 0

-- the pixels from place k on, each settled as far as the budget goes, with the clearance along its own ray, which is
-- `clear k` at place k; and what is left of the budget
abbrev pub sweep : (clear : ℕ → ℕ → ℕ) (far budget k : ℕ) → List Pixel → List Pixel × ℕ
sweep clear far budget k [] = ([], budget)
sweep clear far budget k (p ∷ ps) =
    let s = settle (clear k) far budget p in
    let rest = sweep clear far s.1 (k + 1) ps in
    (s.0 ∷ rest.0, rest.1)

-- how many of the pixels march
abbrev pub count_marching : List Pixel → ℕ
count_marching [] = 0
count_marching (p ∷ ps) = (if marches p then 1 else 0) + count_marching ps

-- all their probes
abbrev pub count_probes : List Pixel → ℕ
count_probes [] = 0
count_probes (p ∷ ps) = probes p + count_probes ps

-- are the numbers of each as a march leaves them?
abbrev pub are_sane : ℕ → List Pixel → Bool
are_sane far [] = true
are_sane far (p ∷ ps) = is_sane far p && are_sane far ps
