-- A sweep and a touch, in steps of each pixel.
use Rattle.std.proofs.Common.{◌≡◌, ℕ, zero, suc, ◌+◌, ◌-◌, ◌<◌, Bool, true, cond, List, [], ◌∷◌, get_or, refl, ap, ◌∙◌, subst, arith}
use Rattle.std.proofs.lemmas.Bool.{both_ways}
use Rattle.march.specs.declared.pixel.Pixel.{Pixel}
use Rattle.march.specs.declared.pixel.Pixel.TheVariants.{Marching, Hit, Miss}
use Rattle.march.specs.March.{after_probe, settle, marches}
use Rattle.plate_log.specs.Sweep.{past_the_end, sweep}
use Rattle.plate_log.specs.Lines.{StepsTo, stays, steps}
use Rattle.plate_log.proofs.Sums.{settled_left, settled_rest, swept_rest, one_if}
use Rattle.plate_log.proofs.Sanity.{none_marching}

-- one pixel takes as many steps as of the budget are gone
pub settled_steps : (clear : ℕ → ℕ) (far b : ℕ) (p : Pixel) (k : ℕ) → k + (settle clear far b p).1 ≡ b → StepsTo clear far k p (settle clear far b p).0
settled_steps clear far zero p zero e = stays
settled_steps clear far zero p (suc k) e = absurd (omega arith)
settled_steps clear far (suc b) (Marching t n) zero e = absurd (omega (arith, settled_left clear far b (after_probe far t n (clear t))))
settled_steps clear far (suc b) (Marching t n) (suc k) e = steps (settled_steps clear far b (after_probe far t n (clear t)) k (omega arith))
settled_steps clear far (suc b) (Hit d n) zero e = stays
settled_steps clear far (suc b) (Hit d n) (suc k) e = absurd (omega arith)
settled_steps clear far (suc b) (Miss n) zero e = stays
settled_steps clear far (suc b) (Miss n) (suc k) e = absurd (omega arith)

-- one that marches on has spent all of it
marching_one : (p : Pixel) → marches p ≡ true → one_if p ≡ 1
marching_one p e = ap (λ (b : Bool). cond b 1 0) e

pub settled_spent : (clear : ℕ → ℕ) (far b : ℕ) (p : Pixel) → marches (settle clear far b p).0 ≡ true → (settle clear far b p).1 ≡ 0
settled_spent clear far b p e = from (settle clear far b p).1 refl
  where
    from : (l : ℕ) → (settle clear far b p).1 ≡ l → (settle clear far b p).1 ≡ 0
    from zero h = h
    from (suc l) h = absurd (omega (arith, settled_rest clear far b p (omega arith), marching_one (settle clear far b p).0 e))

-- the pixel at k of a sweep
pub swept_steps : (clear : ℕ → ℕ → ℕ) (far b i k j : ℕ) → i ≡ j + k → (ps : List Pixel) → (n : ℕ) × StepsTo (clear i) far n (get_or ps k past_the_end) (get_or (sweep clear far b j ps).0 k past_the_end)
swept_steps clear far b i k j e [] = (0, stays)
swept_steps clear far b i zero j e (p ∷ ps) =
    let s = settle (clear j) far b p in
    let same : j ≡ i = omega arith in
    let n : ℕ = b - s.1 in
    (n, subst (λ (i : ℕ). StepsTo (clear i) far n p s.0) same (settled_steps (clear j) far b p n (omega (arith, settled_left (clear j) far b p))))
swept_steps clear far b i (suc k) j e (p ∷ ps) = swept_steps clear far (settle (clear j) far b p).1 i k (j + 1) (omega arith) ps

pub swept_spent : (clear : ℕ → ℕ → ℕ) (far b j k : ℕ) (ps : List Pixel) → marches (get_or (sweep clear far b j ps).0 k past_the_end) ≡ true → (sweep clear far b j ps).1 ≡ 0
swept_spent clear far b j k ps e = from (sweep clear far b j ps).1 refl
  where
    from : (l : ℕ) → (sweep clear far b j ps).1 ≡ l → (sweep clear far b j ps).1 ≡ 0
    from zero h = h
    from (suc l) h = absurd (both_ways (marches (get_or (sweep clear far b j ps).0 k past_the_end)) (none_marching (sweep clear far b j ps).0 k (swept_rest clear far b j ps (omega arith))) e)

-- with no budget left nothing changes
pub swept_none : (clear : ℕ → ℕ → ℕ) (far j : ℕ) (ps : List Pixel) → sweep clear far 0 j ps ≡ (ps, 0)
swept_none clear far j [] = refl
swept_none clear far j (p ∷ ps) = ap (λ (s : List Pixel × ℕ). (p ∷ s.0, s.1)) (swept_none clear far (j + 1) ps)

-- where the pixel at k marches on, those behind it are as they were
pub swept_order : (clear : ℕ → ℕ → ℕ) (far b j k m : ℕ) (ps : List Pixel) → k < m → marches (get_or (sweep clear far b j ps).0 k past_the_end) ≡ true → get_or (sweep clear far b j ps).0 m past_the_end ≡ get_or ps m past_the_end
swept_order clear far b j k m [] lt e = refl
swept_order clear far b j k zero (p ∷ ps) lt e = absurd (omega arith)
swept_order clear far b j zero (suc m) (p ∷ ps) lt e =
    ap (λ (l : ℕ). get_or (sweep clear far l (j + 1) ps).0 m past_the_end) (settled_spent (clear j) far b p e) ∙ ap (λ (s : List Pixel × ℕ). get_or s.0 m past_the_end) (swept_none clear far (j + 1) ps)
swept_order clear far b j (suc k) (suc m) (p ∷ ps) lt e = swept_order clear far (settle (clear j) far b p).1 (j + 1) k m ps (omega arith) e
