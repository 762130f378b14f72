-- The pixels of a list, each with its numbers as a march leaves them.
use Rattle.std.proofs.Common.{◌≡◌, ℕ, zero, suc, ◌+◌, ◌<◌, ◌≤◌, true, false, leb, List, [], ◌∷◌, length, get_or, take, set, replicate, sym, refl, ap, ◌∙◌, arith}
use lib.Seq.{take-set-lt}
use Rattle.std.proofs.lemmas.List.{length-take-le, get_or-take}
use Rattle.std.proofs.lemmas.Bool.{and_parts, and_from, leb-true, le-leb}
use Rattle.march.specs.declared.pixel.Pixel.{Pixel}
use Rattle.march.specs.declared.pixel.Pixel.TheVariants.{Marching, Hit, Miss}
use Rattle.march.specs.March.{new_pixel, is_sane, marches}
use Rattle.plate_log.specs.Sweep.{past_the_end, are_sane, count_marching}

pub sane_at : (far : ℕ) (ps : List Pixel) (k : ℕ) → are_sane far ps ≡ true → k < length ps → is_sane far (get_or ps k new_pixel) ≡ true
sane_at far [] k e h = absurd (omega arith)
sane_at far (p ∷ ps) zero e h = (and_parts (is_sane far p) (are_sane far ps) e).0
sane_at far (p ∷ ps) (suc k) e h = sane_at far ps k (and_parts (is_sane far p) (are_sane far ps) e).1 (omega arith)

pub sane_set : (far : ℕ) (ps : List Pixel) (k : ℕ) (q : Pixel) → are_sane far ps ≡ true → is_sane far q ≡ true → are_sane far (set ps k q) ≡ true
sane_set far [] k q e s = e
sane_set far (p ∷ ps) zero q e s = and_from (is_sane far q) (are_sane far ps) s (and_parts (is_sane far p) (are_sane far ps) e).1
sane_set far (p ∷ ps) (suc k) q e s =
    let h = and_parts (is_sane far p) (are_sane far ps) e in
    and_from (is_sane far p) (are_sane far (set ps k q)) h.0 (sane_set far ps k q h.1 s)

-- the first n of a list of records
pub sane_at_front : (far n k : ℕ) (rs : List Pixel) → are_sane far (take n rs) ≡ true → k < n → n ≤ length rs → is_sane far (get_or rs k new_pixel) ≡ true
sane_at_front far n k rs e h l =
    ap (is_sane far) (sym (get_or-take n rs k new_pixel h)) ∙ sane_at far (take n rs) k e (omega (arith, length-take-le n rs l))

pub sane_set_front : (far n k : ℕ) (rs : List Pixel) (q : Pixel) → are_sane far (take n rs) ≡ true → k < n → is_sane far q ≡ true → are_sane far (take n (set rs k q)) ≡ true
sane_set_front far n k rs q e h s = ap (are_sane far) (take-set-lt n rs k q h) ∙ sane_set far (take n rs) k q e s

pub sane_fresh : (far n : ℕ) → are_sane far (replicate n new_pixel) ≡ true
sane_fresh far zero = refl
sane_fresh far (suc n) = and_from (is_sane far new_pixel) (are_sane far (replicate n new_pixel)) (and_from (leb 0 far) (leb 0 0) (le-leb 0 far (omega arith)) refl) (sane_fresh far n)

-- new pixels, read with a settled one past the end
pub new_sane : (far n k : ℕ) → is_sane far (get_or (replicate n new_pixel) k past_the_end) ≡ true
new_sane far zero k = le-leb 0 (far + 1) (omega arith)
new_sane far (suc n) zero = and_from (leb 0 far) (leb 0 0) (le-leb 0 far (omega arith)) refl
new_sane far (suc n) (suc k) = new_sane far n k

pub hit_parts : (far d n : ℕ) → is_sane far (Hit d n) ≡ true → (d ≤ far) × (n ≤ far + 1)
hit_parts far d n e = let p = and_parts (leb d far) (leb n (far + 1)) e in (leb-true d far p.0, leb-true n (far + 1) p.1)

pub sane_more : (far more : ℕ) (p : Pixel) → far ≤ more → is_sane far p ≡ true → is_sane more p ≡ true
sane_more far more (Marching t n) h e = let p = and_parts (leb t far) (leb n t) e in and_from (leb t more) (leb n t) (le-leb t more (omega (arith, leb-true t far p.0))) p.1
sane_more far more (Hit d n) h e = let p = hit_parts far d n e in and_from (leb d more) (leb n (more + 1)) (le-leb d more (omega arith)) (le-leb n (more + 1) (omega arith))
sane_more far more (Miss n) h e = le-leb n (more + 1) (omega (arith, leb-true n (far + 1) e))

-- where none marches, this one does not
pub none_marching : (ps : List Pixel) (k : ℕ) → count_marching ps ≡ 0 → marches (get_or ps k past_the_end) ≡ false
none_marching [] k h = refl
none_marching (Marching t n ∷ ps) zero h = absurd (omega arith)
none_marching (Hit d n ∷ ps) zero h = refl
none_marching (Miss n ∷ ps) zero h = refl
none_marching (p ∷ ps) (suc k) h = none_marching ps k (omega arith)
