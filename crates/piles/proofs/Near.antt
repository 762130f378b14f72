-- The bounded search is true exactly when there is such a point.
use Rattle.std.proofs.Common.{◌≡◌, ℕ, ◌+◌, ◌<◌, ◌≤◌, Bool, true, ℤ, pos, ◌+ℤ◌, ◌-ℤ◌, nat_abs, sym, refl, ap, ◌∙◌, arith}
use borrow.Author.Differences.{ints}
use Rattle.std.proofs.lemmas.Bool.Decides.{Decides-below_or}
use Rattle.lattice.specs.Space.{gap, dist}
use Rattle.lattice.specs.declared.Point.{Point}
use Rattle.piles.specs.Layers.{some_below, offset_from, near}
use Rattle.piles.specs.Stands.{NearDecides}

some_found : (f : ℕ → Bool) (n : ℕ) → some_below n f ≡ true → (k : ℕ) × (k < n) × (f k ≡ true)
unfolding some_below
some_found f n = (Decides-below_or f (λ k. f k ≡ true) (λ n. some_below n f) (λ k. (λ e. e, λ e. e)) refl (λ _. refl) n).0

some_there : (f : ℕ → Bool) (n k : ℕ) → k < n → f k ≡ true → some_below n f ≡ true
unfolding some_below
some_there f n k l e = (Decides-below_or f (λ k. f k ≡ true) (λ n. some_below n f) (λ k. (λ e. e, λ e. e)) refl (λ _. refl) n).1 (k, l, e)

off_gap : (h i : ℕ) (a : ℤ) → i < h + h + 1 → gap a (a +ℤ offset_from h i) ≤ h
off_gap h i a l = omega (arith, ints)

-- the place of b in the row of offsets about a
place : ℕ → ℤ → ℤ → ℕ
place h a b = nat_abs ((b -ℤ a) +ℤ pos h)

place_below : (h : ℕ) (a b : ℤ) → gap a b ≤ h → place h a b < h + h + 1
unfolding place
place_below h a b l = omega (arith, ints)

place_is : (h : ℕ) (a b : ℤ) → gap a b ≤ h → a +ℤ offset_from h (place h a b) ≡ b
unfolding place
place_is h a b l = omega (arith, ints)

pub near_found : (h : ℕ) (m : Point → Bool) (p : Point) → near h m p ≡ true → (q : Point) × ((m q ≡ true) × (dist p q ≤ h))
unfolding near
near_found h m p e =
    let i = some_found _ (h + h + 1) e in
    let j = some_found _ (h + h + 1) i.2 in
    let k = some_found _ (h + h + 1) j.2 in
    (record { x = p.x +ℤ offset_from h i.0; y = p.y +ℤ offset_from h j.0; z = p.z +ℤ offset_from h k.0 }, (k.2, omega (arith, off_gap h i.0 p.x i.1, off_gap h j.0 p.y j.1, off_gap h k.0 p.z k.1)))

pub near_there : (h : ℕ) (m : Point → Bool) (p q : Point) → m q ≡ true → dist p q ≤ h → near h m p ≡ true
unfolding near
near_there h m p q e l =
    let lx : gap p.x q.x ≤ h = omega arith in
    let ly : gap p.y q.y ≤ h = omega arith in
    let lz : gap p.z q.z ≤ h = omega arith in
    let ex = sym (place_is h p.x q.x lx) in
    let ey = sym (place_is h p.y q.y ly) in
    let ez = sym (place_is h p.z q.z lz) in
    let same : q ≡ record { x = p.x +ℤ offset_from h (place h p.x q.x); y = p.y +ℤ offset_from h (place h p.y q.y); z = p.z +ℤ offset_from h (place h p.z q.z) } = λ t. record { x = ex t; y = ey t; z = ez t } in
    some_there _ (h + h + 1) (place h p.x q.x) (place_below h p.x q.x lx) (some_there _ (h + h + 1) (place h p.y q.y) (place_below h p.y q.y ly) (some_there _ (h + h + 1) (place h p.z q.z) (place_below h p.z q.z lz) (sym (ap m same) ∙ e)))

pub near_decides : NearDecides
near_decides h m p = (near_found h m p, λ t. near_there h m p t.0 t.1.0 t.1.1)
