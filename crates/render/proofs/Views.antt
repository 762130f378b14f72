-- A view whose numbers were checked is the view of those numbers.
use Rattle.std.proofs.Common.{◌≡◌, ℕ, ◌≤◌, Bool, true, false, if◌then◌else◌, eqb, ltb, ℤ, pos, negsuc, nat_abs, is_ok, Some, None, Ok, Err, Result, refl, ap, ◌∙◌, subst, mul-le-mul, arith}
use mathlib.Core.Path.{subst⁻¹}
use Rattle.lattice.specs.Rows.{triple, Way, row_of, row_answer}
use Rattle.lattice.specs.declared.Point.{Point}
use Rattle.march.specs.declared.fault.ViewFault.{ViewFault}
use Rattle.march.specs.declared.view.ViewNumbers.{ViewNumbers}
use Rattle.refusal.specs.Checks.{and_then}
use Rattle.refusal.specs.Ranges.{count_in}
use Rattle.march.specs.declared.view.TheConstants.{LEAST_SIDE, MOST_SIDE, MOST_FAR}
use Rattle.march.specs.Checks.{PlainView, view_answer, with_range_fault, with_row_fault, coordinate_answer, origin_answer, ways_answer, sizes_answer}
use Rattle.march.proofs.Numbers.{coordinate_passed, count_passed, row_passed, sizes_small}
use Rattle.render.specs.Render.{plain_of, area_of}

passed : {A B : Type 0} (r : Result A ViewFault) (next : A → Result B ViewFault) (b : B) → Ok b ≡ and_then r next → (a : A) × (Ok a ≡ r) × (Ok b ≡ next a)
passed (Ok a) next b e = (a, refl, e)
passed (Err f) next b e = let z : ◌≡◌ {A = ℕ} 0 1 = cc in absurd (omega arith)

row_is : (n : ℤ) (a : Way) → row_of n ≡ Some a → a ≡ triple (nat_abs n)
row_is (negsuc m) a e = let z : ◌≡◌ {A = ℕ} 0 1 = cc in absurd (omega arith)
row_is (pos m) a e = by (ltb m 27) (eqb m 13) e
  where
    by : (b c : Bool) → (if b then (if c then None else Some (triple m)) else None) ≡ Some a → a ≡ triple m
    by true false e = cc
    by true true e = let z : ◌≡◌ {A = ℕ} 0 1 = cc in absurd (omega arith)
    by false c e = let z : ◌≡◌ {A = ℕ} 0 1 = cc in absurd (omega arith)

origin_is : (n : ViewNumbers) (o : Point) → Ok o ≡ origin_answer n → o ≡ n.origin
unfolding origin_answer
origin_is n o e =
    let x = passed (coordinate_answer n.origin.x 1) _ o e in
    let y = passed (coordinate_answer n.origin.y 2) _ o x.2 in
    let z = passed (coordinate_answer n.origin.z 3) _ o y.2 in
    let is : o ≡ record { x = x.0; y = y.0; z = z.0 } = cc z.2 in
    let a = (coordinate_passed n.origin.x 1 x.0 x.1).1 in
    let b = (coordinate_passed n.origin.y 2 y.0 y.1).1 in
    let c = (coordinate_passed n.origin.z 3 z.0 z.1).1 in
    is ∙ (λ t. record { x = a t; y = b t; z = c t })

ways_is : (n : ViewNumbers) (w : Way × Way × Way) → Ok w ≡ ways_answer n → w ≡ (triple (nat_abs n.ray), triple (nat_abs n.across), triple (nat_abs n.down))
unfolding ways_answer
ways_is n w e =
    let x = passed (with_row_fault (row_answer n.ray 4)) _ w e in
    let y = passed (with_row_fault (row_answer n.across 5)) _ w x.2 in
    let z = passed (with_row_fault (row_answer n.down 6)) _ w y.2 in
    let is : w ≡ (x.0, y.0, z.0) = cc z.2 in
    let a = row_is n.ray x.0 (row_passed n.ray 4 x.0 x.1) in
    let b = row_is n.across y.0 (row_passed n.across 5 y.0 y.1) in
    let c = row_is n.down z.0 (row_passed n.down 6 z.0 z.1) in
    is ∙ (λ t. (a t, b t, c t))

sizes_are : (n : ViewNumbers) (s : ℕ × ℕ × ℕ) → Ok s ≡ sizes_answer n → s ≡ (nat_abs n.width, nat_abs n.height, nat_abs n.far)
unfolding sizes_answer
sizes_are n s e =
    let x = passed (with_range_fault (count_in n.width LEAST_SIDE MOST_SIDE 7)) _ s e in
    let y = passed (with_range_fault (count_in n.height LEAST_SIDE MOST_SIDE 8)) _ s x.2 in
    let z = passed (with_range_fault (count_in n.far (pos 0) MOST_FAR 9)) _ s y.2 in
    let is : s ≡ (x.0, y.0, z.0) = cc z.2 in
    let a = (count_passed n.width LEAST_SIDE MOST_SIDE 7 x.0 x.1).1 in
    let b = (count_passed n.height LEAST_SIDE MOST_SIDE 8 y.0 y.1).1 in
    let c = (count_passed n.far (pos 0) MOST_FAR 9 z.0 z.1).1 in
    is ∙ (λ t. (a t, b t, c t))

pub view_is : (n : ViewNumbers) (v : PlainView) → Ok v ≡ view_answer n → v ≡ plain_of n
view_is n v e =
    let o = passed (origin_answer n) _ v e in
    let w = passed (ways_answer n) _ v o.2 in
    let s = passed (sizes_answer n) _ v w.2 in
    let is : v ≡ record { origin = o.0; ray = w.0.0; across = w.0.1; down = w.0.2; width = s.0.0; height = s.0.1; far = s.0.2 } = cc s.2 in
    let a = origin_is n o.0 o.1 in
    let b = ways_is n w.0 w.1 in
    let c = sizes_are n s.0 s.1 in
    is ∙ (λ t. record { origin = a t; ray = (b t).0; across = (b t).1; down = (b t).2; width = (c t).0; height = (c t).1; far = (c t).2 })

pub few_pixels : (n : ViewNumbers) (v : PlainView) → Ok v ≡ view_answer n → area_of v ≤ 4096
few_pixels n v e =
    let o = passed (origin_answer n) _ v e in
    let w = passed (ways_answer n) _ v o.2 in
    let s = passed (sizes_answer n) _ v w.2 in
    let k = sizes_small n s.0 s.1 in
    let is : v ≡ record { origin = o.0; ray = w.0.0; across = w.0.1; down = w.0.2; width = s.0.0; height = s.0.1; far = s.0.2 } = cc s.2 in
    subst⁻¹ (λ (v : PlainView). area_of v ≤ 4096) is (mul-le-mul k.0 k.1)

pub few_of : (n : ViewNumbers) → is_ok (view_answer n) ≡ true → area_of (plain_of n) ≤ 4096
few_of n h = from (view_answer n) refl h
  where
    from : (a : Result PlainView ViewFault) → a ≡ view_answer n → is_ok a ≡ true → area_of (plain_of n) ≤ 4096
    from (Ok v) is h = subst (λ (v : PlainView). area_of v ≤ 4096) (view_is n v is) (few_pixels n v is)
    from (Err f) is h = let z : ◌≡◌ {A = ℕ} 0 1 = cc in absurd (omega arith)
