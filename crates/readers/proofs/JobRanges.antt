-- The numbers of a job that is read lie in their ranges.
use Rattle.std.proofs.Common.{◌≡◌, ℕ, ◌+◌, ◌≤◌, true, false, eqb, ltb, List, ℤ, pos, negsuc, nat_abs, is_ok, Some, Ok, subst, arith}
use Rattle.std.proofs.lemmas.Int.{ints}
use Rattle.std.proofs.lemmas.Bool.Decides.{nat_tests}
use Rattle.lattice.specs.Space.{In, IsPlacement}
use Rattle.lattice.specs.Rows.{row_of, triple, Way}
use Rattle.lattice.specs.declared.Point.{Point}
use Rattle.march.specs.declared.view.ViewNumbers.{ViewNumbers}
use Rattle.march.specs.Checks.{view_answer, origin_answer, ways_answer, sizes_answer, coordinate_answer}
use Rattle.refusal.specs.Ranges.{between}
use Rattle.words.specs.Reading.{point_in, is_row, number_in, row_at, placement_at, offset_at}
use Rattle.words.proofs.Chains.{first_ok, same_ok}
use Rattle.words.proofs.Ranges.{number_in_range, row_is_row, point_in_range}
use Rattle.lattice.specs.declared.TheConstants.{LEAST_COORDINATE, MOST_COORDINATE, MOST_OFFSET}
use Rattle.march.specs.declared.view.TheConstants.{MOST_SIDE, MOST_FAR}
use Rattle.piles.specs.declared.TheConstants.{LEAST_THICKNESS, MOST_THICKNESS}
use Rattle.readers.specs.Jobs.{rows_at, sizes_at, view_at, pile_at}

row_some : (n : ℤ) → is_row n ≡ true → (w : Way) × (row_of n ≡ Some w)
row_some (pos k) h =
    let a : ltb k 27 ≡ true = grind (arith, nat_tests, ints) in
    let b : eqb k 13 ≡ false = grind (arith, nat_tests, ints) in
    (triple k, simp (a, b))
row_some (negsuc k) h = absurd (let z : ◌≡◌ {A = ℕ} 0 1 = cc in omega arith)

-- three rows, and three sizes
rows_are : (bs : List ℕ) (k : ℕ) (r : ℤ × ℤ × ℤ) → rows_at bs k ≡ Ok r
    → (is_row r.0 ≡ true) × (is_row r.1 ≡ true) × (is_row r.2 ≡ true)
unfolding rows_at
rows_are bs k r h =
    let a = first_ok (row_at bs k) _ r h in
    let b = first_ok (row_at bs (k + 1)) _ r a.1.1 in
    let c = first_ok (row_at bs (k + 2)) _ r b.1.1 in
    subst (λ (q : ℤ × ℤ × ℤ). (is_row q.0 ≡ true) × (is_row q.1 ≡ true) × (is_row q.2 ≡ true)) (same_ok _ _ c.1.1)
    (row_is_row bs k a.0 a.1.0, row_is_row bs (k + 1) b.0 b.1.0, row_is_row bs (k + 2) c.0 c.1.0)

sizes_are : (bs : List ℕ) (k : ℕ) (s : ℤ × ℤ × ℤ) → sizes_at bs k ≡ Ok s
    → (between (pos 1) MOST_SIDE s.0 ≡ true) × (between (pos 1) MOST_SIDE s.1 ≡ true) × (between (pos 0) MOST_FAR s.2 ≡ true)
unfolding sizes_at
sizes_are bs k s h =
    let a = first_ok (number_in bs k (pos 1) MOST_SIDE) _ s h in
    let b = first_ok (number_in bs (k + 1) (pos 1) MOST_SIDE) _ s a.1.1 in
    let c = first_ok (number_in bs (k + 2) (pos 0) MOST_FAR) _ s b.1.1 in
    subst (λ (q : ℤ × ℤ × ℤ). (between (pos 1) MOST_SIDE q.0 ≡ true) × (between (pos 1) MOST_SIDE q.1 ≡ true) × (between (pos 0) MOST_FAR q.2 ≡ true)) (same_ok _ _ c.1.1)
    (number_in_range bs k _ _ a.0 a.1.0, number_in_range bs (k + 1) _ _ b.0 b.1.0, number_in_range bs (k + 2) _ _ c.0 c.1.0)

-- numbers in range make a view
stands : (v : ViewNumbers) → point_in LEAST_COORDINATE MOST_COORDINATE v.origin ≡ true
    → (is_row v.ray ≡ true) × (is_row v.across ≡ true) × (is_row v.down ≡ true)
    → (between (pos 1) MOST_SIDE v.width ≡ true) × (between (pos 1) MOST_SIDE v.height ≡ true) × (between (pos 0) MOST_FAR v.far ≡ true)
    → is_ok (view_answer v) ≡ true
unfolding origin_answer ways_answer sizes_answer coordinate_answer
stands v o r s =
    let ox : between LEAST_COORDINATE MOST_COORDINATE v.origin.x ≡ true = grind arith in
    let oy : between LEAST_COORDINATE MOST_COORDINATE v.origin.y ≡ true = grind arith in
    let oz : between LEAST_COORDINATE MOST_COORDINATE v.origin.z ≡ true = grind arith in
    simp (ox, oy, oz, (row_some v.ray r.0).1, (row_some v.across r.1).1, (row_some v.down r.2).1, s.0, s.1, s.2)

pub view_stands : (bs : List ℕ) (v : ViewNumbers) → view_at bs ≡ Ok v → is_ok (view_answer v) ≡ true
unfolding view_at
view_stands bs v h =
    let a = first_ok (placement_at bs 1) _ v h in
    let b = first_ok (rows_at bs 4) _ v a.1.1 in
    let c = first_ok (sizes_at bs 7) _ v b.1.1 in
    subst (λ u. is_ok (view_answer u) ≡ true) (same_ok _ _ c.1.1) (stands _ (point_in_range bs 1 _ _ a.0 a.1.0) (rows_are bs 4 b.0 b.1.0) (sizes_are bs 7 c.0 c.1.0))

-- the facts that the pile's numbers keep
abbrev Kept : ℤ × Point × Point × Point → Type 0
Kept p = (nat_abs p.0 ≤ 1023) × In 16383 p.1 × (point_in LEAST_COORDINATE MOST_COORDINATE p.2 ≡ true) × (point_in LEAST_COORDINATE MOST_COORDINATE p.3 ≡ true)

slight : (n : ℤ) → between LEAST_THICKNESS MOST_THICKNESS n ≡ true → nat_abs n ≤ 1023
slight n h = grind (arith, ints, nat_tests)

near : (n : ℤ) → between (negsuc 16382) MOST_OFFSET n ≡ true → nat_abs n ≤ 16383
near n h = grind (arith, ints, nat_tests)

offset_near : (p : Point) → point_in (negsuc 16382) MOST_OFFSET p ≡ true → In 16383 p
offset_near p h = (near p.x (grind arith), near p.y (grind arith), near p.z (grind arith))

pub pile_kept : (bs : List ℕ) (p : ℤ × Point × Point × Point) → pile_at bs ≡ Ok p → Kept p
unfolding pile_at
pile_kept bs p h =
    let a = first_ok (number_in bs 10 LEAST_THICKNESS MOST_THICKNESS) _ p h in
    let b = first_ok (offset_at bs 11) _ p a.1.1 in
    let c = first_ok (placement_at bs 14) _ p b.1.1 in
    let d = first_ok (placement_at bs 17) _ p c.1.1 in
    subst Kept (same_ok _ _ d.1.1)
    (slight a.0 (number_in_range bs 10 _ _ a.0 a.1.0), offset_near b.0 (point_in_range bs 11 _ _ b.0 b.1.0), point_in_range bs 14 _ _ c.0 c.1.0, point_in_range bs 17 _ _ d.0 d.1.0)

-- a corner in its range is one of a box
pub corner_placed : (p : Point) → point_in LEAST_COORDINATE MOST_COORDINATE p ≡ true → IsPlacement p
corner_placed p h = grind (arith, ints, nat_tests)
