-- The numbers of a view that stand: what they are within, and the view that they make.
use Rattle.std.proofs.Common.{◌≡◌, ℕ, ◌+◌, ◌≤◌, Bool, true, false, if◌then◌else◌, ℤ, pos, nat_abs, Some, None, Option, Ok, Err, Result, sym, refl, ap, ◌∙◌, arith}
use mathlib.Core.Path.{subst⁻¹}
use Rattle.std.specs.Option.{ok_or}
use Rattle.std.specs.Result.{result_map_both}
use Rattle.lattice.specs.declared.TheConstants.{LEAST_COORDINATE, MOST_COORDINATE}
use borrow.Author.Differences.{ints}
use Rattle.lattice.specs.declared.Point.{Point}
use Rattle.lattice.specs.Space.{In}
use Rattle.march.specs.declared.view.ViewNumbers.{ViewNumbers}
use Rattle.march.specs.declared.fault.ViewFault.{ViewFault}
use Rattle.refusal.specs.Checks.{and_then}
use Rattle.lattice.specs.Rows.{Way, row_of, row_answer}
use Rattle.refusal.specs.Ranges.{between, in_range, count_in}
use Rattle.march.specs.declared.view.TheConstants.{LEAST_SIDE, MOST_SIDE, MOST_FAR}
use Rattle.march.specs.Checks.{with_range_fault, with_row_fault, coordinate_answer, origin_answer, ways_answer, sizes_answer, view_answer, origin_place, width_place, height_place, far_place}

-- one check after another
pub then_ok : {A B : Type 0} (r : Result A ViewFault) (next : A → Result B ViewFault) (a : A) → Ok a ≡ r → and_then r next ≡ next a
then_ok r next a e = sym (ap (λ r. and_then r next) e)

pub then_err : {A B : Type 0} (r : Result A ViewFault) (next : A → Result B ViewFault) (f : ViewFault) → Err f ≡ r → and_then r next ≡ Err f
then_err r next f e = sym (ap (λ r. and_then r next) e)

-- what passed a chain passed its first check, and then the rest of it
abbrev Passed : {A B : Type 0} → Result A ViewFault → (A → Result B ViewFault) → B → Type 0
Passed {A} r next b = (a : A) × (Ok a ≡ r) × (Ok b ≡ next a)

passed : {A B : Type 0} (r : Result A ViewFault) (next : A → Result B ViewFault) (b : B) → Ok b ≡ and_then r next → Passed r next b
passed (Ok a) next b e = (a, refl, e)
passed (Err f) next b e = let z : ◌≡◌ {A = ℕ} 0 1 = cc in absurd (omega arith)

-- a number that passed lies in its range, and is the one that was checked
range_passed : (n lo hi : ℤ) (place : ℕ) (m : ℤ) → Ok m ≡ with_range_fault (in_range n lo hi place)
    → (between lo hi n ≡ true) × (m ≡ n)
range_passed n lo hi place m e = chosen (between lo hi n) refl e
  where
    chosen : (b : Bool) → between lo hi n ≡ b → Ok m ≡ with_range_fault (if b then Ok n else Err (record { place = place }))
        → (between lo hi n ≡ true) × (m ≡ n)
    chosen true h e = (h, cc)
    chosen false h e = let z : ◌≡◌ {A = ℕ} 0 1 = cc in absurd (omega arith)

pub coordinate_passed : (n : ℤ) (place : ℕ) (m : ℤ) → Ok m ≡ coordinate_answer n place
    → (between LEAST_COORDINATE MOST_COORDINATE n ≡ true) × (m ≡ n)
unfolding coordinate_answer
coordinate_passed n place m e = range_passed n LEAST_COORDINATE MOST_COORDINATE place m e

-- and so with one that counts, which becomes its size
pub count_passed : (n lo hi : ℤ) (place m : ℕ) → Ok m ≡ with_range_fault (count_in n lo hi place)
    → (between lo hi n ≡ true) × (m ≡ nat_abs n)
count_passed n lo hi place m e = chosen (between lo hi n) refl e
  where
    chosen : (b : Bool) → between lo hi n ≡ b
        → Ok m ≡ with_range_fault (result_map_both nat_abs (λ f. f) (if b then Ok n else Err (record { place = place })))
        → (between lo hi n ≡ true) × (m ≡ nat_abs n)
    chosen true h e = (h, cc)
    chosen false h e = let z : ◌≡◌ {A = ℕ} 0 1 = cc in absurd (omega arith)

-- and with one that names a row
pub row_passed : (n : ℤ) (place : ℕ) (w : Way) → Ok w ≡ with_row_fault (row_answer n place) → row_of n ≡ Some w
row_passed n place w e = found (row_of n) refl e
  where
    found : (row : Option Way) → row_of n ≡ row → Ok w ≡ with_row_fault (ok_or row (record { place = place })) → row_of n ≡ Some w
    found (Some v) h e = let same : w ≡ v = cc in h ∙ ap Some (sym same)
    found None h e = let z : ◌≡◌ {A = ℕ} 0 1 = cc in absurd (omega arith)

coordinate_near : (n m : ℤ) (place : ℕ) → Ok m ≡ coordinate_answer n place → nat_abs m ≤ nat_abs LEAST_COORDINATE
coordinate_near n m place e =
    let h = coordinate_passed n place m e in
    let near : nat_abs n ≤ nat_abs LEAST_COORDINATE = grind (arith, ints) in
    subst⁻¹ (λ (m : ℤ). nat_abs m ≤ nat_abs LEAST_COORDINATE) h.1 near

count_most : (n : ℤ) (lo hi place m : ℕ) → Ok m ≡ with_range_fault (count_in n (pos lo) (pos hi) place) → m ≤ hi
count_most n lo hi place m e = let h = count_passed n (pos lo) (pos hi) place m e in grind (arith, ints)

pub origin_near : (n : ViewNumbers) (q : Point) → Ok q ≡ origin_answer n → In (nat_abs LEAST_COORDINATE) q
unfolding origin_answer
origin_near n q e =
    let p = n.origin in
    let a = passed (coordinate_answer p.x origin_place) _ q e in
    let b = passed (coordinate_answer p.y (origin_place + 1)) _ q a.2 in
    let c = passed (coordinate_answer p.z (origin_place + 2)) _ q b.2 in
    let s : q ≡ record { x = a.0; y = b.0; z = c.0 } = cc c.2 in
    subst⁻¹ (In (nat_abs LEAST_COORDINATE)) s
    (coordinate_near p.x a.0 _ a.1, coordinate_near p.y b.0 _ b.1, coordinate_near p.z c.0 _ c.1)

abbrev Small : ℕ × ℕ × ℕ → Type 0
Small s = (s.0 ≤ nat_abs MOST_SIDE) × (s.1 ≤ nat_abs MOST_SIDE) × (s.2 ≤ nat_abs MOST_FAR)

pub sizes_small : (n : ViewNumbers) (s : ℕ × ℕ × ℕ) → Ok s ≡ sizes_answer n → Small s
unfolding sizes_answer
sizes_small n s e =
    let a = passed (with_range_fault (count_in n.width LEAST_SIDE MOST_SIDE width_place)) _ s e in
    let b = passed (with_range_fault (count_in n.height LEAST_SIDE MOST_SIDE height_place)) _ s a.2 in
    let c = passed (with_range_fault (count_in n.far (pos 0) MOST_FAR far_place)) _ s b.2 in
    let q : s ≡ (a.0, b.0, c.0) = cc c.2 in
    subst⁻¹ Small q (count_most n.width _ _ _ a.0 a.1, count_most n.height _ _ _ b.0 b.1, count_most n.far _ _ _ c.0 c.1)

-- the view of numbers that all stand, and the fault of the last of the three groups
module _ (n : ViewNumbers) (o : Point) (w : Way × Way × Way) (eo : Ok o ≡ origin_answer n) (ew : Ok w ≡ ways_answer n) where
  pub view_made : (s : ℕ × ℕ × ℕ) → Ok s ≡ sizes_answer n
      → Ok (record { origin = o; ray = w.0; across = w.1; down = w.2; width = s.0; height = s.1; far = s.2 }) ≡ view_answer n
  view_made s es = sym (then_ok (origin_answer n) _ o eo ∙ then_ok (ways_answer n) _ w ew ∙ then_ok (sizes_answer n) _ s es)

  pub sizes_refused : (f : ViewFault) → Err f ≡ sizes_answer n → Err f ≡ view_answer n
  sizes_refused f es = sym (then_ok (origin_answer n) _ o eo ∙ then_ok (ways_answer n) _ w ew ∙ then_err (sizes_answer n) _ f es)
