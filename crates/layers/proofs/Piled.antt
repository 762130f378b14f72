-- What a layer makes of piles is a pile.
use Rattle.std.proofs.Common.{◌≡◌, ℕ, ◌≤◌, true, leb, ℤ, neg_ℤ, Ok, Result, unsigned_abs, sym, ◌∙◌, subst, arith}
use borrow.Author.Differences.{ints, true_is_le}
use Rattle.std.proofs.lemmas.Bool.{le-leb, and_from}
use Rattle.std.proofs.lemmas.Grind.{common_steps}
use Rattle.refusal.specs.Ranges.{between}
use Rattle.lattice.specs.declared.TheConstants.{MOST_OFFSET}
use Rattle.lattice.specs.Space.{norm, IsOffset}
use Rattle.lattice.specs.declared.Point.{Point}
use Rattle.solid.specs.declared.TheConstants.{MOST_CLEARANCE}
use Rattle.solid.specs.Body.{Body}
use Rattle.piles.specs.declared.TheConstants.{MOST_THICKNESS, LEAST_CAP}
use Rattle.piles.specs.Layers.{unite, meet, shift, near, thicken, cap}
use Rattle.piles.specs.Pile.{Pile}
use Rattle.piles.specs.Pile.Pile.{united, met, shifted, thickened, cut}
use Rattle.piles.proofs.Piles.{pile_exact}
use Rattle.layers.specs.declared.fault.LayerFault.{LayerFault}
use Rattle.layers.specs.Checks.{check_offset, thicken_number}
use Rattle.layers.specs.Piled.{UnitesPiles, MeetsPiles, ShiftsPiles, ThickensPiles, CapsPiles}

pub unites_piles : (a b : Body) → UnitesPiles a b (unite a b)
unites_piles a b M N e f s t = united s t

pub meets_piles : (a b : Body) → MeetsPiles a b (meet a b)
meets_piles a b M N e f s t = met s t

-- an offset that passes the checks is in its range and in the reach
offset_fits : (r : ℕ) (v : Point) → ◌≡◌ {A = Result (Unit {0}) LayerFault} (Ok tt) (check_offset r v) → IsOffset v × (norm v ≤ r)
offset_fits r v h = grind (arith, common_steps)

pub shifts_piles : (v : Point) (a : Body) → ◌≡◌ {A = Result (Unit {0}) LayerFault} (Ok tt) (check_offset a.reach v) → ShiftsPiles v a (shift v a)
shifts_piles v a h M e s = let f = offset_fits a.reach v h in shifted v f.0 f.1 s

-- and one that is in both passes them
pub offset_stands : (r : ℕ) (v : Point) → IsOffset v → norm v ≤ r → ◌≡◌ {A = Result (Unit {0}) LayerFault} (check_offset r v) (Ok tt)
offset_stands r v i l =
    let x = part v.x i.0 in
    let y = part v.y i.1 in
    let z = part v.z i.2 in
    let n : leb (norm v) r ≡ true = le-leb _ _ l in
    simp (x, y, z, n)
  where
    part : (a : ℤ) → unsigned_abs a ≤ unsigned_abs MOST_OFFSET → between (neg_ℤ MOST_OFFSET) MOST_OFFSET a ≡ true
    part a i = and_from _ _ (sym (true_is_le (neg_ℤ MOST_OFFSET) a (omega (arith, ints)))) (sym (true_is_le a MOST_OFFSET (omega (arith, ints))))

-- a distance that passes its check is the number's size
distance_fits : (z : ℤ) (h : ℕ) → ◌≡◌ {A = Result ℕ LayerFault} (Ok h) (thicken_number z) → (h ≡ unsigned_abs z) × (h ≤ unsigned_abs MOST_THICKNESS)
distance_fits z h e = grind (arith, common_steps)

pub thickens_piles : (z : ℤ) (h : ℕ) (a : Body) → ◌≡◌ {A = Result ℕ LayerFault} (Ok h) (thicken_number z) → a.exact ≡ true → ThickensPiles (unsigned_abs z) a (thicken h a)
thickens_piles z h a n x M e s =
    let f = distance_fits z h n in
    subst (λ k. Pile (near k M) true (thicken h a)) f.0 (thickened h f.1 (subst (λ e. Pile M e a) (sym (pile_exact s) ∙ x) s))

pub caps_piles : (most : ℕ) (a : Body) → unsigned_abs LEAST_CAP ≤ most → most ≤ MOST_CLEARANCE → CapsPiles a (cap most a)
caps_piles most a l h M e s = cut most l h s
