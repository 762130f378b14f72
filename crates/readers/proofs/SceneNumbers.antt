-- Nodes with numbers in their ranges are laid down.
use Rattle.std.proofs.Common.{◌≡◌, ℕ, true, leb, List, ◌∷◌, pos, unsigned_abs, Ok, Result, ap, arith}
use Rattle.std.specs.Result.{result_map_both}
use Rattle.std.proofs.lemmas.Bool.{and_parts, leb-true}
use Rattle.refusal.specs.Ranges.{between}
use Rattle.lattice.specs.Space.{norm, within, ordered}
use Rattle.lattice.specs.declared.Point.{Point}
use Rattle.lattice.specs.declared.TheConstants.{LEAST_COORDINATE, MOST_COORDINATE, MOST_OFFSET}
use Rattle.solid.specs.Body.{Body}
use Rattle.solid.proofs.Asked.{within_in}
use Rattle.piles.specs.Leaves.{ball, block}
use Rattle.piles.specs.Layers.{shift, thicken}
use Rattle.piles.specs.declared.TheConstants.{LEAST_THICKNESS, MOST_THICKNESS}
use Rattle.layers.specs.declared.fault.LayerFault.{LayerFault}
use Rattle.layers.proofs.Piled.{offset_stands}
use Rattle.leaves.specs.Made.{point_in_range}
use Rattle.scene.specs.declared.fault.DraftFault.TheVariants.{Layer}
use Rattle.leaves.specs.declared.ball.TheConstants.{LEAST_RADIUS, MOST_RADIUS}
use Rattle.scene.specs.Laid.{ball_on, box_on, shift_on, thicken_on}
use Rattle.readers.specs.ScenesBack.{is_placement}

pub point_made : (p : Point) (k : ℕ) → is_placement p ≡ true → point_in_range p k ≡ Ok tt
unfolding point_in_range
point_made p k h =
    let x : between LEAST_COORDINATE MOST_COORDINATE p.x ≡ true = grind arith in
    let y : between LEAST_COORDINATE MOST_COORDINATE p.y ≡ true = grind arith in
    let z : between LEAST_COORDINATE MOST_COORDINATE p.z ≡ true = grind arith in
    simp (x, y, z)

pub ball_laid : (m : Point) (r : ℕ) (s : List Body) → is_placement m ≡ true → between LEAST_RADIUS MOST_RADIUS (pos r) ≡ true
    → ball_on m (pos r) s ≡ Ok (ball m r ∷ s)
ball_laid m r s h l = simp (point_made m 1 h, l)

pub box_laid : (lo hi : Point) (s : List Body) → is_placement lo ≡ true → is_placement hi ≡ true → ordered lo hi ≡ true
    → box_on lo hi s ≡ Ok (block lo hi ∷ s)
box_laid lo hi s h l o = simp (point_made lo 1 h, point_made hi 4 l, o)

pub shift_laid : (v : Point) (a : Body) (s : List Body) → within (unsigned_abs MOST_OFFSET) v ≡ true
    → leb (norm v) a.reach ≡ true → shift_on v (a ∷ s) ≡ Ok (shift v a ∷ s)
shift_laid v a s w r =
    ap (λ (r : Result (Unit {0}) LayerFault). result_map_both (λ _. shift v a ∷ s) Layer r)
    (offset_stands a.reach v (within_in (unsigned_abs MOST_OFFSET) v w) (leb-true (norm v) a.reach r))

pub thicken_laid : (h : ℕ) (a : Body) (s : List Body) → between LEAST_THICKNESS MOST_THICKNESS (pos h) ≡ true
    → a.exact ≡ true → thicken_on (pos h) (a ∷ s) ≡ Ok (thicken h a ∷ s)
thicken_laid h a s l e = let p = and_parts (leb 0 h) (leb h 1023) l in simp (e, p.0, p.1)
