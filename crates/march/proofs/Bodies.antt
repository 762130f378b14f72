-- A lawful body along a ray, by its members and clearances at the ray's points.
use Rattle.std.proofs.Common.{◌≡◌, ℕ, ◌≤◌, min, Bool, true, Ok, Result, sym, ap, ◌∙◌, arith}
use Rattle.lattice.specs.Space.{In}
use Rattle.lattice.specs.declared.Point.{Point}
use Rattle.lattice.specs.declared.direction.Direction.{Direction}
use Rattle.lattice.proofs.Distance.{in_less}
use Rattle.solid.specs.declared.QuestionFault.{QuestionFault}
use Rattle.solid.specs.Body.{Body, Lawful}
use Rattle.solid.specs.Answer.{answer_up_to}
use Rattle.solid.proofs.Asked.{up_to_in}
use Rattle.march.specs.declared.deep.TheConstants.{WORKING_RANGE}
use Rattle.march.specs.Deep.{IsDeep}
use Rattle.march.specs.View.{along}
use Rattle.march.proofs.Space.{dist_along}
use Rattle.march.proofs.RaySteps.{Clears, Rides}

-- a ray from p in the direction d, up to far, that stays in the working range, and a body of members M that reaches as far
module _ (p : Point) (d : Direction) (far : ℕ) (ray : (t : ℕ) → t ≤ far → In WORKING_RANGE (along p t d))
    (M : Point → Bool) (b : Body) (law : Lawful b) (deep : IsDeep b) (same : (q : Point) → b.member q ≡ M q) where
  reached : (t : ℕ) → t ≤ far → In b.reach (along p t d)
  reached t h = in_less WORKING_RANGE b.reach (along p t d) deep (ray t h)

  hit_at : (t : ℕ) → t ≤ far → b.clear (along p t d) ≡ 0 → M (along p t d) ≡ true
  hit_at t h e = sym (same (along p t d)) ∙ law.outside (along p t d) (reached t h) e

  pub body_clears : Clears (λ t. M (along p t d)) far (λ t. b.clear (along p t d))
  body_clears = record {
    hit = hit_at;
    ahead = λ t u ht le e. omega (arith, law.none_nearer (along p t d) (along p u d) (reached t ht) (same (along p u d) ∙ e), dist_along p d t u le);
  }

  pub body_rides : Rides (λ t. M (along p t d)) far (λ t. b.clear (along p t d))
  body_rides = record {
    hit = hit_at;
    slope = λ s t le ht. omega (arith, law.slope (along p s d) (along p t d) (reached s (omega arith)) (reached t ht), dist_along p d s t le);
  }

-- a question in the working range is answered by a body that reaches as far
pub answered_in : (most : ℕ) (b : Body) (p q : Point) (o : Result ℕ QuestionFault) → o ≡ answer_up_to most b q → q ≡ p → In WORKING_RANGE p → IsDeep b → o ≡ Ok (min most (b.clear p))
answered_in most b p q o e same h deep = e ∙ ap (answer_up_to most b) same ∙ up_to_in most b p (in_less WORKING_RANGE b.reach p deep h)
