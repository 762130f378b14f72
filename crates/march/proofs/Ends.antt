-- A ray that is stepped until it settles: each step keeps the end of its march, and what that end tells.
use Rattle.std.proofs.Common.{◌≡◌, ℕ, ◌+◌, ◌-◌, ◌<◌, ◌≤◌, false, sym, refl, ap, ◌∙◌, subst, add-one, arith}
use mathlib.Core.Path.{subst⁻¹}
use Rattle.lattice.specs.Space.{In}
use Rattle.solid.specs.Body.{Body, Lawful}
use Rattle.march.specs.declared.pixel.Pixel.{Pixel}
use Rattle.march.specs.declared.pixel.Pixel.TheVariants.{Marching as marching, Hit as hit, Miss as miss}
use Rattle.march.specs.declared.marching.Marching.{Marching}
use Rattle.march.specs.declared.settled.Outcome.{Outcome}
use Rattle.march.specs.declared.settled.Outcome.TheVariants.{Hit, Miss}
use Rattle.march.specs.declared.settled.Settled.{Settled}
use Rattle.march.specs.March.{after_probe, settle, marches, probes, IsRight}
use Rattle.march.specs.declared.deep.TheConstants.{WORKING_RANGE}
use Rattle.march.specs.Deep.{IsDeep}
use Rattle.march.specs.View.{along}
use Rattle.march.specs.Rays.{PlainRay, plain_ray, clear_of, member_of, pixel_of, settled_pixel, on, done, ray_after, step_of, end_of, IsFirstContact}
use Rattle.march.proofs.RaySteps.{stepped_by, settled_stays, settled_same, right_settled, takes_some, takes_settles, Settles}
use Rattle.march.proofs.Space.{point_in_range}
use Rattle.march.proofs.Bodies.{body_clears}

not_done : {A : Type 0} (s : PlainRay) (p : Pixel) → on s ≡ done p → A
not_done s p e = let z : ◌≡◌ {A = ℕ} 0 1 = cc in absurd (omega arith)

module _ (b : Body) (r : PlainRay) where
  -- the end of the march, once the first of its far + 1 steps is made
  abbrev Onward : Pixel → Type 0
  Onward p = (settle (clear_of b r) r.far r.far p).0 ≡ end_of b r

  onward : Onward (after_probe r.far r.t r.probes (clear_of b r r.t))
  onward = sym (ap (λ (n : ℕ). (settle (clear_of b r) r.far n (marching r.t r.probes)).0) (add-one r.far))

  abbrev pub Further : PlainRay → Type 0
  Further s = (end_of b s ≡ end_of b r) × (s.far ≡ r.far) × (r.t < s.t)

  -- a ray that marches on has the same end, and is further along
  pub step_on : (s : PlainRay) → on s ≡ step_of b r → Further s
  step_on s =
      stepped_by (λ p. Onward p → on s ≡ ray_after r p → Further s) r.far r.t r.probes (clear_of b r r.t)
      (λ _ _ e. not_done s _ e)
      (λ _ _ _ e. not_done s _ e)
      (λ some le h e.
      let t = r.t + clear_of b r r.t in
      let q : PlainRay = record { start = r.start; toward = r.toward; far = r.far; t = t; probes = r.probes + 1 } in
      let same : s ≡ q = cc in
      subst⁻¹ Further same (
        settled_same (clear_of b r) r.far r.far (r.far + 1) t (r.probes + 1) le (omega arith) (omega arith) ∙ h,
        refl,
        omega arith,
      ))
      onward

  -- a ray that has settled is at that end
  pub step_done : (p : Pixel) → done p ≡ step_of b r → p ≡ end_of b r
  step_done p =
      stepped_by (λ q. Onward q → done p ≡ ray_after r q → p ≡ end_of b r) r.far r.t r.probes (clear_of b r r.t)
      (λ _ h e. let same : p ≡ hit r.t (r.probes + 1) = cc in same ∙ sym (stays (hit r.t (r.probes + 1)) refl) ∙ h)
      (λ _ _ h e. let same : p ≡ miss (r.probes + 1) = cc in same ∙ sym (stays (miss (r.probes + 1)) refl) ∙ h)
      (λ _ _ _ e. not_done _ p (sym e))
      onward
    where
      stays : (q : Pixel) → marches q ≡ false → (settle (clear_of b r) r.far r.far q).0 ≡ q
      stays q e = ap (λ (s : Pixel × ℕ). s.0) (settled_stays (clear_of b r) r.far r.far q e)

same_probes : (s : Settled) → s.probes ≡ probes (settled_pixel s)
same_probes s = by s.outcome
  where
    by : (o : Outcome) → s.probes ≡ probes (pixel_of o s.probes)
    by (Hit d) = refl
    by Miss = refl

-- what the end of its march tells, over a lawful body that is deep enough
pub contact : (b : Body) → Lawful b → IsDeep b → (m : Marching) (s : Settled) → settled_pixel s ≡ end_of b (plain_ray m) → IsFirstContact b (plain_ray m) s
contact b law deep m s e =
    let r = plain_ray m in
    let c = clear_of b r in
    let fuel = r.far + 1 - r.t in
    let far_in : (t : ℕ) → t ≤ m.ray.far → In WORKING_RANGE (along m.ray.start t m.ray.toward) = λ t h. point_in_range m.ray.start m.ray.toward t m.ray.far (m.ray.x_in_range, m.ray.y_in_range, m.ray.z_in_range) m.ray.far_in_range h in
    let k = takes_some c r.far fuel r.t m.t_in_range (omega (arith, m.t_in_range)) in
    let rest = r.far + 1 - k.0 in
    let whole : k.0 + rest ≡ r.far + 1 = omega arith in
    let ends : Settles c r.far (r.far + 1) rest (r.probes + k.0) (marching r.t r.probes) =
    subst (λ (n : ℕ). Settles c r.far n rest (r.probes + k.0) (marching r.t r.probes)) whole (takes_settles c r.far rest r.probes k.2) in
    let count : s.probes ≡ r.probes + k.0 = same_probes s ∙ ap probes e ∙ ends.1 in
    record {
      right = λ none. subst⁻¹ (IsRight (member_of b r) r.far) e (right_settled (member_of b r) r.far c (body_clears m.ray.start m.ray.toward m.ray.far far_in b.member b law deep (λ q. refl)) (r.far + 1) (marching r.t r.probes) (m.t_in_range, none));
      takes = (k.0, k.2, count);
      most = omega (arith, m.probes_in_range, m.t_in_range);
    }
