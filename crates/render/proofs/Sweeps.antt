-- A sweep with budget enough over new pixels settles each as its own ray does.
use Rattle.std.proofs.Common.{◌≡◌, ℕ, zero, suc, ◌+◌, ◌-◌, ◌*◌, ◌/◌, ◌%◌, ◌≤◌, true, ◌∷◌, replicate, refl, suc-mul, arith}
use Rattle.solid.specs.Body.{Body}
use Rattle.march.specs.declared.view.View.{View}
use Rattle.march.specs.Checks.{plain_view}
use Rattle.march.specs.March.{new_pixel, is_sane, settle}
use Rattle.march.specs.Rays.{new_ray, end_of}
use Rattle.march.proofs.RaySteps.{settled_keeps, settled_same, sane_on, sane_probes}
use Rattle.plate_log.specs.Sweep.{sweep}
use Rattle.plate_log.specs.Log.{clear_on_ray}
use Rattle.plate_log.proofs.Sanity.{new_sane}
use Rattle.plate_log.proofs.Sums.{settled_sum}
use Rattle.render.specs.Render.{settled_pixels}

module _ (c : ℕ → ℕ) (far b : ℕ) (enough : far + 1 ≤ b) where
  -- a new ray that is given more steps than it can take ends as it does with far + 1
  same : (settle c far b new_pixel).0 ≡ (settle c far (far + 1) new_pixel).0
  same = settled_same c far (far + 1) b 0 0 (omega arith) (omega arith) enough

  -- and uses no more of them
  left : b - (far + 1) ≤ (settle c far b new_pixel).1
  left =
      let ok : is_sane far (settle c far b new_pixel).0 ≡ true = settled_keeps (λ p. is_sane far p ≡ true) c far (λ t n h. sane_on far t n (c t) h) b new_pixel (new_sane far 1 0) in
      omega (arith, settled_sum c far b new_pixel, sane_probes far (settle c far b new_pixel).0 ok)

more : (n far b l : ℕ) → suc n * (far + 1) ≤ b → b - (far + 1) ≤ l → (far + 1 ≤ b) × (n * (far + 1) ≤ l)
more n far b l h k = let e = suc-mul n (far + 1) in (omega arith, omega arith)

pub swept_picture : (v : View) (b : Body) (n k budget : ℕ) → n * (v.far + 1) ≤ budget → (sweep (clear_on_ray v b) v.far budget k (replicate n new_pixel)).0 ≡ settled_pixels b (plain_view v) k n
unfolding settled_pixels
swept_picture v b zero k budget h = refl
swept_picture v b (suc n) k budget h =
    let far = v.far in
    let c = clear_on_ray v b k in
    let room = more n far budget (budget - (far + 1)) h (omega arith) in
    let rest = more n far budget (settle c far budget new_pixel).1 h (left c far budget room.0) in
    let first : (settle c far budget new_pixel).0 ≡ end_of b (new_ray (plain_view v) (k % v.width) (k / v.width)) = same c far budget room.0 in
    let others = swept_picture v b n (k + 1) (settle c far budget new_pixel).1 rest.1 in
    λ t. first t ∷ others t
