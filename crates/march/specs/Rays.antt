-- What the calls on a ray answer.
use Rattle.std.specs.Prelude.{◌≡◌, ℕ, ◌+◌, ◌<◌, ◌≤◌, Bool, false, Some, None, Ok, Err, Option, Result}
use Rattle.std.specs.Result.{result_map_both}
use Rattle.lattice.specs.declared.Point.{Point}
use Rattle.refusal.specs.Checks.{and_then, unless}
use Rattle.solid.specs.Body.{Body}
use Rattle.march.specs.declared.deep.TheConstants.{WORKING_RANGE}
use Rattle.march.specs.declared.view.ViewNumbers.{ViewNumbers}
use Rattle.march.specs.declared.pixel.Pixel.{Pixel}
use Rattle.march.specs.declared.pixel.Pixel.TheVariants.{Marching as marching, Hit as hit, Miss as miss}
use Rattle.march.specs.declared.marching.Marching.{Marching}
use Rattle.march.specs.declared.settled.Outcome.{Outcome}
use Rattle.march.specs.declared.settled.Outcome.TheVariants.{Hit, Miss}
use Rattle.march.specs.declared.settled.Settled.{Settled}
use Rattle.march.specs.declared.marching.Stepped.{Stepped}
use Rattle.march.specs.declared.marching.Stepped.TheVariants.{On, Done}
use Rattle.march.specs.declared.fault.StepFault.{StepFault}
use Rattle.march.specs.declared.fault.StepFault.TheVariants.{Shallow}
use Rattle.march.specs.declared.fault.RayFault.{RayFault}
use Rattle.march.specs.declared.fault.RayFault.TheVariants.{View, NoPixel}
use Rattle.lattice.specs.Rows.{Way, way}
use Rattle.march.specs.Checks.{PlainView, view_answer}
use Rattle.march.specs.Deep.{IsDeep, is_deep}
use Rattle.march.specs.View.{along_way, plain_start, has_pixel_in, clear_from}
use Rattle.march.specs.March.{after_probe, settle, Takes, IsRight}

-- a marching ray by plain numbers
pub record PlainRay : Type 0 where
  pub start : Point
  pub toward : Way
  pub far : ℕ
  pub t : ℕ
  pub probes : ℕ

abbrev pub plain_ray : Marching → PlainRay
plain_ray m = record { start = m.ray.start; toward = way m.ray.toward; far = m.ray.far; t = m.t; probes = m.probes }

-- A ray is made at the start of pixel (i, j), at t = 0 with no probe, where the view has that pixel.
abbrev pub new_ray : PlainView → (i j : ℕ) → PlainRay
new_ray v i j = record { start = plain_start v i j; toward = v.ray; far = v.far; t = 0; probes = 0 }

abbrev pub ray_answer : ViewNumbers → (i j : ℕ) → Result PlainRay RayFault
ray_answer n i j =
    and_then (result_map_both (λ v. v) View (view_answer n)) (λ v.
    unless (has_pixel_in v.width v.height i j) NoPixel
    (Ok (new_ray v i j)))

-- a ray, or why it is not made, by plain numbers
abbrev pub plain_ray_in : Result Marching RayFault → Result PlainRay RayFault
plain_ray_in r = result_map_both plain_ray (λ f. f) r

-- the point of a ray at t, and what a body says of it: its clearance, and whether it is a member
abbrev pub point_along : PlainRay → (t : ℕ) → Point
point_along r t = along_way r.start t r.toward

abbrev pub clear_of : Body → PlainRay → ℕ → ℕ
clear_of b r t = clear_from b r.start r.toward t

abbrev pub member_of : Body → PlainRay → ℕ → Bool
member_of b r t = b.member (point_along r t)

-- how a ray settled, how often it asked, and both as a pixel's state
abbrev pub outcome_of : Settled → Outcome
outcome_of s = s.outcome

abbrev pub probes_of : Settled → ℕ
probes_of s = s.probes

abbrev pub pixel_of : Outcome → (probes : ℕ) → Pixel
pixel_of (Hit d) n = hit d n
pixel_of Miss n = miss n

abbrev pub settled_pixel : Settled → Pixel
settled_pixel s = pixel_of (outcome_of s) (probes_of s)

-- the depth of a hit
abbrev pub contact_depth : Outcome → Option ℕ
contact_depth (Hit d) = Some d
contact_depth Miss = None

-- What a step leaves: the ray as it marches on, or the state in which it has settled.
pub data PlainStepped : Type 0 where
  on : PlainRay → PlainStepped
  done : Pixel → PlainStepped

abbrev pub plain_stepped : Stepped → PlainStepped
plain_stepped (On m) = on (plain_ray m)
plain_stepped (Done s) = done (settled_pixel s)

-- a ray on the line of r, in a given state
abbrev pub ray_after : PlainRay → Pixel → PlainStepped
ray_after r (marching t n) = on (record { start = r.start; toward = r.toward; far = r.far; t = t; probes = n })
ray_after r (hit d n) = done (hit d n)
ray_after r (miss n) = done (miss n)

-- one step: it asks the clearance at its t
abbrev pub step_of : Body → PlainRay → PlainStepped
step_of b r = ray_after r (after_probe r.far r.t r.probes (clear_of b r r.t))

-- a step over a solid, which hands the ray back as it was where the solid does not reach as far as the working range
abbrev pub step_answer : Body → Marching → Result PlainStepped (StepFault × Marching)
step_answer b m = unless (is_deep b) (Shallow, m) (Ok (step_of b (plain_ray m)))

abbrev pub plain_stepped_in : Result Stepped (StepFault × Marching) → Result PlainStepped (StepFault × Marching)
plain_stepped_in r = result_map_both plain_stepped (λ e. e) r

-- A ray stepped until it settles; far + 1 steps are enough.
abbrev pub end_of : Body → PlainRay → Pixel
end_of b r = (settle (clear_of b r) r.far (r.far + 1) (marching r.t r.probes)).0

abbrev pub settle_answer : Body → Marching → Result Pixel (StepFault × Marching)
settle_answer b m = unless (is_deep b) (Shallow, m) (Ok (end_of b (plain_ray m)))

abbrev pub settled_pixel_in : Result Settled (StepFault × Marching) → Result Pixel (StepFault × Marching)
settled_pixel_in r = result_map_both settled_pixel (λ e. e) r

-- In the words of members and probes: where no member lies before the ray's t (a ray as it is made has
-- t = 0, and nothing before it), a hit is at the ray's first member, and a miss means that there is none
-- up to far. The probes are those that it had and those of one whole march from t on, and they are never
-- more than far + 1.
pub record IsFirstContact (b : Body) (r : PlainRay) (s : Settled) : Type 0 where
  pub right : ((u : ℕ) → u < r.t → member_of b r u ≡ false) → IsRight (member_of b r) r.far (settled_pixel s)
  pub takes : (n : ℕ) × Takes (clear_of b r) r.far r.t n × (probes_of s ≡ r.probes + n)
  pub most : probes_of s ≤ r.far + 1

-- a ray is handed back, not settled, exactly where the solid does not reach as far as the working range
abbrev pub FirstContactIn : Body → Marching → Result Settled (StepFault × Marching) → Type 0
FirstContactIn b m (Ok s) = IsDeep b × IsFirstContact b (plain_ray m) s
FirstContactIn b m (Err e) = b.reach < WORKING_RANGE
