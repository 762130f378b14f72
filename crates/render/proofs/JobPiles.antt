-- The pile of a model: what it is a pile of, and how the code's solids mean it.
use Rattle.std.proofs.Common.{◌≡◌, ℕ, zero, suc, ◌*◌, ◌≤◌, Bool, true, false, ◌||◌, eqb, List, length, take, ℤ, sym, refl, ap, ◌∙◌, subst, arith, lit≤}
use Rattle.std.proofs.lemmas.List.{take_all}
use Rattle.std.proofs.lemmas.Bool.{ne_eqb}
use Rattle.lattice.specs.Space.{norm}
use Rattle.lattice.proofs.Distance.{placement_in}
use Rattle.solid.specs.Body.{Body, Lawful}
use Rattle.piles.specs.Leaves.{block, surface}
use Rattle.piles.specs.Layers.{thicken}
use Rattle.piles.specs.Pile.{Pile}
use Rattle.piles.specs.Pile.Pile.{lawful, united, met, shifted, thickened, cut}
use Rattle.piles.proofs.Boxes.{block_lawful}
use Rattle.piles.proofs.Surfaces.{surface_lawful}
use Rattle.readers.specs.declared.job.Job.{Job}
use Rattle.leaves.specs.declared.surface.SurfaceSize.{SurfaceSize}
use Rattle.readers.specs.Jobs.{job_numbers}
use Rattle.plate_log.specs.Law.{IsPileOf}
use Rattle.render.specs.Models.{guarded_scene, job_pile, pile_of, guarded_members, members}
use Rattle.render.specs.Steps.{model_of}

above_none : (g : ℕ) (x : Bool) → (eqb (suc g) 0 || x) ≡ true → x ≡ true
above_none g x e = ap (λ (b : Bool). b || x) (sym (ne_eqb (suc g) 0 (λ z. omega arith))) ∙ e

guarded_pile : (g : ℕ) (s : Body) → Lawful s → g ≤ 1023 → (eqb g 0 || s.exact) ≡ true → (e : Bool) × Pile (guarded_members g s.member) e (guarded_scene g s)
guarded_pile zero s l h x = (s.exact, lawful s l)
guarded_pile (suc g) s l h x = (true, thickened (suc g) h (subst (λ (e : Bool). Pile s.member e s) (above_none g s.exact x) (lawful s l)))

-- the pile of a job, a scene and a surface is one, and has the members that set algebra gives
pub model_piled : (j : Job) (s : Body) (size : SurfaceSize) (hs : List ℤ) → Lawful s → (eqb j.guard 0 || s.exact) ≡ true
    → let m = model_of (job_numbers j) s size hs in IsPileOf (members m) (pile_of m)
model_piled j s size hs l x =
    let n = size.width * size.depth in
    let g = guarded_pile j.guard s l j.guard_in_range x in
    let clip = lawful (block j.clip.lo j.clip.hi) (block_lawful j.clip.lo j.clip.hi (placement_in j.clip.lo j.clip.lo_is_placement) (placement_in j.clip.hi j.clip.hi_is_placement) j.clip.in_order) in
    let near : norm j.shift ≤ 1048576 = omega (arith, j.shift_in_range.0, j.shift_in_range.1, j.shift_in_range.2) in
    let sheet = shifted j.shift j.shift_in_range near (lawful (surface size.width size.depth (take n hs)) (surface_lawful size.width size.depth (take n hs))) in
    (members (model_of (job_numbers j) s size hs), false, cut 64 (lit≤ tt) (lit≤ tt) (met clip (united sheet g.1)), λ p. refl)

-- what the code piles up is the pile of the model
pub pile_is : (j : Job) (s scene columns : Body) (size : SurfaceSize) (hs : List ℤ) → length hs ≡ size.width * size.depth
    → columns ≡ surface size.width size.depth hs → scene ≡ guarded_scene j.guard s
    → job_pile (job_numbers j) columns scene ≡ pile_of (model_of (job_numbers j) s size hs)
pile_is j s scene columns size hs long f g =
    let n = size.width * size.depth in
    let b = λ (x t : Body). job_pile (job_numbers j) x t in
    ap (λ (x : Body). b x scene) f
    ∙ ap (λ (x : List ℤ). b (surface size.width size.depth x) scene) (sym (take_all n hs (omega arith)))
    ∙ ap (λ (x : Body). b (surface size.width size.depth (take n hs)) x) g

pub unguarded : (g : ℕ) (s : Body) → g ≡ 0 → s ≡ guarded_scene g s
unguarded zero s e = refl
unguarded (suc g) s e = absurd (omega arith)

pub on_guard : (g : ℕ) (s : Body) → (g ≡ 0 → ⊥) → thicken g s ≡ guarded_scene g s
on_guard zero s h = absurd (h refl)
on_guard (suc g) s h = refl

pub must_be_exact : (g : ℕ) (x : Bool) → (eqb g 0 || x) ≡ true → (g ≡ 0 → ⊥) → x ≡ true
must_be_exact zero x e h = absurd (h refl)
must_be_exact (suc g) x e h = above_none g x e
