use Rattle.std.proofs.Common.{◌≡◌, ℕ, ◌*◌, ◌||◌, eqb, true, List, length, ℤ, Bool, IfOk, Ok, Err, Result, sym, ap, ◌∙◌}
use mathlib.Core.Path.{subst⁻¹}
use Rattle.lattice.specs.declared.Point.{Point}
use Rattle.solid.specs.Body.{Body, Lawful}
use Rattle.piles.specs.Leaves.{surface}
use Rattle.leaves.specs.declared.surface.SurfaceSize.{SurfaceSize}
use Rattle.march.specs.declared.pixel.Pixel.{Pixel}
use Rattle.plate_log.specs.Law.{IsPileOf}
use Rattle.scene.specs.Scenes.{scene_body, scene_lawful}
use Rattle.march.specs.declared.view.ViewNumbers.{ViewNumbers}
use Rattle.readers.specs.declared.job.Job.{Job}
use Rattle.readers.specs.Jobs.{job_numbers}
use Rattle.render.specs.declared.fault.InputFault.{InputFault}
use Rattle.render.specs.Models.{guarded_scene, job_pile, members, checked_model}
use Rattle.render.specs.Render.{AfterCall, plain_of}
use Rattle.render.specs.Laws.{ImageShows, ShowsBody, ShowsModel}
use Rattle.render.specs.Steps.{model_of, pile_answer, model_answer}
use Rattle.render.proofs.JobPiles.{model_piled, pile_is, unguarded, on_guard, must_be_exact}
use Rattle.render.proofs.Wholes.{over_whole}
use Rattle.render.proofs.buffers.Buffers.draw_model.Goals as goal

-- what is shown of every set that the pile's members are, is shown of those that are
shown_so : (r : Result ℕ InputFault) (b c : Body) (n : ViewNumbers) (M : Point → Bool) (text : List ℕ) → b ≡ c → IsPileOf M c
    → IfOk r (λ _. ShowsBody (plain_of n) b text) → IfOk r (λ _. ImageShows (plain_of n) M text)
shown_so (Ok k) b c n M text e p f = f M (subst⁻¹ (IsPileOf M) e p)
shown_so (Err d) b c n M text e p f = tt

-- what is answered and shown of the pile that was made, is answered and shown of the model
of_model : (j : Job) (s : Body) (size : SurfaceSize) (hs : List ℤ) (columns scene : Body) (r : Result ℕ InputFault) (rs qs : List Pixel) (out text : List ℕ)
    → Lawful s → (eqb j.guard 0 || s.exact) ≡ true
    → length hs ≡ size.width * size.depth → columns ≡ surface size.width size.depth hs → scene ≡ guarded_scene j.guard s
    → ◌≡◌ {A = AfterCall InputFault} (r, qs, text) (pile_answer (job_pile (job_numbers j) columns scene) j.view rs out)
    → IfOk r (λ _. ShowsBody (plain_of j.view) (job_pile (job_numbers j) columns scene) text)
    → ◌≡◌ {A = AfterCall InputFault} (r, qs, text) (model_answer (checked_model (model_of (job_numbers j) s size hs)) rs out)
    × IfOk r (λ _. ShowsModel (model_of (job_numbers j) s size hs) text)
of_model j s size hs columns scene r rs qs out text lawful may full surfaced guarded value shows =
    let m = model_of (job_numbers j) s size hs in
    let is = pile_is j s scene columns size hs full surfaced guarded in (
      value ∙ ap (λ (b : Body). pile_answer b j.view rs out) is ∙ over_whole m rs out may,
      shown_so r _ _ j.view (members m) text is (model_piled j s size hs lawful may) shows,
    )

pub returns-then-job-eq0 : goal.returns-then-job-eq0
returns-then-job-eq0 c =
    let j = c.args.job.now in
    let s = scene_body c.args.scene.now in
    let drawn = of_model j s c.args.sheet.size c.args.sheet.heights.now _ s c.pile_up.result _ _ _ _
    (scene_lawful c.args.scene.now) (sym c.may_be_guarded.ensures ∙ c.if-not-may_be_guarded.false)
    c.args.sheet.a_height_each c.new-surface.ensures.body (unguarded j.guard s c.if-job-eq0.true)
    c.pile_up.ensures.value c.pile_up.ensures.shows in
    record { value = drawn.0; shows = drawn.1; lender = c.pile_up.ensures.lender }

pub thickened-thick-requires : goal.thickened-thick-requires
thickened-thick-requires c = record {
  exact = must_be_exact c.args.job.now.guard _ (sym c.may_be_guarded.ensures ∙ c.if-not-may_be_guarded.false) c.if-job-eq0.false;
  guard_in_range = c.args.job.now.guard_in_range;
}

pub returns : goal.returns
returns c =
    let j = c.args.job.now in
    let s = scene_body c.args.scene.now in
    let drawn = of_model j s c.args.sheet.size c.args.sheet.heights.now _ _ c.pile_up-2.result _ _ _ _
    (scene_lawful c.args.scene.now) (sym c.may_be_guarded.ensures ∙ c.if-not-may_be_guarded.false)
    c.args.sheet.a_height_each c.new-surface.ensures.body (c.thickened-thick.ensures ∙ on_guard j.guard s c.if-job-eq0.false)
    c.pile_up-2.ensures.value c.pile_up-2.ensures.shows in
    record { value = drawn.0; shows = drawn.1; lender = c.pile_up-2.ensures.lender }
