use Rattle.std.proofs.Common.{◌≡◌, Err, sym, ap, ◌∙◌, rules}
use Rattle.readers.specs.Jobs.{job_of}
use Rattle.scene.specs.Scenes.{scene_body}
use Rattle.render.specs.declared.fault.InputFault.TheVariants.{Job, Scene, Surface}
use Rattle.render.proofs.Parts.{at_start, no_job, scene_fails, sheet_fails, some_left, none_left}
use Rattle.render.proofs.read_parts.Goals as goal

pub returns-in_err-job : goal.returns-in_err-job
returns-in_err-job c =
    let bs = c.args.input.now in
    let e = c.in_err-job.field-0.0 in
    let r : c.from_residual.result ≡ Err (Job e) = search rules in
    let here = at_start c.new-from.result bs c.new-from.ensures.text c.new-from.ensures.place in
    rw r (sym (no_job bs e (sym (c.in_err-job.ensures.value ∙ ap job_of here))))

pub returns-in_err-read_scene : goal.returns-in_err-read_scene
returns-in_err-read_scene c =
    let bs = c.args.input.now in
    let e = c.in_err-read_scene.field-0.0 in
    let r : c.from_residual-in_err-read_scene.result ≡ Err (Scene e) = search rules in
    let here = at_start c.new-from.result bs c.new-from.ensures.text c.new-from.ensures.place in
    rw r (sym (scene_fails bs c.new-from.result c.read_job.new.from here c.in_ok-job.job c.in_ok-job.ensures.value c.in_ok-job.ensures.read
    (scene_body c.args.scene.now) (scene_body c.read_scene.new.scene) e c.in_err-read_scene.ensures.value))

pub returns-in_err-size : goal.returns-in_err-size
returns-in_err-size c =
    let bs = c.args.input.now in
    let e = c.in_err-size.field-0.0 in
    let r : c.from_residual-in_err-size.result ≡ Err (Surface e) = search rules in
    let here = at_start c.new-from.result bs c.new-from.ensures.text c.new-from.ensures.place in
    rw r (sym (sheet_fails bs c.new-from.result c.read_job.new.from here c.in_ok-job.job c.in_ok-job.ensures.value c.in_ok-job.ensures.read
    c.read_scene.new.from (scene_body c.args.scene.now) (scene_body c.read_scene.new.scene) c.in_ok-read_scene.field-0 c.in_ok-read_scene.ensures.value c.read_scene.ensures.read
    c.args.heights.now c.requires c.read_surface.new.buffer e c.in_err-size.ensures.value))

pub returns-then-not-at_end : goal.returns-then-not-at_end
returns-then-not-at_end c =
    let bs = c.args.input.now in
    let here = at_start c.new-from.result bs c.new-from.ensures.text c.new-from.ensures.place in
    sym (some_left bs c.new-from.result c.read_job.new.from here c.in_ok-job.job c.in_ok-job.ensures.value c.in_ok-job.ensures.read
    c.read_scene.new.from (scene_body c.args.scene.now) (scene_body c.read_scene.new.scene) c.in_ok-read_scene.field-0 c.in_ok-read_scene.ensures.value c.read_scene.ensures.read
    c.args.heights.now c.requires c.read_surface.new.from c.in_ok-size.size c.read_surface.new.buffer c.in_ok-size.ensures.value c.in_ok-size.ensures.read
    (sym c.if-not-at_end.ensures))

pub returns : goal.returns
returns c =
    let bs = c.args.input.now in
    let here = at_start c.new-from.result bs c.new-from.ensures.text c.new-from.ensures.place in
    sym (none_left bs c.new-from.result c.read_job.new.from here c.in_ok-job.job c.in_ok-job.ensures.value c.in_ok-job.ensures.read
    c.read_scene.new.from (scene_body c.args.scene.now) (scene_body c.read_scene.new.scene) c.in_ok-read_scene.field-0 c.in_ok-read_scene.ensures.value c.read_scene.ensures.read
    c.args.heights.now c.requires c.read_surface.new.from c.in_ok-size.size c.read_surface.new.buffer c.in_ok-size.ensures.value c.in_ok-size.ensures.read
    (sym c.if-not-at_end.ensures))
