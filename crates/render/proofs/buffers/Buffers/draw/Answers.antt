use Rattle.std.proofs.Common.{ℕ, ◌*◌, take, OnOk, sym, arith, length-take}
use mathlib.Core.Path.{subst}
use Rattle.readers.specs.Jobs.{job_numbers}
use Rattle.scene.specs.Scenes.{scene_body}
use Rattle.render.specs.Laws.{ShowsModel}
use Rattle.render.specs.Steps.{model_of}
use Rattle.render.proofs.Parts.{model_sound}
use Rattle.render.proofs.Wholes.{shown_so}
use Rattle.render.proofs.buffers.Buffers.draw.Goals as goal

pub slice_bounds-heights-end : goal.slice_bounds-heights-end
slice_bounds-heights-end c =
    let size = c.in_ok-job.size in
    let hs = c.read_parts.new.heights in
    let m = model_of (job_numbers c.in_ok-job.job) (scene_body c.read_parts.new.scene) size hs in
    omega (arith, (model_sound c.args.input.now m (sym c.in_ok-job.ensures)).long, length-take (size.width * size.depth) hs)

pub slice_bounds-sheet-end : goal.slice_bounds-sheet-end
slice_bounds-sheet-end c =
    let size = c.in_ok-job.size in
    let hs = c.read_parts.new.heights in
    let m = model_of (job_numbers c.in_ok-job.job) (scene_body c.read_parts.new.scene) size hs in
    let s = model_sound c.args.input.now m (sym c.in_ok-job.ensures) in
    omega (arith, s.long, length-take (size.width * size.depth) hs, length-take c.columns.result hs, c.columns.ensures)

pub invariant_of-sheet : goal.invariant_of-sheet
invariant_of-sheet c =
    let size = c.in_ok-job.size in
    let hs = c.read_parts.new.heights in
    let m = model_of (job_numbers c.in_ok-job.job) (scene_body c.read_parts.new.scene) size hs in
    let s = model_sound c.args.input.now m (sym c.in_ok-job.ensures) in
    record { width_in_range = (s.sides.0, s.sides.1); depth_in_range = (s.sides.2, s.sides.3); a_height_each = omega (arith, s.long, length-take (size.width * size.depth) hs, length-take c.columns.result hs, c.columns.ensures) }

pub returns-clause-shows : goal.returns-clause-shows
returns-clause-shows c =
    let bs = c.args.input.now in
    let ns = job_numbers c.in_ok-job.job in
    let body = scene_body c.read_parts.new.scene in
    let size = c.in_ok-job.size in
    let hs = c.read_parts.new.heights in
    let e = sym c.in_ok-job.ensures in
    let shown = subst (λ (n : ℕ). OnOk c.draw_model.result (ShowsModel (model_of ns body size (take n hs)) c.draw_model.new.self.out.now)) c.columns.ensures c.draw_model.ensures.shows in
    shown_so bs ns body size hs e (model_sound bs (model_of ns body size hs) e).long c.draw_model.result c.draw_model.new.self.out.now shown
