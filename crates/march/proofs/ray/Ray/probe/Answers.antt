use Rattle.std.proofs.Common.{◌≡◌, ◌+◌, ◌-◌, min, is_ok, ap, ◌∙◌}
use Rattle.march.specs.March.{after_probe}
use Rattle.march.specs.Lent.{lent_body}
use Rattle.march.specs.View.{along, clear_along}
use Rattle.march.proofs.Space.{point_in_range}
use Rattle.march.proofs.RaySteps.{stepped_up_to}
use Rattle.march.proofs.Bodies.{answered_in}
use Rattle.march.proofs.ray.Ray.probe.Goals as goal

pub unwrap-clearance-requires : goal.unwrap-clearance-requires
unwrap-clearance-requires g c =
    let r = c.args.self.now in
    let t = c.args.t in
    let in_range = point_in_range r.start r.toward t r.far (r.x_in_range, r.y_in_range, r.z_in_range) r.far_in_range c.requires.0 in
    ap is_ok (answered_in (r.far - t + 1) (lent_body c.args.solid.now) (along r.start t r.toward) c.at.result
    c.clearance_up_to.result c.clearance_up_to.ensures c.at.ensures in_range c.args.solid.now.is_deep)

pub returns : goal.returns
returns g c =
    let r = c.args.self.now in
    let t = c.args.t in
    let b = lent_body c.args.solid.now in
    let in_range = point_in_range r.start r.toward t r.far (r.x_in_range, r.y_in_range, r.z_in_range) r.far_in_range c.requires.0 in
    let answered = answered_in (r.far - t + 1) b (along r.start t r.toward) c.at.result
    c.clearance_up_to.result c.clearance_up_to.ensures c.at.ensures in_range c.args.solid.now.is_deep in
    let is : c.unwrap-clearance.result ≡ min (r.far - t + 1) (clear_along b r t) = cc in
    c.after_probe.ensures ∙ ap (after_probe r.far t c.args.probes) is
    ∙ stepped_up_to r.far t c.args.probes (clear_along b r t) c.requires.0
