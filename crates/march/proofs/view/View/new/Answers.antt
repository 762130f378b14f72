use Rattle.std.proofs.Common.{rules}
use Rattle.lattice.specs.Rows.{way}
use Rattle.march.proofs.Numbers.{origin_near, sizes_small, view_made, sizes_refused}
use Rattle.march.proofs.view.View.new.Goals as goal

pub returns-in_err-width : goal.returns-in_err-width
returns-in_err-width c =
    let w = c.in_ok-ray in
    let h = sizes_refused c.args.numbers c.in_ok-origin.origin (way w.ray, way w.across, way w.down) c.in_ok-origin.ensures w.ensures c.in_err-width.field-0.0 c.in_err-width.ensures in
    search rules

pub invariant_of-result : goal.invariant_of-result
invariant_of-result c =
    let n = c.args.numbers in
    let o = origin_near n c.in_ok-origin.origin c.in_ok-origin.ensures in
    let s = c.in_ok-width in
    let z = sizes_small n (s.width, s.height, s.far) s.ensures in
    record { x_in_range = o.0; y_in_range = o.1; z_in_range = o.2; width_in_range = z.0; height_in_range = z.1; far_in_range = z.2 }

pub returns : goal.returns
returns c =
    let w = c.in_ok-ray in
    let s = c.in_ok-width in
    view_made c.args.numbers c.in_ok-origin.origin (way w.ray, way w.across, way w.down) c.in_ok-origin.ensures w.ensures (s.width, s.height, s.far) s.ensures
