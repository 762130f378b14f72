use Rattle.std.proofs.Common.{◌≡◌, ◌-◌, ◌*◌, ◌≤◌, true}
use Rattle.march.specs.View.{clear_along}
use Rattle.march.specs.March.{is_sane, settle}
use Rattle.plate_log.specs.Sweep.{are_sane}
use Rattle.plate_log.specs.Log.{clear_on_ray}
use Rattle.plate_log.proofs.Onward.{onward, along_row}
use Rattle.plate.proofs.pixels.sweep_all.Given as goal

-- the pixel
abbrev pub invariant-loop-pixel : goal.invariant-loop-pixel
invariant-loop-pixel g l =
    let clear = clear_along (g.S.Solid.body l.solid.solid.now) l.ray in
    (l.spent ≤ l.budget) × (is_sane l.ray.far l.pixel ≡ true)
    × (settle clear l.ray.far (l.budget - l.spent) l.pixel ≡ settle clear l.ray.far (l.budget - l.initial.spent) l.initial.pixel)

abbrev pub decreases-loop-pixel : goal.decreases-loop-pixel
decreases-loop-pixel g l = l.budget - l.spent

-- the row, from pixel i on
abbrev pub invariant-loop-i : goal.invariant-loop-i
invariant-loop-i g l =
    let clear = along_row l.view (g.S.Solid.body l.solid.solid.now) l.j in
    (l.spent ≤ l.budget) × (are_sane l.view.far l.pixel-items ≡ true)
    × (onward clear l.view.far l.i (l.budget - l.spent) l.pixel-items ≡ onward clear l.view.far 0 (l.budget - l.initial.spent) l.initial.pixel-items)

-- the pixels, from row j on
abbrev pub invariant-sweep : goal.invariant-sweep
invariant-sweep g l =
    let clear = clear_on_ray l.view (g.S.Solid.body l.solid.solid.now) in
    (l.spent ≤ l.budget) × (are_sane l.view.far l.pixels ≡ true)
    × (onward clear l.view.far (l.j * l.view.width) (l.budget - l.spent) l.pixels ≡ onward clear l.view.far 0 l.budget l.initial.pixels)
