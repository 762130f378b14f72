use Rattle.std.proofs.Common.{◌≡◌, ◌-◌, true}
use Rattle.march.specs.View.{clear_along}
use Rattle.march.specs.March.{is_sane, settle}
use Rattle.plate.proofs.pixels.settle.Given as goal

abbrev pub invariant-loop-spent : goal.invariant-loop-spent
invariant-loop-spent g l =
    let clear = clear_along (g.S.Solid.body l.solid.solid.now) l.ray in
    (is_sane l.ray.far l.pixel ≡ true) × (settle clear l.ray.far (l.budget - l.spent) l.pixel ≡ settle clear l.ray.far l.budget l.initial.pixel)
