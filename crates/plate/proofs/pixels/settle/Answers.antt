use Rattle.std.proofs.Common.{◌+◌, ◌-◌, sym, ap, ◌∙◌, arith}
use Rattle.march.specs.View.{clear_along}
use Rattle.march.specs.March.{is_sane, settle}
use Rattle.march.proofs.RaySteps.{sane_after}
use Rattle.plate_log.proofs.Onward.{step_on, stays_on, counted_spent}
use Rattle.plate.proofs.pixels.settle.Goals as goal

pub loop-spent-preserved : goal.loop-spent-preserved
loop-spent-preserved g c =
    let r = c.args.ray in
    let q = c.loop-spent.pixel in
    let clear = clear_along (g.S.Solid.body c.args.solid.now.solid.now) r in
    let held = c.loop-spent.invariant in (
      ap (is_sane r.far) c.stepped.ensures ∙ sane_after clear r.far q held.0,
      ap (settle clear r.far (c.args.budget - (c.loop-spent.spent + 1))) c.stepped.ensures
          ∙ step_on clear r.far c.loop-spent.spent c.args.budget q _ held.1 (sym c.is_marching.ensures ∙ c.if-not-is_marching.false) held.0 c.loop-spent-test.true,
    )

pub returns-then-not-is_marching : goal.returns-then-not-is_marching
returns-then-not-is_marching g c =
    let r = c.args.ray in
    let q = c.loop-spent.pixel in
    let spent = c.loop-spent.spent in
    let e = stays_on (clear_along (g.S.Solid.body c.args.solid.now.solid.now) r) r.far spent c.args.budget q _ c.loop-spent.invariant.1 (sym c.is_marching.ensures ∙ c.if-not-is_marching.true) in
    let o = counted_spent q spent c.args.budget _ (omega arith) e in
    record { value = o.0; spent = o.1; sane = c.loop-spent.invariant.0 }
