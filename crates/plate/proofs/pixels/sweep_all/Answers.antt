use Rattle.std.proofs.Common.{◌≡◌, ◌+◌, ◌-◌, ◌*◌, get_or, set, sym, refl, ap, ◌∙◌, arith, length-set}
use Rattle.std.proofs.lemmas.Nat.{mul-le}
use Rattle.march.specs.View.{clear_along}
use Rattle.march.specs.March.{new_pixel, is_sane, settle}
use Rattle.march.proofs.RaySteps.{sane_after}
use Rattle.plate_log.specs.Log.{clear_on_ray}
use Rattle.plate_log.proofs.Sanity.{sane_at, sane_set}
use Rattle.plate_log.proofs.Onward.{along_row, step_on, stays_on, spent_on, counted_spent, next, no_more, no_budget, ray_line, ray_far, ray_settled, row_ends, row_long, row_done, sane_row, sane_put}
use Rattle.plate.proofs.pixels.sweep_all.Goals as goal

pub loop-i-init : goal.loop-i-init
loop-i-init g c = (c.sweep.invariant.0, sane_row c.args.view.far _ _ c.sweep.pixels c.sweep.invariant.1, refl)

pub loop-pixel-init : goal.loop-pixel-init
loop-pixel-init g c =
    let v = c.args.view in
    let i = c.loop-i.i in
    let j = c.sweep.j in
    let k = j * c.width-width.result in
    let n = k + c.width-width.result - k in
    let starts : k ≡ j * v.width = ap (λ w. j * w) c.width-width.ensures in
    let x = get_or c.loop-i.pixel-items i new_pixel in
    let wide = row_long v j k n c.sweep.pixels (omega arith) (omega arith) starts (omega arith) in
    let r = c.unwrap-ray.result in
    let line = ray_line v i j (omega arith) (omega arith) c.ray_of.result c.ray_of.ensures r c.unwrap-ray.ensures in
    (c.loop-i.invariant.0, ap (λ far. is_sane far x) (ray_far v i j r line) ∙ sane_at v.far c.loop-i.pixel-items i c.loop-i.invariant.1 (omega arith), refl)

pub loop-pixel-preserved : goal.loop-pixel-preserved
loop-pixel-preserved g c =
    let r = c.unwrap-ray.result in
    let q = c.loop-pixel.pixel in
    let clear = clear_along (g.S.Solid.body c.args.solid.now.solid.now) r in
    let held = c.loop-pixel.invariant in (
      omega arith,
      ap (is_sane r.far) c.stepped.ensures ∙ sane_after clear r.far q held.1,
      ap (settle clear r.far (c.args.budget - (c.loop-pixel.spent + 1))) c.stepped.ensures
          ∙ step_on clear r.far c.loop-pixel.spent c.args.budget q _ held.2 (sym c.is_marching.ensures ∙ c.loop-pixel-test.true) held.1 (omega arith),
    )

pub loop-i-preserved : goal.loop-i-preserved
loop-i-preserved g c =
    let v = c.args.view in
    let b = g.S.Solid.body c.args.solid.now.solid.now in
    let i = c.loop-i.i in
    let j = c.sweep.j in
    let k = j * c.width-width.result in
    let n = k + c.width-width.result - k in
    let starts : k ≡ j * v.width = ap (λ w. j * w) c.width-width.ensures in
    let xs = c.loop-i.pixel-items in
    let q = c.loop-pixel.pixel in
    let spent = c.loop-pixel.spent in
    let left = c.args.budget - c.loop-i.spent in
    let wide = row_long v j k n c.sweep.pixels (omega arith) (omega arith) starts (omega arith) in
    let r = c.unwrap-ray.result in
    let line = ray_line v i j (omega arith) (omega arith) c.ray_of.result c.ray_of.ensures r c.unwrap-ray.ensures in
    let done = stays_on (clear_along b r) r.far spent c.args.budget q _ c.loop-pixel.invariant.2 (sym c.is_marching.ensures ∙ c.loop-pixel-test.false) ∙ ray_settled v b i j left r (get_or xs i new_pixel) line in (
      c.loop-pixel.invariant.0,
      sane_set v.far xs i q c.loop-i.invariant.1 (ap (λ far. is_sane far q) (sym (ray_far v i j r line)) ∙ c.loop-pixel.invariant.1),
      next (along_row v b j) v.far i left (c.args.budget - spent) xs q _ (omega arith) done c.loop-i.invariant.2,
    )

pub sweep-preserved : goal.sweep-preserved
sweep-preserved g c =
    let v = c.args.view in
    let b = g.S.Solid.body c.args.solid.now.solid.now in
    let j = c.sweep.j in
    let k = j * c.width-width.result in
    let n = k + c.width-width.result - k in
    let starts : k ≡ j * v.width = ap (λ w. j * w) c.width-width.ensures in
    let ps = c.sweep.pixels in
    let qs = c.loop-i.pixel-items in
    let spent = c.loop-i.spent in
    let wide = row_long v j k n ps (omega arith) (omega arith) starts (omega arith) in
    let ends = row_ends v j k n ps (omega arith) (omega arith) starts (omega arith) in
    let done = no_more (along_row v b j) v.far c.loop-i.i (c.args.budget - spent) qs _ (omega arith) c.loop-i.invariant.2 in (
      c.loop-i.invariant.0,
      sane_put v.far k n ps qs ends (omega arith) c.sweep.invariant.1 c.loop-i.invariant.1,
      row_done v j k n ps (omega arith) (omega arith) starts (omega arith) b (c.args.budget - c.sweep.spent) (c.args.budget - spent) qs _ done c.sweep.invariant.2,
    )

pub returns-after-sweep : goal.returns-after-sweep
returns-after-sweep g c =
    let v = c.args.view in
    let b = g.S.Solid.body c.args.solid.now.solid.now in
    let spent = c.sweep.spent in
    let done = no_more (clear_on_ray v b) v.far (c.sweep.j * v.width) (c.args.budget - spent) c.sweep.pixels _ (omega (arith, mul-le v.height v.width c.sweep.j v.width (omega arith) (omega arith))) c.sweep.invariant.2 in
    let o = counted_spent c.sweep.pixels spent c.args.budget _ c.sweep.invariant.0 done in
    record { value = o.0; spent = o.1; sane = c.sweep.invariant.1 }

pub returns-then-spent-budget : goal.returns-then-spent-budget
returns-then-spent-budget g c =
    let v = c.args.view in
    let b = g.S.Solid.body c.args.solid.now.solid.now in
    let i = c.loop-i.i in
    let j = c.sweep.j in
    let k = j * c.width-width.result in
    let n = k + c.width-width.result - k in
    let starts : k ≡ j * v.width = ap (λ w. j * w) c.width-width.ensures in
    let ps = c.sweep.pixels in
    let xs = c.loop-i.pixel-items in
    let q = c.loop-pixel.pixel in
    let spent = c.loop-pixel.spent in
    let left = c.args.budget - spent in
    let wide = row_long v j k n ps (omega arith) (omega arith) starts (omega arith) in
    let ends = row_ends v j k n ps (omega arith) (omega arith) starts (omega arith) in
    let r = c.unwrap-ray.result in
    let line = ray_line v i j (omega arith) (omega arith) c.ray_of.result c.ray_of.ensures r c.unwrap-ray.ensures in
    let pixel = spent_on (clear_along b r) r.far spent c.args.budget q _ c.loop-pixel.invariant.2 c.if-spent-budget.true ∙ ray_settled v b i j (c.args.budget - c.loop-i.spent) r (get_or xs i new_pixel) line in
    let row = no_budget (along_row v b j) v.far (i + 1) left (set xs i q) _ (omega arith)
    (next (along_row v b j) v.far i (c.args.budget - c.loop-i.spent) left xs q _ (omega arith) pixel c.loop-i.invariant.2) in
    let done = no_budget (clear_on_ray v b) v.far ((j + 1) * v.width) left _ _ (omega arith)
    (row_done v j k n ps (omega arith) (omega arith) starts (omega arith) b (c.args.budget - c.sweep.spent) left (set xs i q) _ row c.sweep.invariant.2) in
    let o = counted_spent _ spent c.args.budget _ c.loop-pixel.invariant.0 done in
    record {
      value = o.0;
      spent = o.1;
      sane = sane_put v.far k n ps (set xs i q) ends (omega (arith, length-set xs i q)) c.sweep.invariant.1
          (sane_set v.far xs i q c.loop-i.invariant.1 (ap (λ far. is_sane far q) (sym (ray_far v i j r line)) ∙ c.loop-pixel.invariant.1));
    }
