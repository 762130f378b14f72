use Rattle.std.proofs.Common.{◌≡◌, ◌-◌, cond, length-set, get_or, set, Ok, refl, sym, ap, ◌∙◌, arith}
use mir.Val.{bool_byte}
use Rattle.std.proofs.lemmas.Grind.{common_steps}
use Rattle.solid.specs.Body.{Body}
use Rattle.march.specs.March.{new_pixel, is_sane, marches}
use Rattle.plate_log.specs.Log.{area, touching}
use Rattle.plate_log.specs.Records.{line_on_records}
use Rattle.plate_log.specs.Answers.{counted_answer}
use Rattle.plate_log.proofs.Sanity.{sane_at_front, sane_set_front}
use Rattle.plate_log.proofs.Onward.{ray_line, ray_far, ray_settled}
use Rattle.plate_log.proofs.Calls.{promise, placed, touch_done, one_where}
use Rattle.plate.proofs.plate.Plate.touch.Goals as goal

pub returns-in_err-ray-clause-promise : goal.returns-in_err-ray-clause-promise
returns-in_err-ray-clause-promise g c =
    let p = c.args.self.now in
    promise p.view p.records.now p.records.now (touching c.args.i c.args.j (g.S.Solid.body c.args.solid.now) c.args.budget) (counted_answer c.from_residual.result) p.room (grind (arith, common_steps))

pub bounds-records-place : goal.bounds-records-place
bounds-records-place g c =
    let p = c.args.self.now in
    let at = placed p.view c.args.i c.args.j c.unwrap-place.result c.place_of.result c.place_of.ensures c.unwrap-place.ensures in
    omega (arith, at.inside, p.room)

pub settle-spent-requires : goal.settle-spent-requires
settle-spent-requires g c =
    let p = c.args.self.now in
    let v = p.view in
    let k = c.unwrap-place.result in
    let r = c.in_ok-ray.ray in
    let at = placed v c.args.i c.args.j k c.place_of.result c.place_of.ensures c.unwrap-place.ensures in
    let line = ray_line v c.args.i c.args.j at.within.0 at.within.1 (Ok r) c.in_ok-ray.ensures r refl in
    record { sane = ap (λ far. is_sane far (get_or p.records.now k new_pixel)) (ray_far v c.args.i c.args.j r line) ∙ sane_at_front v.far (area v) k p.records.now p.are_sane at.inside p.room }

pub invariant_of-self : goal.invariant_of-self
invariant_of-self g c =
    let p = c.args.self.now in
    let v = p.view in
    let k = c.unwrap-place.result in
    let r = c.in_ok-ray.ray in
    let q = c.settle-spent.new.pixel in
    let at = placed v c.args.i c.args.j k c.place_of.result c.place_of.ensures c.unwrap-place.ensures in
    let line = ray_line v c.args.i c.args.j at.within.0 at.within.1 (Ok r) c.in_ok-ray.ensures r refl in
    let sane = ap (λ far. is_sane far q) (sym (ray_far v c.args.i c.args.j r line)) ∙ c.settle-spent.ensures.sane in
    record { room = omega (arith, length-set p.records.now k q, p.room); are_sane = sane_set_front v.far (area v) k p.records.now q p.are_sane at.inside sane }

pub returns : goal.returns
returns g c =
    let p = c.args.self.now in
    let v = p.view in
    let rs = p.records.now in
    let i = c.args.i in
    let j = c.args.j in
    let k = c.unwrap-place.result in
    let deep = c.in_ok-deep.deep in
    let b = g.S.Solid.body deep.solid.now in
    let same : b ≡ g.S.Solid.body c.args.solid.now = ap g.S.Solid.body c.in_ok-deep.ensures in
    let r = c.in_ok-ray.ray in
    let q = c.settle-spent.new.pixel in
    let at = placed v i j k c.place_of.result c.place_of.ensures c.unwrap-place.ensures in
    let line = ray_line v i j at.within.0 at.within.1 (Ok r) c.in_ok-ray.ensures r refl in
    let is = ray_settled v b i j c.args.budget r (get_or rs k new_pixel) line in
    let left : c.from.result ≡ cond (marches q) 1 0 = c.from.ensures ∙ ap bool_byte c.is_marching.ensures ∙ one_where (marches q) in
    let l = touch_done v rs q i j k b c.args.budget c.settle-spent.result c.from.result p.room at deep.is_deep
    (c.settle-spent.ensures.value ∙ ap (λ s. s.0) is) (c.settle-spent.ensures.spent ∙ ap (λ s. c.args.budget - s.1) is) left
    ∙ ap (λ (b : Body). line_on_records v rs (touching i j b c.args.budget)) same in
    record { line = l; promise = promise v rs (set rs k q) (touching i j (g.S.Solid.body c.args.solid.now) c.args.budget) _ p.room l; view = refl; lender = refl }

pub returns-in_err-deep-clause-promise : goal.returns-in_err-deep-clause-promise
returns-in_err-deep-clause-promise g c =
    let p = c.args.self.now in
    promise p.view p.records.now p.records.now (touching c.args.i c.args.j (g.S.Solid.body c.args.solid.now) c.args.budget) (counted_answer c.from_residual-in_err-deep.result) p.room (grind (arith, common_steps))
