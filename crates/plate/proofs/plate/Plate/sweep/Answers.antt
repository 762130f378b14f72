use Rattle.std.proofs.Common.{◌≡◌, ◌++◌, drop, refl, ap, ◌∙◌, arith}
use Rattle.std.proofs.lemmas.Grind.{common_steps}
use Rattle.solid.specs.Body.{Body}
use Rattle.plate_log.specs.Log.{sweeping}
use Rattle.plate_log.specs.Records.{line_on_records}
use Rattle.plate_log.specs.Answers.{counted_answer}
use Rattle.plate_log.proofs.Calls.{promise, sweep_done, long_swept, front_room, front_sane}
use Rattle.plate.proofs.plate.Plate.sweep.Goals as goal

pub returns-in_err-deep-clause-promise : goal.returns-in_err-deep-clause-promise
returns-in_err-deep-clause-promise g c =
    let p = c.args.self.now in
    promise p.view p.records.now p.records.now (sweeping (g.S.Solid.body c.args.solid.now) c.args.budget) (counted_answer c.from_residual.result) p.room (grind (arith, common_steps))

pub invariant_of-self : goal.invariant_of-self
invariant_of-self g c =
    let p = c.args.self.now in
    let v = p.view in
    let rs = p.records.now in
    let n = c.pixels.result in
    let ps = c.sweep_all-spent.new.pixels in
    let long = long_swept v rs ps (g.S.Solid.body c.in_ok-deep.deep.solid.now) c.args.budget n c.pixels.ensures c.sweep_all-spent.ensures.value p.room in
    record { room = front_room v n ps rs c.pixels.ensures long; are_sane = front_sane v n ps rs c.pixels.ensures long c.sweep_all-spent.ensures.sane }

pub returns : goal.returns
returns g c =
    let p = c.args.self.now in
    let v = p.view in
    let rs = p.records.now in
    let deep = c.in_ok-deep.deep in
    let b = g.S.Solid.body deep.solid.now in
    let same : b ≡ g.S.Solid.body c.args.solid.now = ap g.S.Solid.body c.in_ok-deep.ensures in
    let n = c.pixels.result in
    let ps = c.sweep_all-spent.new.pixels in
    let l = sweep_done v rs ps b c.args.budget n c.pixels.ensures c.sweep_all-spent.ensures.value c.sweep_all-spent.result c.count_marching-left.result deep.is_deep c.sweep_all-spent.ensures.spent c.count_marching-left.ensures
    ∙ ap (λ (b : Body). line_on_records v rs (sweeping b c.args.budget)) same in
    record { line = l; promise = promise v rs (ps ++ drop n rs) (sweeping (g.S.Solid.body c.args.solid.now) c.args.budget) _ p.room l; view = refl; lender = refl }
