use Rattle.std.proofs.Common.{Ok, refl, arith}
use Rattle.std.proofs.lemmas.Grind.{common_steps}
use Rattle.plate_log.specs.Log.{reading}
use Rattle.plate_log.specs.Answers.{read_answer}
use Rattle.plate_log.proofs.Calls.{promise, placed, read_done}
use Rattle.plate.proofs.plate.Plate.read.Goals as goal

pub returns-in_err-place-clause-promise : goal.returns-in_err-place-clause-promise
returns-in_err-place-clause-promise c =
    let p = c.args.self.now in
    promise p.view p.records.now p.records.now (reading c.args.i c.args.j) (read_answer c.from_residual.result) p.room (grind (arith, common_steps))

pub bounds-self-place : goal.bounds-self-place
bounds-self-place c =
    let p = c.args.self.now in
    let at = placed p.view c.args.i c.args.j c.in_ok-place.place (Ok c.in_ok-place.place) c.in_ok-place.ensures refl in
    omega (arith, at.inside, p.room)

pub returns : goal.returns
returns c =
    let p = c.args.self.now in
    let rs = p.records.now in
    let at = placed p.view c.args.i c.args.j c.in_ok-place.place (Ok c.in_ok-place.place) c.in_ok-place.ensures refl in
    let l = read_done p.view rs c.args.i c.args.j c.in_ok-place.place p.room at in
    record { line = l; promise = promise p.view rs rs (reading c.args.i c.args.j) _ p.room l }
