use Rattle.std.proofs.Common.{◌++◌, drop, replicate, ap, ◌∙◌, length-take-le, arith}
use Rattle.march.specs.March.{new_pixel}
use Rattle.plate_log.specs.Log.{area}
use Rattle.plate_log.proofs.Upshot.{whole}
use Rattle.plate_log.proofs.Calls.{new_room, new_front_sane}
use Rattle.plate.proofs.plate.Plate.open.Goals as goal

pub returns-in_err-view-clause-whole : goal.returns-in_err-view-clause-whole
returns-in_err-view-clause-whole c = whole

pub returns-then-n-self-clause-whole : goal.returns-then-n-self-clause-whole
returns-then-n-self-clause-whole c = whole

pub invariant_of-self : goal.invariant_of-self
invariant_of-self c =
    let v = c.in_ok-view.view in
    let n = c.pixels-n.result in
    let rs = c.args.self.now.records.now in
    let now = c.renew.new.pixels ++ drop n rs in
    let is = ap (λ ps. ps ++ drop n rs) (c.renew.ensures ∙ ap (λ k. replicate k new_pixel) (length-take-le n rs (omega arith))) ∙ ap (λ k. replicate k new_pixel ++ drop k rs) c.pixels-n.ensures in
    record { room = new_room (area v) now rs (omega (arith, c.pixels-n.ensures)) is; are_sane = new_front_sane v.far (area v) now rs is }

pub returns-clause-whole : goal.returns-clause-whole
returns-clause-whole c = whole
