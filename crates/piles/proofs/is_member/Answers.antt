use Rattle.std.proofs.Common.{Err, ap, ◌∙◌}
use Rattle.std.proofs.lemmas.Result.{err_from_is_err_and}
use Rattle.piles.proofs.Asked.{refused_alike, member_alike, of_pile}
use Rattle.piles.proofs.Piles.{piles_stand}
use Rattle.piles.proofs.is_member.Goals as goal

pub returns-in_err-c : goal.returns-in_err-c
returns-in_err-c g c =
    let b = g.S.Solid.body c.args.solid.now in
    let p = c.args.p in
    let r = c.from_residual.result in
    let e = err_from_is_err_and r c.from_residual.ensures.1 in
    let v = e.1 ∙ ap Err e.2 ∙ refused_alike b p c.in_err-c.field-0.0 c.in_err-c.ensures in
    record { value = v; algebra = of_pile b p r v; piles = piles_stand }

pub returns : goal.returns
returns g c =
    let b = g.S.Solid.body c.args.solid.now in
    let p = c.args.p in
    let v = member_alike b p c.in_ok-c.c (g.met.S.Solid.lawful c.args.solid.now) c.in_ok-c.ensures in
    record { value = v; algebra = of_pile b p _ v; piles = piles_stand }
