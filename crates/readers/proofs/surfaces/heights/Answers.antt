use Rattle.std.proofs.Common.{◌≡◌, ◌++◌, take, take_all, Ok, Err, sym, ap, ◌∙◌, arith, w16, SFits, rules}
use Rattle.std.specs.Result.{result_map_both}
use Rattle.std.proofs.lemmas.Int.{to_z-of_z}
use Rattle.words.specs.Reading.{number_at}
use Rattle.readers.proofs.SurfaceTurns.{stop, go_on, at_end}
use Rattle.readers.proofs.surfaces.heights.Goals as goal

pub returns-in_err-height-clause-value : goal.returns-in_err-height-clause-value
returns-in_err-height-clause-value c =
    let bs = c.args.from.now.bytes.now in
    let e = c.in_err-height.field-0.0 in
    let p : number_at bs c.loop-height.from.at ≡ Err e = search rules in
    let r : c.from_residual.result ≡ Err e = search rules in
    rw r (sym (c.loop-height.invariant.0 ∙ ap (result_map_both (λ hs. take c.loop-height.height-index c.loop-height.sheet ++ hs) (λ d. d)) (stop bs _ _ _ (omega arith) e p)))

pub loop-height-preserved : goal.loop-height-preserved
loop-height-preserved c =
    let bs = c.args.from.now.bytes.now in
    let p : number_at bs c.loop-height.from.at ≡ Ok c.in_ok-height.field-0 = search rules in
    let m = c.in_ok-height.ensures.moved.at in
    let f : SFits w16 c.in_ok-height.field-0 = search rules in
    (c.loop-height.invariant.0 ∙ go_on bs _ _ _ (omega arith) _ _ c.loop-height.sheet _ (omega arith) p (to_z-of_z w16 _ f) m, search rules, search rules)

pub returns-clause-value : goal.returns-clause-value
returns-clause-value c = sym (c.loop-height.invariant.0 ∙ at_end _ _ _ _ _ (omega arith) ∙ ap Ok (take_all _ _ (omega arith)))
