use Rattle.std.proofs.Common.{refl, sym, ◌∙◌, rules, tests}
use Rattle.std.proofs.lemmas.Iterator.{YieldsList-from_slice, YieldsList-from_map}
use Rattle.std.proofs.lemmas.Iterator.Consumers.{sum_by_from_yields_List}
use Rattle.std.proofs.lemmas.List.Recursion.{is_sum_by}
use Rattle.plate_log.specs.Sweep.{count_marching}
use Rattle.plate_log.proofs.Sums.{one_if}
use Rattle.plate.proofs.pixels.count_marching.Goals as goal

pub returns : goal.returns
returns c =
    let ps = c.args.pixels.now in
    sum_by_from_yields_List one_if ps c.map.result _ c.sum.ensures.ran (YieldsList-from_map _ one_if (YieldsList-from_slice ps cc) c.map.ensures.closure (λ x r q k. search (rules, tests)))
    ∙ sym (is_sum_by count_marching one_if refl (λ _ _. refl) ps)
