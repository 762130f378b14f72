use Rattle.std.proofs.Common.{rules, ◌≡◌, Ok, Err, pos, sym, ◌∙◌}
use Rattle.refusal.specs.Ranges.{count_in}
use Rattle.march.specs.declared.view.TheConstants.{LEAST_SIDE, MOST_SIDE, MOST_FAR}
use Rattle.march.specs.declared.fault.ViewFault.TheVariants.{Range}
use Rattle.march.specs.Checks.{with_range_fault, sizes_answer, width_place, height_place, far_place}
use Rattle.march.proofs.Numbers.{then_ok, then_err}
use Rattle.march.proofs.view.ViewNumbers.sizes.Goals as goal

pub returns-in_err-far : goal.returns-in_err-far
unfolding sizes_answer
returns-in_err-far c =
    let n = c.args.self in
    let w : Ok c.in_ok-width.width ≡ with_range_fault (count_in n.width LEAST_SIDE MOST_SIDE width_place) = search rules in
    let h : Ok c.in_ok-height.height ≡ with_range_fault (count_in n.height LEAST_SIDE MOST_SIDE height_place) = search rules in
    let f : Err (Range far_place) ≡ with_range_fault (count_in n.far (pos 0) MOST_FAR far_place) = search rules in
    let e : c.from_residual-in_err-far.result ≡ Err (Range far_place) = search rules in
    e ∙ sym (then_ok _ _ _ w ∙ then_ok _ _ _ h ∙ then_err _ _ _ f)
