-- Opening a plate.
use Rattle.std.proofs.Common.{◌≡◌, ℕ, ◌*◌, ltb, List, ◌++◌, length, drop, replicate, Ok, Err, Result, ap, arith}
use Rattle.std.proofs.lemmas.Bool.{cond_both}
use Rattle.march.specs.declared.pixel.Pixel.{Pixel}
use Rattle.march.specs.declared.fault.ViewFault.{ViewFault}
use Rattle.march.specs.declared.view.ViewNumbers.{ViewNumbers}
use Rattle.march.specs.Checks.{PlainView, view_answer}
use Rattle.march.specs.March.{new_pixel}
use Rattle.plate_log.specs.declared.fault.PlateFault.{PlateFault}
use Rattle.plate_log.specs.declared.fault.PlateFault.TheVariants.{View, TooFewRecords}
use Rattle.plate_log.specs.Opening.{OpenOutcome, open_outcome, opening}

module _ (numbers : ViewNumbers) (old : PlainView) (rs : List Pixel) where
  -- a plate that was opened has the view of its numbers
  pub opened_is : (v : PlainView) (qs : List Pixel) → ◌≡◌ {A = OpenOutcome} (Ok tt, v, qs) (opening numbers old rs) → Ok v ≡ view_answer numbers
  opened_is v qs e = from (view_answer numbers) e
    where
      not_err : {A : Type 0} (f : PlateFault) (w : PlainView) (xs : List Pixel) → ◌≡◌ {A = OpenOutcome} (Ok tt, v, qs) (Err f, w, xs) → A
      not_err f w xs e =
          let r : ◌≡◌ {A = Result (Unit {0}) PlateFault} (Ok tt) (Err f) = ap (λ (o : OpenOutcome). o.0) e in
          let z : ◌≡◌ {A = ℕ} 0 1 = cc in
          absurd (omega arith)

      from : (a : Result PlainView ViewFault) → ◌≡◌ {A = OpenOutcome} (Ok tt, v, qs) (open_outcome a old rs) → Ok v ≡ a
      from (Err f) e = not_err (View f) old rs e
      from (Ok w) e =
          cond_both (ltb (length rs) (w.width * w.height)) (Err TooFewRecords, old, rs) (Ok tt, w, replicate (w.width * w.height) new_pixel ++ drop (w.width * w.height) rs)
          (λ (o : OpenOutcome). ◌≡◌ {A = OpenOutcome} (Ok tt, v, qs) o → ◌≡◌ {A = Result PlainView ViewFault} (Ok v) (Ok w))
          (λ _ e. not_err TooFewRecords old rs e)
          (λ _ e. ap (λ (o : OpenOutcome). Ok o.1) e) e
