-- What the records hold after an opening and the sweeps that follow it.
use Rattle.std.proofs.Common.{◌≡◌, ℕ, ◌*◌, ltb, List, [], ◌∷◌, ◌++◌, length, take, drop, replicate, Ok, Err, Result, sym, refl, ap, ◌∙◌, subst}
use mathlib.Core.Path.{subst⁻¹}
use lib.ListN.{length-replicate}
use Rattle.std.proofs.lemmas.List.{take_at, drop_at}
use Rattle.std.proofs.lemmas.Bool.{cond-true, cond-false, cond_both}
use Rattle.solid.specs.Body.{Body}
use Rattle.march.specs.declared.pixel.Pixel.{Pixel}
use Rattle.march.specs.declared.view.View.{View}
use Rattle.march.specs.declared.fault.ViewFault.{ViewFault}
use Rattle.march.specs.declared.view.ViewNumbers.{ViewNumbers}
use Rattle.march.specs.Deep.{is_deep}
use Rattle.march.specs.Checks.{PlainView, plain_view, view_answer}
use Rattle.march.specs.March.{new_pixel}
use Rattle.plate_log.specs.declared.fault.PlateFault.{PlateFault}
use Rattle.plate_log.specs.declared.fault.PlateFault.TheVariants.{Shallow}
use Rattle.plate_log.specs.Opening.{OpenOutcome, open_outcome, opening}
use Rattle.plate_log.specs.Log.{Call, Answer, sweeping, counted, refused, line_of, new_pixels, pixels_after, area}
use Rattle.plate_log.specs.Records.{line_on_records}
use Rattle.plate_log.proofs.Lift.{log_from_more}
use Rattle.plate_log.proofs.Sums.{log_length}
use Rattle.checks.specs.Chained.{opened_view, sweep_refusal, sweeps_called, RecordsAfter}
use Rattle.checks.proofs.Ends.{opened_ends, swept_ends}

abbrev Answered : Type 0
Answered = Result (Unit {0}) PlateFault

not_accepted : {A : Type 0} (e : PlateFault) → ◌≡◌ {A = Answered} (Ok tt) (Err e) → A
not_accepted e h = cc

module _ (v : View) (old : List Pixel) where
  -- the records after an opening that was accepted
  abbrev Renewed : OpenOutcome → Type 0
  Renewed o = ◌≡◌ {A = Answered} (Ok tt) o.0 → o.2 ≡ replicate (o.1.width * o.1.height) new_pixel ++ drop (o.1.width * o.1.height) old

  renewed_by : (x : Result PlainView ViewFault) (w : PlainView) → Renewed (open_outcome x w old)
  renewed_by (Err f) w = λ e. not_accepted _ e
  renewed_by (Ok x) w = cond_both (ltb (length old) (x.width * x.height)) _ _ Renewed (λ _ e. not_accepted _ e) (λ _ _. refl)

  renewed : (numbers : ViewNumbers) (w : PlainView) (rs : List Pixel) → ◌≡◌ {A = OpenOutcome} (Ok tt, plain_view v, rs) (opening numbers w old) → rs ≡ pixels_after v [] ++ drop (area v) old
  renewed numbers w rs e = subst⁻¹ Renewed e (renewed_by (view_answer numbers) w) refl

  -- and after one call more
  one_more : (cs : List Call) (c : Call) (rs qs : List Pixel) (a : Answer) → rs ≡ pixels_after v cs ++ drop (area v) old → ◌≡◌ {A = Answer × List Pixel} (a, qs) (line_on_records v rs c)
      → qs ≡ pixels_after v (cs ++ (c ∷ [])) ++ drop (area v) old
  one_more cs c rs qs a h e =
      let ps = pixels_after v cs in
      let tail = drop (area v) old in
      let long : length ps ≡ area v = log_length v cs (new_pixels v) ∙ length-replicate (area v) new_pixel in
      ap (λ (x : Answer × List Pixel). x.1) e
      ∙ ap (λ (rs : List Pixel). (line_of v (take (area v) rs) c).1 ++ drop (area v) rs) h
      ∙ ap (λ (qs : List Pixel). (line_of v qs c).1 ++ drop (area v) (ps ++ tail)) (take_at ps tail (area v) long)
      ∙ ap (λ (t : List Pixel). (line_of v ps c).1 ++ t) (drop_at ps tail (area v) long)
      ∙ ap (λ (qs : List Pixel). qs ++ tail) (sym (log_from_more v cs (c ∷ []) (new_pixels v)))

-- which sweeps are called
module _ (a b : Body) (m n : ℕ) where
  one_called : (e : PlateFault) → Err e ≡ sweep_refusal a → sweeping a m ∷ [] ≡ sweeps_called a b m n
  one_called e =
      cond_both (is_deep a) (Ok tt) (Err Shallow) (λ (r : Answered). Err e ≡ r → sweeping a m ∷ [] ≡ sweeps_called a b m n)
      (λ _ h. not_accepted e (sym h)) (λ h _. sym (cond-false (is_deep a) _ _ h))

  both_called : Ok tt ≡ sweep_refusal a → sweeping a m ∷ sweeping b n ∷ [] ≡ sweeps_called a b m n
  both_called =
      cond_both (is_deep a) (Ok tt) (Err Shallow) (λ (r : Answered). Ok tt ≡ r → sweeping a m ∷ sweeping b n ∷ [] ≡ sweeps_called a b m n)
      (λ h _. sym (cond-true (is_deep a) _ _ h)) (λ _ h. not_accepted Shallow h)

-- a plate over the records rs, opened by the numbers
module _ (numbers : ViewNumbers) (old : PlainView) (rs : List Pixel) (a b : Body) (m n : ℕ) where
  abbrev After : List Pixel → Type 0
  After new = RecordsAfter (opened_view (view_answer numbers) (length rs)) a b m n rs new

  module _ (v : View) (r0 : List Pixel) (began : ◌≡◌ {A = OpenOutcome} (Ok tt, plain_view v, r0) (opening numbers old rs)) where
    after_calls : (cs : List Call) (new : List Pixel) → cs ≡ sweeps_called a b m n → new ≡ pixels_after v cs ++ drop (area v) rs → After new
    after_calls cs new e h =
        subst (λ (o : Result PlainView PlateFault). RecordsAfter o a b m n rs new) (opened_ends numbers old (plain_view v) rs r0 (Ok tt) began)
        (v, refl, h ∙ ap (λ (cs : List Call). pixels_after v cs ++ drop (area v) rs) e)

    -- the first sweep is refused
    pub after_one : (e : PlateFault) (r1 new : List Pixel) → ◌≡◌ {A = Answer × List Pixel} (refused e, r1) (line_on_records v r0 (sweeping a m)) → new ≡ r1 → After new
    after_one e r1 new first is =
        after_calls (sweeping a m ∷ []) new (one_called a b m n e (swept_ends v r0 r1 a m (Err e) first))
        (is ∙ one_more v rs [] (sweeping a m) r0 r1 _ (renewed v rs numbers old r0 began) first)

    -- it is accepted
    pub after_two : (s : ℕ × ℕ) (x : Answer) (v1 : View) (r1 r2 new : List Pixel) → v1 ≡ v
        → ◌≡◌ {A = Answer × List Pixel} (counted s.0 s.1, r1) (line_on_records v r0 (sweeping a m))
        → ◌≡◌ {A = Answer × List Pixel} (x, r2) (line_on_records v1 r1 (sweeping b n)) → new ≡ r2 → After new
    after_two s x v1 r1 r2 new e first second is =
        after_calls (sweeping a m ∷ sweeping b n ∷ []) new (both_called a b m n (swept_ends v r0 r1 a m (Ok s) first))
        (is ∙ one_more v rs (sweeping a m ∷ []) (sweeping b n) r1 r2 x (one_more v rs [] (sweeping a m) r0 r1 _ (renewed v rs numbers old r0 began) first)
        (subst (λ (u : View). ◌≡◌ {A = Answer × List Pixel} (x, r2) (line_on_records u r1 (sweeping b n))) e second))

-- the same of the records that were lent to the plate
pub of_lent : (numbers : ViewNumbers) (a b : Body) (m n : ℕ) (rs lent new : List Pixel) → rs ≡ lent
    → RecordsAfter (opened_view (view_answer numbers) (length rs)) a b m n rs new → RecordsAfter (opened_view (view_answer numbers) (length lent)) a b m n lent new
of_lent numbers a b m n rs lent new e h = subst (λ (rs : List Pixel). RecordsAfter (opened_view (view_answer numbers) (length rs)) a b m n rs new) e h
