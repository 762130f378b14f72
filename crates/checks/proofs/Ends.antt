-- Two sweeps and a read, of which the first refused call is the end.
use Rattle.std.proofs.Common.{◌≡◌, ℕ, ◌*◌, Bool, cond, ltb, List, length, Ok, Err, Result, sym, refl, ap, ◌∙◌}
use Rattle.std.proofs.lemmas.Bool.{cond-true, cond-false, cond_both}
use Rattle.std.specs.Result.{result_and, result_map_both}
use Rattle.solid.specs.Body.{Body}
use Rattle.march.specs.declared.pixel.Pixel.{Pixel}
use Rattle.march.specs.declared.view.View.{View}
use Rattle.march.specs.declared.fault.ViewFault.{ViewFault}
use Rattle.march.specs.declared.view.ViewNumbers.{ViewNumbers}
use Rattle.march.specs.Deep.{is_deep}
use Rattle.march.specs.Checks.{PlainView, plain_view, view_answer}
use Rattle.plate_log.specs.declared.fault.PlateFault.{PlateFault}
use Rattle.plate_log.specs.Opening.{OpenOutcome, open_outcome, opening}
use Rattle.plate_log.specs.Log.{Answer, sweeping, reading, counted, read_as, wrote, refused}
use Rattle.plate_log.specs.Records.{line_on_records}
use Rattle.march.specs.View.{has_pixel}
use Rattle.plate_log.specs.Answers.{counted_answer, read_answer}
use Rattle.checks.specs.Chained.{call_refusal, opened_view, sweep_refusal, read_refusal, first_refusal}

-- f of either is either of f
chosen : {A B : Type 0} (f : A → B) (b : Bool) (x y : A) → f (cond b x y) ≡ cond b (f x) (f y)
chosen f b x y = cond_both b x y (λ z. f z ≡ cond b (f x) (f y)) (λ h. sym (cond-true b (f x) (f y) h)) (λ h. sym (cond-false b (f x) (f y) h))

abbrev refusal_in : Answer → Result (Unit {0}) PlateFault
refusal_in (counted s m) = Ok tt
refusal_in (read_as p) = Ok tt
refusal_in (wrote n bs) = Ok tt
refusal_in (refused e) = Err e

counted_is : (r : Result (ℕ × ℕ) PlateFault) → call_refusal r ≡ refusal_in (counted_answer r)
counted_is (Ok x) = refl
counted_is (Err e) = refl

read_is : (r : Result Pixel PlateFault) → call_refusal r ≡ refusal_in (read_answer r)
read_is (Ok x) = refl
read_is (Err e) = refl

pub opened_ends : (numbers : ViewNumbers) (old w : PlainView) (rs qs : List Pixel) (r : Result (Unit {0}) PlateFault) → ◌≡◌ {A = OpenOutcome} (r, w, qs) (opening numbers old rs)
    → result_map_both (λ _. w) (λ e. e) r ≡ opened_view (view_answer numbers) (length rs)
opened_ends numbers old w rs qs r e = ap left e ∙ by (view_answer numbers)
  where
    left : OpenOutcome → Result PlainView PlateFault
    left o = result_map_both (λ _. o.1) (λ e. e) o.0

    by : (x : Result PlainView ViewFault) → left (open_outcome x old rs) ≡ opened_view x (length rs)
    by (Err f) = refl
    by (Ok v) = chosen left (ltb (length rs) (v.width * v.height)) _ _

-- the same over the records that were lent to the plate
pub lent_ends : (numbers : ViewNumbers) (old w : PlainView) (rs lent qs : List Pixel) (r : Result (Unit {0}) PlateFault) → ◌≡◌ {A = OpenOutcome} (r, w, qs) (opening numbers old rs)
    → rs ≡ lent → result_map_both (λ _. w) (λ e. e) r ≡ opened_view (view_answer numbers) (length lent)
lent_ends numbers old w rs lent qs r e same = opened_ends numbers old w rs qs r e ∙ ap (λ (rs : List Pixel). opened_view (view_answer numbers) (length rs)) same

pub swept_ends : (v : View) (rs qs : List Pixel) (b : Body) (m : ℕ) (r : Result (ℕ × ℕ) PlateFault) → ◌≡◌ {A = Answer × List Pixel} (counted_answer r, qs) (line_on_records v rs (sweeping b m)) → call_refusal r ≡ sweep_refusal b
swept_ends v rs qs b m r e = counted_is r ∙ ap (λ (x : Answer × List Pixel). refusal_in x.0) e ∙ chosen (λ (x : Answer × List Pixel). refusal_in x.0) (is_deep b) _ _

pub read_ends : (v : View) (rs qs : List Pixel) (i j : ℕ) (r : Result Pixel PlateFault) → ◌≡◌ {A = Answer × List Pixel} (read_answer r, qs) (line_on_records v rs (reading i j)) → call_refusal r ≡ read_refusal (plain_view v) i j
read_ends v rs qs i j r e = read_is r ∙ ap (λ (x : Answer × List Pixel). refusal_in x.0) e ∙ chosen (λ (x : Answer × List Pixel). refusal_in x.0) (has_pixel v i j) _ _

-- where the calls come to an end
module _ (o : Result PlainView PlateFault) (a b : Body) (i j : ℕ) (r : Result Pixel PlateFault) where
  pub at_first : (e : PlateFault) (w : PlainView) → r ≡ Err e → Ok w ≡ o → Err e ≡ sweep_refusal a → call_refusal r ≡ first_refusal o a b i j
  at_first e w is x y = ap call_refusal is ∙ ap (λ (s : Result (Unit {0}) PlateFault). result_and s (result_and (sweep_refusal b) (read_refusal w i j))) y ∙ ap (λ (o : Result PlainView PlateFault). first_refusal o a b i j) x

  pub at_second : (e : PlateFault) (w : PlainView) → r ≡ Err e → Ok w ≡ o → Ok tt ≡ sweep_refusal a → Err e ≡ sweep_refusal b → call_refusal r ≡ first_refusal o a b i j
  at_second e w is x y z =
      ap call_refusal is ∙ ap (λ (s : Result (Unit {0}) PlateFault). result_and s (read_refusal w i j)) z
      ∙ ap (λ (s : Result (Unit {0}) PlateFault). result_and s (result_and (sweep_refusal b) (read_refusal w i j))) y ∙ ap (λ (o : Result PlainView PlateFault). first_refusal o a b i j) x

  pub at_read : (w : PlainView) → Ok w ≡ o → Ok tt ≡ sweep_refusal a → Ok tt ≡ sweep_refusal b → call_refusal r ≡ read_refusal w i j → call_refusal r ≡ first_refusal o a b i j
  at_read w x y z is =
      is ∙ ap (λ (s : Result (Unit {0}) PlateFault). result_and s (read_refusal w i j)) z
      ∙ ap (λ (s : Result (Unit {0}) PlateFault). result_and s (result_and (sweep_refusal b) (read_refusal w i j))) y ∙ ap (λ (o : Result PlainView PlateFault). first_refusal o a b i j) x
