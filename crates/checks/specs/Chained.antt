-- Two sweeps, m probes over a body a and then n over a body b: when they are refused, and what a pixel says
-- that was read after them.
use Rattle.std.specs.Prelude.{◌≡◌, ℕ, ◌+◌, ◌*◌, ◌≤◌, Bool, false, if◌then◌else◌, List, [], ◌∷◌, ◌++◌, drop, Ok, Err, Result, nat_lt}
use Rattle.std.specs.Result.{result_and, result_map_both}
use Rattle.lattice.specs.declared.Point.{Point}
use Rattle.lattice.specs.Space.{In}
use Rattle.solid.specs.Body.{Body, Lawful}
use Rattle.march.specs.declared.deep.TheConstants.{WORKING_RANGE}
use Rattle.march.specs.declared.pixel.Pixel.{Pixel}
use Rattle.march.specs.declared.view.View.{View}
use Rattle.march.specs.declared.view.ViewNumbers.{ViewNumbers}
use Rattle.march.specs.declared.fault.ViewFault.{ViewFault}
use Rattle.march.specs.Deep.{IsDeep, is_deep}
use Rattle.march.specs.View.{has_pixel_in}
use Rattle.march.specs.Checks.{PlainView, plain_view, view_answer}
use Rattle.march.specs.March.{marches, probes, Takes}
use Rattle.plate_log.specs.declared.fault.PlateFault.{PlateFault}
use Rattle.plate_log.specs.declared.fault.PlateFault.TheVariants.{View as Number, TooFewRecords, NoPixel, Shallow}
use Rattle.plate_log.specs.Log.{Call, area, clear_at, sweeping, pixels_after, pixel_after}
use Rattle.plate_log.specs.Lines.{Inside}
use Rattle.plate_log.specs.Law.{SameMembers, PixelShows}

-- whether a call was refused, and why
abbrev pub call_refusal : {A : Type 0} → Result A PlateFault → Result (Unit {0}) PlateFault
call_refusal = result_map_both (λ _. tt) (λ e. e)

-- the view that a plate is opened with over so many records
abbrev pub opened_view : Result PlainView ViewFault → (records : ℕ) → Result PlainView PlateFault
opened_view (Err f) n = Err (Number f)
opened_view (Ok v) n = if nat_lt n (v.width * v.height) then Err TooFewRecords else Ok v

-- whether a sweep over a body is refused
abbrev pub sweep_refusal : Body → Result (Unit {0}) PlateFault
sweep_refusal b = if is_deep b then Ok tt else Err Shallow

-- whether a read of pixel (i, j) is
abbrev pub read_refusal : PlainView → (i j : ℕ) → Result (Unit {0}) PlateFault
read_refusal v i j = if has_pixel_in v.width v.height i j then Ok tt else Err NoPixel

-- the opening, both sweeps and the read: the first that is refused ends them
abbrev pub first_refusal : Result PlainView PlateFault → (a b : Body) (i j : ℕ) → Result (Unit {0}) PlateFault
first_refusal (Err e) a b i j = Err e
first_refusal (Ok v) a b i j = result_and (sweep_refusal a) (result_and (sweep_refusal b) (read_refusal v i j))

-- the sweeps that are called: a refused one is the last
abbrev pub sweeps_called : (a b : Body) (m n : ℕ) → List Call
sweeps_called a b m n = if is_deep a then sweeping a m ∷ sweeping b n ∷ [] else sweeping a m ∷ []

-- What the records hold at the end. Where there was no opening, all are as they were; else the pixels
-- are those of the log of the sweeps that were called, and the records past them are as they were.
abbrev pub RecordsAfter : Result PlainView PlateFault → (a b : Body) (m n : ℕ) (old new : List Pixel) → Type 0
RecordsAfter (Err e) a b m n old new = new ≡ old
RecordsAfter (Ok w) a b m n old new =
    (v : View) × (plain_view v ≡ w) × (new ≡ pixels_after v (sweeps_called a b m n) ++ drop (area v) old)

-- what is so of q, which was read of pixel (i, j) after both sweeps
pub record Picture (v : View) (a b : Body) (m n i j : ℕ) (q : Pixel) : Type 0 where
  pub within : Inside v i j
  -- it is the pixel as the two sweeps leave it, in that order, after the opening
  pub is : q ≡ pixel_after v (sweeping a m ∷ sweeping b n ∷ []) i j
  -- with budgets enough it has settled
  pub ended : area v * (v.far + 1) ≤ m + n → marches q ≡ false
  -- where both have the members M, it tells of them
  pub shows : (M : Point → Bool) → SameMembers a.member M → SameMembers b.member M → PixelShows v M i j q
  -- and took no more probes than a body of the same members that clears no more than either
  pub fewest : (M : Point → Bool) → SameMembers a.member M → SameMembers b.member M → marches q ≡ false
      → (r : Body) → Lawful r → IsDeep r → SameMembers r.member M
      → ((p : Point) → In WORKING_RANGE p → (r.clear p ≤ a.clear p) × (r.clear p ≤ b.clear p))
      → (k : ℕ) → Takes (clear_at v r i j) v.far 0 k → probes q ≤ k

-- the same in the view of these numbers
abbrev pub ViewPicture : ViewNumbers → (a b : Body) → (m n i j : ℕ) → Pixel → Type 0
ViewPicture numbers a b m n i j q = (v : View) × (Ok (plain_view v) ≡ view_answer numbers) × Picture v a b m n i j q
