-- Opening a plate: over its records, by the numbers of a view.
use Rattle.std.specs.Prelude.{◌*◌, if◌then◌else◌, List, ◌++◌, length, drop, replicate, Ok, Err, Result, nat_lt}
use Rattle.march.specs.declared.pixel.Pixel.{Pixel}
use Rattle.march.specs.declared.fault.ViewFault.{ViewFault}
use Rattle.march.specs.declared.view.ViewNumbers.{ViewNumbers}
use Rattle.march.specs.Checks.{PlainView, view_answer}
use Rattle.march.specs.March.{new_pixel}
use Rattle.plate_log.specs.declared.fault.PlateFault.{PlateFault}
use Rattle.plate_log.specs.declared.fault.PlateFault.TheVariants.{View, TooFewRecords}

-- what opening answers, and the view and the records that it leaves
abbrev pub OpenOutcome : Type 0
OpenOutcome = Result (Unit {0}) PlateFault × PlainView × List Pixel

-- by the view's numbers as they are checked, and the view and the records before: the numbers' fault, or too few
-- records, and then all is as it was; else one new record a pixel, and the rest as they were
abbrev pub open_outcome : Result PlainView ViewFault → PlainView → List Pixel → OpenOutcome
open_outcome (Err f) old rs = (Err (View f), old, rs)
open_outcome (Ok v) old rs =
    let pixels = v.width * v.height in
    if nat_lt (length rs) pixels then (Err TooFewRecords, old, rs)
    else (Ok tt, v, replicate pixels new_pixel ++ drop pixels rs)

abbrev pub opening : ViewNumbers → PlainView → List Pixel → OpenOutcome
opening numbers old rs = open_outcome (view_answer numbers) old rs
