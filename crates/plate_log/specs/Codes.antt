-- The number and the place of a call that a plate refuses.
use Rattle.std.specs.Prelude.{ℕ}
use Rattle.march.specs.Codes.{view_code}
use Rattle.plate_log.specs.declared.fault.PlateFault.{PlateFault}
use Rattle.plate_log.specs.declared.fault.PlateFault.TheVariants.{View, TooFewRecords, NoPixel, Shallow, StillMarching, NoRoom}

abbrev pub plate_code : PlateFault → ℕ × ℕ
plate_code (View fault) = view_code fault
plate_code TooFewRecords = (18, 0)
plate_code NoPixel = (19, 0)
plate_code Shallow = (16, 0)
plate_code StillMarching = (20, 0)
plate_code NoRoom = (21, 0)
