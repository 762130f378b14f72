-- The results of the code's calls, as answers of a log, and what a write leaves in the bytes.
use Rattle.std.specs.Prelude.{ℕ, List, ◌++◌, length, take, drop, Ok, Err, Result}
use Rattle.march.specs.declared.pixel.Pixel.{Pixel}
use Rattle.march.specs.declared.view.View.{View}
use Rattle.plate_log.specs.declared.fault.PlateFault.{PlateFault}
use Rattle.plate_log.specs.Log.{Answer, writing, counted, read_as, wrote, refused, line_of}
use Rattle.plate_log.specs.Records.{pixels_of}

-- of a sweep or a touch
abbrev pub counted_answer : Result (ℕ × ℕ) PlateFault → Answer
counted_answer (Ok r) = counted r.0 r.1
counted_answer (Err e) = refused e

abbrev pub read_answer : Result Pixel PlateFault → Answer
read_answer (Ok p) = read_as p
read_answer (Err e) = refused e

-- of a write, with what the bytes hold that it was given
abbrev pub write_answer : Result ℕ PlateFault → List ℕ → Answer
write_answer (Ok n) out = wrote n (take n out)
write_answer (Err e) out = refused e

-- what a write leaves in them, by its answer: the image in front and the rest as it was, or all as it was
abbrev pub bytes_after : Answer → List ℕ → List ℕ
bytes_after (wrote n bs) out = bs ++ drop n out
bytes_after (counted s m) out = out
bytes_after (read_as p) out = out
bytes_after (refused e) out = out

abbrev pub write_on_bytes : View → List Pixel → List ℕ → Answer × List ℕ
write_on_bytes v rs out = let a = (line_of v (pixels_of v rs) (writing (length out))).0 in (a, bytes_after a out)
