-- The records that a plate stands over: its view's pixels are the first of them.
use Rattle.std.specs.Prelude.{List, ◌++◌, take, drop}
use Rattle.march.specs.declared.pixel.Pixel.{Pixel}
use Rattle.march.specs.declared.view.View.{View}
use Rattle.plate_log.specs.Log.{Call, Answer, area, line_of}

abbrev pub pixels_of : View → List Pixel → List Pixel
pixels_of v rs = take (area v) rs

-- what a call on the records answers and leaves: the line of their pixels, and the records past them as they were
abbrev pub line_on_records : View → List Pixel → Call → Answer × List Pixel
line_on_records v rs c = let l = line_of v (pixels_of v rs) c in (l.0, l.1 ++ drop (area v) rs)
