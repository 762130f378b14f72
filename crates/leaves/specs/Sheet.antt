-- What a surface is made of.
use Rattle.std.specs.Prelude.{ℤ}
use Rattle.leaves.specs.declared.surface.Sheet.{Sheet}
use Rattle.leaves.specs.declared.surface.Surface.{Surface}

-- its sheet
abbrev pub sheet_of : Surface → Sheet
sheet_of s = s.sheet

-- the H that it keeps
abbrev pub top_of : Surface → ℤ
top_of s = s.top
