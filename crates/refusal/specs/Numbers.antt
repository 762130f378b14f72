-- The number of each rule.
use Rattle.std.specs.Prelude.{ℕ}
use Rattle.refusal.specs.declared.Rule.{Rule}
use Rattle.refusal.specs.declared.Rule.TheVariants.{Short, Kind, Unnamed, Range, Row, Corners, Count, Full, TooFew, Inexact, PastReach, Unfinished, Size, Left, Guard, Shallow, BeyondReach, Buffer, NoPixel, StillMarching, NoRoom}

abbrev pub rule_number : Rule → ℕ
rule_number Short = 1
rule_number Kind = 2
rule_number Unnamed = 3
rule_number Range = 4
rule_number Row = 5
rule_number Corners = 6
rule_number Count = 7
rule_number Full = 8
rule_number TooFew = 9
rule_number Inexact = 10
rule_number PastReach = 11
rule_number Unfinished = 12
rule_number Size = 13
rule_number Left = 14
rule_number Guard = 15
rule_number Shallow = 16
rule_number BeyondReach = 17
rule_number Buffer = 18
rule_number NoPixel = 19
rule_number StillMarching = 20
rule_number NoRoom = 21
