-- What each rule says when it refuses, in plain words.
use Rattle.std.specs.Prelude.{ℕ, List, codes}
use Rattle.refusal.specs.declared.Rule.{Rule}
use Rattle.refusal.specs.declared.Rule.TheVariants.{Short, Kind, Unnamed, Range, Row, Corners, Count, Full, TooFew, Inexact, PastReach, Unfinished, Size, Left, Guard, Shallow, BeyondReach, Buffer, NoPixel, StillMarching, NoRoom}

abbrev pub rule_sentence : Rule → List ℕ
rule_sentence Short = codes "the input ends where a word is due"
rule_sentence Kind = codes "no word of this kind is due here"
rule_sentence Unnamed = codes "a bit is set that has no name"
rule_sentence Range = codes "a number is outside its range"
rule_sentence Row = codes "a number names no direction"
rule_sentence Corners = codes "the box's lower corner is above its upper one on an axis"
rule_sentence Count = codes "the scene's count of words is outside 1 to 1,792"
rule_sentence Full = codes "the scene has 256 nodes already"
rule_sentence TooFew = codes "fewer nodes stand than this node takes"
rule_sentence Inexact = codes "the node to be thickened is not exact"
rule_sentence PastReach = codes "the shift passes the reach of what it shifts"
rule_sentence Unfinished = codes "the scene does not end as one whole node"
rule_sentence Size = codes "the surface's width or depth is outside 1 to 64"
rule_sentence Left = codes "bytes are left after the surface"
rule_sentence Guard = codes "the scene is not exact, which a guard needs"
rule_sentence Shallow = codes "the solid's reach is under 32,767"
rule_sentence BeyondReach = codes "the point is beyond the solid's reach"
rule_sentence Buffer = codes "too few records or heights are lent"
rule_sentence NoPixel = codes "the view has no such pixel"
rule_sentence StillMarching = codes "a pixel still marches"
rule_sentence NoRoom = codes "too few bytes are lent to write into"
