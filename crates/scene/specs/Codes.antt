-- The number and the place of each refusal.
use Rattle.std.specs.Prelude.{ℕ}
use Rattle.leaves.specs.Codes.{leaf_code}
use Rattle.layers.specs.Codes.{layer_code}
use Rattle.scene.specs.declared.fault.DraftFault.{DraftFault}
use Rattle.scene.specs.declared.fault.DraftFault.TheVariants.{Full, TooFew, Inexact, Unfinished, Leaf, Layer}
use Rattle.scene.specs.declared.fault.ExactFault.{ExactFault}
use Rattle.scene.specs.declared.fault.ExactFault.TheVariants.{Inexact as InexactScene}

abbrev pub draft_code : DraftFault → ℕ × ℕ
draft_code Full = (8, 0)
draft_code TooFew = (9, 0)
draft_code Inexact = (10, 0)
draft_code Unfinished = (12, 0)
draft_code (Leaf fault) = leaf_code fault
draft_code (Layer fault) = layer_code fault

abbrev pub exact_code : ExactFault → ℕ × ℕ
exact_code InexactScene = (15, 0)
