-- Each rule is found by its number.
use Rattle.std.proofs.Common.{◌≡◌, Some, refl}
use Rattle.refusal.specs.declared.Rule.{Rule}
use Rattle.refusal.specs.declared.Rule.TheVariants.{Short}
use Rattle.refusal.specs.Numbers.{rule_number}
use Rattle.refusal.specs.Texts.{rule_of}

pub found : (rule : Rule) → rule_of (rule_number rule) ≡ Some rule
found Short = refl
found _ = refl
