-- What is printed of a refusal.
use Rattle.std.specs.Prelude.{◌≡◌, ℕ, ◌==◌, List, ◌++◌, codes, find, None, Some, Option}
use Rattle.std.specs.Fmt.{decimal}
use Rattle.refusal.specs.declared.Rule.{Rule}
use Rattle.refusal.specs.declared.TheConstants.{RULES}
use Rattle.refusal.specs.Numbers.{rule_number}
use Rattle.refusal.specs.Sentences.{rule_sentence}

-- the rule of a number
abbrev pub rule_of : ℕ → Option Rule
rule_of number = find (λ rule. rule_number rule == number) RULES

-- no rule is left out, and no two have one number
abbrev pub EachIsFound : Type 0
EachIsFound = (rule : Rule) → rule_of (rule_number rule) ≡ Some rule

-- its sentence, or that there is no such rule
abbrev pub sentence_in : Option Rule → List ℕ
sentence_in (Some rule) = rule_sentence rule
sentence_in None = codes "there is no such rule"

-- the number and the place of a refusal, and why
unfoldable pub refusal_text : ℕ × ℕ → List ℕ
refusal_text code =
    codes "refused by " ++ decimal code.0 ++ codes " at place " ++ decimal code.1 ++ codes ": "
    ++ sentence_in (rule_of code.0)
