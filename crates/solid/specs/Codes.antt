-- The number and the place of a refused question.
use Rattle.std.specs.Prelude.{ℕ}
use Rattle.solid.specs.declared.QuestionFault.{QuestionFault}
use Rattle.solid.specs.declared.QuestionFault.TheVariants.{BeyondReach}

abbrev pub question_code : QuestionFault → ℕ × ℕ
question_code BeyondReach = (17, 0)
