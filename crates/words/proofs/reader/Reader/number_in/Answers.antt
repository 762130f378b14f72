use Rattle.std.proofs.Common.{arith}
use Rattle.std.proofs.lemmas.Grind.{common_steps}
use Rattle.words.specs.Reading.{number_in}
use Rattle.words.proofs.reader.Reader.number_in.Goals as goal

pub returns-then-not-contains-clause-value : goal.returns-then-not-contains-clause-value
unfolding number_in
returns-then-not-contains-clause-value c = grind (arith, common_steps)
