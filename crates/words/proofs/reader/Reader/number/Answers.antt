use Rattle.words.proofs.Back.{numbers_back}
use Rattle.words.proofs.reader.Reader.number.Goals as goal

pub returns-in_err-rest-clause-back : goal.returns-in_err-rest-clause-back
returns-in_err-rest-clause-back c = numbers_back

pub returns-in_default-clause-back : goal.returns-in_default-clause-back
returns-in_default-clause-back c = numbers_back

pub returns-clause-back : goal.returns-clause-back
returns-clause-back c = numbers_back
