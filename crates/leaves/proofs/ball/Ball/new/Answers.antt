use Rattle.std.proofs.Common.{rules}
use Rattle.std.proofs.lemmas.Int.{to_z-of_z}
use Rattle.piles.proofs.Balls.{smallest_stands}
use Rattle.leaves.proofs.ball.Ball.new.Goals as goal

pub returns-in_err-check_point-clause-smallest : goal.returns-in_err-check_point-clause-smallest
returns-in_err-check_point-clause-smallest c = smallest_stands

pub returns-in_err-radius-clause-smallest : goal.returns-in_err-radius-clause-smallest
returns-in_err-radius-clause-smallest c = smallest_stands

pub returns-clause-value : goal.returns-clause-value
returns-clause-value c = search (rules, to_z-of_z)

pub returns-clause-smallest : goal.returns-clause-smallest
returns-clause-smallest c = smallest_stands
