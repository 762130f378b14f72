-- A solid that is no leaf and no layer: it has no members, and a reach that it is given.
use Rattle.std.specs.Prelude.{ℕ, ◌≤◌, false}
use Rattle.std.proofs.Common.{arith}
use Rattle.std.proofs.lemmas.Bool.{false≢true}
use Rattle.solid.specs.declared.TheConstants.{MOST_REACH}
use Rattle.solid.specs.Body.{Body, Lawful}

abbrev pub empty : ℕ → Body
empty r = record { member = λ p. false; reach = r; clear = λ p. 1; exact = false }

pub empty_lawful : (r : ℕ) → r ≤ MOST_REACH → Lawful (empty r)
empty_lawful r h = record {
  near_enough = h;
  small = λ p i. omega arith;
  inside = λ p i m. absurd (false≢true m);
  outside = λ p i z. absurd (omega arith);
  none_nearer = λ p q i m. absurd (false≢true m);
  slope = λ p q i j. omega arith;
  touched = λ x. absurd (false≢true x);
}
