use Rattle.std.proofs.Common.{◌≡◌, ℕ, ◌≤◌, ℤ, nat_abs, w32, to_z, of_z, arith, rules}
use Rattle.std.specs.Int.{int_min, int_max}
use Rattle.std.proofs.lemmas.Int.{ints, clamps, to_z-of_z}
use Rattle.solid.specs.declared.TheConstants.{MOST_REACH}
use Rattle.scene.proofs.bound.Bound.with.Goals as goal

-- what is one of two numbers, as the code holds it, is no farther than they may be
smaller_in : (n : ℕ) (a b c : ℤ) → n ≤ MOST_REACH → nat_abs a ≤ n → nat_abs b ≤ n
    → c ≡ int_min (to_z w32 (of_z w32 a)) (to_z w32 (of_z w32 b)) → nat_abs (to_z w32 (of_z w32 c)) ≤ n
smaller_in n a b c l la lb e = omega (arith, ints, clamps)

greater_in : (n : ℕ) (a b c : ℤ) → n ≤ MOST_REACH → nat_abs a ≤ n → nat_abs b ≤ n
    → c ≡ int_max (to_z w32 (of_z w32 a)) (to_z w32 (of_z w32 b)) → nat_abs (to_z w32 (of_z w32 c)) ≤ n
greater_in n a b c l la lb e = omega (arith, ints, clamps)

pub invariant_of-result : goal.invariant_of-result
invariant_of-result c =
    let a = c.args.self.lo in
    let b = c.args.other.lo in
    record {
      in_reach = (
        smaller_in MOST_REACH a.at.x b.at.x c.min.result (omega arith) a.in_reach.0 b.in_reach.0 c.min.ensures.value,
        smaller_in MOST_REACH a.at.y b.at.y c.min-2.result (omega arith) a.in_reach.1 b.in_reach.1 c.min-2.ensures.value,
        smaller_in MOST_REACH a.at.z b.at.z c.min-3.result (omega arith) a.in_reach.2 b.in_reach.2 c.min-3.ensures.value,
      );
    }

pub invariant_of-result-2 : goal.invariant_of-result-2
invariant_of-result-2 c =
    let a = c.args.self.hi in
    let b = c.args.other.hi in
    record {
      in_reach = (
        greater_in MOST_REACH a.at.x b.at.x c.max.result (omega arith) a.in_reach.0 b.in_reach.0 c.max.ensures.value,
        greater_in MOST_REACH a.at.y b.at.y c.max-2.result (omega arith) a.in_reach.1 b.in_reach.1 c.max-2.ensures.value,
        greater_in MOST_REACH a.at.z b.at.z c.max-3.result (omega arith) a.in_reach.2 b.in_reach.2 c.max-3.ensures.value,
      );
    }

pub returns-clause-this : goal.returns-clause-this
returns-clause-this c = (
  search (rules, to_z-of_z, c.min.ensures.self_bound),
  search (rules, to_z-of_z, c.min-2.ensures.self_bound),
  search (rules, to_z-of_z, c.min-3.ensures.self_bound),
  search (rules, to_z-of_z, c.max.ensures.self_bound),
  search (rules, to_z-of_z, c.max-2.ensures.self_bound),
  search (rules, to_z-of_z, c.max-3.ensures.self_bound),
)

pub returns-clause-other : goal.returns-clause-other
returns-clause-other c = (
  search (rules, to_z-of_z, c.min.ensures.other_bound),
  search (rules, to_z-of_z, c.min-2.ensures.other_bound),
  search (rules, to_z-of_z, c.min-3.ensures.other_bound),
  search (rules, to_z-of_z, c.max.ensures.other_bound),
  search (rules, to_z-of_z, c.max-2.ensures.other_bound),
  search (rules, to_z-of_z, c.max-3.ensures.other_bound),
)
