-- What a solid means.
use Rattle.std.specs.Prelude.{◌≡◌, ℕ, ◌+◌, ◌≤◌, Bool, true}
use Rattle.lattice.specs.Space.{dist, In}
use Rattle.solid.specs.declared.TheConstants.{MOST_REACH, MOST_CLEARANCE}
use Rattle.lattice.specs.declared.Point.{Point}

-- A body: a set of points (its members, by their characteristic function), a reach, a clearance at each point, and
-- whether it is marked as exact. Only the clearances within the reach are answered, so only they come under the laws.
pub record Body : Type 0 where
  pub member : Point → Bool
  pub reach : ℕ
  pub clear : Point → ℕ
  pub exact : Bool

-- The laws. Every solid of the kit keeps them, and all that is promised of marches rests on them alone.
pub record Lawful (b : Body) : Type 0 where
  -- the bounds on the reach and on a clearance
  pub near_enough : b.reach ≤ MOST_REACH
  pub small : (p : Point) → In b.reach p → b.clear p ≤ MOST_CLEARANCE
  -- the clearance is 0 exactly at members
  pub inside : (p : Point) → In b.reach p → b.member p ≡ true → b.clear p ≡ 0
  pub outside : (p : Point) → In b.reach p → b.clear p ≡ 0 → b.member p ≡ true
  -- no member, inside the reach or beyond it, is nearer than the clearance
  pub none_nearer : (p q : Point) → In b.reach p → b.member q ≡ true → b.clear p ≤ dist p q
  -- the clearances of two points differ by at most their distance
  pub slope : (p q : Point) → In b.reach p → In b.reach q → b.clear p ≤ b.clear q + dist p q
  -- where the body is marked as exact, some member lies at exactly the clearance
  pub touched : b.exact ≡ true → (p : Point) → In b.reach p
      → (q : Point) × ((b.member q ≡ true) × (dist p q ≡ b.clear p))
