-- Boxes about the bodies of a scene.
use Rattle.std.specs.Prelude.{ℕ, ◌≤◌}
use Rattle.lattice.specs.Space.{In}
use Rattle.lattice.specs.declared.Point.{Point}
use Rattle.solid.specs.declared.TheConstants.{MOST_REACH}
use Rattle.solid.specs.Body.{Body}
use Rattle.piles.specs.Leaves.{block, BoxHolds}
use Rattle.scene.specs.declared.bound.Bound.{Bound}

-- how far a point lies off a bound
abbrev pub off_bound : Bound → Point → ℕ
off_bound b p = (block b.lo.at b.hi.at).clear p

-- wherever a leaf can be asked, a body is no nearer than the bound
abbrev pub IsBound : Bound → Body → Type 0
IsBound b body = (p : Point) → In MOST_REACH p → off_bound b p ≤ body.clear p

-- one bound lies in another
abbrev pub Holds : (outer inner : Bound) → Type 0
Holds outer inner = BoxHolds outer.lo.at outer.hi.at inner.lo.at inner.hi.at
