-- A pile: a lawful body, or a layer made without refusal over piles. Its first index is the set of its members, built
-- by set algebra from those below; the second says whether it is exact.
use Rattle.std.specs.Prelude.{ℕ, ◌≤◌, Bool, true, false, ◌&&◌, ◌||◌, unsigned_abs}
use Rattle.lattice.specs.Space.{norm, back, IsOffset}
use Rattle.lattice.specs.declared.Point.{Point}
use Rattle.solid.specs.declared.TheConstants.{MOST_CLEARANCE}
use Rattle.solid.specs.Body.{Body, Lawful}
use Rattle.piles.specs.declared.TheConstants.{MOST_THICKNESS, LEAST_CAP}
use Rattle.piles.specs.Layers.{unite, meet, shift, near, thicken, cap}

pub data Pile : (Point → Bool) → Bool → Body → Type 0 where
  lawful : (b : Body) → Lawful b → Pile b.member b.exact b
  united : {M N : Point → Bool} {e f : Bool} {a b : Body}
      → Pile M e a → Pile N f b → Pile (λ p. M p || N p) (e && f) (unite a b)
  met : {M N : Point → Bool} {e f : Bool} {a b : Body}
      → Pile M e a → Pile N f b → Pile (λ p. M p && N p) false (meet a b)
  shifted : {M : Point → Bool} {e : Bool} {a : Body} (v : Point)
      → IsOffset v → norm v ≤ a.reach → Pile M e a → Pile (λ p. M (back v p)) e (shift v a)
  thickened : {M : Point → Bool} {a : Body} (h : ℕ)
      → h ≤ unsigned_abs MOST_THICKNESS → Pile M true a → Pile (near h M) true (thicken h a)
  cut : {M : Point → Bool} {e : Bool} {a : Body} (s : ℕ)
      → unsigned_abs LEAST_CAP ≤ s → s ≤ MOST_CLEARANCE → Pile M e a → Pile M false (cap s a)
