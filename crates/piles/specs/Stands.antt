-- What is proved of leaves, layers and piles.
use Rattle.std.specs.Prelude.{◌≡◌, ℕ, ◌+◌, ◌-◌, ◌*◌, ◌≤◌, Bool, true, IsTrue, Decides, Ok, Result}
use Rattle.lattice.specs.Space.{dist, gap, within}
use Rattle.lattice.specs.declared.Point.{Point}
use Rattle.solid.specs.declared.QuestionFault.{QuestionFault}
use Rattle.solid.specs.Body.{Body, Lawful}
use Rattle.piles.specs.Layers.{near}
use Rattle.piles.specs.Leaves.{ball}
use Rattle.piles.specs.Pile.{Pile}

-- a pile's body is lawful, is exact as the pile says, and has exactly the members that set algebra gives
abbrev pub PilesStand : Type 0
PilesStand =
    (M : Point → Bool) (e : Bool) (b : Body) → Pile M e b
    → (Lawful b × (b.exact ≡ e) × ((p : Point) → b.member p ≡ M p))

-- of every pile that has this body, the answer within its reach is that of set algebra
abbrev pub AnswersAlgebra : Body → Point → Result Bool QuestionFault → Type 0
AnswersAlgebra b p answer = (M : Point → Bool) (e : Bool) → Pile M e b → IsTrue (within b.reach p) → answer ≡ Ok (M p)

-- the members of a thickened body are the points that have a member below within distance h
abbrev pub NearDecides : Type 0
NearDecides =
    (h : ℕ) (m : Point → Bool) (p : Point)
    → Decides (near h m p) ((q : Point) × ((m q ≡ true) × (dist p q ≤ h)))

-- the offsets of p from m, each k less but not below 0, lie in the ball of radius r
abbrev pub Fits : Point → ℕ → Point → ℕ → Type 0
Fits m r p k =
    (gap p.x m.x - k) * (gap p.x m.x - k)
    + (gap p.y m.y - k) * (gap p.y m.y - k)
    + (gap p.z m.z - k) * (gap p.z m.z - k)
    ≤ r * r

-- the ball's clearance is the smallest k that fits
abbrev pub SmallestStands : Type 0
SmallestStands =
    (m p : Point) (r : ℕ)
    → (Fits m r p ((ball m r).clear p) × ((k : ℕ) → Fits m r p k → (ball m r).clear p ≤ k))
