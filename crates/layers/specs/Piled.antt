-- Whatever piles lie below, what a layer makes of them is a pile, and its members are those of set algebra.
use Rattle.std.specs.Prelude.{ℕ, Bool, true, false, ◌&&◌, ◌||◌}
use Rattle.lattice.specs.Space.{back}
use Rattle.lattice.specs.declared.Point.{Point}
use Rattle.solid.specs.Body.{Body}
use Rattle.piles.specs.Layers.{near}
use Rattle.piles.specs.Pile.{Pile}

-- members of either, and exact over two exact ones
abbrev pub UnitesPiles : (left right made : Body) → Type 0
UnitesPiles left right made =
    (M N : Point → Bool) (e f : Bool)
    → Pile M e left → Pile N f right → Pile (λ p. M p || N p) (e && f) made

-- members of both
abbrev pub MeetsPiles : (left right made : Body) → Type 0
MeetsPiles left right made =
    (M N : Point → Bool) (e f : Bool)
    → Pile M e left → Pile N f right → Pile (λ p. M p && N p) false made

-- the members moved by v, and exact over an exact one
abbrev pub ShiftsPiles : Point → (below made : Body) → Type 0
ShiftsPiles v below made = (M : Point → Bool) (e : Bool) → Pile M e below → Pile (λ p. M (back v p)) e made

-- the points with a member within the distance h; what lies below is exact, whatever it is a pile of
abbrev pub ThickensPiles : ℕ → (below made : Body) → Type 0
ThickensPiles h below made = (M : Point → Bool) (e : Bool) → Pile M e below → Pile (near h M) true made

-- the same members
abbrev pub CapsPiles : (below made : Body) → Type 0
CapsPiles below made = (M : Point → Bool) (e : Bool) → Pile M e below → Pile M false made
