-- The parts of a scene: bodies of which the scene is a union, so that it is as near as the nearest of them; in groups of
-- so many, with a box about each group.
use Rattle.std.specs.Prelude.{◌≡◌, ℕ, ◌-◌, ◌/◌, ◌<◌, ◌≤◌, IsTrue, List, slice_index_or}
use Rattle.lattice.specs.declared.Point.{Point}
use Rattle.piles.specs.Layers.{unite}
use Rattle.scene.specs.declared.node.Node.{Node}
use Rattle.scene.specs.declared.bound.Bound.{Bound}
use Rattle.scene.specs.declared.parts.Part.{Part}
use Rattle.scene.specs.declared.parts.TheConstants.{GROUP}
use Rattle.scene.specs.Standing.{bodies_after, has_one, has_two, before_last, with_joined, last_body}
use Rattle.scene.specs.Bounds.{IsBound}

-- A part of what stands last once n nodes are laid down: what stands last once the first `end` of them are. It answers
-- wherever the whole does, and no less.
pub record IsPart (ns : List Node) (n end : ℕ) : Type 0 where
  pub laid : end ≤ n
  pub stands : IsTrue (has_one (bodies_after ns end))
  pub reaches : (last_body ns n).reach ≤ (last_body ns end).reach
  pub no_nearer : (p : Point) → (last_body ns n).clear p ≤ (last_body ns end).clear p

-- the first k of a row are parts of the whole, and it is no nearer than the nearest of them
pub record AreParts (ns : List Node) (n : ℕ) (row : List Part) (k : ℕ) : Type 0 where
  pub each : (i : ℕ) (d : Part) → i < k → IsPart ns n (slice_index_or row i d).end
  pub all : (p : Point) (m : ℕ)
      → ((i : ℕ) (d : Part) → i < k → m ≤ (last_body ns (slice_index_or row i d).end).clear p)
      → m ≤ (last_body ns n).clear p

-- the bound of each group of a row is one of each part in it
abbrev pub AreBounds : List Node → (row : List Part) → (k : ℕ) → List Bound → Type 0
AreBounds ns row k bounds =
    (i : ℕ) (d : Part) (b : Bound) → i < k
    → IsBound (slice_index_or bounds (i / GROUP) b) (last_body ns (slice_index_or row i d).end)

-- the last of the first `end` nodes unites what stands last before it with what stands last once the first `left` are laid
-- down
pub record Unites (ns : List Node) (end left : ℕ) : Type 0 where
  pub made : bodies_after ns end ≡ with_joined unite (bodies_after ns (end - 1))
  pub fit : IsTrue (has_two (bodies_after ns (end - 1)))
  pub beside : bodies_after ns left ≡ before_last (bodies_after ns (end - 1))
  pub below : left < end
