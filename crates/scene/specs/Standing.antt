-- The bodies that stand as the nodes of a scene are laid down one by one. A node takes the last bodies that stand, as many
-- as it wants, and what is made of them stands in their place. The last that stands comes first in these lists.
use Rattle.std.specs.Prelude.{◌≡◌, ℕ, zero, suc, ◌+◌, ◌≤◌, Bool, true, false, List, [], ◌∷◌, pos, nat_le, slice_index_or}
use Rattle.lattice.specs.Space.{norm}
use Rattle.lattice.specs.declared.Point.{Point}
use Rattle.solid.specs.Body.{Body}
use Rattle.piles.specs.Leaves.{ball, block}
use Rattle.piles.specs.Layers.{unite, meet, shift, thicken}
use Rattle.scene.specs.declared.node.Join.{Join}
use Rattle.scene.specs.declared.node.Join.TheVariants.{Unite, Meet}
use Rattle.scene.specs.declared.node.Leaf.{Leaf}
use Rattle.scene.specs.declared.node.Leaf.TheVariants.{Ball, Block}
use Rattle.scene.specs.declared.node.Node.{Node}
use Rattle.scene.specs.declared.node.Node.TheVariants.{Joined, Leaf as leaf, Shift, Thicken}

-- what a leaf means
abbrev pub leaf_body : Leaf → Body
leaf_body (Ball b) = ball b.centre b.radius
leaf_body (Block b) = block b.lo b.hi

-- what two bodies become
abbrev pub join_of : Join → Body → Body → Body
join_of Unite = unite
join_of Meet = meet

-- the last two become one; the one laid down earlier is the left
abbrev pub with_joined : (Body → Body → Body) → List Body → List Body
with_joined f [] = []
with_joined f (b ∷ []) = b ∷ []
with_joined f (b ∷ (a ∷ s)) = f a b ∷ s

-- the last one becomes another
abbrev pub with_changed : (Body → Body) → List Body → List Body
with_changed f [] = []
with_changed f (a ∷ s) = f a ∷ s

-- what stands with one node more
abbrev pub with_node : Node → List Body → List Body
with_node (Joined j) s = with_joined (join_of j) s
with_node (leaf l) s = leaf_body l ∷ s
with_node (Shift v) s = with_changed (shift v) s
with_node (Thicken h) s = with_changed (thicken h) s

-- what comes of z as the first n entries of a table are taken in, in their order; d stands for what is past its end
unfoldable pub fold_first : {A B : Type 0} → (A → B → B) → B → A → List A → ℕ → B
fold_first f z d xs zero = z
fold_first f z d xs (suc n) = f (slice_index_or xs n d) (fold_first f z d xs n)

-- what stands once the first n nodes of a table are laid down
abbrev pub bodies_after : List Node → ℕ → List Body
bodies_after ns n = fold_first with_node [] (Joined Unite) ns n

-- does a body stand?
abbrev pub has_one : List Body → Bool
has_one [] = false
has_one (a ∷ s) = true

-- those before the last
abbrev pub before_last : List Body → List Body
before_last [] = []
before_last (a ∷ s) = s

-- do two stand?
abbrev pub has_two : List Body → Bool
has_two s = has_one (before_last s)

abbrev pub origin : Point
origin = record { x = pos 0; y = pos 0; z = pos 0 }

-- the last; where none stands, the point at the origin
abbrev pub last_standing : List Body → Body
last_standing [] = ball origin 0
last_standing (a ∷ s) = a

-- the last once the first n nodes of a table are laid down
abbrev pub last_body : List Node → ℕ → Body
last_body ns n = last_standing (bodies_after ns n)

-- does a last one stand that is exact?
abbrev pub last_is_exact : List Body → Bool
last_is_exact [] = false
last_is_exact (a ∷ s) = a.exact

-- does a node find what it takes? A shift must not pass the reach, and what is thickened must be exact.
abbrev pub can_take : Node → List Body → Bool
can_take (Joined j) s = has_two s
can_take (leaf l) s = true
can_take (Shift v) [] = false
can_take (Shift v) (a ∷ s) = nat_le (norm v) a.reach
can_take (Thicken h) s = last_is_exact s

-- what stood before node k and all that it takes is what stands after the first `start` nodes
pub record IsStart (ns : List Node) (k start : ℕ) : Type 0 where
  pub earlier : start ≤ k
  pub before : bodies_after ns start ≡ before_last (bodies_after ns (k + 1))
