-- Every body that stands is lawful, whatever nodes are laid down.
use Rattle.std.specs.Prelude.{ℕ, zero, suc, List, [], ◌∷◌, slice_index_or}
use Rattle.lattice.proofs.Distance.{placement_in}
use Rattle.solid.specs.Body.{Body, Lawful}
use Rattle.piles.specs.Layers.{shift, thicken}
use Rattle.piles.proofs.Balls.{ball_lawful}
use Rattle.piles.proofs.Boxes.{block_lawful}
use Rattle.piles.proofs.Kept.{unite_lawful, meet_lawful, shift_lawful, thicken_lawful}
use Rattle.scene.specs.declared.node.Node.{Node}
use Rattle.scene.specs.declared.node.Join.{Join}
use Rattle.scene.specs.declared.node.Join.TheVariants.{Unite, Meet}
use Rattle.scene.specs.declared.node.Leaf.{Leaf}
use Rattle.scene.specs.declared.node.Leaf.TheVariants.{Ball, Block}
use Rattle.scene.specs.declared.node.Node.TheVariants.{Joined, Leaf as leaf, Shift, Thicken}
use Rattle.scene.specs.Standing.{leaf_body, join_of, with_joined, with_changed, with_node, fold_first, bodies_after, origin, last_standing}
use Rattle.std.proofs.Common.{lit≤}

abbrev pub AllLawful : List Body → Type 0
AllLawful [] = Unit {0}
AllLawful (a ∷ s) = Lawful a × AllLawful s

two_lawful : (f : Body → Body → Body) → ((a b : Body) → Lawful a → Lawful b → Lawful (f a b))
    → (s : List Body) → AllLawful s → AllLawful (with_joined f s)
two_lawful f keeps [] l = l
two_lawful f keeps (b ∷ []) l = l
two_lawful f keeps (b ∷ (a ∷ s)) l = (keeps a b l.1.0 l.0, l.1.1)

one_lawful : (f : Body → Body) → ((a : Body) → Lawful a → Lawful (f a))
    → (s : List Body) → AllLawful s → AllLawful (with_changed f s)
one_lawful f keeps [] l = l
one_lawful f keeps (a ∷ s) l = (keeps a l.0, l.1)

joined_lawful : (j : Join) (a b : Body) → Lawful a → Lawful b → Lawful (join_of j a b)
joined_lawful Unite a b k l = unite_lawful a b k l
joined_lawful Meet a b k l = meet_lawful a b k l

leaf_lawful : (l : Leaf) → Lawful (leaf_body l)
leaf_lawful (Ball b) = ball_lawful b.centre b.radius (placement_in b.centre b.centre_is_placement)
leaf_lawful (Block b) =
    block_lawful b.lo b.hi (placement_in b.lo b.lo_is_placement) (placement_in b.hi b.hi_is_placement) b.in_order

step_lawful : (n : Node) (s : List Body) → AllLawful s → AllLawful (with_node n s)
step_lawful (Joined j) s l = two_lawful (join_of j) (joined_lawful j) s l
step_lawful (leaf b) s l = (leaf_lawful b, l)
step_lawful (Shift v) s l = one_lawful (shift v) (shift_lawful v) s l
step_lawful (Thicken h) s l = one_lawful (thicken h) (thicken_lawful h) s l

pub all_lawful : (ns : List Node) (n : ℕ) → AllLawful (bodies_after ns n)
unfolding fold_first
all_lawful ns zero = tt
all_lawful ns (suc n) = step_lawful (slice_index_or ns n (Joined Unite)) (bodies_after ns n) (all_lawful ns n)

pub last_lawful : (s : List Body) → AllLawful s → Lawful (last_standing s)
last_lawful [] l = ball_lawful origin 0 (lit≤ tt, lit≤ tt, lit≤ tt)
last_lawful (a ∷ s) l = l.0
