-- The last body that stands once a node more is laid down, and those before it.
use Rattle.std.proofs.Common.{◌≡◌, ℕ, zero, suc, ◌-◌, ◌≤◌, min, true, List, [], ◌∷◌, ℤ, nat_abs, FitsSigned, refl, ap, ◌∙◌, subst, arith}
use Rattle.std.proofs.lemmas.Bool.{false≢true, leb-true}
use Rattle.std.proofs.lemmas.Int.{fits_signed_from_abs}
use Rattle.std.specs.Int.{w32}
use Rattle.lattice.specs.Space.{norm, In, back, FitsI32}
use Rattle.lattice.specs.declared.Point.{Point}
use Rattle.lattice.proofs.Distance.{in_less}
use Rattle.solid.specs.declared.TheConstants.{MOST_REACH}
use Rattle.solid.specs.Body.{Body}
use Rattle.piles.specs.Layers.{translate, shift, thicken_exact, thicken}
use Rattle.piles.proofs.Kept.{in_back}
use Rattle.piles.proofs.Piles.{shift_is, thicken_is}
use Rattle.scene.specs.declared.node.Join.{Join}
use Rattle.scene.specs.declared.node.Join.TheVariants.{Unite, Meet}
use Rattle.scene.specs.declared.node.Node.{Node}
use Rattle.scene.specs.declared.node.Node.TheVariants.{Joined, Shift, Thicken}
use Rattle.scene.specs.Standing.{join_of, fold_first, with_joined, with_changed, bodies_after, has_one, before_last, has_two, last_standing, last_body, with_node, can_take}
use Rattle.scene.specs.Laws.{all_lawful, last_lawful}

-- where something stands, a node was laid down
pub some_laid : (ns : List Node) (n : ℕ) → has_one (bodies_after ns n) ≡ true → 1 ≤ n
unfolding fold_first
some_laid ns zero h = absurd (false≢true h)
some_laid ns (suc n) h = omega arith

pub one_of_two : (s : List Body) → has_two s ≡ true → has_one s ≡ true
one_of_two [] h = h
one_of_two (b ∷ s) h = refl

pub last_standing-with_joined : (f : Body → Body → Body) (s : List Body) → has_two s ≡ true
    → last_standing (with_joined f s) ≡ f (last_standing (before_last s)) (last_standing s)
last_standing-with_joined f [] h = absurd (false≢true h)
last_standing-with_joined f (b ∷ []) h = absurd (false≢true h)
last_standing-with_joined f (b ∷ (a ∷ s)) h = refl

before_last-with_joined : (f : Body → Body → Body) (s : List Body)
    → before_last (with_joined f s) ≡ before_last (before_last s)
before_last-with_joined f [] = refl
before_last-with_joined f (b ∷ []) = refl
before_last-with_joined f (b ∷ (a ∷ s)) = refl

last_standing-with_changed : (f : Body → Body) (s : List Body) → has_one s ≡ true
    → last_standing (with_changed f s) ≡ f (last_standing s)
last_standing-with_changed f [] h = absurd (false≢true h)
last_standing-with_changed f (a ∷ s) h = refl

before_last-with_changed : (f : Body → Body) (s : List Body) → before_last (with_changed f s) ≡ before_last s
before_last-with_changed f [] = refl
before_last-with_changed f (a ∷ s) = refl

-- what two bodies become, by each way of joining them
joined_reach : (j : Join) (a b : Body) → (join_of j a b).reach ≡ min a.reach b.reach
joined_reach Unite a b = refl
joined_reach Meet a b = refl

-- What a node that takes bodies asks of them at p. Before it, s stood, and with it t does.
pub record TakesTwo (j : Join) (s t : List Body) (p : Point) : Type 0 where
  pub stands : has_one s ≡ true
  pub right : In (last_standing s).reach p
  pub left : In (last_standing (before_last s)).reach p
  pub clear : (last_standing t).clear p ≡ (join_of j (last_standing (before_last s)) (last_standing s)).clear p
  pub before : before_last t ≡ before_last (before_last s)

takes_two : (j : Join) (s t : List Body) → t ≡ with_joined (join_of j) s → has_two s ≡ true → (p : Point)
    → In (last_standing t).reach p → TakesTwo j s t p
takes_two j s t made fit p i = record {
  stands = one_of_two s fit;
  right = in_less (last_standing t).reach (last_standing s).reach p (omega (arith, reach)) i;
  left = in_less (last_standing t).reach (last_standing (before_last s)).reach p (omega (arith, reach)) i;
  clear = ap (λ (b : Body). b.clear p) is;
  before = ap before_last made ∙ before_last-with_joined (join_of j) s;
}
  where
    is : last_standing t ≡ join_of j (last_standing (before_last s)) (last_standing s)
    is = ap last_standing made ∙ last_standing-with_joined (join_of j) s fit

    reach : (last_standing t).reach ≡ min (last_standing (before_last s)).reach (last_standing s).reach
    reach = ap (λ (b : Body). b.reach) is ∙ joined_reach j (last_standing (before_last s)) (last_standing s)

pub record Shifts (v : Point) (s t : List Body) (p : Point) : Type 0 where
  pub stands : has_one s ≡ true
  pub short : norm v ≤ (last_standing s).reach
  pub near : In ((last_standing s).reach - norm v) p
  pub below : In (last_standing s).reach (back v p)
  pub fits : FitsI32 (back v p)
  pub clear : (last_standing t).clear p ≡ (last_standing s).clear (back v p)
  pub before : before_last t ≡ before_last s

pub shift_fit : (v : Point) (s : List Body) → can_take (Shift v) s ≡ true
    → (has_one s ≡ true) × (norm v ≤ (last_standing s).reach)
shift_fit v [] h = absurd (false≢true h)
shift_fit v (a ∷ s) h = (refl, leb-true _ _ h)

-- where each part is within a leaf's reach, 32 bits hold it
near_fits : (q : Point) (r : ℕ) → r ≤ MOST_REACH → In r q → FitsI32 q
near_fits q r l i = (part q.x i.0, part q.y i.1, part q.z i.2)
  where
    part : (z : ℤ) → nat_abs z ≤ r → FitsSigned w32 z
    part z m = fits_signed_from_abs w32 z (omega arith)

shifts : (v : Point) (s t : List Body) → (last_standing s).reach ≤ MOST_REACH → t ≡ with_changed (shift v) s
    → can_take (Shift v) s ≡ true → (p : Point) → In (last_standing t).reach p → Shifts v s t p
shifts v s t far made fit p i = record {
  stands = (shift_fit v s fit).0;
  short = short;
  near = near;
  below = in_back (last_standing s).reach v p short near;
  fits = near_fits (back v p) (last_standing s).reach far (in_back (last_standing s).reach v p short near);
  clear = ap (λ (b : Body). b.clear p) is;
  before = ap before_last made ∙ before_last-with_changed (shift v) s;
}
  where
    short : norm v ≤ (last_standing s).reach
    short = (shift_fit v s fit).1

    is : last_standing t ≡ translate v (last_standing s)
    is =
        ap last_standing made ∙ last_standing-with_changed (shift v) s (shift_fit v s fit).0 ∙ shift_is v (last_standing s) short

    near : In ((last_standing s).reach - norm v) p
    near = subst (λ (b : Body). In b.reach p) is i

pub record Thickens (h : ℕ) (s t : List Body) (p : Point) : Type 0 where
  pub stands : has_one s ≡ true
  pub near : In (last_standing s).reach p
  pub clear : (last_standing t).clear p ≡ (last_standing s).clear p - h
  pub before : before_last t ≡ before_last s

pub thicken_fit : (h : ℕ) (s : List Body) → can_take (Thicken h) s ≡ true
    → (has_one s ≡ true) × ((last_standing s).exact ≡ true)
thicken_fit h [] e = absurd (false≢true e)
thicken_fit h (a ∷ s) e = (refl, e)

thickens : (h : ℕ) (s t : List Body) → t ≡ with_changed (thicken h) s → can_take (Thicken h) s ≡ true
    → (p : Point) → In (last_standing t).reach p → Thickens h s t p
thickens h s t made fit p i = record {
  stands = (thicken_fit h s fit).0;
  near = subst (λ (b : Body). In b.reach p) is i;
  clear = ap (λ (b : Body). b.clear p) is;
  before = ap before_last made ∙ before_last-with_changed (thicken h) s;
}
  where
    is : last_standing t ≡ thicken_exact h (last_standing s)
    is =
        ap last_standing made ∙ last_standing-with_changed (thicken h) s (thicken_fit h s fit).0 ∙ thicken_is h (last_standing s) (thicken_fit h s fit).1

-- the reach of the last body that stands is within that of a leaf
last_reach : (ns : List Node) (n : ℕ) → (last_body ns n).reach ≤ MOST_REACH
last_reach ns n = (last_lawful (bodies_after ns n) (all_lawful ns n)).near_enough

-- the same of the last of the first `end` nodes of a table, which found what it takes
module _ (ns : List Node) (end : ℕ) (x : Node) (made : bodies_after ns end ≡ with_node x (bodies_after ns (end - 1))) (fit : can_take x (bodies_after ns (end - 1)) ≡ true)
    (p : Point) (near : In (last_body ns end).reach p) where
  pub ends_in_join : (j : Join) → x ≡ Joined j → TakesTwo j (bodies_after ns (end - 1)) (bodies_after ns end) p
  ends_in_join j is = takes_two j _ _ (rw is at made) (rw is at fit) p near

  pub ends_in_shift : (v : Point) → x ≡ Shift v → Shifts v (bodies_after ns (end - 1)) (bodies_after ns end) p
  ends_in_shift v is = shifts v _ _ (last_reach ns (end - 1)) (rw is at made) (rw is at fit) p near

  pub ends_in_thickening : (h : ℕ) → x ≡ Thicken h → Thickens h (bodies_after ns (end - 1)) (bodies_after ns end) p
  ends_in_thickening h is = thickens h _ _ (rw is at made) (rw is at fit) p near
