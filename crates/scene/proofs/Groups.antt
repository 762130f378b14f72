-- Parts in another order, and the bounds about groups of them as one part more comes into its group.
use Rattle.std.proofs.Common.{◌≡◌, ℕ, ◌+◌, ◌/◌, ◌<◌, ◌≤◌, ◌≢◌, List, length, get_or, take, set, ap, ◌∙◌, subst, arith, get_or-set_other, get_or-set_same}
use mathlib.Core.Path.{subst⁻¹}
use Rattle.std.specs.List.Sorted.{IsPermutation}
use Rattle.std.proofs.lemmas.List.{get_or-take, length-take, length-take-le}
use Rattle.std.proofs.lemmas.List.Elements.{All-get_or, All-from_get_or}
use Rattle.std.proofs.lemmas.List.Sorted.{All-permutation, IsPermutation-sym, length_permutation}
use Rattle.solid.specs.Body.{Body}
use Rattle.piles.proofs.Bounds.{held_no_nearer}
use Rattle.scene.specs.declared.node.Node.{Node}
use Rattle.scene.specs.declared.bound.Bound.{Bound}
use Rattle.scene.specs.declared.parts.Part.{Part}
use Rattle.scene.specs.declared.parts.TheConstants.{GROUP}
use Rattle.scene.specs.Bounds.{IsBound, Holds}
use Rattle.scene.specs.Standing.{last_body}
use Rattle.scene.specs.Parts.{IsPart, AreParts, AreBounds}
use Rattle.scene.proofs.Searches.{by_same}

bound_held : (outer inner : Bound) (b : Body) → Holds outer inner → IsBound inner b → IsBound outer b
bound_held outer inner b h i p near =
    omega (arith, held_no_nearer outer.lo.at outer.hi.at inner.lo.at inner.hi.at p h, i p near)

pub bounds_more : (ns : List Node) (row : List Part) (bounds : List Bound) (i e : ℕ) (o new leaf : Bound)
    → AreBounds ns row i bounds → i / GROUP < length bounds → Holds new (get_or bounds (i / GROUP) o)
    → Holds new leaf → IsBound leaf (last_body ns e)
    → ((d : Part) → (get_or row i d).end ≡ e) → AreBounds ns row (i + 1) (set bounds (i / GROUP) new)
bounds_more ns row bounds i e o new leaf are room holds_old holds_leaf about is j d b l =
    by_same (j / GROUP) (i / GROUP) (IsBound (get_or (set bounds (i / GROUP) new) (j / GROUP) b) (last_body ns (get_or row j d).end))
    (λ q. subst⁻¹ (λ n. IsBound n (last_body ns (get_or row j d).end)) (ap (λ k. get_or (set bounds (i / GROUP) new) k b) q ∙ get_or-set_same bounds (i / GROUP) new b room)
    (by_same j i (IsBound new (last_body ns (get_or row j d).end))
    (λ r. subst⁻¹ (λ k. IsBound new (last_body ns k)) (ap (λ k. (get_or row k d).end) r ∙ is d) (bound_held new leaf (last_body ns e) holds_leaf about))
    (λ r. bound_held new (get_or bounds (i / GROUP) o) (last_body ns (get_or row j d).end) holds_old (subst (λ k. IsBound (get_or bounds k o) (last_body ns (get_or row j d).end)) q (are j d o (omega arith))))))
    (λ q. subst⁻¹ (λ n. IsBound n (last_body ns (get_or row j d).end)) (get_or-set_other bounds (i / GROUP) (j / GROUP) new b q) (are j d b (let r : j ≢ i = λ s. q (ap (λ k. k / GROUP) s) in omega arith)))

-- what holds of each of the first k holds of them in another order
module _ (P : Part → Type 0) (k : ℕ) (xs ys : List Part) (lx : k ≤ length xs) (ly : k ≤ length ys) (same : IsPermutation (take k xs) (take k ys)) where
  each_moved : ((i : ℕ) (d : Part) → i < k → P (get_or xs i d)) → (i : ℕ) (d : Part) → i < k → P (get_or ys i d)
  each_moved h i d l =
      let all = All-from_get_or P (take k xs) d (λ j b. let c : j < k = omega (arith, length-take-le k xs lx) in subst⁻¹ P (get_or-take k xs j d c) (h j d c)) in
      subst P (get_or-take k ys i d l) (All-get_or P (take k ys) i d (omega (arith, length-take-le k ys ly)) (All-permutation P (take k xs) (take k ys) same all))

pub parts_moved : (ns : List Node) (n : ℕ) (xs ys : List Part) (k j : ℕ) → k ≤ length xs → j ≡ k
    → IsPermutation (take k xs) (take k ys) → AreParts ns n xs k → AreParts ns n ys j
parts_moved ns n xs ys k j lx count same s = rw count (record {
  each = each_moved (λ x. IsPart ns n x.end) k xs ys lx ly same s.each;
  all =
      λ p m found. s.all p m (each_moved (λ x. m ≤ (last_body ns x.end).clear p) k ys xs ly lx (IsPermutation-sym (take k xs) (take k ys) same) found);
})
  where
    ly : k ≤ length ys
    ly = omega (arith, length-take k ys, length_permutation (take k xs) (take k ys) same, length-take-le k xs lx)
