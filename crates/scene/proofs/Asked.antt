-- What comes of asking the parts of a scene one after another, each up to what those before it answered.
use Rattle.std.proofs.Common.{◌≡◌, ℕ, ◌+◌, ◌*◌, ◌/◌, ◌<◌, ◌≤◌, min, List, get_or, ⊎_elim, ap, ◌∙◌, arith}
use Rattle.std.proofs.lemmas.Bool.{cases_lt}
use Rattle.lattice.specs.declared.Point.{Point}
use Rattle.scene.specs.declared.node.Node.{Node}
use Rattle.scene.specs.declared.parts.Part.{Part}
use Rattle.scene.specs.declared.parts.TheConstants.{GROUP}
use Rattle.lattice.specs.Space.{In}
use Rattle.solid.specs.declared.TheConstants.{MOST_REACH}
use Rattle.scene.specs.declared.bound.Bound.{Bound}
use Rattle.scene.specs.Bounds.{off_bound}
use Rattle.scene.specs.Standing.{last_body}
use Rattle.scene.specs.Parts.{IsPart, AreParts, AreBounds}

-- asked up to m, the parts from first up to k of a row have left c: no more than m, than any of them, and no less than the whole has
pub record IsAnswer (ns : List Node) (n : ℕ) (row : List Part) (p : Point) (m c first k : ℕ) : Type 0 where
  pub most : c ≤ m
  pub whole : min m ((last_body ns n).clear p) ≤ c
  pub each : (i : ℕ) (d : Part) → first ≤ i → i < k → c ≤ (last_body ns (get_or row i d).end).clear p

module _ (ns : List Node) (n : ℕ) (row : List Part) (p : Point) (m : ℕ) where
  -- one part more
  pub one_asked : (c first k e : ℕ) → IsAnswer ns n row p m c first k → IsPart ns n e
      → ((d : Part) → (get_or row k d).end ≡ e) → (r : ℕ) → r ≡ min c ((last_body ns e).clear p)
      → IsAnswer ns n row p m r first (k + 1)
  one_asked c first k e a t is r asked = record {
    most = omega (arith, a.most);
    whole = omega (arith, a.whole, t.no_nearer p);
    each = λ i d f l. ⊎_elim (λ b. omega (arith, a.each i d f b))
        (λ b. let q : i ≡ k = omega arith in omega (arith, ap (λ j. (last_body ns j).clear p) (ap (λ j. (get_or row j d).end) q ∙ is d)))
        (cases_lt i k);
  }

  -- a group of parts more
  pub group_asked : (c g h r : ℕ) → IsAnswer ns n row p m c 0 (min (g * GROUP) h) → r ≤ c
      → min c ((last_body ns n).clear p) ≤ r
      → ((i : ℕ) (d : Part) → g * GROUP ≤ i → i < g * GROUP + GROUP → i < h → r ≤ (last_body ns (get_or row i d).end).clear p) → IsAnswer ns n row p m r 0 (min ((g + 1) * GROUP) h)
  group_asked c g h r a most whole each = record {
    most = omega (arith, a.most);
    whole = omega (arith, a.whole);
    each =
        λ i d f l. ⊎_elim (λ b. omega (arith, a.each i d f (omega arith))) (λ b. each i d b (omega arith) (omega arith)) (cases_lt i (g * GROUP));
  }

  -- a group that lies too far is passed over
  pub group_passed : (bounds : List Bound) (c g h : ℕ) (b : Bound)
      → IsAnswer ns n row p m c 0 (min (g * GROUP) h) → AreBounds ns row h bounds → In MOST_REACH p
      → c ≤ off_bound (get_or bounds g b) p → IsAnswer ns n row p m c 0 (min ((g + 1) * GROUP) h)
  group_passed bounds c g h b a are near far = group_asked c g h c a (omega arith) (omega arith)
      (λ i d first last l. let q : i / GROUP ≡ g = omega arith in omega (arith, are i d b l p near, ap (λ j. off_bound (get_or bounds j b) p) q))

  -- once all are asked
  pub all_asked : (c h k : ℕ) → h ≤ k → AreParts ns n row h → IsAnswer ns n row p m c 0 (min k h)
      → c ≡ min m ((last_body ns n).clear p)
  all_asked c h k l parts a =
      let e = parts.all p c (λ i d b. a.each i d (omega arith) (omega arith)) in omega (arith, a.most, a.whole, e)
