-- A search for the parts of a scene, step by step.
use Rattle.std.proofs.Common.{◌≡◌, ℕ, zero, suc, ◌+◌, ◌-◌, ◌<◌, ◌≤◌, ◌≢◌, min, Bool, true, false, List, length, get_or, set, replicate, ⊎_elim, ◌⊎◌, inl, inr, sym, refl, ap, ◌∙◌, subst, arith, get_or-set_other, get_or-set_same}
use mathlib.Core.Path.{subst⁻¹}
use Rattle.std.proofs.lemmas.Bool.{false≢true, cases_lt}
use Rattle.std.proofs.Math.ListN.{length-set}
use Rattle.std.proofs.lemmas.List.{get_or_past, length-replicate}
use Rattle.lattice.specs.declared.Point.{Point}
use Rattle.solid.specs.Body.{Body}
use Rattle.piles.specs.Layers.{unite}
use Rattle.scene.specs.declared.node.Node.{Node}
use Rattle.scene.specs.declared.parts.Part.{Part}
use Rattle.scene.specs.declared.table.TheConstants.{MOST_NODES}
use Rattle.scene.specs.declared.search.TheConstants.{MOST_ENDS}
use Rattle.scene.specs.Standing.{bodies_after, has_one, last_standing, last_body}
use Rattle.scene.specs.Parts.{IsPart, AreParts, Unites}
use Rattle.scene.specs.Searches.{IsSearch}
use Rattle.scene.proofs.Takes.{some_laid, one_of_two, last_standing-with_joined}

pub by_same : (a b : ℕ) (P : Type 0) → (a ≡ b → P) → (a ≢ b → P) → P
by_same a b P same apart =
    ⊎_elim (λ l. apart (omega arith)) (λ l. ⊎_elim (λ m. apart (omega arith)) (λ m. same (omega arith)) (cases_lt b a)) (cases_lt a b)

-- a row of marks of which one more is set: that one is, those that were still are, and no others
pub marked : (xs : List Bool) (i : ℕ) → i < length xs → get_or (set xs i true) i false ≡ true
marked xs i l = get_or-set_same xs i true false l

pub marked_still : (xs : List Bool) (i e : ℕ) → get_or xs e false ≡ true → get_or (set xs i true) e false ≡ true
marked_still xs i e h =
    by_same e i (get_or (set xs i true) e false ≡ true)
    (λ q. ⊎_elim (λ l. ap (λ k. get_or (set xs i true) k false) q ∙ marked xs i (omega arith)) (λ l. absurd (false≢true (sym (get_or_past xs e false l) ∙ h))) (cases_lt e (length xs)))
    (λ q. get_or-set_other xs i e true false q ∙ h)

pub marked_before : (xs : List Bool) (i e : ℕ) → get_or (set xs i true) e false ≡ true
    → (e ≡ i) ⊎ (get_or xs e false ≡ true)
marked_before xs i e h =
    by_same e i ((e ≡ i) ⊎ (get_or xs e false ≡ true)) (λ q. inl q) (λ q. inr (sym (get_or-set_other xs i e true false q) ∙ h))

unmarked : (k e : ℕ) → get_or (replicate k false) e false ≡ false
unmarked zero e = refl
unmarked (suc k) zero = refl
unmarked (suc k) (suc e) = unmarked k e

module _ (ns : List Node) (n : ℕ) where
  pub whole_is_part : has_one (bodies_after ns n) ≡ true → IsPart ns n n
  whole_is_part h = record { laid = omega arith; stands = h; reaches = omega arith; no_nearer = λ p. omega arith }

  -- a search begins at the whole
  pub search_begun : (row : List Part) → n ≤ MOST_NODES → has_one (bodies_after ns n) ≡ true
      → IsSearch ns n (set (replicate MOST_ENDS false) n true) row 0 n
  search_begun row l h = record {
    room = omega arith;
    opened = λ e le o. elim (marked_before (replicate MOST_ENDS false) n e o) [
      | inl q ↦ subst⁻¹ (IsPart ns n) q (whole_is_part h)
      | inr o ↦ absurd (false≢true (sym (unmarked MOST_ENDS e) ∙ o))
    ];
    each = λ i d k. absurd (omega arith);
    all =
        λ p m found rest. rest n (omega arith) (marked (replicate MOST_ENDS false) n (omega (arith, length-replicate MOST_ENDS false)));
  }

  -- what a union unites
  module _ (end left : ℕ) (u : Unites ns end left) where
    is : last_body ns end ≡ unite (last_body ns left) (last_body ns (end - 1))
    is =
        ap last_standing u.made ∙ last_standing-with_joined unite (bodies_after ns (end - 1)) u.fit ∙ ap (λ b. unite b (last_body ns (end - 1))) (sym (ap last_standing u.beside))

    pub union_clear : (p : Point)
        → (last_body ns end).clear p ≡ min ((last_body ns left).clear p) ((last_body ns (end - 1)).clear p)
    union_clear p = ap (λ (b : Body). b.clear p) is

    reach : (last_body ns end).reach ≡ min (last_body ns left).reach (last_body ns (end - 1)).reach
    reach = ap (λ (b : Body). b.reach) is

    pub right_is_part : IsPart ns n end → IsPart ns n (end - 1)
    right_is_part t = record {
      laid = omega (arith, t.laid);
      stands = one_of_two (bodies_after ns (end - 1)) u.fit;
      reaches = omega (arith, t.reaches, reach);
      no_nearer = λ p. omega (arith, t.no_nearer p, union_clear p);
    }

    pub left_is_part : IsPart ns n end → IsPart ns n left
    left_is_part t = record {
      laid = omega (arith, t.laid, u.below);
      stands = ap has_one u.beside ∙ u.fit;
      reaches = omega (arith, t.reaches, reach);
      no_nearer = λ p. omega (arith, t.no_nearer p, union_clear p);
    }

  module _ (marks : List Bool) (row : List Part) (k end : ℕ) (s : IsSearch ns n marks row k end) (some_end : 1 ≤ end) where
    -- a union is no part: what it unites is open in its place
    pub search_union : (left : ℕ) → end ≤ n → n < length marks → get_or marks end false ≡ true
        → Unites ns end left → IsSearch ns n (set (set marks (end - 1) true) left true) row k (end - 1)
    search_union left le room_for h u = record {
      room = omega (arith, s.room);
      opened = λ e l o. elim (marked_before first left e o) [
        | inl q ↦ subst⁻¹ (IsPart ns n) q (left_is_part end left u whole)
        | inr o ↦ elim (marked_before marks (end - 1) e o) [
          | inl q ↦ subst⁻¹ (IsPart ns n) q (right_is_part end left u whole)
          | inr o ↦ s.opened e (omega arith) o
        ]
      ];
      each = s.each;
      all = λ p m found rest. s.all p m found (λ e l o. by_same e end (m ≤ (last_body ns e).clear p)
          (λ q. subst⁻¹ (λ i. m ≤ (last_body ns i).clear p) q (omega (arith, union_clear end left u p, rest left (omega (arith, u.below)) left_open, rest (end - 1) (omega arith) right_open)))
          (λ q. rest e (omega arith) (marked_still first left e (marked_still marks (end - 1) e o))));
    }
      where
        first : List Bool
        first = set marks (end - 1) true

        whole : IsPart ns n end
        whole = s.opened end (omega arith) h

        left_open : get_or (set first left true) left false ≡ true
        left_open = marked first left (omega (arith, length-set marks (end - 1) true, u.below))

        right_open : get_or (set first left true) (end - 1) false ≡ true
        right_open = marked_still first left (end - 1) (marked marks (end - 1) (omega arith))

    -- what is no union is a part
    pub search_part : (x : Part) → k < length row → x.end ≡ end → get_or marks end false ≡ true
        → IsSearch ns n marks (set row k x) (k + 1) (end - 1)
    search_part x room_for e h = record {
      room = omega (arith, s.room);
      opened = λ e l. s.opened e (omega arith);
      each = λ i d l. by_same i k (IsPart ns n (get_or (set row k x) i d).end)
          (λ q. subst⁻¹ (IsPart ns n) (last i d q) (s.opened end (omega arith) h))
          (λ q. subst⁻¹ (λ (y : Part). IsPart ns n y.end) (get_or-set_other row k i x d q) (s.each i d (omega arith)));
      all = λ p m found rest. s.all p m
          (λ i d l. let q : i ≢ k = omega arith in subst (λ (y : Part). m ≤ (last_body ns y.end).clear p) (get_or-set_other row k i x d q) (found i d (omega arith)))
          (λ j l o. by_same j end (m ≤ (last_body ns j).clear p)
          (λ q. subst (λ i. m ≤ (last_body ns i).clear p) (last k x refl ∙ sym q) (found k x (omega arith)))
          (λ q. rest j (omega arith) o));
    }
      where
        last : (i : ℕ) (d : Part) → i ≡ k → (get_or (set row k x) i d).end ≡ end
        last i d q =
            ap (λ j. (get_or (set row k x) j d).end) q ∙ ap (λ (y : Part). y.end) (get_or-set_same row k x d room_for) ∙ e

  -- nothing is open that stands before the first node
  pub search_done : (marks : List Bool) (row : List Part) (k : ℕ) → IsSearch ns n marks row k 0 → AreParts ns n row k
  search_done marks row k s = record {
    each = s.each;
    all = λ p m found. s.all p m found (λ e l o. absurd (omega (arith, some_laid ns e (s.opened e l o).stands)));
  }
