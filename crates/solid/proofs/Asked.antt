-- What a body answers within its reach, and beyond it.
use Rattle.std.proofs.Common.{◌≡◌, ℕ, min, true, false, Ok, Err, ap, ◌∙◌, arith}
use Rattle.std.proofs.lemmas.Bool.{le-leb, leb-true, cond-true, cond-false, cond_both, and_parts, and_from}
use Rattle.lattice.specs.Space.{within, In}
use Rattle.lattice.specs.declared.Point.{Point}
use Rattle.solid.specs.declared.QuestionFault.TheVariants.{BeyondReach}
use Rattle.solid.specs.declared.TheConstants.{MOST_CLEARANCE}
use Rattle.solid.specs.Body.{Body, Lawful}
use Rattle.solid.specs.Answer.{answer, answer_up_to, membership}

-- the test and the fact
pub in_within : (r : ℕ) (p : Point) → In r p → within r p ≡ true
in_within r p i = and_from _ _ (le-leb _ _ i.0) (and_from _ _ (le-leb _ _ i.1) (le-leb _ _ i.2))

pub within_in : (r : ℕ) (p : Point) → within r p ≡ true → In r p
within_in r p e = let s = and_parts _ _ e in let t = and_parts _ _ s.1 in (leb-true _ _ s.0, leb-true _ _ t.0, leb-true _ _ t.1)

pub answer_in : (b : Body) (p : Point) → In b.reach p → answer b p ≡ Ok (b.clear p)
answer_in b p i = cond-true _ _ _ (in_within b.reach p i)

pub answer_beyond : (b : Body) (p : Point) → within b.reach p ≡ false → answer b p ≡ Err BeyondReach
answer_beyond b p e = cond-false _ _ _ e

pub membership_in : (b : Body) (p : Point) → In b.reach p → membership b p ≡ Ok (b.member p)
membership_in b p i = cond-true _ _ _ (in_within b.reach p i)

pub up_to_in : (m : ℕ) (b : Body) (p : Point) → In b.reach p → answer_up_to m b p ≡ Ok (min m (b.clear p))
up_to_in m b p i = cond-true _ _ _ (in_within b.reach p i)

-- no clearance is above the limit that the laws set, so that a question up to it is one with no limit
pub up_to_most : (b : Body) (p : Point) → Lawful b → answer_up_to MOST_CLEARANCE b p ≡ answer b p
up_to_most b p l =
    cond_both (within b.reach p) (Ok (b.clear p)) (Err BeyondReach) (λ r. answer_up_to MOST_CLEARANCE b p ≡ r)
    in_reach
    (λ w. cond-false _ _ _ w)
  where
    in_reach : within b.reach p ≡ true → answer_up_to MOST_CLEARANCE b p ≡ Ok (b.clear p)
    in_reach w =
        let i = within_in b.reach p w in
        let least : min MOST_CLEARANCE (b.clear p) ≡ b.clear p = omega (arith, l.small p i) in
        up_to_in MOST_CLEARANCE b p i ∙ ap Ok least
