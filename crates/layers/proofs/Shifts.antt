-- What a shifted body answers, by way of the body below.
use Rattle.std.proofs.Common.{◌≡◌, ℕ, ◌-◌, ◌≤◌, true, sym, ap, ◌∙◌, arith}
use borrow.Author.Differences.{ints}
use Rattle.lattice.specs.Space.{norm, within, In, back, FitsI32}
use Rattle.lattice.specs.declared.Point.{Point}
use Rattle.solid.specs.declared.TheConstants.{MOST_REACH}
use Rattle.solid.specs.Body.{Body, Lawful}
use Rattle.solid.specs.Answer.{answer_up_to}
use Rattle.solid.proofs.Asked.{within_in, up_to_in}
use Rattle.piles.specs.Layers.{translate, shift}
use Rattle.piles.proofs.Kept.{in_back}
use Rattle.piles.proofs.Piles.{shift_is}

-- what lies within any reach fits 32 bits
in_fits : (p : Point) → In MOST_REACH p → FitsI32 p
in_fits p i = (omega (arith, ints, i.0), omega (arith, ints, i.1), omega (arith, ints, i.2))

module _ (v p : Point) (a : Body) (h : norm v ≤ a.reach) (w : within (a.reach - norm v) p ≡ true) where
  -- within the reach that is left, the point can be moved back
  pub back_fits : Lawful a → FitsI32 (back v p)
  back_fits l =
      let i = in_back a.reach v p h (within_in (a.reach - norm v) p w) in
      in_fits (back v p) (omega (arith, i.0, l.near_enough), omega (arith, i.1, l.near_enough), omega (arith, i.2, l.near_enough))

  -- and the answer is that of the body below there
  pub shift_asked : (most : ℕ) → answer_up_to most a (back v p) ≡ answer_up_to most (shift v a) p
  shift_asked most =
      let i = within_in (a.reach - norm v) p w in
      up_to_in most a (back v p) (in_back a.reach v p h i) ∙ sym (up_to_in most (translate v a) p i) ∙ ap (λ b. answer_up_to most b p) (sym (shift_is v a h))
