-- One axis of a box: how far a number lies outside lo..hi.
use Rattle.std.proofs.Common.{◌≡◌, ◌+◌, ◌-◌, ◌≤◌, true, ℤ, pos, negsuc, ◌+ℤ◌, ◌-ℤ◌, nat_abs, sym, arith}
use lib.Signed.{le_z}
use borrow.Author.Differences.{ints, up, down, true_is_le, le-true}
use Rattle.std.proofs.lemmas.Bool.{and_parts, and_from}
use Rattle.lattice.specs.Space.{gap}
use Rattle.refusal.specs.Ranges.{between}
use Rattle.piles.specs.Leaves.{rise, above, beside}

-- for omega, which reads an integer z as `up z - down z`
pub rise_is : (z : ℤ) → rise z ≡ up z - down z
rise_is (pos n) = omega arith
rise_is (negsuc n) = omega arith

pub above_slope : (a b c : ℤ) → above a c ≤ above b c + gap a b
above_slope a b c = omega (arith, ints, rise_is (a -ℤ c), rise_is (b -ℤ c))

pub below_slope : (a b c : ℤ) → above c a ≤ above c b + gap a b
below_slope a b c = omega (arith, ints, rise_is (c -ℤ a), rise_is (c -ℤ b))

pub above_most : (a b : ℤ) → above a b ≤ nat_abs a + nat_abs b
above_most a b = omega (arith, ints, rise_is (a -ℤ b))

pub le_above : (a b : ℤ) → le_z a b ≡ true → above a b ≡ 0
le_above a b e = omega (arith, ints, rise_is (a -ℤ b), le-true a b e)

pub above_le : (a b : ℤ) → above a b ≡ 0 → le_z a b ≡ true
above_le a b e = sym (true_is_le a b (omega (arith, ints, rise_is (a -ℤ b))))

pub beside_slope : (lo hi a b : ℤ) → beside lo hi a ≤ beside lo hi b + gap a b
beside_slope lo hi a b = omega (arith, above_slope a b hi, below_slope a b lo)

pub beside_most : (lo hi a : ℤ) → beside lo hi a ≤ nat_abs a + (nat_abs lo + nat_abs hi)
beside_most lo hi a = omega (arith, above_most lo a, above_most a hi)

pub between_beside : (lo hi a : ℤ) → between lo hi a ≡ true → beside lo hi a ≡ 0
between_beside lo hi a e = let f = and_parts (le_z lo a) (le_z a hi) e in omega (arith, le_above lo a f.0, le_above a hi f.1)

pub beside_between : (lo hi a : ℤ) → beside lo hi a ≡ 0 → between lo hi a ≡ true
beside_between lo hi a e = and_from (le_z lo a) (le_z a hi) (above_le lo a (omega arith)) (above_le a hi (omega arith))

-- the number of lo..hi that is nearest to a
abbrev pub nearest : (lo hi a : ℤ) → ℤ
nearest lo hi a = (a +ℤ pos (above lo a)) -ℤ pos (above a hi)

module _ (lo hi a : ℤ) (l : le_z lo hi ≡ true) where
  pub nearest_between : between lo hi (nearest lo hi a) ≡ true
  nearest_between =
      let low = rise_is (lo -ℤ a) in
      let high = rise_is (a -ℤ hi) in
      and_from (le_z lo (nearest lo hi a)) (le_z (nearest lo hi a) hi)
      (sym (true_is_le lo (nearest lo hi a) (omega (arith, ints))))
      (sym (true_is_le (nearest lo hi a) hi (omega (arith, ints))))

  pub gap_nearest : gap a (nearest lo hi a) ≡ beside lo hi a
  gap_nearest = omega (arith, ints, rise_is (lo -ℤ a), rise_is (a -ℤ hi))
