-- The box's body is lawful and exact.
use Rattle.std.proofs.Common.{◌≡◌, ◌+◌, ◌≤◌, max, true, ◌&&◌, arith}
use lib.Signed.{le_z}
use Rattle.std.proofs.lemmas.Bool.{and_parts, and_from}
use Rattle.lattice.specs.Space.{dist, In, ordered}
use Rattle.lattice.specs.declared.Point.{Point}
use Rattle.solid.specs.Body.{Lawful}
use Rattle.refusal.specs.Ranges.{between}
use Rattle.piles.specs.Leaves.{block}
use Rattle.piles.proofs.Axes.{beside_slope, beside_most, between_beside, beside_between, nearest, nearest_between, gap_nearest}

module _ (lo hi : Point) where
  inside : (p : Point) → (block lo hi).member p ≡ true → (block lo hi).clear p ≡ 0
  inside p e =
      let f = and_parts (between lo.x hi.x p.x) (between lo.y hi.y p.y && between lo.z hi.z p.z) e in
      let g = and_parts (between lo.y hi.y p.y) (between lo.z hi.z p.z) f.1 in
      omega (arith, between_beside lo.x hi.x p.x f.0, between_beside lo.y hi.y p.y g.0, between_beside lo.z hi.z p.z g.1)

  on_axes : (p : Point) → between lo.x hi.x p.x ≡ true → between lo.y hi.y p.y ≡ true → between lo.z hi.z p.z ≡ true → (block lo hi).member p ≡ true
  on_axes p ex ey ez = and_from (between lo.x hi.x p.x) (between lo.y hi.y p.y && between lo.z hi.z p.z) ex (and_from (between lo.y hi.y p.y) (between lo.z hi.z p.z) ey ez)

  slope : (p q : Point) → (block lo hi).clear p ≤ (block lo hi).clear q + dist p q
  slope p q = omega (arith, beside_slope lo.x hi.x p.x q.x, beside_slope lo.y hi.y p.y q.y, beside_slope lo.z hi.z p.z q.z)

  -- the nearest point of the box is a member, and as far off as the clearance says
  abbrev brought : Point → Point
  brought p = record { x = nearest lo.x hi.x p.x; y = nearest lo.y hi.y p.y; z = nearest lo.z hi.z p.z }

  module _ (p : Point) (o : ordered lo hi ≡ true) where
    ox : le_z lo.x hi.x ≡ true
    ox = (and_parts (le_z lo.x hi.x) (le_z lo.y hi.y && le_z lo.z hi.z) o).0

    oyz : (le_z lo.y hi.y ≡ true) × (le_z lo.z hi.z ≡ true)
    oyz = and_parts (le_z lo.y hi.y) (le_z lo.z hi.z) (and_parts (le_z lo.x hi.x) (le_z lo.y hi.y && le_z lo.z hi.z) o).1

    brought_in : (block lo hi).member (brought p) ≡ true
    brought_in = on_axes (brought p) (nearest_between lo.x hi.x p.x ox) (nearest_between lo.y hi.y p.y oyz.0) (nearest_between lo.z hi.z p.z oyz.1)

    brought_by : dist p (brought p) ≡ (block lo hi).clear p
    brought_by t = max (gap_nearest lo.x hi.x p.x ox t) (max (gap_nearest lo.y hi.y p.y oyz.0 t) (gap_nearest lo.z hi.z p.z oyz.1 t))

  pub block_lawful : In 16384 lo → In 16384 hi → ordered lo hi ≡ true → Lawful (block lo hi)
  block_lawful i j o = record {
    near_enough = omega arith;
    small = λ p k. omega (arith, beside_most lo.x hi.x p.x, beside_most lo.y hi.y p.y, beside_most lo.z hi.z p.z);
    inside = λ p _ e. inside p e;
    outside = λ p _ e. on_axes p (beside_between lo.x hi.x p.x (omega arith)) (beside_between lo.y hi.y p.y (omega arith)) (beside_between lo.z hi.z p.z (omega arith));
    none_nearer = λ p q _ e. omega (arith, slope p q, inside q e);
    slope = λ p q _ _. slope p q;
    touched = λ _ p _. (brought p, (brought_in p o, brought_by p o));
  }
