-- What each leaf means: ball, box and surface.
use Rattle.std.specs.Prelude.{ℕ, zero, suc, ◌+◌, ◌-◌, ◌*◌, max, Bool, true, false, if◌then◌else◌, ◌&&◌, List, ℤ, pos, negsuc, ◌-ℤ◌, ◌≤ℤ◌, int_le, nat_le, slice_index_or, unsigned_abs}
use Rattle.std.specs.Int.{int_max}
use Rattle.refusal.specs.Ranges.{between}
use Rattle.lattice.specs.Space.{gap, dist}
use Rattle.lattice.specs.declared.Point.{Point}
use Rattle.solid.specs.declared.TheConstants.{MOST_REACH}
use Rattle.solid.specs.Body.{Body}

-- every leaf's reach
abbrev pub leaf_reach : ℕ
leaf_reach = MOST_REACH

-- the smallest k at which f holds, or n where it holds at none below n
unfoldable pub least : ℕ → (ℕ → Bool) → ℕ
least zero f = zero
least (suc n) f = if f zero then zero else suc (least n (λ k. f (suc k)))

-- do the squares of a, b and c, each k less (but not below 0), add to at most the square of r?
unfoldable pub fits : ℕ → ℕ → ℕ → ℕ → ℕ → Bool
fits r a b c k = nat_le ((a - k) * (a - k) + (b - k) * (b - k) + (c - k) * (c - k)) (r * r)

-- the same of a point's offsets from the centre m
abbrev pub fits_at : Point → ℕ → Point → ℕ → Bool
fits_at m r p k = fits r (gap p.x m.x) (gap p.y m.y) (gap p.z m.z) k

-- the ball of centre m and radius r: the points whose squared offsets add to at most r squared. The clearance is the
-- smallest k for which the offsets, each k less, do; at k = dist p m all of them are 0, so there is one.
abbrev pub ball : Point → ℕ → Body
ball m r = record {
  member = λ p. nat_le (gap p.x m.x * gap p.x m.x + gap p.y m.y * gap p.y m.y + gap p.z m.z * gap p.z m.z) (r * r);
  reach = leaf_reach;
  clear = λ p. least (dist p m) (fits_at m r p);
  exact = true;
}

-- a difference, or 0 where it is below 0
abbrev pub rise : ℤ → ℕ
rise (pos n) = n
rise (negsuc n) = 0

-- how far a is above b, or 0
abbrev pub above : ℤ → ℤ → ℕ
above a b = rise (a -ℤ b)

-- how far a lies outside lo..hi
abbrev pub beside : (lo hi : ℤ) → ℤ → ℕ
beside lo hi a = max (above lo a) (above a hi)

-- the box from lo to hi
abbrev pub block : (lo hi : Point) → Body
block lo hi = record {
  member = λ p. between lo.x hi.x p.x && (between lo.y hi.y p.y && between lo.z hi.z p.z);
  reach = leaf_reach;
  clear = λ p. max (beside lo.x hi.x p.x) (max (beside lo.y hi.y p.y) (beside lo.z hi.z p.z));
  exact = true;
}

-- the box from outer_lo to outer_hi holds the one from inner_lo to inner_hi
abbrev pub BoxHolds : (outer_lo outer_hi inner_lo inner_hi : Point) → Type 0
BoxHolds outer_lo outer_hi inner_lo inner_hi =
    (outer_lo.x ≤ℤ inner_lo.x) × (outer_lo.y ≤ℤ inner_lo.y) × (outer_lo.z ≤ℤ inner_lo.z)
    × (inner_hi.x ≤ℤ outer_hi.x) × (inner_hi.y ≤ℤ outer_hi.y) × (inner_hi.z ≤ℤ outer_hi.z)

-- the lowest height, which is the lowest number of 16 bits
abbrev pub lowest : ℤ
lowest = negsuc 32767

-- the last column of n
abbrev pub last_column : ℕ → ℤ
last_column n = pos n -ℤ pos 1

-- the height of the column (i, j) of a sheet of width w, its heights in a list with x fastest. A sheet has a height for
-- each column, so the 0 that the list would give past its end is never read, here and below.
abbrev pub height : (w : ℕ) → List ℤ → (i j : ℕ) → ℤ
height w hs i j = slice_index_or hs (j * w + i) (pos 0)

-- the greatest of the first n heights
unfoldable pub greatest : ℕ → List ℤ → ℤ
greatest zero hs = lowest
greatest (suc n) hs = int_max (greatest n hs) (slice_index_or hs n (pos 0))

-- is the point in the width and the depth of a sheet of w by d columns?
abbrev pub on_sheet : (w d : ℕ) → Point → Bool
on_sheet w d p = between (pos 0) (last_column w) p.x && between (pos 0) (last_column d) p.y

-- and not above the height of its column?
abbrev pub in_column : (w d : ℕ) → List ℤ → Point → Bool
in_column w d hs p = on_sheet w d p && int_le p.z (height w hs (unsigned_abs p.x) (unsigned_abs p.y))

-- how far a point lies off the bounding block of a sheet, which has no lower end
abbrev pub off_bounding_block : (w d : ℕ) → ℤ → Point → ℕ
off_bounding_block w d top p =
    max (beside (pos 0) (last_column w) p.x) (max (beside (pos 0) (last_column d) p.y) (above p.z top))

-- the surface: a sheet of w by d columns, each solid from its height down without end. The clearance beside or above
-- the sheet is the distance to its bounding block, and never less than 1 off a member.
abbrev pub surface : (w d : ℕ) → List ℤ → Body
surface w d hs = record {
  member = in_column w d hs;
  reach = leaf_reach;
  clear = λ p. if in_column w d hs p then 0 else max 1 (off_bounding_block w d (greatest (w * d) hs) p);
  exact = false;
}
