-- The surface's body is lawful, and what the surface answers.
use Rattle.std.proofs.Common.{◌≡◌, ℕ, zero, suc, ◌+◌, ◌*◌, ◌<◌, ◌≤◌, max, true, false, ◌&&◌, List, get_or, ℤ, pos, ◌-ℤ◌, nat_abs, ◌≤ℤ◌, Ok, Err, sym, ap, ◌∙◌, ⊎_elim, arith}
use lib.Signed.{le_z}
use borrow.Author.Differences.{ints, le-true, true_is_le}
use Rattle.std.proofs.lemmas.Nat.{mul-add-lt}
use Rattle.std.proofs.lemmas.Int.{clamps}
use Rattle.std.proofs.lemmas.Bool.{and_parts, cond-true, cond-false, cond_both, cases_lt, both_ways, true≢false}
use Rattle.lattice.specs.Space.{gap, dist, within}
use Rattle.lattice.specs.declared.Point.{Point}
use Rattle.solid.specs.declared.QuestionFault.TheVariants.{BeyondReach}
use Rattle.solid.specs.Answer.{answer}
use Rattle.solid.specs.Body.{Lawful}
use Rattle.refusal.specs.Ranges.{between}
use Rattle.piles.specs.Leaves.{leaf_reach, above, beside, lowest, last_column, height, greatest, on_sheet, in_column, off_bounding_block, surface}
use Rattle.piles.proofs.Axes.{rise_is, above_slope, le_above, beside_slope, between_beside}

-- the greatest height is at least the lowest one, and at least each height
pub greatest_least : (n : ℕ) (hs : List ℤ) → lowest ≤ℤ greatest n hs
unfolding greatest
greatest_least zero hs = omega (arith, ints)
greatest_least (suc n) hs = omega (arith, ints, clamps, greatest_least n hs)

pub greatest_most : (n : ℕ) (hs : List ℤ) (k : ℕ) → k < n → get_or hs k (pos 0) ≤ℤ greatest n hs
unfolding greatest
greatest_most zero hs k l = absurd (omega arith)
greatest_most (suc n) hs k l =
    ⊎_elim (λ b. omega (arith, ints, clamps, greatest_most n hs k b)) (λ b. let e : k ≡ n = omega arith in omega (arith, ints, clamps, ap (λ i. get_or hs i (pos 0)) e)) (cases_lt k n)

le_chain : (a b c : ℤ) → le_z a b ≡ true → b ≤ℤ c → le_z a c ≡ true
le_chain a b c e l = sym (true_is_le a c (omega (arith, ints)))

-- a column of n is below n
column : (n : ℕ) (a : ℤ) → between (pos 0) (last_column n) a ≡ true → nat_abs a < n
column n a e = let f = and_parts (le_z (pos 0) a) (le_z a (last_column n)) e in omega (arith, ints, le-true (pos 0) a f.0, le-true a (last_column n) f.1)

high : (z top : ℤ) → lowest ≤ℤ top → above z top ≤ nat_abs z + 32768
high z top l = omega (arith, ints, rise_is (z -ℤ top))

-- how far off a column may be, however wide the sheet
aside : (n : ℕ) (a : ℤ) → beside (pos 0) (last_column n) a ≤ nat_abs a + 1
aside n a = omega (arith, ints, rise_is (pos 0 -ℤ a), rise_is (a -ℤ last_column n))

same : (a b : ℤ) → gap a b ≡ 0 → a ≡ b
same a b e = omega (arith, ints)

module _ (w d : ℕ) (hs : List ℤ) where
  abbrev off : Point → ℕ
  off = off_bounding_block w d (greatest (w * d) hs)

  -- the clearance, at a member and elsewhere
  by_cases : (p : Point) (P : ℕ → Type 0) → (in_column w d hs p ≡ true → P 0) → (in_column w d hs p ≡ false → P (max 1 (off p))) → P ((surface w d hs).clear p)
  by_cases p P = cond_both (in_column w d hs p) 0 (max 1 (off p)) P

  -- a member lies in the bounding block
  in_block : (p : Point) → in_column w d hs p ≡ true → off p ≡ 0
  in_block p e =
      let h = height w hs (nat_abs p.x) (nat_abs p.y) in
      let f = and_parts (on_sheet w d p) (le_z p.z h) e in
      let g = and_parts (between (pos 0) (last_column w) p.x) (between (pos 0) (last_column d) p.y) f.0 in
      let l = mul-add-lt (nat_abs p.y) w (nat_abs p.x) d (column d p.y g.1) (column w p.x g.0) in
      let m = le_chain p.z h (greatest (w * d) hs) f.1 (greatest_most (w * d) hs (nat_abs p.y * w + nat_abs p.x) l) in
      omega (arith, between_beside (pos 0) (last_column w) p.x g.0, between_beside (pos 0) (last_column d) p.y g.1, le_above p.z (greatest (w * d) hs) m)

  off_slope : (p q : Point) → off p ≤ off q + dist p q
  off_slope p q = omega (arith, beside_slope (pos 0) (last_column w) p.x q.x, beside_slope (pos 0) (last_column d) p.y q.y, above_slope p.z q.z (greatest (w * d) hs))

  -- a member and a point that is none are apart
  apart : (p q : Point) → in_column w d hs p ≡ false → in_column w d hs q ≡ true → 1 ≤ dist p q
  apart p q m n = ⊎_elim (λ l. l) (λ l. absurd (both_ways (in_column w d hs p) m (ap (in_column w d hs) (meets l) ∙ n))) (cases_lt 0 (dist p q))
    where
      meets : dist p q ≤ 0 → p ≡ q
      meets l =
          let ex = same p.x q.x (omega arith) in
          let ey = same p.y q.y (omega arith) in
          let ez = same p.z q.z (omega arith) in
          λ t. record { x = ex t; y = ey t; z = ez t }

  none_nearer : (p q : Point) → in_column w d hs q ≡ true → (surface w d hs).clear p ≤ dist p q
  none_nearer p q e = by_cases p (λ c. c ≤ dist p q) (λ _. omega arith) (λ n. omega (arith, apart p q n e, off_slope p q, in_block q e))

  gentle : (p q : Point) → (surface w d hs).clear p ≤ max 1 (off q) + dist p q
  gentle p q = by_cases p (λ c. c ≤ max 1 (off q) + dist p q) (λ _. omega arith) (λ _. omega (arith, off_slope p q))

  pub surface_lawful : Lawful (surface w d hs)
  surface_lawful = record {
    near_enough = omega arith;
    small = λ p i. by_cases p (λ c. c ≤ 2097151) (λ _. omega arith) (λ _. omega (arith, aside w p.x, aside d p.y, high p.z (greatest (w * d) hs) (greatest_least (w * d) hs)));
    inside = λ p _ e. cond-true (in_column w d hs p) 0 (max 1 (off p)) e;
    outside = λ p _. by_cases p (λ c. c ≡ 0 → in_column w d hs p ≡ true) (λ e _. e) (λ _ z. absurd (omega arith));
    none_nearer = λ p q _. none_nearer p q;
    slope = λ p q _ _. by_cases q (λ c. (surface w d hs).clear p ≤ c + dist p q) (λ e. omega (arith, none_nearer p q e)) (λ _. gentle p q);
    touched = λ e. absurd (true≢false (sym e));
  }

  -- whether a point on the sheet lies in its column, and what the surface answers within its reach
  pub column_is : (p : Point) (h : ℤ) → between (pos 0) (last_column w) p.x ≡ true → between (pos 0) (last_column d) p.y ≡ true → h ≡ height w hs (nat_abs p.x) (nat_abs p.y) → le_z p.z h ≡ in_column w d hs p
  column_is p h ex ey e = ap (le_z p.z) e ∙ λ t. (sym ex t && sym ey t) && le_z p.z (height w hs (nat_abs p.x) (nat_abs p.y))

  pub asked_off : (p : Point) (top : ℤ) (r : ℕ) → within leaf_reach p ≡ true → in_column w d hs p ≡ false → top ≡ greatest (w * d) hs → r ≡ max 1 (off_bounding_block w d top p) → Ok r ≡ answer (surface w d hs) p
  asked_off p top r i m et e =
      ap Ok (e ∙ ap (λ t. max 1 (off_bounding_block w d t p)) et ∙ sym (cond-false (in_column w d hs p) 0 (max 1 (off p)) m)) ∙ sym (cond-true (within leaf_reach p) (Ok ((surface w d hs).clear p)) (Err BeyondReach) i)

  -- the place of a column of the sheet among its heights
  pub column_below : (p : Point) → between (pos 0) (last_column w) p.x ≡ true → between (pos 0) (last_column d) p.y ≡ true → nat_abs p.y * w + nat_abs p.x < w * d
  column_below p ex ey = omega (arith, mul-add-lt (nat_abs p.y) w (nat_abs p.x) d (column d p.y ey) (column w p.x ex))
