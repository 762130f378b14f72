-- The ball's body is lawful and exact.
use Rattle.std.proofs.Common.{◌≡◌, ℕ, ◌+◌, ◌-◌, ◌*◌, ◌/◌, ◌<◌, ◌≤◌, max, true, false, leb, ℤ, nat_abs, sym, ap, ◌∙◌, ⊎_elim, mul-le-mul, arith}
use native.Mathlib.Nat.{sub-zero}
use borrow.Author.Differences.{ints}
use Rattle.std.proofs.lemmas.Bool.{leb-true, le-leb, lt-leb, cases_lt}
use Rattle.lattice.specs.Space.{gap, dist, In}
use Rattle.lattice.specs.declared.Point.{Point}
use Rattle.lattice.proofs.Distance.{gap_triangle}
use Rattle.lattice.proofs.Toward.{toward, go, toward_gap, dist_go}
use Rattle.solid.specs.Body.{Lawful}
use Rattle.piles.specs.Leaves.{least, fits, fits_at, ball}
use Rattle.piles.specs.Stands.{SmallestStands}
use Rattle.piles.proofs.Least.{least_most, least_holds, least_first}

pub square : (m n : ℕ) → m ≤ n → m * m ≤ n * n
square m n l = mul-le-mul l l

-- what is nearer on each axis fits where the farther does
pub fits_less : (r a b c k a' b' c' k' : ℕ) → a' - k' ≤ a - k → b' - k' ≤ b - k → c' - k' ≤ c - k → fits r a b c k ≡ true → fits r a' b' c' k' ≡ true
unfolding fits
fits_less r a b c k a' b' c' k' la lb lc e =
    le-leb _ _ (omega (arith, leb-true _ _ e, square (a' - k') (a - k) la, square (b' - k') (b - k) lb, square (c' - k') (c - k) lc))

pub fits_last : (r a b c n : ℕ) → a ≤ n → b ≤ n → c ≤ n → fits r a b c n ≡ true
unfolding fits
fits_last r a b c n la lb lc =
    let za : a - n ≡ 0 = omega arith in
    let zb : b - n ≡ 0 = omega arith in
    let zc : c - n ≡ 0 = omega arith in
    rw (za, zb, zc) (le-leb _ _ (omega arith))

-- a number that fits goes on to fit as it grows
pub fits_more : (r a b c j k : ℕ) → j ≤ k → fits r a b c j ≡ true → fits r a b c k ≡ true
fits_more r a b c j k l e = fits_less r a b c j a b c k (omega arith) (omega arith) (omega arith) e

-- the two ends between which a search for the smallest that fits need look: what leaves an offset above the radius does not fit,
-- and what leaves no offset above half the radius does
pub fits_far : (r a b c k : ℕ) → k + r < max a (max b c) → fits r a b c k ≡ false
unfolding fits
fits_far r a b c k l = lt-leb _ _ (⊎_elim (λ h. omega (arith, past a h)) (λ h. ⊎_elim (λ i. omega (arith, past b i)) (λ i. omega (arith, past c (omega arith))) (cases_lt (k + r) b)) (cases_lt (k + r) a))
  where
    past : (n : ℕ) → k + r < n → r * r < (n - k) * (n - k)
    past n h = omega (arith, square (r + 1) (n - k) (omega arith))

pub fits_half : (r a b c k : ℕ) → max a (max b c) ≤ k + r / 2 → fits r a b c k ≡ true
unfolding fits
fits_half r a b c k l =
    le-leb _ _ (omega (arith, square (a - k) (r / 2) (omega arith), square (b - k) (r / 2) (omega arith), square (c - k) (r / 2) (omega arith), square (r / 2 + r / 2) r (omega arith)))

fits_none : (r a b c : ℕ) → fits r a b c 0 ≡ leb (a * a + b * b + c * c) (r * r)
unfolding fits
fits_none r a b c = simp sub-zero

-- an offset from a centre, within the reach
pub wide : (a m : ℤ) → nat_abs a ≤ 1048576 → nat_abs m ≤ 16384 → gap a m ≤ 1064960
wide a m l k = omega (arith, ints)

module _ (m : Point) (r : ℕ) where
  pub fits_end : (p : Point) → fits_at m r p (dist p m) ≡ true
  fits_end p = fits_last r (gap p.x m.x) (gap p.y m.y) (gap p.z m.z) (dist p m) (omega arith) (omega arith) (omega arith)

  pub fits_nearer : (p q : Point) (k d : ℕ) → dist p q ≤ d → fits_at m r q k ≡ true → fits_at m r p (k + d) ≡ true
  fits_nearer p q k d l e =
      fits_less r (gap q.x m.x) (gap q.y m.y) (gap q.z m.z) k (gap p.x m.x) (gap p.y m.y) (gap p.z m.z) (k + d)
      (omega (arith, gap_triangle p.x q.x m.x))
      (omega (arith, gap_triangle p.y q.y m.y))
      (omega (arith, gap_triangle p.z q.z m.z))
      e

  pub ball_lawful : In 16384 m → Lawful (ball m r)
  ball_lawful i = record {
    near_enough = omega arith;
    small = λ p j. omega (arith, least_most (dist p m) (fits_at m r p), wide p.x m.x j.0 i.0, wide p.y m.y j.1 i.1, wide p.z m.z j.2 i.2);
    inside = λ p j e. omega (arith, least_first (dist p m) (fits_at m r p) 0 (at_none p ∙ e));
    outside = λ p j z. sym (at_none p) ∙ ap (fits_at m r p) (sym z) ∙ least_holds (dist p m) (fits_at m r p) (fits_end p);
    none_nearer = λ p q j e. least_first (dist p m) (fits_at m r p) (dist p q) (ap (fits_at m r p) (omega arith) ∙ fits_nearer p q 0 (dist p q) (omega arith) (at_none q ∙ e));
    slope = λ p q j l. least_first (dist p m) (fits_at m r p) (clear q + dist p q) (fits_nearer p q (clear q) (dist p q) (omega arith) (least_holds (dist q m) (fits_at m r q) (fits_end q)));
    touched = λ _ p j. (go (clear p) p m, (shrunk p, dist_go (clear p) p m ∙ omega (arith, least_most (dist p m) (fits_at m r p))));
  }
    where
      clear : Point → ℕ
      clear p = least (dist p m) (fits_at m r p)

      at_none : (p : Point) → fits_at m r p 0 ≡ (ball m r).member p
      at_none p = fits_none r (gap p.x m.x) (gap p.y m.y) (gap p.z m.z)

      shrunk : (p : Point) → (ball m r).member (go (clear p) p m) ≡ true
      shrunk p = sym (at_none (go (clear p) p m)) ∙ fits_less r (gap p.x m.x) (gap p.y m.y) (gap p.z m.z) (clear p) (gap (toward (clear p) p.x m.x) m.x) (gap (toward (clear p) p.y m.y) m.y) (gap (toward (clear p) p.z m.z) m.z) 0
          (omega (arith, toward_gap (clear p) p.x m.x))
          (omega (arith, toward_gap (clear p) p.y m.y))
          (omega (arith, toward_gap (clear p) p.z m.z))
          (least_holds (dist p m) (fits_at m r p) (fits_end p))

-- the clearance is the smallest number by which the offsets must shrink to fit
pub smallest_stands : SmallestStands
unfolding fits
smallest_stands m p r = (leb-true _ _ (least_holds (dist p m) (fits_at m r p) (fits_end m r p)), λ k h. least_first (dist p m) (fits_at m r p) k (le-leb _ _ h))
