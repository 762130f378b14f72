-- What is read lies in its range.
use Rattle.std.proofs.Common.{◌≡◌, ℕ, ◌+◌, true, List, ℤ, Ok, subst}
use Rattle.lattice.specs.declared.Point.{Point}
use Rattle.words.specs.declared.fault.WordFault.TheVariants.{Range, Row}
use Rattle.refusal.specs.Ranges.{between}
use Rattle.words.specs.Reading.{is_row, number_at, number_in, row_at, point_at, point_in}
use Rattle.words.proofs.Chains.{first_ok, test_held, same_ok}

module _ (bs : List ℕ) (k : ℕ) where
  pub number_in_range : (lo hi n : ℤ) → number_in bs k lo hi ≡ Ok n → between lo hi n ≡ true
  unfolding number_in
  number_in_range lo hi n h =
      let p = first_ok (number_at bs k) _ n h in
      let q = test_held (between lo hi p.0) (Range k) (Ok p.0) n p.1.1 in
      subst (λ m. between lo hi m ≡ true) (same_ok _ _ q.1) q.0

  pub row_is_row : (n : ℤ) → row_at bs k ≡ Ok n → is_row n ≡ true
  unfolding row_at
  row_is_row n h =
      let p = first_ok (number_at bs k) _ n h in
      let q = test_held (is_row p.0) (Row k) (Ok p.0) n p.1.1 in
      subst (λ m. is_row m ≡ true) (same_ok _ _ q.1) q.0

pub point_in_range : (bs : List ℕ) (k : ℕ) (lo hi : ℤ) (p : Point) → point_at bs k lo hi ≡ Ok p → point_in lo hi p ≡ true
unfolding point_at
point_in_range bs k lo hi p h =
    let a = first_ok (number_in bs k lo hi) _ p h in
    let b = first_ok (number_in bs (k + 1) lo hi) _ p a.1.1 in
    let c = first_ok (number_in bs (k + 2) lo hi) _ p b.1.1 in
    let e = number_in_range bs k lo hi a.0 a.1.0 in
    let f = number_in_range bs (k + 1) lo hi b.0 b.1.0 in
    let g = number_in_range bs (k + 2) lo hi c.0 c.1.0 in
    subst (λ q. point_in lo hi q ≡ true) (same_ok _ _ c.1.1) (simp (e, f, g))
