-- What each row of the table of directions is.
use Rattle.std.proofs.Common.{◌≡◌, ℕ, ◌+◌, ◌/◌, ◌%◌, ◌<◌, ◌≤◌, ℤ, pos, ◌-ℤ◌, nat_abs, ap, ⊎_elim, arith, w32, to_z, of_z}
use borrow.Author.Differences.{ints}
use Rattle.std.proofs.lemmas.Bool.{cases_lt}
use Rattle.lattice.specs.Rows.{triple}

pub short : (n : ℕ) → n < 3 → nat_abs (pos n -ℤ pos 1) ≤ 1
short n h = omega (arith, ints)

pub still : (n : ℕ) → nat_abs (pos n -ℤ pos 1) ≡ 0 → n ≡ 1
still n h = omega (arith, ints)

digits : (k : ℕ) → k / 9 ≡ 1 → k / 3 % 3 ≡ 1 → k % 3 ≡ 1 → k ≡ 13
digits k a b c = omega arith

some_moves : (a b c : ℤ) → ((nat_abs a ≡ 0) → (nat_abs b ≡ 0) → (nat_abs c ≡ 0) → ⊥) → 1 ≤ nat_abs a + nat_abs b + nat_abs c
some_moves a b c n = ⊎_elim (λ h. h) (λ h. absurd (n (omega arith) (omega arith) (omega arith))) (cases_lt 0 (nat_abs a + nat_abs b + nat_abs c))

pub moves : (k : ℕ) → (k ≡ 13 → ⊥) → 1 ≤ nat_abs (pos (k / 9) -ℤ pos 1) + nat_abs (pos (k / 3 % 3) -ℤ pos 1) + nat_abs (pos (k % 3) -ℤ pos 1)
moves k n = some_moves (pos (k / 9) -ℤ pos 1) (pos (k / 3 % 3) -ℤ pos 1) (pos (k % 3) -ℤ pos 1) (λ a b c. n (digits k (still (k / 9) a) (still (k / 3 % 3) b) (still (k % 3) c)))

-- a part of a row, as the code hands it on by way of its bits
pub carried : (z : ℤ) (n : ℕ) → z ≡ pos n -ℤ pos 1 → n < 3 → to_z w32 (of_z w32 z) ≡ pos n -ℤ pos 1
carried z n e h = omega (arith, ints)

module _ (t : ℤ × ℤ × ℤ) (k : ℕ) (l : k < 27) (e : t ≡ triple k) where
  pub x_is : to_z w32 (of_z w32 t.0) ≡ pos (k / 9) -ℤ pos 1
  x_is = carried t.0 (k / 9) (ap (λ (s : ℤ × ℤ × ℤ). s.0) e) (omega arith)

  pub y_is : to_z w32 (of_z w32 t.1) ≡ pos (k / 3 % 3) -ℤ pos 1
  y_is = carried t.1 (k / 3 % 3) (ap (λ (s : ℤ × ℤ × ℤ). s.1) e) (omega arith)

  pub z_is : to_z w32 (of_z w32 t.2) ≡ pos (k % 3) -ℤ pos 1
  z_is = carried t.2 (k % 3) (ap (λ (s : ℤ × ℤ × ℤ). s.2) e) (omega arith)
