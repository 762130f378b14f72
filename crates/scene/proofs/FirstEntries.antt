-- What comes of the first entries of a table.
use Rattle.std.proofs.Common.{◌≡◌, ℕ, zero, suc, ◌+◌, ◌-◌, ◌<◌, ◌≤◌, ◌≢◌, List, length, get_or, set, refl, ap, ap₂, add-one, arith, get_or-set_other, get_or-set_same}
use Rattle.scene.specs.Standing.{fold_first}

module _ {A B : Type 0} (f : A → B → B) (z : B) (d : A) where
  pub fold_first-last : (xs : List A) (n : ℕ) → 1 ≤ n
      → fold_first f z d xs n ≡ f (get_or xs (n - 1) d) (fold_first f z d xs (n - 1))
  unfolding fold_first
  fold_first-last xs zero h = absurd (omega arith)
  fold_first-last xs (suc n) h =
      let e : n ≡ suc n - 1 = omega arith in ap (λ k. f (get_or xs k d) (fold_first f z d xs k)) e

  -- a write past the first n leaves what they give
  pub fold_first-kept : (xs : List A) (i : ℕ) (x : A) (n : ℕ) → n ≤ i
      → fold_first f z d (set xs i x) n ≡ fold_first f z d xs n
  unfolding fold_first
  fold_first-kept xs i x zero h = refl
  fold_first-kept xs i x (suc n) h =
      let ne : n ≢ i = omega arith in ap₂ f (get_or-set_other xs i n x d ne) (fold_first-kept xs i x n (omega arith))

  pub fold_first-push : (xs : List A) (n : ℕ) (x : A) → n < length xs
      → fold_first f z d (set xs n x) (n + 1) ≡ f x (fold_first f z d xs n)
  unfolding fold_first
  fold_first-push xs n x h = rw add-one (ap₂ f (get_or-set_same xs n x d h) (fold_first-kept xs n x n (omega arith)))
