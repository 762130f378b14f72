-- The smallest number at which a test holds.
use Rattle.std.proofs.Common.{◌≡◌, ℕ, zero, suc, ◌<◌, ◌≤◌, Bool, true, false, ⊎_elim, arith}
use Rattle.std.proofs.lemmas.Bool.{cond_both, both_ways, cases_lt, cases_Bool}
use Rattle.piles.specs.Leaves.{least}

pub least_most : (n : ℕ) (f : ℕ → Bool) → least n f ≤ n
unfolding least
least_most zero f = omega arith
least_most (suc n) f = cond_both (f zero) zero (suc (least n (λ k. f (suc k)))) (λ x. x ≤ suc n) (λ _. omega arith) (λ _. omega (arith, least_most n (λ k. f (suc k))))

pub least_holds : (n : ℕ) (f : ℕ → Bool) → f n ≡ true → f (least n f) ≡ true
unfolding least
least_holds zero f e = e
least_holds (suc n) f e = cond_both (f zero) zero (suc (least n (λ k. f (suc k)))) (λ x. f x ≡ true) (λ t. t) (λ _. least_holds n (λ k. f (suc k)) e)

pub least_first : (n : ℕ) (f : ℕ → Bool) (k : ℕ) → f k ≡ true → least n f ≤ k
unfolding least
least_first zero f k e = omega arith
least_first (suc n) f zero e = cond_both (f zero) zero (suc (least n (λ k. f (suc k)))) (λ x. x ≤ 0) (λ _. omega arith) (λ t. absurd (both_ways (f zero) t e))
least_first (suc n) f (suc k) e = cond_both (f zero) zero (suc (least n (λ k. f (suc k)))) (λ x. x ≤ suc k) (λ _. omega arith) (λ _. omega (arith, least_first n (λ k. f (suc k)) k e))

pub least_is : (n : ℕ) (f : ℕ → Bool) (r : ℕ) → f n ≡ true → f r ≡ true → ((k : ℕ) → k < r → f k ≡ false) → r ≡ least n f
least_is n f r e t below =
    let up = least_first n f r t in
    ⊎_elim (λ l. absurd (both_ways (f (least n f)) (below (least n f) l) (least_holds n f e))) (λ l. omega arith) (cases_lt (least n f) r)

-- a test that, once it holds, goes on to hold, fails below where it fails
pub fails_below : (f : ℕ → Bool) → ((j k : ℕ) → j ≤ k → f j ≡ true → f k ≡ true) → (j k : ℕ) → j ≤ k → f k ≡ false → f j ≡ false
fails_below f more j k l e = ⊎_elim (λ t. absurd (both_ways (f k) e (more j k l t))) (λ t. t) (cases_Bool (f j))
