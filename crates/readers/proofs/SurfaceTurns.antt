-- One turn of reading heights.
use Rattle.std.proofs.Common.{◌≡◌, ℕ, suc, ◌+◌, ◌-◌, ◌*◌, ◌<◌, ◌≤◌, true, ◌&&◌, List, [], ◌∷◌, ◌++◌, length, take, set, ℤ, pos, Ok, Err, Result, sym, refl, ap, ◌∙◌, append_assoc, arith}
use Rattle.std.specs.Result.{result_map_both}
use Rattle.std.proofs.lemmas.Int.{ints}
use Rattle.std.proofs.lemmas.Nat.{mul-le}
use Rattle.std.proofs.lemmas.List.{take_more_set, append-nil}
use Rattle.std.proofs.lemmas.Bool.Decides.{nat_tests}
use Rattle.words.specs.declared.fault.WordFault.{WordFault}
use Rattle.refusal.specs.Checks.{and_then}
use Rattle.words.specs.Reading.{number_at}
use Rattle.leaves.specs.Surface.{is_side}
use Rattle.leaves.specs.declared.surface.TheConstants.{MOST_COLUMNS}
use Rattle.readers.specs.Surfaces.{heights_at}

join : (h : ℤ) (xs ys : List ℤ) (r : Result (List ℤ) WordFault) → ys ≡ xs ++ h ∷ []
    → result_map_both (λ hs. xs ++ hs) (λ e. e) (and_then r (λ hs. Ok (h ∷ hs))) ≡ result_map_both (λ hs. ys ++ hs) (λ e. e) r
join h xs ys (Ok hs) e = ap Ok (sym (append_assoc xs (h ∷ []) hs) ∙ ap (λ zs. zs ++ hs) (sym e))
join h xs ys (Err d) e = refl

module _ (bs : List ℕ) (n k at : ℕ) (h : k < n) where
  turn : heights_at bs at (n - k) ≡ and_then (number_at bs at) (λ z. and_then (heights_at bs (at + 1) (n - (k + 1))) (λ hs. Ok (z ∷ hs)))
  unfolding heights_at
  turn = let e : n - k ≡ suc (n - (k + 1)) = omega arith in ap (λ m. heights_at bs at m) e

  pub stop : (e : WordFault) → number_at bs at ≡ Err e → heights_at bs at (n - k) ≡ Err e
  stop e p = turn ∙ simp p

  pub go_on : (y z : ℤ) (sheet : List ℤ) (next : ℕ) → k < length sheet → number_at bs at ≡ Ok z → y ≡ z → next ≡ at + 1
      → result_map_both (λ hs. take k sheet ++ hs) (λ e. e) (heights_at bs at (n - k)) ≡ result_map_both (λ hs. take (k + 1) (set sheet k y) ++ hs) (λ e. e) (heights_at bs next (n - (k + 1)))
  go_on y z sheet next l p s q =
      ap (result_map_both (λ hs. take k sheet ++ hs) (λ e. e)) (turn ∙ simp p)
      ∙ join z (take k sheet) (take (k + 1) (set sheet k z)) (heights_at bs (at + 1) (n - (k + 1))) (take_more_set sheet k z l)
      ∙ ap (λ m. result_map_both (λ hs. take (k + 1) (set sheet k z) ++ hs) (λ e. e) (heights_at bs m (n - (k + 1)))) (sym q)
      ∙ ap (λ x. result_map_both (λ hs. take (k + 1) (set sheet k x) ++ hs) (λ e. e) (heights_at bs next (n - (k + 1)))) (sym s)

pub at_end : (bs : List ℕ) (n k at : ℕ) (sheet : List ℤ) → n ≤ k
    → result_map_both (λ hs. take k sheet ++ hs) (λ e. e) (heights_at bs at (n - k)) ≡ Ok (take k sheet)
unfolding heights_at
at_end bs n k at sheet h = let e : n - k ≡ 0 = omega arith in rw e (ap Ok (append-nil (take k sheet)))

-- a sheet has at most MOST_COLUMNS columns
pub few : (w d : ℕ) → (is_side (pos w) && is_side (pos d)) ≡ true → w * d ≤ MOST_COLUMNS
few w d h =
    let a : w ≤ 64 = grind (arith, ints, nat_tests) in
    let b : d ≤ 64 = grind (arith, ints, nat_tests) in
    mul-le w d 64 64 a b
