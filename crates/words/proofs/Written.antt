-- A word that is put.
use Rattle.std.proofs.Common.{◌≡◌, ℕ, ◌+◌, ◌*◌, Bool, true, false, ltb, cond, List, length, Ok, Err, Result, ap, arith}
use Rattle.std.specs.Bool.{⊤}
use Rattle.words.specs.declared.writing.PutFault.{PutFault}
use Rattle.words.specs.declared.writing.PutFault.TheVariants.{NoRoom}
use Rattle.words.specs.Writing.{with_word, word_put}

-- where it is not refused, it stands among the bytes
pub put_made : (k w : ℕ) (bs cs : List ℕ) (r : Result ⊤ PutFault) (u : ⊤) → ◌≡◌ {A = Result ⊤ PutFault × List ℕ} (r, cs) (word_put k w bs) → r ≡ Ok u → cs ≡ with_word k w bs
put_made k w bs cs r u e s = by (ltb (length bs) (4 * (k + 1))) e
  where
    by : (b : Bool) → ◌≡◌ {A = Result ⊤ PutFault × List ℕ} (r, cs) (cond b (Err NoRoom, bs) (Ok tt, with_word k w bs)) → cs ≡ with_word k w bs
    by true e = let n : r ≡ Err NoRoom = ap (λ (p : Result ⊤ PutFault × List ℕ). p.0) e in let z : ◌≡◌ {A = ℕ} 0 1 = cc in absurd (omega arith)
    by false e = ap (λ (p : Result ⊤ PutFault × List ℕ). p.1) e
