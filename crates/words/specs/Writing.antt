-- A word as it is written among the bytes.
use Rattle.std.specs.Prelude.{ℕ, ◌+◌, ◌*◌, if◌then◌else◌, nat_lt, List, ◌++◌, length, take, drop, Result, Ok, Err, ⊤}
use Rattle.words.specs.declared.writing.TheConstants.{WORD}
use Rattle.words.specs.declared.writing.PutFault.{PutFault}
use Rattle.words.specs.declared.writing.PutFault.TheVariants.{NoRoom}
use Rattle.words.specs.Words.{four_bytes}

-- the bytes with their word k made this one; those before it and after it stay
abbrev pub with_word : (k word : ℕ) → List ℕ → List ℕ
with_word k w bs = (take (WORD * k) bs ++ four_bytes w) ++ drop (WORD * k + WORD) bs

-- word k is put; where there is none, that is refused, and the bytes stay as they were
abbrev pub word_put : (k word : ℕ) → List ℕ → Result ⊤ PutFault × List ℕ
word_put k w bs = if nat_lt (length bs) (WORD * (k + 1)) then (Err NoRoom, bs) else (Ok tt, with_word k w bs)
