-- What a reader holds, and how a call moves it.
use Rattle.std.specs.Prelude.{◌≡◌, ℕ, ◌+◌, ◌*◌, if◌then◌else◌, List, drop, is_ok, Result}
use Rattle.words.specs.declared.writing.TheConstants.{WORD}
use Rattle.words.specs.declared.reader.Reader.{Reader}

-- the bytes from the first word of its part on, and how many words of the part it has read
abbrev pub text : Reader → List ℕ
text r = r.bytes.now

abbrev pub place : Reader → ℕ
place r = r.at

-- the bytes that are left
abbrev pub bytes_left : Reader → List ℕ
bytes_left r = drop (WORD * place r) (text r)

-- on by n words where the call answered Ok, and else where it was
pub record Moved {A E : Type 0} (r : Result A E) (n : ℕ) (old new : Reader) : Type 0 where
  pub text : new.bytes ≡ old.bytes
  pub at : new.at ≡ if is_ok r then old.at + n else old.at

-- a part begun at the word that was due, of which n words are read
pub record Begun (n : ℕ) (old new : Reader) : Type 0 where
  pub text : text new ≡ bytes_left old
  pub at : new.at ≡ n
