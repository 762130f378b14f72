-- What is written is read back.
use Rattle.std.proofs.Common.{◌≡◌, ℕ, zero, suc, ◌+◌, ◌-◌, ◌*◌, ◌/◌, ◌%◌, ◌<◌, ◌≤◌, true, ltb, leb, List, [], ◌∷◌, ◌++◌, length, get_or, ℤ, pos, negsuc, Ok, ap, ◌∙◌, arith}
use Rattle.std.proofs.lemmas.Nat.{from_le_bytes-to_le_bytes_4}
use Rattle.std.proofs.lemmas.Int.{ints}
use Rattle.std.proofs.lemmas.Bool.Decides.{nat_tests}
use Rattle.lattice.specs.declared.Point.{Point}
use Rattle.words.specs.declared.fault.WordFault.TheVariants.{Unnamed}
use Rattle.words.specs.declared.kind.TheConstants.{WORDS_OF_A_KIND}
use Rattle.words.specs.Words.{signed_number, of_kind, fits_i16}
use Rattle.refusal.specs.Checks.{unless}
use Rattle.refusal.specs.Ranges.{between}
use Rattle.words.specs.Reading.{is_row, word_at, kind_at, bare_at, number_at, number_in, row_at, point_at, point_in}
use Rattle.words.specs.Encoding.{bytes_of, signed_word, NumbersReadBack}

at_four : (a b c d : ℕ) (bs : List ℕ) (k i : ℕ) → get_or (a ∷ b ∷ c ∷ d ∷ bs) (4 * suc k + i) 0 ≡ get_or bs (4 * k + i) 0
at_four a b c d bs k i = ap (λ m. get_or (a ∷ b ∷ c ∷ d ∷ bs) m 0) (let e : 4 * suc k + i ≡ suc (suc (suc (suc (4 * k + i)))) = omega arith in e)

-- the four bytes of the word at k
abbrev sum_at : List ℕ → ℕ → ℕ
sum_at bs k = get_or bs (4 * k) 0 + get_or bs (4 * k + 1) 0 * 256 + get_or bs (4 * k + 2) 0 * 65536 + get_or bs (4 * k + 3) 0 * 16777216

sum_back : (ws rest : List ℕ) (k : ℕ) → k < length ws → get_or ws k 0 < 4294967296 → sum_at (bytes_of ws ++ rest) k ≡ get_or ws k 0
sum_back [] rest k h l = absurd (omega arith)
sum_back (w ∷ ws) rest zero h l = from_le_bytes-to_le_bytes_4 w l
sum_back (w ∷ ws) rest (suc k) h l = simp (at_four₀, at_four) (sum_back ws rest k (omega arith) l)
  where
    at_four₀ : (a b c d : ℕ) (bs : List ℕ) (k : ℕ) → get_or (a ∷ b ∷ c ∷ d ∷ bs) (4 * suc k) 0 ≡ get_or bs (4 * k) 0
    at_four₀ a b c d bs k = ap (λ m. get_or (a ∷ b ∷ c ∷ d ∷ bs) m 0) (let e : 4 * suc k ≡ suc (suc (suc (suc (4 * k)))) = omega arith in e)

room : (ws rest : List ℕ) (k : ℕ) → k < length ws → 4 * k + 4 ≤ length (bytes_of ws ++ rest)
room [] rest k h = absurd (omega arith)
room (w ∷ ws) rest zero h = omega arith
room (w ∷ ws) rest (suc k) h = let l = room ws rest k (omega arith) in omega arith

module _ (ws rest : List ℕ) (k : ℕ) (h : k < length ws) where
  pub word_back : get_or ws k 0 < 4294967296 → word_at (bytes_of ws ++ rest) k ≡ Ok (get_or ws k 0)
  unfolding word_at
  word_back l = let p = sum_back ws rest k h l in let q : leb (4 * k + 4) (length (bytes_of ws ++ rest)) ≡ true = let r = room ws rest k h in grind (arith, nat_tests) in simp (q, p)

  pub kind_back : (kind least most n : ℕ) → get_or ws k 0 ≡ of_kind kind n → kind < 16 → n < WORDS_OF_A_KIND → least ≤ kind → kind ≤ most → kind_at (bytes_of ws ++ rest) k least most ≡ Ok (kind, n)
  unfolding kind_at
  kind_back kind least most n e a b c d =
      let w = word_back (omega arith) in
      let p : of_kind kind n / WORDS_OF_A_KIND ≡ kind = omega arith in
      let q : of_kind kind n % WORDS_OF_A_KIND ≡ n = omega arith in
      let f : leb least kind ≡ true = grind (arith, nat_tests) in
      let g : leb kind most ≡ true = grind (arith, nat_tests) in
      simp (w, e, p, q, f, g)

  pub bare_back : (kind least most : ℕ) → get_or ws k 0 ≡ of_kind kind 0 → kind < 16 → least ≤ kind → kind ≤ most → bare_at (bytes_of ws ++ rest) k least most ≡ Ok kind
  unfolding bare_at
  bare_back kind least most e a c d = rw (kind_back kind least most 0 e a (omega arith) c d)

pub numbers_back : NumbersReadBack
unfolding number_at
numbers_back ws rest k (pos n) h e l =
    let b : n < 32768 = grind (arith, nat_tests) in
    let p = kind_back ws rest k h 2 2 2 n e (omega arith) (omega arith) (omega arith) (omega arith) in
    let f : ltb n 65536 ≡ true = grind (arith, nat_tests) in
    let g : ltb n 32768 ≡ true = grind (arith, nat_tests) in
    simp (p, f, g)
numbers_back ws rest k (negsuc n) h e l =
    let b : n < 32768 = grind (arith, nat_tests) in
    let p = kind_back ws rest k h 2 2 2 (65535 - n) e (omega arith) (omega arith) (omega arith) (omega arith) in
    let f : ltb (65535 - n) 65536 ≡ true = grind (arith, nat_tests) in
    let g : signed_number (65535 - n) ≡ negsuc n = grind (arith, ints, nat_tests) in
    simp p (ap (λ b. unless b (Unnamed k) (Ok (signed_number (65535 - n)))) f ∙ ap Ok g)

-- 16 bits hold both ends of a range
abbrev pub EndsFit : (lo hi : ℤ) → Type 0
EndsFit lo hi = (fits_i16 lo ≡ true) × (fits_i16 hi ≡ true)

wider : (lo hi n : ℤ) → EndsFit lo hi → between lo hi n ≡ true → fits_i16 n ≡ true
wider lo hi n w r = let a = w.0 in let b = w.1 in grind (arith, ints)

pub number_in_back : (ws rest : List ℕ) (k : ℕ) (lo hi n : ℤ) → k < length ws → get_or ws k 0 ≡ signed_word n → EndsFit lo hi → between lo hi n ≡ true → number_in (bytes_of ws ++ rest) k lo hi ≡ Ok n
unfolding number_in
number_in_back ws rest k lo hi n h e w r = simp (numbers_back ws rest k n h e (wider lo hi n w r), r)

pub row_back : (ws rest : List ℕ) (k : ℕ) (n : ℤ) → k < length ws → get_or ws k 0 ≡ signed_word n → is_row n ≡ true → row_at (bytes_of ws ++ rest) k ≡ Ok n
unfolding row_at
row_back ws rest k n h e r = let l : fits_i16 n ≡ true = grind (arith, ints, nat_tests) in simp (numbers_back ws rest k n h e l, r)

pub point_back : (ws rest : List ℕ) (k : ℕ) (lo hi : ℤ) (p : Point) → k + 2 < length ws → get_or ws k 0 ≡ signed_word p.x → get_or ws (k + 1) 0 ≡ signed_word p.y → get_or ws (k + 2) 0 ≡ signed_word p.z → EndsFit lo hi → point_in lo hi p ≡ true → point_at (bytes_of ws ++ rest) k lo hi ≡ Ok p
unfolding point_at
point_back ws rest k lo hi p h ex ey ez w r =
    let a = number_in_back ws rest k lo hi p.x (omega arith) ex w (grind arith) in
    let b = number_in_back ws rest (k + 1) lo hi p.y (omega arith) ey w (grind arith) in
    let c = number_in_back ws rest (k + 2) lo hi p.z (omega arith) ez w (grind arith) in
    simp (a, b, c)
