-- Surfaces are read back as they were written.
use Rattle.std.proofs.Common.{◌≡◌, ℕ, suc, ◌+◌, ◌*◌, ◌/◌, ◌%◌, ◌<◌, ◌≤◌, true, ◌&&◌, leb, List, [], ◌∷◌, ◌++◌, length, get_or, ℤ, pos, Ok, refl, ap, subst, arith, lit<, lit≤}
use Rattle.std.proofs.lemmas.Int.{ints}
use Rattle.std.proofs.lemmas.List.{get_or-map, length-map}
use Rattle.std.proofs.lemmas.Bool.Decides.{nat_tests}
use Rattle.leaves.specs.Surface.{is_side}
use Rattle.words.specs.Words.{of_kind}
use Rattle.words.specs.Encoding.{bytes_of, signed_word}
use Rattle.words.proofs.Back.{kind_back, numbers_back}
use Rattle.readers.specs.Surfaces.{size_of, heights_at, surface_of}
use Rattle.readers.specs.SurfacesBack.{surface_words, all_fit_i16, SurfacesReadBack}

heights_back : (ws rest : List ℕ) (k : ℕ) (hs : List ℤ) → k + length hs ≤ length ws
    → ((i : ℕ) → i < length hs → get_or ws (k + i) 0 ≡ signed_word (get_or hs i (pos 0))) → all_fit_i16 hs ≡ true
    → heights_at (bytes_of ws ++ rest) k (length hs) ≡ Ok hs
unfolding heights_at
heights_back ws rest k [] h at s = refl
heights_back ws rest k (z ∷ hs) h at s =
    let e : get_or ws k 0 ≡ signed_word z = subst (λ m. get_or ws m 0 ≡ signed_word z) (let q : k + 0 ≡ k = omega arith in q) (at 0 (omega arith)) in
    let n = numbers_back ws rest k z (omega arith) e (grind arith) in
    let m = heights_back ws rest (k + 1) hs (omega arith) (λ i l. subst (λ j. get_or ws j 0 ≡ signed_word (get_or hs i (pos 0))) (let q : k + suc i ≡ k + 1 + i = omega arith in q) (at (suc i) (omega arith))) (grind arith) in
    simp (n, m)

size_back : (w d room : ℕ) (hs : List ℤ) (rest : List ℕ) → (is_side (pos w) && is_side (pos d)) ≡ true → w * d ≤ room
    → size_of (bytes_of (surface_words w d hs) ++ rest) room ≡ Ok (record { width = w; depth = d })
unfolding size_of
size_back w d room hs rest s r =
    let a : w ≤ 64 = grind (arith, ints, nat_tests) in
    let b : d ≤ 64 = grind (arith, ints, nat_tests) in
    let e : (w * 65536 + d) % 268435456 ≡ w * 65536 + d = omega arith in
    let k = kind_back (surface_words w d hs) rest 0 (omega arith) 9 9 9 (w * 65536 + d) (ap (of_kind 9) e) (lit< tt) (omega arith) (lit≤ tt) (lit≤ tt) in
    let p : (w * 65536 + d) / 65536 ≡ w = omega arith in
    let q : (w * 65536 + d) % 65536 ≡ d = omega arith in
    let f : leb (w * d) room ≡ true = grind (arith, nat_tests) in
    simp (k, p, q, s, f)

pub surfaces_back : SurfacesReadBack
unfolding surface_of
surfaces_back w d hs room rest s l t r =
    let a = size_back w d room hs rest s r in
    let b = heights_back (surface_words w d hs) rest 1 hs (let m = length-map hs signed_word in omega arith) (λ i h. let e : 1 + i ≡ suc i = omega arith in rw e (get_or-map signed_word hs i (pos 0) 0 h)) t in
    let c : heights_at (bytes_of (surface_words w d hs) ++ rest) 1 (w * d) ≡ Ok hs = subst (λ n. heights_at (bytes_of (surface_words w d hs) ++ rest) 1 n ≡ Ok hs) l b in
    simp (a, c)
