-- The bytes of an image, one word at a time: as they are put, and as they are read back.
use Rattle.std.proofs.Common.{◌≡◌, ℕ, zero, suc, ◌+◌, ◌*◌, ◌/◌, ◌%◌, ◌<◌, ◌≤◌, true, false, ltb, List, [], ◌∷◌, ◌++◌, length, get_or, take, drop, Some, sym, refl, ap, ◌∙◌, append_assoc, arith, length-append}
use Rattle.std.proofs.lemmas.List.{take_more, take_at, drop_at, drop-drop, take_all, length-take-le}
use Rattle.std.proofs.lemmas.Bool.{cond-true, both_ways, leb-true, lt-ltb}
use Rattle.march.specs.declared.pixel.Pixel.{Pixel}
use Rattle.march.specs.declared.pixel.Pixel.TheVariants.{Marching, Hit, Miss}
use Rattle.march.specs.declared.view.View.{View}
use Rattle.march.specs.March.{new_pixel, is_sane, marches}
use Rattle.words.specs.Words.{four_bytes, image_word, number_word}
use Rattle.words.specs.Reading.{kind_and_rest}
use Rattle.words.specs.Writing.{with_word}
use Rattle.plate_log.specs.Sweep.{past_the_end}
use Rattle.plate_log.specs.Image.{pixel_word, pixel_bytes, image}
use Rattle.plate_log.specs.Lines.{word_in, pixel_of_kind, pixel_of_word}
use Rattle.plate_log.proofs.Sanity.{hit_parts}

-- as they are put
length_bytes : (ps : List Pixel) → length (pixel_bytes ps) ≡ 4 * length ps
length_bytes [] = refl
length_bytes (p ∷ ps) = let e = length_bytes ps in omega (arith, length-append (four_bytes (pixel_word p)) (pixel_bytes ps))

bytes_append : (ps qs : List Pixel) → pixel_bytes (ps ++ qs) ≡ pixel_bytes ps ++ pixel_bytes qs
bytes_append [] qs = refl
bytes_append (p ∷ ps) qs = ap (λ t. four_bytes (pixel_word p) ++ t) (bytes_append ps qs) ∙ sym (append_assoc (four_bytes (pixel_word p)) (pixel_bytes ps) (pixel_bytes qs))

put_next : (front old : List ℕ) (x k : ℕ) → length front ≡ 4 * k → with_word k x (front ++ drop (4 * k) old) ≡ (front ++ four_bytes x) ++ drop (4 * k + 4) old
put_next front old x k e =
    ap (λ t. (t ++ four_bytes x) ++ drop (4 * k + 4) (front ++ drop (4 * k) old)) (take_at front (drop (4 * k) old) (4 * k) e)
    ∙ ap (λ t. (front ++ four_bytes x) ++ t) (sym (drop-drop 4 (4 * k) (front ++ drop (4 * k) old)) ∙ ap (drop 4) (drop_at front (drop (4 * k) old) (4 * k) e) ∙ drop-drop 4 (4 * k) old)

-- an image's first two words
abbrev pub head : View → List ℕ
head v = four_bytes (image_word v.width v.height) ++ four_bytes (number_word v.far)

put_head : (v : View) (old one two : List ℕ) → one ≡ with_word 0 (image_word v.width v.height) old → two ≡ with_word 1 (number_word v.far) one → two ≡ head v ++ drop 8 old
put_head v old one two e f =
    let w = image_word v.width v.height in
    let first : one ≡ four_bytes w ++ drop 4 old = e ∙ put_next [] old w 0 refl in
    f ∙ ap (with_word 1 (number_word v.far)) first ∙ put_next (four_bytes w) old (number_word v.far) 1 refl

-- the pixel at k written behind those before it
pub put_more : (v : View) (ps : List Pixel) (out old next : List ℕ) (k : ℕ) → k < length ps → out ≡ (head v ++ pixel_bytes (take k ps)) ++ drop (4 * (2 + k)) old
    → next ≡ with_word (2 + k) (pixel_word (get_or ps k new_pixel)) out → next ≡ (head v ++ pixel_bytes (take (k + 1) ps)) ++ drop (4 * (2 + (k + 1))) old
put_more v ps out old next k h i e =
    let x = get_or ps k new_pixel in
    let long : length (head v ++ pixel_bytes (take k ps)) ≡ 4 * (2 + k) = omega (arith, length-append (head v) (pixel_bytes (take k ps)), length_bytes (take k ps), length-take-le k ps (omega arith)) in
    let front : (head v ++ pixel_bytes (take k ps)) ++ four_bytes (pixel_word x) ≡ head v ++ pixel_bytes (take (k + 1) ps)
    = append_assoc (head v) (pixel_bytes (take k ps)) (four_bytes (pixel_word x)) ∙ ap (λ t. head v ++ t) (sym (ap pixel_bytes (take_more ps k new_pixel h) ∙ bytes_append (take k ps) (x ∷ []))) in
    let place : 4 * (2 + k) + 4 ≡ 4 * (2 + (k + 1)) = omega arith in
    e ∙ ap (with_word (2 + k) (pixel_word x)) i ∙ put_next (head v ++ pixel_bytes (take k ps)) old (pixel_word x) (2 + k) long
    ∙ ap (λ t. t ++ drop (4 * (2 + k) + 4) old) front ∙ ap (λ (n : ℕ). (head v ++ pixel_bytes (take (k + 1) ps)) ++ drop n old) place

pub put_all : (v : View) (ps : List Pixel) (out one two old : List ℕ) (k : ℕ) → length ps ≤ k → k ≤ length ps
    → one ≡ with_word 0 (image_word v.width v.height) old → two ≡ with_word 1 (number_word v.far) one
    → out ≡ (head v ++ pixel_bytes (take k ps)) ++ drop (4 * (2 + k)) two → out ≡ image v ps ++ drop (4 * (2 + length ps)) old
put_all v ps out one two old k h l e f i =
    let n : k ≡ length ps = omega arith in
    let m : 4 * (2 + k) ≡ 8 + 4 * k = omega arith in
    let tail : drop (4 * (2 + k)) two ≡ drop (4 * (2 + k)) old
    = ap (λ (z : ℕ). drop z two) m ∙ sym (drop-drop (4 * k) 8 two) ∙ ap (drop (4 * k)) (ap (drop 8) (put_head v old one two e f) ∙ drop_at (head v) (drop 8 old) 8 refl) ∙ drop-drop (4 * k) 8 old ∙ sym (ap (λ (z : ℕ). drop z old) m) in
    i ∙ ap (λ t. (head v ++ pixel_bytes t) ++ drop (4 * (2 + k)) two) (take_all k ps h) ∙ ap (λ t. image v ps ++ t) tail ∙ ap (λ (m : ℕ). image v ps ++ drop (4 * (2 + m)) old) n

pub length_image : (v : View) (ps : List Pixel) → length (image v ps) ≡ 4 * (2 + length ps)
length_image v ps = omega (arith, length-append (head v) (pixel_bytes ps), length_bytes ps)

-- as they are read back
pub four_back : (w : ℕ) → w < 4294967296 → (w % 256) + 256 * (w / 256 % 256) + 65536 * (w / 65536 % 256) + 16777216 * (w / 16777216 % 256) ≡ w
four_back w h =
    let a : w / 65536 ≡ w / 256 / 256 = omega arith in
    let b : w / 16777216 ≡ w / 65536 / 256 = omega arith in
    let c : w / 16777216 < 256 = omega arith in
    from (w / 256) (w / 65536) (w / 16777216) (omega arith) a b c
  where
    from : (x y z : ℕ) → w ≡ 256 * x + w % 256 → y ≡ x / 256 → z ≡ y / 256 → z < 256 → (w % 256) + 256 * (x % 256) + 65536 * (y % 256) + 16777216 * (z % 256) ≡ w
    from x y z e f g l = omega arith

at_shift : (a b c d : ℕ) (bs : List ℕ) (m n : ℕ) → m ≡ suc (suc (suc (suc n))) → get_or (a ∷ b ∷ c ∷ d ∷ bs) m 0 ≡ get_or bs n 0
at_shift a b c d bs m n e = ap (λ (m : ℕ). get_or (a ∷ b ∷ c ∷ d ∷ bs) m 0) e

next_word : (a b c d : ℕ) (bs : List ℕ) (k : ℕ) → word_in (a ∷ b ∷ c ∷ d ∷ bs) (suc k) ≡ word_in bs k
next_word a b c d bs k =
    omega (
      arith,
      at_shift a b c d bs (4 * suc k) (4 * k) (omega arith),
      at_shift a b c d bs (4 * suc k + 1) (4 * k + 1) (omega arith),
      at_shift a b c d bs (4 * suc k + 2) (4 * k + 2) (omega arith),
      at_shift a b c d bs (4 * suc k + 3) (4 * k + 3) (omega arith),
    )

words_at : (ps : List Pixel) (k : ℕ) → k < length ps → pixel_word (get_or ps k past_the_end) < 4294967296 → word_in (pixel_bytes ps) k ≡ pixel_word (get_or ps k past_the_end)
words_at [] k l h = absurd (omega arith)
words_at (p ∷ ps) zero l h = four_back (pixel_word p) h
words_at (p ∷ ps) (suc k) l h = next_word _ _ _ _ (pixel_bytes ps) k ∙ words_at ps k (omega arith) h

word_small : (far : ℕ) (p : Pixel) → far ≤ 4095 → is_sane far p ≡ true → pixel_word p < 4294967296
word_small far (Marching t n) h e = omega arith
word_small far (Hit d n) h e = omega (arith, hit_parts far d n e)
word_small far (Miss n) h e = omega (arith, leb-true n (far + 1) e)

pub image_start : (v : View) (ps : List Pixel) → word_in (image v ps) 0 ≡ image_word v.width v.height
image_start v ps = four_back (image_word v.width v.height) (omega (arith, v.width_in_range, v.height_in_range))

pub image_far : (v : View) (ps : List Pixel) → word_in (image v ps) 1 ≡ number_word v.far
image_far v ps = four_back (number_word v.far) (omega (arith, v.far_in_range))

pub image_words : (v : View) (ps : List Pixel) (k : ℕ) → k < length ps → is_sane v.far (get_or ps k past_the_end) ≡ true → word_in (image v ps) (2 + k) ≡ pixel_word (get_or ps k past_the_end)
image_words v ps k h e =
    let two : 2 + k ≡ suc (suc k) = omega arith in
    ap (λ (n : ℕ). word_in (image v ps) n) two
    ∙ next_word _ _ _ _ (four_bytes (number_word v.far) ++ pixel_bytes ps) (suc k) ∙ next_word _ _ _ _ (pixel_bytes ps) k
    ∙ words_at ps k h (word_small v.far (get_or ps k past_the_end) v.far_in_range e)

-- a settled pixel's word tells its state
pub state_back : (far : ℕ) (p : Pixel) → far ≤ 4095 → is_sane far p ≡ true → marches p ≡ false → pixel_of_word (pixel_word p) ≡ Some p
state_back far (Marching t n) h e m = absurd (both_ways true m refl)
state_back far (Hit d n) h e m =
    let b = hit_parts far d n e in
    let w : ℕ = pixel_word (Hit d n) in
    let kind : (kind_and_rest w).0 ≡ 11 = omega arith in
    let depth : (kind_and_rest w).1 / 65536 ≡ d = omega arith in
    let rest : (kind_and_rest w).1 % 65536 ≡ n = omega arith in
    ap (λ (k : ℕ). pixel_of_kind k (kind_and_rest w).1) kind
    ∙ ap (λ (x : ℕ). Some (Hit x ((kind_and_rest w).1 % 65536))) depth ∙ ap (λ (x : ℕ). Some (Hit d x)) rest
state_back far (Miss n) h e m =
    let b = leb-true n (far + 1) e in
    let w : ℕ = pixel_word (Miss n) in
    let kind : (kind_and_rest w).0 ≡ 12 = omega arith in
    let rest : (kind_and_rest w).1 ≡ n = omega arith in
    ap (λ (k : ℕ). pixel_of_kind k (kind_and_rest w).1) kind ∙ ap (pixel_of_kind 12) rest
    ∙ cond-true (ltb n 65536) _ _ (lt-ltb n 65536 (omega arith))
