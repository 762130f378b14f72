-- What the calls on a plate's records answer and leave, as lines of a log.
use mir.Val.{bool_byte}
use Rattle.std.proofs.Common.{Bool, ◌≡◌, ℕ, ◌+◌, ◌-◌, ◌*◌, ◌<◌, ◌≤◌, true, false, cond, eqb, leb, List, ◌++◌, length, get_or, take, drop, set, replicate, Ok, Err, Result, sym, refl, ap, ◌∙◌, mul-le-mul, arith, length-append, length-drop, take-append-drop}
use lib.ListN.{length-replicate}
use lib.Seq.{set-append_left}
use Rattle.std.proofs.lemmas.List.{take_at, length-take-le, get_or-take, get_or_default}
use Rattle.std.proofs.lemmas.Bool.{cond-true, cond-false, cond_both, le-leb, lt-leb, eq-eqb, ne_eqb}
use Rattle.solid.specs.Body.{Body}
use Rattle.march.specs.declared.pixel.Pixel.{Pixel}
use Rattle.march.specs.declared.view.View.{View}
use Rattle.march.specs.declared.fault.PixelFault.{PixelFault}
use Rattle.march.specs.declared.fault.PixelFault.TheVariants.{NoPixel}
use Rattle.march.specs.View.{place_answer, has_pixel}
use Rattle.march.specs.March.{new_pixel, settle, marches}
use Rattle.march.specs.Deep.{is_deep}
use Rattle.plate_log.specs.declared.fault.PlateFault.TheVariants.{StillMarching, NoRoom}
use Rattle.plate_log.specs.Sweep.{past_the_end, sweep, count_marching, are_sane}
use Rattle.plate_log.specs.Image.{image}
use Rattle.plate_log.specs.Log.{Call, Answer, sweeping, touching, reading, writing, counted, read_as, wrote, refused, line_of, clear_on_ray, clear_at, area, place_of}
use Rattle.plate_log.specs.Records.{line_on_records, pixels_of}
use Rattle.plate_log.specs.Answers.{bytes_after, write_on_bytes}
use Rattle.plate_log.specs.Law.{Promise}
use Rattle.plate_log.proofs.Lift.{did}
use Rattle.plate_log.proofs.Sums.{swept_length, line_length}
use Rattle.plate_log.proofs.Place.{place_in, from_pixel}
use Rattle.plate_log.proofs.Sanity.{sane_fresh}
use Rattle.plate_log.proofs.Bytes.{length_image}
use Rattle.plate_log.proofs.Lines.{has_parts}
use Rattle.plate_log.proofs.Upshot.{promised}

-- the size of a view
pub small : (v : View) → area v ≤ 4096
small v = mul-le-mul v.width_in_range v.height_in_range

pub long_pixels : (v : View) (rs : List Pixel) → area v ≤ length rs → length (pixels_of v rs) ≡ area v
long_pixels v rs h = length-take-le (area v) rs h

-- the line of a call is what the plate promises of it
pub promise : (v : View) (rs qs : List Pixel) (c : Call) (a : Answer) → area v ≤ length rs → ◌≡◌ {A = Answer × List Pixel} (a, qs) (line_on_records v rs c) → Promise v rs qs c
promise v rs qs c a room e =
    let l = line_of v (pixels_of v rs) c in
    let long : length l.1 ≡ area v = line_length v (pixels_of v rs) c l (did v (pixels_of v rs) c) ∙ long_pixels v rs room in
    let front : pixels_of v qs ≡ l.1 = ap (λ (x : Answer × List Pixel). pixels_of v x.1) e ∙ take_at l.1 (drop (area v) rs) (area v) long in
    promised v (pixels_of v rs) (pixels_of v qs) c l.0 (ap (λ (qs : List Pixel). (l.0, qs)) front)

-- a call that changes no pixel
quiet : (v : View) (rs : List Pixel) (c : Call) (a : Answer) → line_of v (pixels_of v rs) c ≡ (a, pixels_of v rs) → ◌≡◌ {A = Answer × List Pixel} (a, rs) (line_on_records v rs c)
quiet v rs c a e =
    sym (ap (λ (l : Answer × List Pixel). (l.0, l.1 ++ drop (area v) rs)) e ∙ ap (λ (qs : List Pixel). (a, qs)) (take-append-drop (area v) rs))

-- sweep: the first n records, which are the pixels, as a sweep leaves them
module _ (v : View) (rs ps : List Pixel) (b : Body) (budget n : ℕ) (all : n ≡ area v) (is : ps ≡ (sweep (clear_on_ray v b) v.far budget 0 (take n rs)).0) where
  pub sweep_done : (spent left : ℕ) → 32767 ≤ b.reach → spent ≡ budget - (sweep (clear_on_ray v b) v.far budget 0 (take n rs)).1 → left ≡ count_marching ps
      → ◌≡◌ {A = Answer × List Pixel} (counted spent left, ps ++ drop n rs) (line_on_records v rs (sweeping b budget))
  sweep_done spent left h f m =
      let s = sweep (clear_on_ray v b) v.far budget 0 (take n rs) in
      ap (λ (left : ℕ). (counted spent left, ps ++ drop n rs)) m
      ∙ ap (λ (ps : List Pixel). (counted spent (count_marching ps), ps ++ drop n rs)) is
      ∙ ap (λ (spent : ℕ). (counted spent (count_marching s.0), s.0 ++ drop n rs)) f
      ∙ ap (λ (n : ℕ). let s = sweep (clear_on_ray v b) v.far budget 0 (take n rs) in (counted (budget - s.1) (count_marching s.0), s.0 ++ drop n rs)) all
      ∙ sym (ap (λ (l : Answer × List Pixel). (l.0, l.1 ++ drop (area v) rs)) (cond-true (is_deep b) _ _ (le-leb 32767 b.reach h)))

  pub long_swept : area v ≤ length rs → length ps ≡ n
  long_swept room = ap length is ∙ swept_length (clear_on_ray v b) v.far budget 0 (take n rs) ∙ length-take-le n rs (omega arith)

-- the pixel (i, j)
pub record Placed (v : View) (i j k : ℕ) : Type 0 where
  pub is : k ≡ place_of v i j
  pub has_it : has_pixel v i j ≡ true
  pub within : (i < v.width) × (j < v.height)
  pub inside : k < area v

pub placed : (v : View) (i j k : ℕ) (o : Result ℕ PixelFault) → o ≡ place_answer v i j → o ≡ Ok k → Placed v i j k
placed v i j k o is e = from (sym is ∙ e)
  where
    from : place_answer v i j ≡ Ok k → Placed v i j k
    from = cond_both (has_pixel v i j) (Ok (place_of v i j)) (Err NoPixel) (λ (o : Result ℕ PixelFault). o ≡ Ok k → Placed v i j k)
        (λ h e.
        let w = has_parts v i j h in
        let at : k ≡ place_of v i j = cc in
        record { is = at; has_it = h; within = w; inside = omega (arith, place_in v i j w.0 w.1) })
        (λ _ e. let z : ◌≡◌ {A = ℕ} 0 1 = cc in absurd (omega arith))

-- what the code reads at a place of the records is the pixel there
at_place : (n k : ℕ) (rs : List Pixel) → k < n → n ≤ length rs → get_or rs k new_pixel ≡ get_or (take n rs) k past_the_end
at_place n k rs h l = get_or_default rs k new_pixel past_the_end (omega arith) ∙ sym (get_or-take n rs k past_the_end h)

-- read
pub read_done : (v : View) (rs : List Pixel) (i j k : ℕ) → area v ≤ length rs → Placed v i j k → ◌≡◌ {A = Answer × List Pixel} (read_as (get_or rs k new_pixel), rs) (line_on_records v rs (reading i j))
read_done v rs i j k room p =
    quiet v rs (reading i j) (read_as (get_or rs k new_pixel))
    (cond-true (has_pixel v i j) _ _ p.has_it
    ∙ ap (λ (k : ℕ). (read_as (get_or (pixels_of v rs) k past_the_end), pixels_of v rs)) (sym p.is) ∙ ap (λ (q : Pixel). (read_as q, pixels_of v rs)) (sym (at_place (area v) k rs p.inside room)))

-- touch: a test as the number that the code makes of it
pub one_where : (b : Bool) → bool_byte b ≡ cond b 1 0
one_where true = refl
one_where false = refl

-- the pixel's state and what is left of the budget, as the code has them from the record at k
abbrev Touched : View → List Pixel → (i j k : ℕ) → Body → ℕ → Pixel × ℕ
Touched v rs i j k b budget = settle (clear_at v b i j) v.far budget (get_or rs k new_pixel)

pub touch_done : (v : View) (rs : List Pixel) (q : Pixel) (i j k : ℕ) (b : Body) (budget spent left : ℕ) → area v ≤ length rs → Placed v i j k → 32767 ≤ b.reach
    → q ≡ (Touched v rs i j k b budget).0 → spent ≡ budget - (Touched v rs i j k b budget).1 → left ≡ cond (marches q) 1 0
    → ◌≡◌ {A = Answer × List Pixel} (counted spent left, set rs k q) (line_on_records v rs (touching i j b budget))
touch_done v rs q i j k b budget spent left room p h e f m =
    let ps = pixels_of v rs in
    let s = Touched v rs i j k b budget in
    let whole : set rs k s.0 ≡ set ps k s.0 ++ drop (area v) rs
    = ap (λ (rs : List Pixel). set rs k s.0) (sym (take-append-drop (area v) rs)) ∙ set-append_left ps (drop (area v) rs) k s.0 (omega (arith, p.inside, long_pixels v rs room)) in
    let is : s ≡ settle (clear_on_ray v b (place_of v i j)) v.far budget (get_or ps k past_the_end)
    = from_pixel (λ x y. s ≡ settle (clear_at v b x y) v.far budget (get_or rs k new_pixel)) v i j p.within.0 refl
    ∙ ap (settle (clear_on_ray v b (place_of v i j)) v.far budget) (at_place (area v) k rs p.inside room) in
    ap (λ (left : ℕ). (counted spent left, set rs k q)) m
    ∙ ap (λ (q : Pixel). (counted spent (cond (marches q) 1 0), set rs k q)) e
    ∙ ap (λ (n : ℕ). (counted n (cond (marches s.0) 1 0), set rs k s.0)) f
    ∙ ap (λ (qs : List Pixel). (counted (budget - s.1) (cond (marches s.0) 1 0), qs)) whole
    ∙ ap (λ (s : Pixel × ℕ). (counted (budget - s.1) (cond (marches s.0) 1 0), set ps k s.0 ++ drop (area v) rs)) is
    ∙ ap (λ (k : ℕ). let s = settle (clear_on_ray v b (place_of v i j)) v.far budget (get_or ps k past_the_end) in (counted (budget - s.1) (cond (marches s.0) 1 0), set ps k s.0 ++ drop (area v) rs)) p.is
    ∙ sym (ap (λ (l : Answer × List Pixel). (l.0, l.1 ++ drop (area v) rs)) (cond-true (has_pixel v i j) _ _ p.has_it ∙ cond-true (is_deep b) _ _ (le-leb 32767 b.reach h)))

-- write: the answer, with what is left in the bytes, and the promise
abbrev Wrote : View → List Pixel → List ℕ → Answer → List ℕ → Type 0
Wrote v rs old a out = (◌≡◌ {A = Answer × List ℕ} (a, out) (write_on_bytes v rs old)) × Promise v rs rs (writing (length old))

wrote_by : (v : View) (rs : List Pixel) (old : List ℕ) (a : Answer) (out : List ℕ) → area v ≤ length rs → line_of v (pixels_of v rs) (writing (length old)) ≡ (a, pixels_of v rs) → out ≡ bytes_after a old → Wrote v rs old a out
wrote_by v rs old a out room e f = (
  ap (λ (bs : List ℕ). (a, bs)) f ∙ ap (λ (l : Answer × List Pixel). (l.0, bytes_after l.0 old)) (sym e),
  promise v rs rs (writing (length old)) a room (quiet v rs (writing (length old)) a e),
)

module _ (v : View) (rs ps : List Pixel) (old : List ℕ) (is : ps ≡ pixels_of v rs) (room : area v ≤ length rs) where
  pub write_early : 0 < count_marching ps → Wrote v rs old (refused StillMarching) old
  write_early h =
      let some : 0 < count_marching (pixels_of v rs) = omega (arith, ap count_marching is) in
      wrote_by v rs old (refused StillMarching) old room (cond-false (eqb (count_marching (pixels_of v rs)) 0) _ _ (ne_eqb (count_marching (pixels_of v rs)) 0 (λ e. omega arith))) refl

  none : count_marching ps ≡ 0 → eqb (count_marching (pixels_of v rs)) 0 ≡ true
  none e = eq-eqb (count_marching (pixels_of v rs)) 0 (sym (ap count_marching is) ∙ e)

  pub write_tight : count_marching ps ≡ 0 → length old < 4 * (2 + length ps) → Wrote v rs old (refused NoRoom) old
  write_tight e h =
      let size = 4 * (2 + length (pixels_of v rs)) in
      wrote_by v rs old (refused NoRoom) old room
      (cond-true (eqb (count_marching (pixels_of v rs)) 0) _ _ (none e) ∙ cond-false (leb size (length old)) _ _ (lt-leb size (length old) (omega (arith, ap length is)))) refl

  pub write_done : (out : List ℕ) → count_marching ps ≡ 0 → 4 * (2 + length ps) ≤ length old → out ≡ image v ps ++ drop (4 * (2 + length ps)) old
      → Wrote v rs old (wrote (4 * (2 + length ps)) (take (4 * (2 + length ps)) out)) out
  write_done out e h f =
      let n = 4 * (2 + length ps) in
      let size = 4 * (2 + length (pixels_of v rs)) in
      let front : take n out ≡ image v ps = ap (take n) f ∙ take_at (image v ps) (drop n old) n (length_image v ps) in
      wrote_by v rs old (wrote n (take n out)) out room
      (cond-true (eqb (count_marching (pixels_of v rs)) 0) _ _ (none e) ∙ cond-true (leb size (length old)) _ _ (le-leb size (length old) (omega (arith, ap length is)))
      ∙ ap (λ (qs : List Pixel). (wrote (4 * (2 + length qs)) (image v qs), pixels_of v rs)) (sym is) ∙ ap (λ (bs : List ℕ). (wrote n bs, pixels_of v rs)) (sym front))
      (f ∙ ap (λ (bs : List ℕ). bs ++ drop n old) (sym front))

-- open
pub new_room : (n : ℕ) (rs old : List Pixel) → n ≤ length old → rs ≡ replicate n new_pixel ++ drop n old → n ≤ length rs
new_room n rs old h e =
    let l : length rs ≡ n + (length old - n) = ap length e ∙ length-append (replicate n new_pixel) (drop n old) ∙ simp (length-replicate, length-drop) in
    omega arith

pub new_front : (n : ℕ) (rs old : List Pixel) → rs ≡ replicate n new_pixel ++ drop n old → take n rs ≡ replicate n new_pixel
new_front n rs old e = ap (take n) e ∙ take_at (replicate n new_pixel) (drop n old) n (length-replicate n new_pixel)

pub new_front_sane : (far n : ℕ) (rs old : List Pixel) → rs ≡ replicate n new_pixel ++ drop n old → are_sane far (take n rs) ≡ true
new_front_sane far n rs old e = ap (are_sane far) (new_front n rs old e) ∙ sane_fresh far n

-- what a plate always has, after its pixels were written
pub front_room : (v : View) (n : ℕ) (ps rs : List Pixel) → n ≡ area v → length ps ≡ n → area v ≤ length (ps ++ drop n rs)
front_room v n ps rs all e = omega (arith, length-append ps (drop n rs))

pub front_sane : (v : View) (n : ℕ) (ps rs : List Pixel) → n ≡ area v → length ps ≡ n → are_sane v.far ps ≡ true → are_sane v.far (take (area v) (ps ++ drop n rs)) ≡ true
front_sane v n ps rs all e s = ap (are_sane v.far) (take_at ps (drop n rs) (area v) (e ∙ all)) ∙ s
