-- Each line of a log is right.
use Rattle.std.proofs.Common.{◌≡◌, ℕ, ◌+◌, ◌-◌, ◌*◌, ◌<◌, true, false, cond, eqb, ltb, leb, List, [], ◌∷◌, length, get_or, set, sym, refl, ap, ◌∙◌, inl, inr, arith, length-set}
use mathlib.Core.Path.{subst⁻¹}
use Rattle.std.proofs.lemmas.List.{get_or-set_same, get_or-set_other}
use Rattle.std.proofs.lemmas.Bool.{and_parts, and_from, cond_both, leb-true, leb-false, ltb-true, lt-ltb, eqb-true, eqb-false, both_ways}
use Rattle.solid.specs.Body.{Body}
use Rattle.march.specs.declared.pixel.Pixel.{Pixel}
use Rattle.march.specs.declared.view.View.{View}
use Rattle.march.specs.March.{marches, is_sane, settle}
use Rattle.march.specs.Deep.{is_deep}
use Rattle.march.specs.View.{has_pixel}
use Rattle.plate_log.specs.declared.fault.PlateFault.TheVariants.{NoPixel, Shallow, StillMarching, NoRoom}
use Rattle.plate_log.specs.Sweep.{past_the_end, sweep, count_marching}
use Rattle.plate_log.specs.Image.{image}
use Rattle.plate_log.specs.Log.{Call, Answer, sweeping, touching, reading, writing, counted, wrote, area, place_of, pixel_in, line_of, log_from, clear_on_ray, clear_at}
use Rattle.plate_log.specs.Lines.{StepsTo, Inside, Outside, Sweeps, Touches, pixel_of_word, IsImage, LineIsRight, LinesAreRight}
use Rattle.plate_log.proofs.Lift.{sane_log, did}
use Rattle.plate_log.proofs.Sums.{swept_sum, swept_left, swept_length, settled_left, touched_sum, line_length}
use Rattle.plate_log.proofs.Place.{place_in, at_pixel}
use Rattle.plate_log.proofs.Sanity.{none_marching}
use Rattle.plate_log.proofs.Bytes.{length_image, image_start, image_far, image_words, state_back}
use Rattle.plate_log.proofs.Steps.{settled_steps, settled_spent, swept_steps, swept_spent, swept_order}

-- what is known of the pixels at each line
pub record Known (v : View) (ps : List Pixel) : Type 0 where
  pub long : length ps ≡ area v
  pub sane : (k : ℕ) → is_sane v.far (get_or ps k past_the_end) ≡ true

imaged : (v : View) (ps : List Pixel) → Known v ps → count_marching ps ≡ 0 → IsImage v ps (image v ps)
imaged v ps known none =
    let at : (i j : ℕ) → Inside v i j → place_of v i j < length ps = λ i j h. omega (arith, place_in v i j h.0 h.1, known.long) in
    record {
      long = length_image v ps ∙ ap (λ (n : ℕ). 4 * (2 + n)) known.long;
      start = image_start v ps;
      far = image_far v ps;
      words = λ i j h. image_words v ps (place_of v i j) (at i j h) (known.sane (place_of v i j));
      shown = λ i j h.
          ap pixel_of_word (image_words v ps (place_of v i j) (at i j h) (known.sane (place_of v i j)))
          ∙ state_back v.far (pixel_in v ps i j) v.far_in_range (known.sane (place_of v i j)) (none_marching ps (place_of v i j) none);
    }

pub has_parts : (v : View) (i j : ℕ) → has_pixel v i j ≡ true → Inside v i j
has_parts v i j e = let h = and_parts (ltb i v.width) (ltb j v.height) e in (ltb-true i v.width h.0, ltb-true j v.height h.1)

has_none : {A : Type 0} (v : View) (i j : ℕ) → has_pixel v i j ≡ false → Inside v i j → A
has_none v i j e h = absurd (both_ways (has_pixel v i j) e (and_from (ltb i v.width) (ltb j v.height) (lt-ltb i v.width h.0) (lt-ltb j v.height h.1)))

not_in : {A : Type 0} (v : View) (i j : ℕ) → Inside v i j → Outside v i j → A
not_in v i j h (inl a) = absurd (omega arith)
not_in v i j h (inr b) = absurd (omega arith)

sweeps : (v : View) (ps : List Pixel) (b : Body) (budget : ℕ) → let s = sweep (clear_on_ray v b) v.far budget 0 ps in Sweeps v b budget (budget - s.1) ps s.0
sweeps v ps b budget =
    let clear = clear_on_ray v b in
    let s = sweep clear v.far budget 0 ps in
    let left = swept_left clear v.far budget 0 ps in
    record {
      as_many = swept_length clear v.far budget 0 ps;
      counts = omega (arith, swept_sum clear v.far budget 0 ps);
      within = omega arith;
      walks = λ i j h. at_pixel (λ x y. (k : ℕ) × StepsTo (clear_at v b x y) v.far k (pixel_in v ps i j) (pixel_in v s.0 i j)) v i j h.0
          (swept_steps clear v.far budget (place_of v i j) (place_of v i j) 0 (omega arith) ps);
      all_spent = λ i j h e. omega (arith, swept_spent clear v.far budget 0 (place_of v i j) ps e);
      in_order = λ i j x y _ _ lt e. swept_order clear v.far budget 0 (place_of v i j) (place_of v x y) ps lt e;
    }

touches : (v : View) (ps : List Pixel) (i j : ℕ) (b : Body) (budget : ℕ) → Inside v i j → place_of v i j < length ps
    → let s = settle (clear_on_ray v b (place_of v i j)) v.far budget (pixel_in v ps i j) in Touches v i j b budget (budget - s.1) ps (set ps (place_of v i j) s.0)
touches v ps i j b budget h inside =
    let k = place_of v i j in
    let clear = clear_on_ray v b k in
    let p = pixel_in v ps i j in
    let s = settle clear v.far budget p in
    let left = settled_left clear v.far budget p in
    let new : get_or (set ps k s.0) k past_the_end ≡ s.0 = get_or-set_same ps k s.0 past_the_end inside in
    record {
      as_many = length-set ps k s.0;
      counts = omega (arith, touched_sum clear v.far budget ps k);
      within = omega arith;
      walks = subst⁻¹ (StepsTo (clear_at v b i j) v.far (budget - s.1) p) new
          (at_pixel (λ x y. StepsTo (clear_at v b x y) v.far (budget - s.1) p s.0) v i j h.0 (settled_steps clear v.far budget p (budget - s.1) (omega arith)));
      all_spent = λ e. omega (arith, settled_spent clear v.far budget p (sym (ap marches new) ∙ e));
      others = λ m ne. get_or-set_other ps k m s.0 past_the_end ne;
    }

abbrev At : View → List Pixel → Call → Answer × List Pixel → Type 0
At v ps c r = LineIsRight v ps c r.0 r.1

line_is_right : (v : View) (ps : List Pixel) (c : Call) → Known v ps → At v ps c (line_of v ps c)
line_is_right v ps (sweeping b budget) known =
    cond_both (is_deep b) _ _ (At v ps (sweeping b budget))
    (λ e. let h = leb-true 32767 b.reach e in ((λ l. absurd (omega arith)), λ _. (budget - (sweep (clear_on_ray v b) v.far budget 0 ps).1, (refl, sweeps v ps b budget))))
    (λ e. let h = leb-false 32767 b.reach e in ((λ _. (Shallow, (refl, refl, refl))), λ l. absurd (omega arith)))
line_is_right v ps (touching i j b budget) known =
    cond_both (has_pixel v i j) _ _ (At v ps (touching i j b budget))
    (λ e. let h = has_parts v i j e in
    cond_both (is_deep b) _ _ (At v ps (touching i j b budget))
    (λ d. let l = leb-true 32767 b.reach d in
    let k = place_of v i j in
    let s = settle (clear_on_ray v b k) v.far budget (get_or ps k past_the_end) in
    let inside : k < length ps = omega (arith, place_in v i j h.0 h.1, known.long) in (
      not_in v i j h,
      (λ _ m. absurd (omega arith)),
      λ _ _. (
        budget - s.1,
        (
          ap (λ (r : Pixel). counted (budget - s.1) (cond (marches r) 1 0)) (sym (get_or-set_same ps k s.0 past_the_end inside)),
          touches v ps i j b budget h inside,
        ),
      ),
    ))
    (λ d. let l = leb-false 32767 b.reach d in (not_in v i j h, (λ _ _. (Shallow, (refl, refl, refl))), λ _ m. absurd (omega arith))))
    (λ e. ((λ _. (NoPixel, (refl, refl, refl))), (λ h. has_none v i j e h), (λ h. has_none v i j e h)))
line_is_right v ps (reading i j) known =
    cond_both (has_pixel v i j) _ _ (At v ps (reading i j))
    (λ e. let h = has_parts v i j e in (not_in v i j h, λ _. (refl, refl)))
    (λ e. ((λ _. (NoPixel, (refl, refl, refl))), λ h. has_none v i j e h))
line_is_right v ps (writing room) known =
    cond_both (eqb (count_marching ps) 0) _ _ (At v ps (writing room))
    (λ e. let z = eqb-true (count_marching ps) 0 e in
    cond_both (leb (4 * (2 + length ps)) room) _ _ (At v ps (writing room))
    (λ d. let l = leb-true (4 * (2 + length ps)) room d in (
      (λ m. absurd (omega arith)),
      (λ _ m. absurd (omega (arith, known.long))),
      λ _ _. (image v ps, (ap (λ (n : ℕ). wrote (4 * (2 + n)) (image v ps)) known.long, refl, imaged v ps known z)),
    ))
    (λ d. let l = leb-false (4 * (2 + length ps)) room d in
    ((λ m. absurd (omega arith)), (λ _ _. (NoRoom, (refl, refl, refl))), λ _ m. absurd (omega (arith, known.long)))))
    (λ e. let n = eqb-false (count_marching ps) 0 e in ((λ _. (StillMarching, (refl, refl, refl))), (λ m. absurd (n m)), (λ m. absurd (n m))))

known_line : (v : View) (ps : List Pixel) (c : Call) → Known v ps → Known v (line_of v ps c).1
known_line v ps c known = record {
  long = line_length v ps c (line_of v ps c) (did v ps c) ∙ known.long;
  sane = λ k. sane_log v k (c ∷ []) ps (known.sane k);
}

pub lines : (v : View) (cs : List Call) (ps : List Pixel) → Known v ps → LinesAreRight v ps (log_from v ps cs)
lines v [] ps known = tt
lines v (c ∷ cs) ps known = (line_is_right v ps c known, lines v cs (line_of v ps c).1 (known_line v ps c known))
