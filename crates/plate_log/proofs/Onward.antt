-- A sweep and a touch on their way, with a budget left: what going on from there gives.
use Rattle.std.proofs.Common.{Ok, Result, ltb, ◌≡◌, ℕ, suc, ◌+◌, ◌-◌, ◌*◌, ◌<◌, ◌≤◌, true, false, List, [], ◌∷◌, ◌++◌, length, get_or, take, drop, set, sym, refl, ap, ◌∙◌, append_assoc, append-nil, add-zero, arith, length-drop, take-append-drop}
use borrow.Rule.Slice.PartMut.{put_mid}
use Rattle.std.proofs.lemmas.List.{drop_more, take_more_set, drop-set-lt, drop-drop, take_all, drop_all, length-take-le}
use Rattle.std.proofs.lemmas.Nat.{mul-le}
use Rattle.std.proofs.lemmas.Slice.{take-put_mid, drop-put_mid}
use Rattle.std.proofs.lemmas.Bool.{and_parts, and_from, cond-true, lt-ltb}
use Rattle.lattice.specs.declared.Point.{Point}
use Rattle.solid.specs.Body.{Body}
use Rattle.march.specs.declared.pixel.Pixel.{Pixel}
use Rattle.march.specs.declared.view.View.{View}
use Rattle.lattice.specs.declared.direction.Direction.{Direction}
use Rattle.march.specs.declared.ray.Ray.{Ray}
use Rattle.march.specs.declared.fault.PixelFault.{PixelFault}
use Rattle.march.specs.View.{along, start, ray_parts, ray_parts_in, ray_parts_answer, has_pixel, clear_along}
use Rattle.march.specs.March.{new_pixel, is_sane, after_step, settle, marches}
use Rattle.march.proofs.RaySteps.{settled_stays, settled_after}
use Rattle.plate_log.specs.Sweep.{are_sane, sweep}
use Rattle.plate_log.specs.Log.{area, place_of, clear_at, clear_on_ray}
use Rattle.plate_log.proofs.Place.{from_pixel}
use Rattle.plate_log.proofs.Steps.{swept_none}
use Rattle.plate_log.proofs.Sums.{swept_length}

-- one pixel
module _ (clear : ℕ → ℕ) (far spent budget : ℕ) (p : Pixel) (goal : Pixel × ℕ) (so_far : settle clear far (budget - spent) p ≡ goal) where
  -- it takes a step
  pub step_on : marches p ≡ true → is_sane far p ≡ true → spent < budget → settle clear far (budget - (spent + 1)) (after_step clear far p) ≡ goal
  step_on m s l =
      let b = budget - (spent + 1) in
      let more : suc b ≡ budget - spent = omega arith in
      settled_after clear far b p m s ∙ ap (λ (c : ℕ). settle clear far c p) more ∙ so_far

  -- it has settled
  pub stays_on : marches p ≡ false → ◌≡◌ {A = Pixel × ℕ} (p, budget - spent) goal
  stays_on m = sym (settled_stays clear far (budget - spent) p m) ∙ so_far

  -- the budget is spent
  pub spent_on : spent ≡ budget → ◌≡◌ {A = Pixel × ℕ} (p, budget - spent) goal
  spent_on e =
      let z : budget - spent ≡ 0 = omega arith in
      ap (λ (b : ℕ). (p, b)) z ∙ sym (ap (λ (b : ℕ). settle clear far b p) z) ∙ so_far

-- the budget as the code counts it: what is spent
pub counted_spent : {A : Type 0} (x : A) (spent budget : ℕ) (goal : A × ℕ) → spent ≤ budget → ◌≡◌ {A = A × ℕ} (x, budget - spent) goal → (x ≡ goal.0) × (spent ≡ budget - goal.1)
counted_spent x spent budget goal l q = let n : budget - spent ≡ goal.1 = ap (λ s. s.1) q in (ap (λ s. s.0) q, omega arith)

-- many pixels
abbrev joined : List Pixel → List Pixel × ℕ → List Pixel × ℕ
joined front s = (front ++ s.0, s.1)

module _ (clear : ℕ → ℕ → ℕ) (far : ℕ) where
  swept_append : (b k : ℕ) (ps qs : List Pixel) → sweep clear far b k (ps ++ qs) ≡ (let s = sweep clear far b k ps in joined s.0 (sweep clear far s.1 (k + length ps) qs))
  swept_append b k [] qs = ap (λ (j : ℕ). sweep clear far b j qs) (sym (add-zero k))
  swept_append b k (p ∷ ps) qs =
      let s = settle (clear k) far b p in
      let r = sweep clear far s.1 (k + 1) ps in
      let e : k + 1 + length ps ≡ k + suc (length ps) = omega arith in
      ap (joined (s.0 ∷ [])) (swept_append s.1 (k + 1) ps qs) ∙ ap (λ (j : ℕ). joined (s.0 ∷ r.0) (sweep clear far r.1 j qs)) e

  abbrev pub onward : ℕ → ℕ → List Pixel → List Pixel × ℕ
  onward k b rs = joined (take k rs) (sweep clear far b k (drop k rs))

  abbrev after : ℕ → List Pixel → Pixel × ℕ → List Pixel × ℕ
  after k t w = (w.0 ∷ (sweep clear far w.1 (k + 1) t).0, (sweep clear far w.1 (k + 1) t).1)

  -- the pixel at k has come as far as the budget goes
  pub next : (k b left : ℕ) (rs : List Pixel) (q : Pixel) (goal : List Pixel × ℕ) → k < length rs → ◌≡◌ {A = Pixel × ℕ} (q, left) (settle (clear k) far b (get_or rs k new_pixel)) → onward k b rs ≡ goal → onward (k + 1) left (set rs k q) ≡ goal
  next k b left rs q goal h e p =
      let rest = drop (k + 1) rs in
      let s = sweep clear far left (k + 1) rest in
      ap (λ l. joined l (sweep clear far left (k + 1) (drop (k + 1) (set rs k q)))) (take_more_set rs k q h)
      ∙ ap (λ l. joined (take k rs ++ (q ∷ [])) (sweep clear far left (k + 1) l)) (drop-set-lt (k + 1) rs k q (omega arith))
      ∙ ap (λ l. (l, s.1)) (append_assoc (take k rs) (q ∷ []) s.0)
      ∙ ap (λ z. joined (take k rs) (after k rest z)) e
      ∙ ap (λ l. joined (take k rs) (sweep clear far b k l)) (sym (drop_more rs k new_pixel h))
      ∙ p

  -- and so has each of the n pixels from k on
  pub next_row : (k n b left : ℕ) (rs qs : List Pixel) (goal : List Pixel × ℕ) → k + n ≤ length rs → ◌≡◌ {A = List Pixel × ℕ} (qs, left) (sweep clear far b k (take n (drop k rs))) → onward k b rs ≡ goal → onward (k + n) left (put_mid k n rs qs) ≡ goal
  next_row k n b left rs qs goal h e p =
      let row = take n (drop k rs) in
      let rest = drop (k + n) rs in
      let wide : length row ≡ n = length-take-le n (drop k rs) (omega (arith, length-drop k rs)) in
      let long : length qs ≡ n = ap (λ (s : List Pixel × ℕ). length s.0) e ∙ swept_length clear far b k row ∙ wide in
      let s = sweep clear far left (k + n) rest in
      let split : row ++ rest ≡ drop k rs = ap (λ l. row ++ l) (sym (drop-drop n k rs)) ∙ take-append-drop n (drop k rs) in
      ap (λ l. joined l (sweep clear far left (k + n) (drop (k + n) (put_mid k n rs qs)))) (take-put_mid k n rs qs (k + n) (omega arith) (omega arith))
      ∙ ap (λ l. joined (take k rs ++ qs) (sweep clear far left (k + n) l)) (drop-put_mid k n rs qs (k + n) (omega arith) (omega arith) long)
      ∙ ap (λ l. (l, s.1)) (append_assoc (take k rs) qs s.0)
      ∙ ap (λ (z : List Pixel × ℕ). joined (take k rs) (joined z.0 (sweep clear far z.1 (k + n) rest))) e
      ∙ ap (λ (j : ℕ). let z = sweep clear far b k row in joined (take k rs) (joined z.0 (sweep clear far z.1 (k + j) rest))) (sym wide)
      ∙ ap (joined (take k rs)) (sym (swept_append b k row rest))
      ∙ ap (λ l. joined (take k rs) (sweep clear far b k l)) split
      ∙ p

  -- every pixel has
  pub no_more : (k b : ℕ) (rs : List Pixel) (goal : List Pixel × ℕ) → length rs ≤ k → onward k b rs ≡ goal → ◌≡◌ {A = List Pixel × ℕ} (rs, b) goal
  no_more k b rs goal h p =
      sym (ap (λ l. joined (take k rs) (sweep clear far b k l)) (drop_all k rs h) ∙ ap (λ l. (l, b)) (append-nil (take k rs) ∙ take_all k rs h)) ∙ p

  -- the budget is spent
  pub no_budget : (k b : ℕ) (rs : List Pixel) (goal : List Pixel × ℕ) → b ≡ 0 → onward k b rs ≡ goal → ◌≡◌ {A = List Pixel × ℕ} (rs, b) goal
  no_budget k b rs goal z p =
      ap (λ (b : ℕ). (rs, b)) z
      ∙ ap (λ l. (l, 0)) (sym (take-append-drop k rs)) ∙ ap (joined (take k rs)) (sym (swept_none clear far k (drop k rs)))
      ∙ sym (ap (λ (b : ℕ). onward k b rs) z) ∙ p

-- the pixels of row j, each by the clearance along its own ray
abbrev pub along_row : View → Body → (j i t : ℕ) → ℕ
along_row v b j i t = clear_at v b i j t

pub row_swept : (v : View) (b : Body) (j i budget : ℕ) (ps : List Pixel) → i + length ps ≤ v.width → sweep (along_row v b j) v.far budget i ps ≡ sweep (clear_on_ray v b) v.far budget (place_of v i j) ps
row_swept v b j i budget [] h = refl
row_swept v b j i budget (p ∷ ps) h =
    let same : clear_at v b i j ≡ clear_on_ray v b (place_of v i j) = from_pixel (λ x y. clear_at v b i j ≡ clear_at v b x y) v i j (omega arith) refl in
    let s = settle (clear_on_ray v b (place_of v i j)) v.far budget p in
    let e : place_of v (i + 1) j ≡ place_of v i j + 1 = omega arith in
    ap (λ (c : ℕ → ℕ). let s = settle c v.far budget p in let r = sweep (along_row v b j) v.far s.1 (i + 1) ps in (s.0 ∷ r.0, r.1)) same
    ∙ ap (λ (r : List Pixel × ℕ). (s.0 ∷ r.0, r.1)) (row_swept v b j (i + 1) s.1 ps (omega arith) ∙ ap (λ (k : ℕ). sweep (clear_on_ray v b) v.far s.1 k ps) e)

-- row j of the pixels, which starts at k and is as long as the view is wide
module _ (v : View) (j k n : ℕ) (ps : List Pixel) (all : length ps ≡ area v) (hj : j < v.height) (starts : k ≡ j * v.width) (wide : n ≡ v.width) where
  pub row_ends : k + n ≤ length ps
  row_ends = omega (arith, mul-le (j + 1) v.width v.height v.width (omega arith) (omega arith))

  pub row_long : length (take n (drop k ps)) ≡ v.width
  row_long = length-take-le n (drop k ps) (omega (arith, length-drop k ps, row_ends)) ∙ wide

  -- each pixel of the row has come as far as the budget goes
  pub row_done : (b : Body) (budget left : ℕ) (qs : List Pixel) (goal : List Pixel × ℕ)
      → ◌≡◌ {A = List Pixel × ℕ} (qs, left) (sweep (along_row v b j) v.far budget 0 (take n (drop k ps)))
      → onward (clear_on_ray v b) v.far (j * v.width) budget ps ≡ goal → onward (clear_on_ray v b) v.far ((j + 1) * v.width) left (put_mid k n ps qs) ≡ goal
  row_done b budget left qs goal e p =
      let row = take n (drop k ps) in
      let on : (j + 1) * v.width ≡ k + n = omega arith in
      ap (λ (x : ℕ). onward (clear_on_ray v b) v.far x left (put_mid k n ps qs)) on
      ∙ next_row (clear_on_ray v b) v.far k n budget left ps qs goal row_ends
      (e ∙ row_swept v b j 0 budget row (omega (arith, row_long)) ∙ ap (λ (x : ℕ). sweep (clear_on_ray v b) v.far budget x row) (add-zero (j * v.width) ∙ sym starts))
      (ap (λ (x : ℕ). onward (clear_on_ray v b) v.far x budget ps) starts ∙ p)

-- the pixels of a list and of its parts
module _ (far : ℕ) where
  sane_both : (ps qs : List Pixel) → are_sane far (ps ++ qs) ≡ true → (are_sane far ps ≡ true) × (are_sane far qs ≡ true)
  sane_both [] qs e = (refl, e)
  sane_both (p ∷ ps) qs e =
      let h = and_parts (is_sane far p) (are_sane far (ps ++ qs)) e in
      let r = sane_both ps qs h.1 in
      (and_from (is_sane far p) (are_sane far ps) h.0 r.0, r.1)

  sane_append : (ps qs : List Pixel) → are_sane far ps ≡ true → are_sane far qs ≡ true → are_sane far (ps ++ qs) ≡ true
  sane_append [] qs e f = f
  sane_append (p ∷ ps) qs e f =
      let h = and_parts (is_sane far p) (are_sane far ps) e in
      and_from (is_sane far p) (are_sane far (ps ++ qs)) h.0 (sane_append ps qs h.1 f)

  sane_split : (n : ℕ) (rs : List Pixel) → are_sane far rs ≡ true → (are_sane far (take n rs) ≡ true) × (are_sane far (drop n rs) ≡ true)
  sane_split n rs e = sane_both (take n rs) (drop n rs) (ap (are_sane far) (take-append-drop n rs) ∙ e)

  pub sane_row : (k n : ℕ) (rs : List Pixel) → are_sane far rs ≡ true → are_sane far (take n (drop k rs)) ≡ true
  sane_row k n rs e = (sane_split n (drop k rs) (sane_split k rs e).1).0

  pub sane_put : (k n : ℕ) (rs qs : List Pixel) → k + n ≤ length rs → length qs ≡ n → are_sane far rs ≡ true → are_sane far qs ≡ true → are_sane far (put_mid k n rs qs) ≡ true
  sane_put k n rs qs h l e f =
      ap (are_sane far) (sym (take-append-drop (k + n) (put_mid k n rs qs)))
      ∙ sane_append (take (k + n) (put_mid k n rs qs)) (drop (k + n) (put_mid k n rs qs))
      (ap (are_sane far) (take-put_mid k n rs qs (k + n) (omega arith) (omega arith)) ∙ sane_append (take k rs) qs (sane_split k rs e).0 f)
      (ap (are_sane far) (drop-put_mid k n rs qs (k + n) (omega arith) (omega arith) l) ∙ (sane_split (k + n) rs e).1)

-- the ray of pixel (i, j)
module _ (v : View) (i j : ℕ) (hi : i < v.width) (hj : j < v.height) (o : Result Ray PixelFault) (is : ray_parts_in o ≡ ray_parts_answer v i j) where
  is_line : ray_parts_in o ≡ Ok (start v i j, v.ray, v.far)
  is_line = is ∙ cond-true (has_pixel v i j) _ _ (and_from (ltb i v.width) (ltb j v.height) (lt-ltb i v.width hi) (lt-ltb j v.height hj))

  pub ray_line : (r : Ray) → o ≡ Ok r → ray_parts r ≡ (start v i j, v.ray, v.far)
  ray_line r e = let q : ray_parts_in (Ok r) ≡ Ok (start v i j, v.ray, v.far) = ap ray_parts_in (sym e) ∙ is_line in cc

-- its far, and the clearance along it
pub ray_far : (v : View) (i j : ℕ) (r : Ray) → ray_parts r ≡ (start v i j, v.ray, v.far) → r.far ≡ v.far
ray_far v i j r e = ap (λ l. l.2) e

-- what it says of a pixel, it says of pixel (i, j)
pub ray_settled : (v : View) (b : Body) (i j budget : ℕ) (r : Ray) (p : Pixel) → ray_parts r ≡ (start v i j, v.ray, v.far) → settle (clear_along b r) r.far budget p ≡ settle (clear_at v b i j) v.far budget p
ray_settled v b i j budget r p e = ap (λ (l : Point × Direction × ℕ). settle (λ t. b.clear (along l.0 t l.1)) l.2 budget p) e
