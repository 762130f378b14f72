-- From one pixel's steps to whole logs.
use Rattle.std.proofs.Common.{◌≡◌, ℕ, zero, suc, ◌+◌, ◌-◌, ◌*◌, ◌≤◌, true, cond, eqb, leb, List, [], ◌∷◌, ◌++◌, length, get_or, set, sym, refl, ap, subst, arith}
use Rattle.std.proofs.lemmas.Bool.{cond_both, leb-true}
use Rattle.solid.specs.Body.{Body}
use Rattle.march.specs.declared.pixel.Pixel.{Pixel}
use Rattle.march.specs.declared.pixel.Pixel.TheVariants.{Marching}
use Rattle.march.specs.declared.view.View.{View}
use Rattle.march.specs.March.{after_probe, settle, marches, is_sane}
use Rattle.march.specs.Deep.{is_deep}
use Rattle.march.specs.View.{has_pixel}
use Rattle.march.proofs.RaySteps.{settled_keeps, sane_on}
use Rattle.plate_log.specs.Sweep.{past_the_end, sweep, count_marching}
use Rattle.plate_log.specs.Log.{Call, Line, Answer, sweeping, touching, reading, writing, counted, read_as, wrote, refused, line_of, log_from, pixels_after_lines, clear_on_ray, place_of}
use Rattle.plate_log.specs.Law.{IsBrought, to_sweep, to_touch, later}

-- what a line did to the pixels
abbrev pub swept_by : View → Body → ℕ → List Pixel → List Pixel × ℕ
swept_by v b budget ps = sweep (clear_on_ray v b) v.far budget 0 ps

abbrev pub touched_by : View → Body → ℕ → ℕ → List Pixel → Pixel × ℕ
touched_by v b k budget ps = settle (clear_on_ray v b k) v.far budget (get_or ps k past_the_end)

-- an answer of no probes
abbrev pub Quiet : Answer → Type 0
Quiet (counted s l) = ⊥
Quiet (read_as p) = Unit {0}
Quiet (wrote n bs) = Unit {0}
Quiet (refused f) = Unit {0}

pub data Did (v : View) (ps : List Pixel) : Call → Answer × List Pixel → Type 0 where
  swept_all : {b : Body} {budget : ℕ} → 32767 ≤ b.reach → Did v ps (sweeping b budget) (counted (budget - (swept_by v b budget ps).1) (count_marching (swept_by v b budget ps).0), (swept_by v b budget ps).0)
  touched_one : {i j : ℕ} {b : Body} {budget : ℕ} → 32767 ≤ b.reach → Did v ps (touching i j b budget) (counted (budget - (touched_by v b (place_of v i j) budget ps).1) (cond (marches (touched_by v b (place_of v i j) budget ps).0) 1 0), set ps (place_of v i j) (touched_by v b (place_of v i j) budget ps).0)
  nothing : {c : Call} {a : Answer} → Quiet a → Did v ps c (a, ps)

pub did : (v : View) (ps : List Pixel) (c : Call) → Did v ps c (line_of v ps c)
did v ps (sweeping b budget) =
    cond_both (is_deep b) _ _ (Did v ps (sweeping b budget)) (λ e. swept_all (leb-true 32767 b.reach e)) (λ _. nothing tt)
did v ps (touching i j b budget) =
    cond_both (has_pixel v i j) _ _ (Did v ps (touching i j b budget))
    (λ _. cond_both (is_deep b) _ _ (Did v ps (touching i j b budget)) (λ e. touched_one (leb-true 32767 b.reach e)) (λ _. nothing tt))
    (λ _. nothing tt)
did v ps (reading i j) = cond_both (has_pixel v i j) _ _ (Did v ps (reading i j)) (λ _. nothing tt) (λ _. nothing tt)
did v ps (writing room) =
    cond_both (eqb (count_marching ps) 0) _ _ (Did v ps (writing room))
    (λ _. cond_both (leb (4 * (2 + length ps)) room) _ _ (Did v ps (writing room)) (λ _. nothing tt) (λ _. nothing tt))
    (λ _. nothing tt)

-- one pixel of the list
pub swept_keeps : (P : Pixel → Type 0) (clear : ℕ → ℕ → ℕ) (far j k : ℕ) → ((i : ℕ) → i ≡ j + k → (t n : ℕ) → P (Marching t n) → P (after_probe far t n (clear i t))) → (budget : ℕ) (ps : List Pixel) → P (get_or ps k past_the_end) → P (get_or (sweep clear far budget j ps).0 k past_the_end)
swept_keeps P clear far j k step budget [] h = h
swept_keeps P clear far j zero step budget (p ∷ ps) h = settled_keeps P (clear j) far (step j (omega arith)) budget p h
swept_keeps P clear far j (suc k) step budget (p ∷ ps) h = swept_keeps P clear far (j + 1) k (λ i e. step i (omega arith)) (settle (clear j) far budget p).1 ps h

pub set_keeps : (P : Pixel → Type 0) (ps : List Pixel) (i k : ℕ) (x : Pixel) → (i ≡ k → P x) → P (get_or ps k past_the_end) → P (get_or (set ps i x) k past_the_end)
set_keeps P [] i k x new h = h
set_keeps P (p ∷ ps) zero zero x new h = new refl
set_keeps P (p ∷ ps) zero (suc k) x new h = h
set_keeps P (p ∷ ps) (suc i) zero x new h = h
set_keeps P (p ∷ ps) (suc i) (suc k) x new h = set_keeps P ps i k x (λ e. new (ap suc e)) h

-- one pixel over a log whose bodies, brought to accepted calls, are Good
module _ (v : View) (k : ℕ) (P : Pixel → Type 0) (Good : Body → Type 0)
    (step : (b : Body) → Good b → 32767 ≤ b.reach → (t n : ℕ) → P (Marching t n) → P (after_probe v.far t n (clear_on_ray v b k t))) where
  at_index : (b : Body) → Good b → 32767 ≤ b.reach → (i : ℕ) → k ≡ i → (t n : ℕ) → P (Marching t n) → P (after_probe v.far t n (clear_on_ray v b i t))
  at_index b g d i e = subst (λ (i : ℕ). (t n : ℕ) → P (Marching t n) → P (after_probe v.far t n (clear_on_ray v b i t))) e (step b g d)

  line_keeps : (ps : List Pixel) (ls : List Line) (c : Call) (r : Answer × List Pixel) → Did v ps c r
      → ((b : Body) → IsBrought b (record { call = c; answer = r.0; after = r.1 } ∷ ls) → Good b)
      → P (get_or ps k past_the_end) → P (get_or r.1 k past_the_end)
  line_keeps ps ls _ _ (swept_all {b} {budget} deep-b) good h =
      swept_keeps P (clear_on_ray v b) v.far 0 k (λ i e. at_index b (good b to_sweep) deep-b i (omega arith)) budget ps h
  line_keeps ps ls _ _ (touched_one {i} {j} {b} {budget} deep-b) good h =
      set_keeps P ps (place_of v i j) k (touched_by v b (place_of v i j) budget ps).0
      (λ e. settled_keeps P (clear_on_ray v b (place_of v i j)) v.far (at_index b (good b to_touch) deep-b (place_of v i j) (sym e)) budget (get_or ps (place_of v i j) past_the_end) (rw e h)) h
  line_keeps ps ls _ _ (nothing q) good h = h

  pub log_keeps : (cs : List Call) (ps : List Pixel) → ((b : Body) → IsBrought b (log_from v ps cs) → Good b) → P (get_or ps k past_the_end) → P (get_or (pixels_after_lines ps (log_from v ps cs)) k past_the_end)
  log_keeps [] ps good h = h
  log_keeps (c ∷ cs) ps good h =
      log_keeps cs (line_of v ps c).1 (λ b x. good b (later x)) (line_keeps ps (log_from v (line_of v ps c).1 cs) c (line_of v ps c) (did v ps c) good h)

-- its numbers stay as a march leaves them
pub sane_log : (v : View) (k : ℕ) (cs : List Call) (ps : List Pixel) → is_sane v.far (get_or ps k past_the_end) ≡ true → is_sane v.far (get_or (pixels_after_lines ps (log_from v ps cs)) k past_the_end) ≡ true
sane_log v k cs ps = log_keeps v k (λ p. is_sane v.far p ≡ true) (λ _. Unit {0}) (λ b g d t n h. sane_on v.far t n (clear_on_ray v b k t) h) cs ps (λ _ _. tt)

-- calls and then more
pub log_from_more : (v : View) (cs more : List Call) (ps : List Pixel) → pixels_after_lines ps (log_from v ps (cs ++ more)) ≡ pixels_after_lines (pixels_after_lines ps (log_from v ps cs)) (log_from v (pixels_after_lines ps (log_from v ps cs)) more)
log_from_more v [] more ps = refl
log_from_more v (c ∷ cs) more ps = log_from_more v cs more (line_of v ps c).1

pub log_from-append : (v : View) (cs more : List Call) (ps : List Pixel) → log_from v ps (cs ++ more) ≡ log_from v ps cs ++ log_from v (pixels_after_lines ps (log_from v ps cs)) more
log_from-append v [] more ps = refl
log_from-append v (c ∷ cs) more ps =
    let l = line_of v ps c in
    ap (λ (ls : List Line). record { call = c; answer = l.0; after = l.1 } ∷ ls) (log_from-append v cs more l.1)
