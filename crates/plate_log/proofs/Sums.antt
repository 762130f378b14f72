-- Probes, budgets and the number of marching pixels.
use Rattle.std.proofs.Common.{◌≡◌, ℕ, zero, suc, ◌+◌, ◌-◌, ◌*◌, ◌<◌, ◌≤◌, true, cond, ◌⊎◌, List, [], ◌∷◌, length, get_or, set, replicate, refl, ap, inl, inr, suc-mul, arith, length-set}
use Rattle.march.specs.declared.pixel.Pixel.{Pixel}
use Rattle.march.specs.declared.pixel.Pixel.TheVariants.{Marching, Hit, Miss}
use Rattle.march.specs.declared.view.View.{View}
use Rattle.march.specs.March.{new_pixel, after_probe, settle, marches, probes, is_sane}
use Rattle.march.proofs.RaySteps.{stepped_by, settled_keeps, sane_parts, sane_probes}
use Rattle.plate_log.specs.Sweep.{past_the_end, sweep, count_marching, count_probes}
use Rattle.plate_log.specs.Log.{Call, Line, Answer, sweeping, touching, reading, writing, counted, read_as, wrote, refused, line_of, log_from, pixels_after_lines, clear_on_ray, place_of}
use Rattle.plate_log.specs.Law.{probes_in, budget_in, probes_answered, sweep_budgets}
use Rattle.plate_log.proofs.Lift.{Did, did, swept_all, touched_one, nothing, Quiet, swept_by, touched_by}

abbrev pub one_if : Pixel → ℕ
one_if p = cond (marches p) 1 0

-- one pixel
probes_stepped : (far t n c : ℕ) → probes (after_probe far t n c) ≡ n + 1
probes_stepped far t n c = stepped_by (λ p. probes p ≡ n + 1) far t n c (λ _. refl) (λ _ _. refl) (λ _ _. refl)

pub settled_sum : (clear : ℕ → ℕ) (far b : ℕ) (p : Pixel) → probes (settle clear far b p).0 + (settle clear far b p).1 ≡ probes p + b
settled_sum clear far zero p = refl
settled_sum clear far (suc b) (Marching t n) = omega (arith, settled_sum clear far b (after_probe far t n (clear t)), probes_stepped far t n (clear t))
settled_sum clear far (suc b) (Hit d n) = refl
settled_sum clear far (suc b) (Miss n) = refl

pub settled_left : (clear : ℕ → ℕ) (far b : ℕ) (p : Pixel) → (settle clear far b p).1 ≤ b
settled_left clear far zero p = omega arith
settled_left clear far (suc b) (Marching t n) = omega (arith, settled_left clear far b (after_probe far t n (clear t)))
settled_left clear far (suc b) (Hit d n) = omega arith
settled_left clear far (suc b) (Miss n) = omega arith

pub settled_rest : (clear : ℕ → ℕ) (far b : ℕ) (p : Pixel) → 0 < (settle clear far b p).1 → one_if (settle clear far b p).0 ≡ 0
settled_rest clear far zero p h = absurd (omega arith)
settled_rest clear far (suc b) (Marching t n) h = settled_rest clear far b (after_probe far t n (clear t)) h
settled_rest clear far (suc b) (Hit d n) h = refl
settled_rest clear far (suc b) (Miss n) h = refl

at_most_one : (p : Pixel) → one_if p ≤ 1
at_most_one (Marching t n) = omega arith
at_most_one (Hit d n) = omega arith
at_most_one (Miss n) = omega arith

settled_fewer : (clear : ℕ → ℕ) (far b : ℕ) (p : Pixel) → one_if (settle clear far b p).0 ≤ one_if p
settled_fewer clear far b p = settled_keeps (λ q. one_if q ≤ one_if p) clear far (λ t n h. omega (arith, at_most_one (after_probe far t n (clear t)))) b p (omega arith)

-- a sweep
pub swept_sum : (clear : ℕ → ℕ → ℕ) (far b k : ℕ) (ps : List Pixel) → count_probes (sweep clear far b k ps).0 + (sweep clear far b k ps).1 ≡ count_probes ps + b
swept_sum clear far b k [] = refl
swept_sum clear far b k (p ∷ ps) = omega (arith, settled_sum (clear k) far b p, swept_sum clear far (settle (clear k) far b p).1 (k + 1) ps)

pub swept_left : (clear : ℕ → ℕ → ℕ) (far b k : ℕ) (ps : List Pixel) → (sweep clear far b k ps).1 ≤ b
swept_left clear far b k [] = omega arith
swept_left clear far b k (p ∷ ps) = omega (arith, settled_left (clear k) far b p, swept_left clear far (settle (clear k) far b p).1 (k + 1) ps)

pub swept_rest : (clear : ℕ → ℕ → ℕ) (far b k : ℕ) (ps : List Pixel) → 0 < (sweep clear far b k ps).1 → count_marching (sweep clear far b k ps).0 ≡ 0
swept_rest clear far b k [] h = refl
swept_rest clear far b k (p ∷ ps) h =
    let some : 0 < (settle (clear k) far b p).1 = omega (arith, swept_left clear far (settle (clear k) far b p).1 (k + 1) ps) in
    omega (arith, settled_rest (clear k) far b p some, swept_rest clear far (settle (clear k) far b p).1 (k + 1) ps h)

swept_fewer : (clear : ℕ → ℕ → ℕ) (far b k : ℕ) (ps : List Pixel) → count_marching (sweep clear far b k ps).0 ≤ count_marching ps
swept_fewer clear far b k [] = omega arith
swept_fewer clear far b k (p ∷ ps) = omega (arith, settled_fewer (clear k) far b p, swept_fewer clear far (settle (clear k) far b p).1 (k + 1) ps)

pub swept_length : (clear : ℕ → ℕ → ℕ) (far b k : ℕ) (ps : List Pixel) → length (sweep clear far b k ps).0 ≡ length ps
swept_length clear far b k [] = refl
swept_length clear far b k (p ∷ ps) = ap suc (swept_length clear far (settle (clear k) far b p).1 (k + 1) ps)

-- a touch
pub touched_sum : (clear : ℕ → ℕ) (far b : ℕ) (ps : List Pixel) (k : ℕ) → count_probes (set ps k (settle clear far b (get_or ps k past_the_end)).0) + (settle clear far b (get_or ps k past_the_end)).1 ≡ count_probes ps + b
touched_sum clear far zero [] k = refl
touched_sum clear far (suc b) [] k = refl
touched_sum clear far b (p ∷ ps) zero = omega (arith, settled_sum clear far b p)
touched_sum clear far b (p ∷ ps) (suc k) = omega (arith, touched_sum clear far b ps k)

set_fewer : (ps : List Pixel) (k : ℕ) (x : Pixel) → one_if x ≤ one_if (get_or ps k past_the_end) → count_marching (set ps k x) ≤ count_marching ps
set_fewer [] k x h = omega arith
set_fewer (p ∷ ps) zero x h = omega arith
set_fewer (p ∷ ps) (suc k) x h = omega (arith, set_fewer ps k x h)

-- a line
probes_in-Quiet : (a : Answer) → Quiet a → probes_in a ≡ 0
probes_in-Quiet (counted s l) q = absurd q
probes_in-Quiet (read_as p) q = refl
probes_in-Quiet (wrote n bs) q = refl
probes_in-Quiet (refused f) q = refl

budget_in-Quiet : (c : Call) (a : Answer) → Quiet a → budget_in c a ≡ 0
budget_in-Quiet (sweeping b budget) (counted s l) q = absurd q
budget_in-Quiet (sweeping b budget) (read_as p) q = refl
budget_in-Quiet (sweeping b budget) (wrote n bs) q = refl
budget_in-Quiet (sweeping b budget) (refused f) q = refl
budget_in-Quiet (touching i j b budget) a q = refl
budget_in-Quiet (reading i j) a q = refl
budget_in-Quiet (writing room) a q = refl

line_sum : (v : View) (ps : List Pixel) (c : Call) (r : Answer × List Pixel) → Did v ps c r → count_probes r.1 ≡ count_probes ps + probes_in r.0
line_sum v ps _ _ (swept_all {b} {budget} d) = omega (arith, swept_sum (clear_on_ray v b) v.far budget 0 ps, swept_left (clear_on_ray v b) v.far budget 0 ps)
line_sum v ps _ _ (touched_one {i} {j} {b} {budget} d) = omega (arith, touched_sum (clear_on_ray v b (place_of v i j)) v.far budget ps (place_of v i j), settled_left (clear_on_ray v b (place_of v i j)) v.far budget (get_or ps (place_of v i j) past_the_end))
line_sum v ps _ _ (nothing {a} q) = omega (arith, probes_in-Quiet a q)

line_fewer : (v : View) (ps : List Pixel) (c : Call) (r : Answer × List Pixel) → Did v ps c r → count_marching r.1 ≤ count_marching ps
line_fewer v ps _ _ (swept_all {b} {budget} d) = swept_fewer (clear_on_ray v b) v.far budget 0 ps
line_fewer v ps _ _ (touched_one {i} {j} {b} {budget} d) = set_fewer ps (place_of v i j) (touched_by v b (place_of v i j) budget ps).0 (settled_fewer (clear_on_ray v b (place_of v i j)) v.far budget (get_or ps (place_of v i j) past_the_end))
line_fewer v ps _ _ (nothing q) = omega arith

pub line_length : (v : View) (ps : List Pixel) (c : Call) (r : Answer × List Pixel) → Did v ps c r → length r.1 ≡ length ps
line_length v ps _ _ (swept_all {b} {budget} d) = swept_length (clear_on_ray v b) v.far budget 0 ps
line_length v ps _ _ (touched_one {i} {j} {b} {budget} d) = length-set ps (place_of v i j) (touched_by v b (place_of v i j) budget ps).0
line_length v ps _ _ (nothing q) = refl

line_either : (v : View) (ps : List Pixel) (c : Call) (r : Answer × List Pixel) → Did v ps c r → (count_marching r.1 ≡ 0) ⊎ (budget_in c r.0 ≤ probes_in r.0)
line_either v ps _ _ (swept_all {b} {budget} d) = at_left (swept_by v b budget ps).1 refl
  where
    at_left : (l : ℕ) → (swept_by v b budget ps).1 ≡ l → (count_marching (swept_by v b budget ps).0 ≡ 0) ⊎ (budget ≤ budget - (swept_by v b budget ps).1)
    at_left zero e = inr (omega arith)
    at_left (suc l) e = inl (swept_rest (clear_on_ray v b) v.far budget 0 ps (omega arith))
line_either v ps _ _ (touched_one d) = inr (omega arith)
line_either v ps _ _ (nothing {c} {a} q) = inr (omega (arith, budget_in-Quiet c a q))

-- a log
pub log_sum : (v : View) (cs : List Call) (ps : List Pixel) → count_probes (pixels_after_lines ps (log_from v ps cs)) ≡ count_probes ps + probes_answered (log_from v ps cs)
log_sum v [] ps = omega arith
log_sum v (c ∷ cs) ps = omega (arith, line_sum v ps c (line_of v ps c) (did v ps c), log_sum v cs (line_of v ps c).1)

log_fewer : (v : View) (cs : List Call) (ps : List Pixel) → count_marching (pixels_after_lines ps (log_from v ps cs)) ≤ count_marching ps
log_fewer v [] ps = omega arith
log_fewer v (c ∷ cs) ps = omega (arith, line_fewer v ps c (line_of v ps c) (did v ps c), log_fewer v cs (line_of v ps c).1)

pub log_length : (v : View) (cs : List Call) (ps : List Pixel) → length (pixels_after_lines ps (log_from v ps cs)) ≡ length ps
log_length v [] ps = refl
log_length v (c ∷ cs) ps = omega (arith, line_length v ps c (line_of v ps c) (did v ps c), log_length v cs (line_of v ps c).1)

-- nothing marches any more, or the sweeps spent all that they were given
pub log_either : (v : View) (cs : List Call) (ps : List Pixel) → (count_marching (pixels_after_lines ps (log_from v ps cs)) ≡ 0) ⊎ (sweep_budgets (log_from v ps cs) ≤ probes_answered (log_from v ps cs))
log_either v [] ps = inr (omega arith)
log_either v (c ∷ cs) ps = join (line_either v ps c (line_of v ps c) (did v ps c)) (log_either v cs (line_of v ps c).1)
  where
    rest : List Line
    rest = log_from v (line_of v ps c).1 cs

    join : (count_marching (line_of v ps c).1 ≡ 0) ⊎ (budget_in c (line_of v ps c).0 ≤ probes_in (line_of v ps c).0) → (count_marching (pixels_after_lines (line_of v ps c).1 rest) ≡ 0) ⊎ (sweep_budgets rest ≤ probes_answered rest)
        → (count_marching (pixels_after_lines (line_of v ps c).1 rest) ≡ 0) ⊎ (budget_in c (line_of v ps c).0 + sweep_budgets rest ≤ probes_in (line_of v ps c).0 + probes_answered rest)
    join (inl a) y = inl (omega (arith, log_fewer v cs (line_of v ps c).1))
    join (inr a) (inl b) = inl b
    join (inr a) (inr b) = inr (omega arith)

-- a pixel has room for far + 1 probes, and while it marches one is left
sane_room : (far : ℕ) (p : Pixel) → is_sane far p ≡ true → probes p + one_if p ≤ far + 1
sane_room far (Marching t n) h = omega (arith, sane_parts far t n h)
sane_room far (Hit d n) h = omega (arith, sane_probes far (Hit d n) h)
sane_room far (Miss n) h = omega (arith, sane_probes far (Miss n) h)

pub room : (far : ℕ) (ps : List Pixel) → ((k : ℕ) → is_sane far (get_or ps k past_the_end) ≡ true) → count_probes ps + count_marching ps ≤ length ps * (far + 1)
room far [] h = omega arith
room far (p ∷ ps) h = rw (suc-mul (length ps) (far + 1)) (omega (arith, sane_room far p (h 0), room far ps (λ k. h (suc k))))

pub spent_new : (n : ℕ) → count_probes (replicate n new_pixel) ≡ 0
spent_new zero = refl
spent_new (suc n) = omega (arith, spent_new n)
