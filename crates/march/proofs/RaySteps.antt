-- One ray, by the clearance c and the members M at each t of it.
use Rattle.std.proofs.Common.{◌≡◌, ℕ, zero, suc, ◌+◌, ◌-◌, ◌<◌, ◌≤◌, min, Bool, true, false, cond, eqb, ltb, leb, sym, refl, ap, ◌∙◌, subst, inl, inr, suc-add, zero-add, one-add, arith}
use Rattle.std.proofs.lemmas.Bool.{cond_both, cond-true, eqb-true, eqb-false, ltb-true, ltb-false, cases_Bool, both_ways, cases_lt, and_from, and_parts, le-leb, leb-true}
use Rattle.march.specs.declared.pixel.Pixel.{Pixel}
use Rattle.march.specs.declared.pixel.Pixel.TheVariants.{Marching, Hit, Miss}
use Rattle.march.specs.March.{after_probe, after_step, marches, probes, is_sane, settle, Takes, hits, misses, goes_on, IsRight}

-- the three ways that a step can go
pub stepped_by : (P : Pixel → Type 0) (far t n c : ℕ) → (c ≡ 0 → P (Hit t (n + 1))) → (0 < c → far < t + c → P (Miss (n + 1))) → (0 < c → t + c ≤ far → P (Marching (t + c) (n + 1))) → P (after_probe far t n c)
stepped_by P far t n c hit miss on =
    cond_both (eqb c 0) (Hit t (n + 1)) (cond (ltb far (t + c)) (Miss (n + 1)) (Marching (t + c) (n + 1))) P
    (λ e. hit (eqb-true c 0 e))
    (λ e. let some : 0 < c = omega (arith, eqb-false c 0 e) in
    cond_both (ltb far (t + c)) (Miss (n + 1)) (Marching (t + c) (n + 1)) P
    (λ l. miss some (ltb-true far (t + c) l))
    (λ l. on some (ltb-false far (t + c) l)))

-- a step wants no clearance above what leads one past the end
pub stepped_up_to : (far t n c : ℕ) → t ≤ far → after_probe far t n (min (far - t + 1) c) ≡ after_probe far t n c
stepped_up_to far t n c le =
    stepped_by (λ p. after_probe far t n (min (far - t + 1) c) ≡ p) far t n c
    (λ z. let e : min (far - t + 1) c ≡ c = omega arith in ap (after_probe far t n) e ∙ sym (stepped_by (λ p. Hit t (n + 1) ≡ p) far t n c (λ _. refl) (λ y _. absurd (omega arith)) (λ y _. absurd (omega arith))))
    (λ y l. stepped_by (λ p. p ≡ Miss (n + 1)) far t n (min (far - t + 1) c) (λ z. absurd (omega arith)) (λ _ _. refl) (λ _ z. absurd (omega arith)))
    (λ y l. let e : min (far - t + 1) c ≡ c = omega arith in ap (after_probe far t n) e ∙ sym (stepped_by (λ p. Marching (t + c) (n + 1) ≡ p) far t n c (λ z. absurd (omega arith)) (λ _ z. absurd (omega arith)) (λ _ _. refl)))

-- what each step keeps, settling keeps
pub settled_keeps : (P : Pixel → Type 0) (clear : ℕ → ℕ) (far : ℕ) → ((t n : ℕ) → P (Marching t n) → P (after_probe far t n (clear t))) → (budget : ℕ) (p : Pixel) → P p → P (settle clear far budget p).0
settled_keeps P clear far step zero p h = h
settled_keeps P clear far step (suc b) (Marching t n) h = settled_keeps P clear far step b (after_probe far t n (clear t)) (step t n h)
settled_keeps P clear far step (suc b) (Hit d n) h = h
settled_keeps P clear far step (suc b) (Miss n) h = h

-- a settled pixel is left as it is
pub settled_stays : (clear : ℕ → ℕ) (far budget : ℕ) (p : Pixel) → marches p ≡ false → settle clear far budget p ≡ (p, budget)
settled_stays clear far zero p e = refl
settled_stays clear far (suc b) (Marching t n) e = absurd (both_ways true e refl)
settled_stays clear far (suc b) (Hit d n) e = refl
settled_stays clear far (suc b) (Miss n) e = refl

-- the bounds on a pixel's numbers
pub sane_parts : (far t n : ℕ) → is_sane far (Marching t n) ≡ true → (t ≤ far) × (n ≤ t)
sane_parts far t n e = let p = and_parts (leb t far) (leb n t) e in (leb-true t far p.0, leb-true n t p.1)

pub sane_step : (far t n c : ℕ) → t ≤ far → n ≤ t → is_sane far (after_probe far t n c) ≡ true
sane_step far t n c h l =
    stepped_by (λ p. is_sane far p ≡ true) far t n c
    (λ _. and_from (leb t far) (leb (n + 1) (far + 1)) (le-leb t far h) (le-leb (n + 1) (far + 1) (omega arith)))
    (λ _ _. le-leb (n + 1) (far + 1) (omega arith))
    (λ some on. and_from (leb (t + c) far) (leb (n + 1) (t + c)) (le-leb (t + c) far on) (le-leb (n + 1) (t + c) (omega arith)))

pub sane_on : (far t n c : ℕ) → is_sane far (Marching t n) ≡ true → is_sane far (after_probe far t n c) ≡ true
sane_on far t n c e = let h = sane_parts far t n e in sane_step far t n c h.0 h.1

-- the step of a pixel that a march leaves
stepped_sane : (clear : ℕ → ℕ) (far t n : ℕ) → is_sane far (Marching t n) ≡ true → after_step clear far (Marching t n) ≡ after_probe far t n (clear t)
stepped_sane clear far t n e = cond-true (is_sane far (Marching t n)) _ _ e

pub sane_after : (clear : ℕ → ℕ) (far : ℕ) (p : Pixel) → is_sane far p ≡ true → is_sane far (after_step clear far p) ≡ true
sane_after clear far (Marching t n) e = ap (is_sane far) (stepped_sane clear far t n e) ∙ sane_on far t n (clear t) e
sane_after clear far (Hit d n) e = e
sane_after clear far (Miss n) e = e

pub settled_after : (clear : ℕ → ℕ) (far budget : ℕ) (p : Pixel) → marches p ≡ true → is_sane far p ≡ true → settle clear far budget (after_step clear far p) ≡ settle clear far (suc budget) p
settled_after clear far b (Marching t n) m e = ap (settle clear far b) (stepped_sane clear far t n e)
settled_after clear far b (Hit d n) m e = absurd (both_ways false refl m)
settled_after clear far b (Miss n) m e = absurd (both_ways false refl m)

pub sane_probes : (far : ℕ) (p : Pixel) → is_sane far p ≡ true → probes p ≤ far + 1
sane_probes far (Marching t n) e = let h = sane_parts far t n e in omega arith
sane_probes far (Hit d n) e = leb-true n (far + 1) (and_parts (leb d far) (leb n (far + 1)) e).1
sane_probes far (Miss n) e = leb-true n (far + 1) e

-- A clearance along a ray that tells of its members: it is 0 at members alone, and no member ahead is nearer.
pub record Clears (M : ℕ → Bool) (far : ℕ) (c : ℕ → ℕ) : Type 0 where
  pub hit : (t : ℕ) → t ≤ far → c t ≡ 0 → M t ≡ true
  pub ahead : (t u : ℕ) → t ≤ far → t ≤ u → M u ≡ true → c t ≤ u - t

module _ (M : ℕ → Bool) (far : ℕ) (c : ℕ → ℕ) (cl : Clears M far c) where
  free : (t u : ℕ) → t ≤ far → t ≤ u → u < t + c t → M u ≡ false
  free t u ht le lt = elim (cases_Bool (M u)) [ inl e ↦ absurd (omega (arith, cl.ahead t u ht le e)) | inr e ↦ e ]

  -- where no member lies before t, none lies before the point to which a step goes
  pub free_on : (t : ℕ) → t ≤ far → ((u : ℕ) → u < t → M u ≡ false) → (u : ℕ) → u < t + c t → M u ≡ false
  free_on t ht none u lt = elim (cases_lt u t) [ inl a ↦ none u a | inr b ↦ free t u ht b lt ]

  pub right_step : (t n : ℕ) → IsRight M far (Marching t n) → IsRight M far (after_probe far t n (c t))
  right_step t n h =
      stepped_by (IsRight M far) far t n (c t)
      (λ e. (h.0, record { there = cl.hit t h.0 e; none_before = h.1 }))
      (λ some past. λ u le. free_on t h.0 h.1 u (omega arith))
      (λ some on. (on, λ u lt. free_on t h.0 h.1 u lt))

  pub right_settled : (budget : ℕ) (p : Pixel) → IsRight M far p → IsRight M far (settle c far budget p).0
  right_settled = settled_keeps (IsRight M far) c far right_step

-- A rival along the ray: its clearance r is 0 at members alone, and falls by at most 1 at each t.
pub record Rides (M : ℕ → Bool) (far : ℕ) (r : ℕ → ℕ) : Type 0 where
  pub hit : (t : ℕ) → t ≤ far → r t ≡ 0 → M t ≡ true
  pub slope : (s t : ℕ) → s ≤ t → t ≤ far → r s ≤ r t + (t - s)

-- of the m probes that the rival takes in all, it has some k left to take from a place that is no further
abbrev pub Lags : (ℕ → ℕ) → ℕ → ℕ → Pixel → Type 0
Lags r far m (Marching t n) = (s : ℕ) × (k : ℕ) × (s ≤ t) × (m ≡ n + k) × Takes r far s k
Lags r far m (Hit d n) = n ≤ m
Lags r far m (Miss n) = n ≤ m

pub some_probe : {r : ℕ → ℕ} {far s k : ℕ} → Takes r far s k → 1 ≤ k
some_probe (hits e) = omega arith
some_probe (misses a b) = omega arith
some_probe (goes_on a b t) = omega arith

-- where the march goes on, the rival has to probe once more, and is then no further
abbrev Behind : (ℕ → ℕ) → (far at k : ℕ) → Type 0
Behind r far at k = (s : ℕ) × (j : ℕ) × (s ≤ at) × (k ≡ suc j) × Takes r far s j

behind : (M : ℕ → Bool) (far : ℕ) (r : ℕ → ℕ) → Rides M far r → (t c : ℕ) → t ≤ far → 0 < c → ((u : ℕ) → u < t + c → M u ≡ false) → r t ≤ c → t + c ≤ far → {s k : ℕ} → s ≤ t → Takes r far s k → Behind r far (t + c) k
behind M far r ri t c ht some none le on {s} sle (hits e) = absurd (both_ways (M s) (none s (omega arith)) (ri.hit s (omega arith) e))
behind M far r ri t c ht some none le on {s} sle (misses a b) = absurd (omega (arith, ri.slope s t sle ht))
behind M far r ri t c ht some none le on {s} sle (goes_on {n = j} a b k) = (s + r s, j, omega (arith, ri.slope s t sle ht), refl, k)

pub lags_step : (M : ℕ → Bool) (far : ℕ) (r c : ℕ → ℕ) → Rides M far r → Clears M far c → ((t : ℕ) → t ≤ far → r t ≤ c t) → (m t n : ℕ) → IsRight M far (Marching t n) → Lags r far m (Marching t n) → Lags r far m (after_probe far t n (c t))
lags_step M far r c ri cl under m t n h (s, k, sle, e, takes) =
    stepped_by (Lags r far m) far t n (c t)
    (λ _. omega (arith, some_probe takes))
    (λ _ _. omega (arith, some_probe takes))
    (λ some on.
    let b = behind M far r ri t (c t) h.0 some (free_on M far c cl t h.0 h.1) (under t h.0) on sle takes in
    (b.0, b.1, b.2, omega (arith, b.3), b.4))

pub lags_ends : (r : ℕ → ℕ) (far m : ℕ) (p : Pixel) → marches p ≡ false → Lags r far m p → probes p ≤ m
lags_ends r far m (Marching t n) e h = absurd (both_ways true e refl)
lags_ends r far m (Hit d n) e h = h
lags_ends r far m (Miss n) e h = h

-- each march settles, over any clearance, within far + 1 probes from the start
pub takes_some : (c : ℕ → ℕ) (far fuel t : ℕ) → t ≤ far → far < t + fuel → (n : ℕ) × (n ≤ fuel) × Takes c far t n
takes_some c far zero t le h = absurd (omega arith)
takes_some c far (suc fuel) t le h = from (c t) refl (takes_some c far fuel (t + c t))
  where
    from : (d : ℕ) → c t ≡ d → (t + c t ≤ far → far < t + c t + fuel → (n : ℕ) × (n ≤ fuel) × Takes c far (t + c t) n) → (n : ℕ) × (n ≤ suc fuel) × Takes c far t n
    from zero e _ = (1, omega arith, hits e)
    from (suc d) e more =
        elim (cases_lt far (t + c t)) [
          | inl past ↦ (1, omega arith, misses (omega arith) past)
          | inr on ↦ let m = more on (omega arith) in (suc m.0, omega arith, goes_on (omega arith) on m.2)
        ]

-- a march that takes k probes is settled by any budget of k or more, with k probes more, and leaves the rest of the budget
abbrev pub Settles : (ℕ → ℕ) → (far budget left m : ℕ) → Pixel → Type 0
Settles c far budget left m p = (marches (settle c far budget p).0 ≡ false) × (probes (settle c far budget p).0 ≡ m) × ((settle c far budget p).1 ≡ left)

hit_settles : (c : ℕ → ℕ) (far b d n : ℕ) → Settles c far b b n (Hit d n)
hit_settles c far zero d n = (refl, refl, refl)
hit_settles c far (suc b) d n = (refl, refl, refl)

miss_settles : (c : ℕ → ℕ) (far b n : ℕ) → Settles c far b b n (Miss n)
miss_settles c far zero n = (refl, refl, refl)
miss_settles c far (suc b) n = (refl, refl, refl)

pub takes_settles : (c : ℕ → ℕ) (far b n : ℕ) {t k : ℕ} → Takes c far t k → Settles c far (k + b) b (n + k) (Marching t n)
takes_settles c far b n (hits {t} e) =
    rw (one-add b) (stepped_by (Settles c far b b (n + 1)) far t n (c t) (λ _. hit_settles c far b t (n + 1)) (λ y z. absurd (omega arith)) (λ y z. absurd (omega arith)))
takes_settles c far b n (misses {t} a l) =
    rw (one-add b) (stepped_by (Settles c far b b (n + 1)) far t n (c t) (λ y. absurd (omega arith)) (λ _ _. miss_settles c far b (n + 1)) (λ y z. absurd (omega arith)))
takes_settles c far b n (goes_on {t} {n = k} a l x) =
    rw (suc-add k b) (stepped_by (Settles c far (k + b) b (n + suc k)) far t n (c t) (λ y. absurd (omega arith)) (λ y z. absurd (omega arith))
    (λ _ _. let ih = takes_settles c far b (n + 1) x in (ih.0, omega (arith, ih.1), ih.2)))

-- whatever the clearance, a march is settled by far + 1 steps, and by more in the same way
pub settled_ends : (c : ℕ → ℕ) (far b t n : ℕ) → t ≤ far → far < t + b → marches (settle c far b (Marching t n)).0 ≡ false
settled_ends c far b t n le h =
    let k = takes_some c far b t le h in
    let e : k.0 + (b - k.0) ≡ b = omega arith in
    subst (λ (b : ℕ). marches (settle c far b (Marching t n)).0 ≡ false) e (takes_settles c far (b - k.0) n k.2).0

settled_more : (c : ℕ → ℕ) (far b r : ℕ) (p : Pixel) → marches (settle c far b p).0 ≡ false → (settle c far (b + r) p).0 ≡ (settle c far b p).0
settled_more c far zero r p e = rw (zero-add r) (ap (λ (s : Pixel × ℕ). s.0) (settled_stays c far r p e))
settled_more c far (suc b) r (Marching t n) e = rw (suc-add b r) (settled_more c far b r (after_probe far t n (c t)) e)
settled_more c far (suc b) r (Hit d n) e = rw (suc-add b r) refl
settled_more c far (suc b) r (Miss n) e = rw (suc-add b r) refl

pub settled_same : (c : ℕ → ℕ) (far a b t n : ℕ) → t ≤ far → far < t + a → a ≤ b → (settle c far b (Marching t n)).0 ≡ (settle c far a (Marching t n)).0
settled_same c far a b t n le h more =
    let e : a + (b - a) ≡ b = omega arith in
    ap (λ (b : ℕ). (settle c far b (Marching t n)).0) (sym e) ∙ settled_more c far a (b - a) (Marching t n) (settled_ends c far a t n le h)
