-- Whole: every log of a plate.
use Rattle.std.proofs.Common.{◌≡◌, ℕ, zero, suc, ◌+◌, ◌*◌, ◌/◌, ◌%◌, ◌<◌, ◌≤◌, Bool, true, false, List, [], ◌∷◌, ◌++◌, length, get_or, sym, refl, ap, ◌∙◌, subst, inl, inr, mod-lt, mul_comm, div-lt_iff_lt-mul, zero-mul, arith}
use mathlib.Core.Path.{subst⁻¹}
use lib.ListN.{length-replicate, get_or-replicate}
use Rattle.std.proofs.lemmas.Bool.{both_ways}
use Rattle.lattice.specs.declared.Point.{Point}
use Rattle.lattice.specs.Space.{In}
use Rattle.solid.specs.Body.{Body, Lawful}
use Rattle.piles.proofs.Piles.{pile_lawful, pile_members, piles_stand}
use Rattle.piles.proofs.Near.{near_decides}
use Rattle.march.specs.declared.pixel.Pixel.{Pixel}
use Rattle.march.specs.declared.view.View.{View}
use Rattle.march.specs.View.{start, point}
use Rattle.march.specs.March.{new_pixel, marches, is_sane, Takes, IsRight}
use Rattle.march.proofs.Space.{point_in}
use Rattle.march.proofs.RaySteps.{Clears, Rides, right_step, Lags, lags_step, lags_ends, takes_some}
use Rattle.march.proofs.Bodies.{body_clears, body_rides}
use Rattle.plate_log.specs.Sweep.{past_the_end, count_marching, count_probes}
use Rattle.plate_log.specs.Log.{Call, Answer, log, line_of, log_from, new_pixels, pixels_after, pixel_after, clear_on_ray, clear_at, place_of, area}
use Rattle.plate_log.specs.Law.{IsBrought, SameMembers, IsPileOf, PixelShows, probes_answered, sweep_budgets, calls_of, Rival, LogHolds, EveryMarchSettles, Whole}
use Rattle.plate_log.proofs.Lift.{log_keeps, sane_log, log_from_more, log_from-append}
use Rattle.plate_log.proofs.Place.{place_in, at_pixel, from_pixel}
use Rattle.plate_log.proofs.Sanity.{new_sane}
use Rattle.plate_log.proofs.Lines.{lines}
use Rattle.plate_log.proofs.Sums.{log_sum, log_length, log_either, room, spent_new}

abbrev LawfulOf : (Point → Bool) → Body → Type 0
LawfulOf M b = Lawful b × SameMembers b.member M

some_left : (w h k : ℕ) → k < w * h → 0 < w
some_left zero h k l = absurd (omega (arith, zero-mul h))
some_left (suc w) h k l = omega arith

-- the pixel at place k
module _ (v : View) (k : ℕ) (hk : k < area v) where
  abbrev pt : ℕ → Point
  pt t = point v (k % v.width) (k / v.width) t

  pt_in : (t : ℕ) → t ≤ v.far → In 32767 (pt t)
  pt_in t h =
      let wide : 0 < v.width = some_left v.width v.height k hk in
      point_in v (k % v.width) (k / v.width) t (mod-lt k wide) ((div-lt_iff_lt-mul wide).1 (rw (mul_comm v.height v.width) hk)) h

  new_here : (P : Pixel → Type 0) → P new_pixel → P (get_or (new_pixels v) k past_the_end)
  new_here P h = subst⁻¹ P (get_or-replicate (area v) k new_pixel past_the_end hk) h

  clears : (M : Point → Bool) (b : Body) → LawfulOf M b → 32767 ≤ b.reach → Clears (λ t. M (pt t)) v.far (clear_on_ray v b k)
  clears M b lawful deep = body_clears (start v (k % v.width) (k / v.width)) v.ray v.far pt_in M b lawful.0 deep lawful.1

  rides : (M : Point → Bool) (r : Body) → LawfulOf M r → 32767 ≤ r.reach → Rides (λ t. M (pt t)) v.far (clear_on_ray v r k)
  rides M r lawful deep = body_rides (start v (k % v.width) (k / v.width)) v.ray v.far pt_in M r lawful.0 deep lawful.1

  right : (cs : List Call) (M : Point → Bool) → ((b : Body) → IsBrought b (log v cs) → LawfulOf M b) → IsRight (λ t. M (pt t)) v.far (get_or (pixels_after v cs) k past_the_end)
  right cs M lawful =
      let P : Pixel → Type 0 = IsRight (λ t. M (pt t)) v.far in
      log_keeps v k P (LawfulOf M) (λ b g deep t n h. right_step (λ t. M (pt t)) v.far (clear_on_ray v b k) (clears M b g deep) t n h) cs (new_pixels v) lawful
      (new_here P (omega arith, λ u lt. absurd (omega arith)))

  lags : (cs : List Call) (M : Point → Bool) → ((b : Body) → IsBrought b (log v cs) → LawfulOf M b) → (r : Body) → Rival v M cs r → (m : ℕ) → Takes (clear_on_ray v r k) v.far 0 m → Lags (clear_on_ray v r k) v.far m (get_or (pixels_after v cs) k past_the_end)
  lags cs M lawful r rival m takes =
      let P : Pixel → Type 0 = λ p. IsRight (λ t. M (pt t)) v.far p × Lags (clear_on_ray v r k) v.far m p in
      let Good : Body → Type 0 = λ b. LawfulOf M b × ((p : Point) → In 32767 p → r.clear p ≤ b.clear p) in
      let ri = rides M r (rival.lawful, rival.members) rival.deep_enough in
      (log_keeps v k P Good
      (λ b g deep t n h.
      let cl = clears M b g.0 deep in (
        right_step (λ t. M (pt t)) v.far (clear_on_ray v b k) cl t n h.0,
        lags_step (λ t. M (pt t)) v.far (clear_on_ray v r k) (clear_on_ray v b k) ri cl (λ t le. g.1 (pt t) (pt_in t le)) m t n h.0 h.1,
      ))
      cs (new_pixels v) (λ b x. (lawful b x, rival.no_more b x))
      (new_here P ((omega arith, λ u lt. absurd (omega arith)), (0, m, omega arith, omega arith, takes)))).1

after_sane : (v : View) (cs : List Call) (k : ℕ) → is_sane v.far (get_or (pixels_after v cs) k past_the_end) ≡ true
after_sane v cs k = sane_log v k cs (new_pixels v) (new_sane v.far (area v) k)

counts : (v : View) (cs : List Call) → count_probes (pixels_after v cs) ≡ probes_answered (log v cs)
counts v cs = omega (arith, log_sum v cs (new_pixels v), spent_new (area v))

ends : (v : View) (cs : List Call) → area v * (v.far + 1) ≤ sweep_budgets (log v cs) → count_marching (pixels_after v cs) ≡ 0
ends v cs h = elim (log_either v cs (new_pixels v)) [ inl e ↦ e | inr le ↦ omega (arith, counts v cs, all_room) ]
  where
    all : length (pixels_after v cs) ≡ area v
    all = log_length v cs (new_pixels v) ∙ length-replicate (area v) new_pixel

    all_room : count_probes (pixels_after v cs) + count_marching (pixels_after v cs) ≤ area v * (v.far + 1)
    all_room = subst (λ (n : ℕ). count_probes (pixels_after v cs) + count_marching (pixels_after v cs) ≤ n * (v.far + 1)) all (room v.far (pixels_after v cs) (after_sane v cs))

lasting : (v : View) (cs more : List Call) (k : ℕ) → marches (get_or (pixels_after v cs) k past_the_end) ≡ false → get_or (pixels_after v (cs ++ more)) k past_the_end ≡ get_or (pixels_after v cs) k past_the_end
lasting v cs more k e =
    let q : Pixel = get_or (pixels_after v cs) k past_the_end in
    ap (λ ps. get_or ps k past_the_end) (log_from_more v cs more (new_pixels v))
    ∙ log_keeps v k (λ p. p ≡ q) (λ _. Unit {0})
    (λ b g d t n h. absurd (both_ways (marches q) e (sym (ap marches h)))) more (pixels_after v cs) (λ _ _. tt) refl

each : (v : View) (cs : List Call) (ps : List Pixel) → calls_of (log_from v ps cs) ≡ cs
each v [] ps = refl
each v (c ∷ cs) ps = ap (λ (ds : List Call). c ∷ ds) (each v cs (line_of v ps c).1)

piled_lawful : (M : Point → Bool) (b : Body) → IsPileOf M b → LawfulOf M b
piled_lawful M b (N, e, pile, same) = (pile_lawful pile, λ p. pile_members pile p ∙ same p)

pub held : (v : View) (cs : List Call) → LogHolds v cs
held v cs = record {
  each = each v cs (new_pixels v);
  lines = lines v cs (new_pixels v) (record { long = length-replicate (area v) new_pixel; sane = new_sane v.far (area v) });
  counts = counts v cs;
  ends = ends v cs;
  lasting = λ more i j _ e. lasting v cs more (place_of v i j) e;
  shown = λ M piles.
      let lawful : (b : Body) → IsBrought b (log v cs) → LawfulOf M b = λ b x. piled_lawful M b (piles b x) in
      record {
        shows = λ i j h. at_pixel (λ a b. PixelShows v M a b (pixel_after v cs i j)) v i j h.0 (right v (place_of v i j) (place_in v i j h.0 h.1) cs M lawful);
        fewest = λ i j h e r rival n takes.
            lags_ends (clear_on_ray v r (place_of v i j)) v.far n (pixel_after v cs i j) e
            (lags v (place_of v i j) (place_in v i j h.0 h.1) cs M lawful r rival n (from_pixel (λ a b. Takes (clear_at v r a b) v.far 0 n) v i j h.0 takes));
      };
}

settles : EveryMarchSettles
settles v b _ i j _ = let t = takes_some (clear_at v b i j) v.far (v.far + 1) 0 (omega arith) (omega arith) in (t.0, t.2)

pub whole : Whole
whole = record {
  piles = piles_stand;
  near = near_decides;
  logs = held;
  prefixes = λ v cs more. log_from-append v cs more (new_pixels v);
  settles = settles;
}

-- one call more, as the plate answers it
pub promised : (v : View) (ps qs : List Pixel) (c : Call) (a : Answer) → ◌≡◌ {A = Answer × List Pixel} (a, qs) (line_of v ps c)
    → (cs : List Call) → ps ≡ pixels_after v cs → (qs ≡ pixels_after v (cs ++ (c ∷ []))) × LogHolds v (cs ++ (c ∷ []))
promised v ps qs c a e cs h = (
  ap (λ x. x.1) e ∙ ap (λ ps. (line_of v ps c).1) h ∙ sym (log_from_more v cs (c ∷ []) (new_pixels v)),
  held v (cs ++ (c ∷ [])),
)
