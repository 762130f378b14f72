-- One sweep over a body that is deep enough, on a plate that was newly opened, and the image of what stands then.
use Rattle.std.proofs.Common.{◌≡◌, ℕ, ◌+◌, ◌*◌, ◌<◌, ◌≤◌, Bool, true, eqb, ltb, leb, List, [], ◌∷◌, ◌++◌, length, drop, replicate, is_ok, Ok, Err, Result, sym, refl, ap, ◌∙◌, subst, inl, inr, mul-le-mul, arith, lit≤}
use mathlib.Core.Path.{subst⁻¹}
use lib.ListN.{length-replicate}
use Rattle.std.proofs.lemmas.List.{take_at, drop_at, get_or_append_left}
use Rattle.std.proofs.lemmas.Bool.{cond-true, cond-false, le-leb, le-ltb, eq-eqb}
use Rattle.lattice.specs.declared.Point.{Point}
use Rattle.solid.specs.Body.{Body}
use Rattle.march.specs.declared.pixel.Pixel.{Pixel}
use Rattle.march.specs.declared.view.View.{View}
use Rattle.march.specs.declared.fault.ViewFault.{ViewFault}
use Rattle.march.specs.declared.view.ViewNumbers.{ViewNumbers}
use Rattle.march.specs.March.{new_pixel}
use Rattle.march.specs.Checks.{PlainView, plain_view, view_answer}
use Rattle.plate_log.specs.declared.fault.PlateFault.{PlateFault}
use Rattle.plate_log.specs.Sweep.{count_marching}
use Rattle.plate_log.specs.Log.{Call, Answer, sweeping, writing, counted, wrote, line_of, log, new_pixels, pixel_in, area, place_of, pixels_after}
use Rattle.plate_log.specs.Records.{line_on_records, pixels_of}
use Rattle.plate_log.specs.Answers.{write_on_bytes, bytes_after, write_answer}
use Rattle.plate_log.specs.Image.{image}
use Rattle.march.specs.Deep.{is_deep}
use Rattle.plate_log.specs.Opening.{OpenOutcome, open_outcome, opening}
use Rattle.plate_log.specs.Lines.{IsImage, LineIsRight, LinesAreRight, word_in, pixel_of_word}
use Rattle.plate_log.specs.Law.{IsPileOf, IsBrought, sweep_budgets, budget_in}
use Rattle.plate_log.proofs.Place.{place_in}
use Rattle.plate_log.proofs.Sanity.{none_marching}
use Rattle.plate_log.proofs.Bring.{carried}
use Rattle.plate_log.proofs.Lift.{did}
use Rattle.plate_log.proofs.Sums.{line_length}
use Rattle.plate_log.proofs.Upshot.{held}
use Rattle.plate_log.proofs.Calls.{small, new_front}
use Rattle.render.specs.Render.{plain_of, picture, body_drawing}
use Rattle.render.specs.Laws.{ImageShows}
use Rattle.render.proofs.Views.{view_is, few_pixels}
use Rattle.render.proofs.Sweeps.{swept_picture}

-- a plate with records enough is opened
abbrev Opens : ViewNumbers → List Pixel → Result (Unit {0}) PlateFault → PlainView → List Pixel → Type 0
Opens numbers rs r v qs = (r ≡ Ok tt) × (Ok v ≡ view_answer numbers) × (qs ≡ replicate (v.width * v.height) new_pixel ++ drop (v.width * v.height) rs)

pub opens : (numbers : ViewNumbers) (old : PlainView) (rs : List Pixel) (r : Result (Unit {0}) PlateFault) (v : PlainView) (qs : List Pixel)
    → ◌≡◌ {A = OpenOutcome} (r, v, qs) (opening numbers old rs) → is_ok (view_answer numbers) ≡ true → 4096 ≤ length rs → Opens numbers rs r v qs
opens numbers old rs r v qs e seen room = from (view_answer numbers) refl e seen
  where
    from : (a : Result PlainView ViewFault) → a ≡ view_answer numbers → ◌≡◌ {A = OpenOutcome} (r, v, qs) (open_outcome a old rs) → is_ok a ≡ true → Opens numbers rs r v qs
    from (Err f) is e seen = let z : ◌≡◌ {A = ℕ} 0 1 = cc in absurd (omega arith)
    from (Ok w) is e seen =
        let n = w.width * w.height in
        let all : ◌≡◌ {A = OpenOutcome} (r, v, qs) (Ok tt, w, replicate n new_pixel ++ drop n rs) = e ∙ cond-false (ltb (length rs) n) _ _ (le-ltb (length rs) n (omega (arith, few_pixels numbers w is))) in
        let same : v ≡ w = ap (λ (o : OpenOutcome). o.1) all in (
          ap (λ (o : OpenOutcome). o.0) all,
          ap Ok same ∙ is,
          ap (λ (o : OpenOutcome). o.2) all ∙ sym (ap (λ (v : PlainView). replicate (v.width * v.height) new_pixel ++ drop (v.width * v.height) rs) same),
        )

-- an accepted write wrote the image
from_fair : (v : View) (ps qs : List Pixel) (a : Answer) (room : ℕ) → LineIsRight v ps (writing room) a qs → count_marching ps ≡ 0 → 4 * (2 + area v) ≤ room → a ≡ wrote (4 * (2 + area v)) (image v ps) → IsImage v ps (image v ps)
from_fair v ps qs a room f none h e =
    let w = f.2 none h in
    same w.0 w.1.0 w.1.2
  where
    same : (bs : List ℕ) → a ≡ wrote (4 * (2 + area v)) bs → IsImage v ps bs → IsImage v ps (image v ps)
    same bs d i = let is : bs ≡ image v ps = cc in subst (IsImage v ps) is i

-- a word in front of other bytes
front : (bs rest : List ℕ) (k : ℕ) → 4 * k + 4 ≤ length bs → word_in (bs ++ rest) k ≡ word_in bs k
front bs rest k h =
    let a = get_or_append_left bs rest 0 (4 * k) (omega arith) in
    let b = get_or_append_left bs rest 0 (4 * k + 1) (omega arith) in
    let c = get_or_append_left bs rest 0 (4 * k + 2) (omega arith) in
    let d = get_or_append_left bs rest 0 (4 * k + 3) (omega arith) in
    λ t. a t + 256 * b t + 65536 * c t + 16777216 * d t

-- the lines of two calls
second : (v : View) (c d : Call) → LinesAreRight v (new_pixels v) (log v (c ∷ d ∷ [])) → LineIsRight v (pixels_after v (c ∷ [])) d (line_of v (pixels_after v (c ∷ [])) d).0 (line_of v (pixels_after v (c ∷ [])) d).1
second v c d l = l.1.0

module _ (v : View) (b : Body) (budget : ℕ) (enough : 16777216 ≤ budget) (reaches : 32767 ≤ b.reach) where
  abbrev A : Call
  A = sweeping b budget

  abbrev P : List Pixel
  P = pixels_after v (A ∷ [])

  taken : (s m : ℕ) → (line_of v (new_pixels v) A).0 ≡ counted s m → area v * (v.far + 1) ≤ sweep_budgets (log v (A ∷ []))
  taken s m e =
      let x : budget_in A (line_of v (new_pixels v) A).0 ≡ budget = ap (budget_in A) e in
      let far : v.far + 1 ≤ 4096 = omega (arith, v.far_in_range) in
      let most : area v * (v.far + 1) ≤ 4096 * 4096 = mul-le-mul (small v) far in
      omega arith

  none : count_marching P ≡ 0
  none = (held v (A ∷ [])).ends (taken _ _ (ap (λ (l : Answer × List Pixel). l.0) (cond-true (is_deep b) _ _ (le-leb 32767 b.reach reaches))))

  long : length P ≡ area v
  long = line_length v (new_pixels v) A (line_of v (new_pixels v) A) (did v (new_pixels v) A) ∙ length-replicate (area v) new_pixel

  pub wrote_it : (room : ℕ) → 4 * (2 + area v) ≤ room → (line_of v P (writing room)).0 ≡ wrote (4 * (2 + area v)) (image v P)
  wrote_it room h =
      ap (λ (l : Answer × List Pixel). l.0)
      (cond-true (eqb (count_marching P) 0) _ _ (eq-eqb (count_marching P) 0 none)
      ∙ cond-true (leb (4 * (2 + length P)) room) _ _ (le-leb (4 * (2 + length P)) room (omega (arith, long))))
      ∙ ap (λ (n : ℕ). wrote (4 * (2 + n)) (image v P)) long

  imaged : IsImage v P (image v P)
  imaged =
      let room = 4 * (2 + area v) in
      from_fair v P (line_of v P (writing room)).1 (line_of v P (writing room)).0 room (second v A (writing room) (held v (A ∷ writing room ∷ [])).lines) none (omega arith) (wrote_it room (omega arith))

  only : (M : Point → Bool) → IsPileOf M b → (x : Body) → IsBrought x (log v (A ∷ [])) → IsPileOf M x
  only M p x h = elim (carried v x (A ∷ []) (new_pixels v) h) [ inl e ↦ subst⁻¹ (IsPileOf M) e p | inr z ↦ absurd z ]

  -- what stands is the picture
  is_picture : P ≡ picture b (plain_view v)
  is_picture =
      ap (λ (l : Answer × List Pixel). l.1) (cond-true (is_deep b) _ _ (le-leb 32767 b.reach reaches))
      ∙ swept_picture v b (area v) 0 budget (omega (arith, all_steps))
    where
      all_steps : area v * (v.far + 1) ≤ 4096 * 4096
      all_steps = let far : v.far + 1 ≤ 4096 = omega (arith, v.far_in_range) in mul-le-mul (small v) far

  -- and its image shows the members, whatever bytes follow it
  seen : (M : Point → Bool) → IsPileOf M b → (rest : List ℕ) → ImageShows (plain_view v) M (image v P ++ rest)
  seen M p rest =
      let k = λ (k : ℕ) (h : k < 2 + area v). front (image v P) rest k (omega (arith, imaged.long)) in
      record {
        start = k 0 (omega arith) ∙ imaged.start;
        far = k 1 (omega arith) ∙ imaged.far;
        pixels = λ i j x y. record {
          pixel = pixel_in v P i j;
          word = ap pixel_of_word (k (2 + place_of v i j) (omega (arith, place_in v i j x y))) ∙ imaged.shown i j (x, y);
          settled = none_marching P (place_of v i j) none;
          right = ((held v (A ∷ [])).shown M (only M p)).shows i j (x, y);
        };
      }

  -- the whole call: opened, swept and written
  module _ (numbers : ViewNumbers) (rs rs0 rs1 : List Pixel) (is : Ok (plain_view v) ≡ view_answer numbers)
      (new : rs0 ≡ replicate (area v) new_pixel ++ drop (area v) rs) (a : Answer) (swept : ◌≡◌ {A = Answer × List Pixel} (a, rs1) (line_on_records v rs0 A)) where
    fresh_front : pixels_of v rs0 ≡ new_pixels v
    fresh_front = new_front (area v) rs0 rs new

    back : drop (area v) rs0 ≡ drop (area v) rs
    back = ap (drop (area v)) new ∙ drop_at (replicate (area v) new_pixel) (drop (area v) rs) (area v) (length-replicate (area v) new_pixel)

    stood : rs1 ≡ P ++ drop (area v) rs
    stood =
        ap (λ (l : Answer × List Pixel). l.1) swept
        ∙ ap (λ (ps : List Pixel). (line_of v ps A).1 ++ drop (area v) rs0) fresh_front
        ∙ ap (λ (qs : List Pixel). P ++ qs) back

    stands_there : pixels_of v rs1 ≡ P
    stands_there = ap (pixels_of v) stood ∙ take_at P (drop (area v) rs) (area v) long

    module _ (out text : List ℕ) (r : Result ℕ PlateFault) (room : 16392 ≤ length out) (e : ◌≡◌ {A = Answer × List ℕ} (write_answer r text, text) (write_on_bytes v rs1 out)) where
      answered : write_answer r text ≡ wrote (4 * (2 + area v)) (image v P)
      answered =
          ap (λ (x : Answer × List ℕ). x.0) e
          ∙ ap (λ (ps : List Pixel). (line_of v ps (writing (length out))).0) stands_there
          ∙ wrote_it (length out) (omega (arith, small v))

      pub fine : (n : ℕ) × (r ≡ Ok n) × (n ≡ 4 * (2 + area v))
      fine = by r answered
        where
          by : (r : Result ℕ PlateFault) → write_answer r text ≡ wrote (4 * (2 + area v)) (image v P) → (n : ℕ) × (r ≡ Ok n) × (n ≡ 4 * (2 + area v))
          by (Ok n) e = (n, refl, cc)
          by (Err f) e = let z : ◌≡◌ {A = ℕ} 0 1 = cc in absurd (omega arith)

      left : text ≡ image v P ++ drop (4 * (2 + area v)) out
      left = ap (λ (x : Answer × List ℕ). x.1) e ∙ ap (λ (a : Answer). bytes_after a out) (sym (ap (λ (x : Answer × List ℕ). x.0) e) ∙ answered)

      pub all : (n : ℕ) → r ≡ Ok n → (n ≡ 4 * (2 + area v)) × (text ≡ image v P ++ drop n out)
      all n ok =
          let size : n ≡ 4 * (2 + area v) = same n fine.0 (sym ok ∙ fine.1) ∙ fine.2 in
          (size, left ∙ ap (λ (m : ℕ). image v P ++ drop m out) (sym size))
        where
          same : (n m : ℕ) → ◌≡◌ {A = Result ℕ PlateFault} (Ok n) (Ok m) → n ≡ m
          same n m e = cc

-- the whole, with the largest budget there is
module _ (v : View) (b : Body) (reaches : 32767 ≤ b.reach) (numbers : ViewNumbers) (rs rs0 rs1 : List Pixel) (is : Ok (plain_view v) ≡ view_answer numbers)
    (new : rs0 ≡ replicate (area v) new_pixel ++ drop (area v) rs) (a : Answer) (swept : ◌≡◌ {A = Answer × List Pixel} (a, rs1) (line_on_records v rs0 (sweeping b 4294967295)))
    (out text : List ℕ) (r : Result ℕ PlateFault) (room : 16392 ≤ length out) (e : ◌≡◌ {A = Answer × List ℕ} (write_answer r text, text) (write_on_bytes v rs1 out)) (n : ℕ) (ok : r ≡ Ok n) where
  abbrev stood_so : List Pixel
  stood_so = P v b 4294967295 (lit≤ tt) reaches

  made_of : (n ≡ 4 * (2 + area v)) × (text ≡ image v stood_so ++ drop n out)
  made_of = all v b 4294967295 (lit≤ tt) reaches numbers rs rs0 rs1 is new a swept out text r room e n ok

  pub shot_is : (qs : List Pixel) → qs ≡ rs1 → ◌≡◌ {A = ℕ × List Pixel × List ℕ} (n, qs, text) (body_drawing b (plain_of numbers) rs out)
  shot_is qs same =
      let size = made_of.0 in
      let stays : qs ≡ picture b (plain_view v) ++ drop (area v) rs =
      same ∙ stood v b 4294967295 (lit≤ tt) reaches numbers rs rs0 rs1 is new a swept ∙ ap (λ (ps : List Pixel). ps ++ drop (area v) rs) (is_picture v b 4294967295 (lit≤ tt) reaches) in
      let bytes : text ≡ image v (picture b (plain_view v)) ++ drop (4 * (2 + area v)) out =
      made_of.1 ∙ ap (λ (m : ℕ). image v stood_so ++ drop m out) size ∙ ap (λ (ps : List Pixel). image v ps ++ drop (4 * (2 + area v)) out) (is_picture v b 4294967295 (lit≤ tt) reaches) in
      (λ t. (size t, stays t, bytes t)) ∙ ap (λ (p : PlainView). body_drawing b p rs out) (view_is numbers (plain_view v) is)

  pub shows_it : (M : Point → Bool) → IsPileOf M b → ImageShows (plain_of numbers) M text
  shows_it M p =
      subst (λ (q : PlainView). ImageShows q M text) (view_is numbers (plain_view v) is)
      (subst⁻¹ (ImageShows (plain_view v) M) made_of.1 (seen v b 4294967295 (lit≤ tt) reaches M p (drop n out)))
