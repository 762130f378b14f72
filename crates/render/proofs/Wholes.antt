-- From the parts of an input to the picture of its model, or to the word of its refusal.
use Rattle.std.proofs.Common.{◌≡◌, ℕ, ◌+◌, ◌*◌, ◌≤◌, Bool, true, false, cond, ◌||◌, eqb, leb, List, ◌++◌, length, take, drop, ℤ, is_ok, IfOk, Ok, Err, Result, sym, refl, ap, ◌∙◌, subst, arith}
use Rattle.std.proofs.lemmas.List.{take_all}
use Rattle.std.proofs.lemmas.Bool.{cond-true}
use Rattle.solid.specs.Body.{Body}
use Rattle.lattice.specs.Space.{ordered}
use Rattle.march.specs.declared.pixel.Pixel.{Pixel}
use Rattle.march.specs.Checks.{view_answer}
use Rattle.words.specs.Words.{four_bytes}
use Rattle.refusal.specs.Checks.{unless}
use Rattle.words.specs.Reading.{bare_at}
use Rattle.words.proofs.Chains.{first_ok, test_held, same_ok}
use Rattle.leaves.specs.declared.surface.SurfaceSize.{SurfaceSize}
use Rattle.readers.specs.declared.fault.JobFault.TheVariants.{Corners}
use Rattle.readers.specs.Jobs.{JobNumbers, in_job, view_at, pile_at, job_of}
use Rattle.readers.proofs.JobRanges.{view_stands}
use Rattle.render.specs.declared.fault.InputFault.{InputFault}
use Rattle.render.specs.declared.fault.InputFault.TheVariants.{Inexact, Shallow}
use Rattle.render.specs.Models.{Model, pile_of, unchecked_model, checked_model, input_model}
use Rattle.render.specs.Render.{AfterCall, plain_of, area_of, body_drawing, refusal_of, drawing}
use Rattle.render.specs.Laws.{ShowsModel, ShortInputs}
use Rattle.render.specs.Steps.{model_of, picture_answer, pile_answer, model_answer}
use Rattle.render.proofs.Parts.{mapped_ok, in_three, short_input}
use Rattle.render.proofs.Views.{few_of}

-- an input that stands as a whole stands in its parts
pub parsed_parts : (bs : List ℕ) (m : Model) → input_model bs ≡ Ok m → unchecked_model bs ≡ Ok m
parsed_parts bs m e =
    let p = first_ok (unchecked_model bs) checked_model m e in
    let x = p.0 in
    let a = test_held (eqb x.job.guard 0 || x.scene.exact) Inexact _ m p.1.1 in
    let b = test_held (leb 32767 (pile_of x).reach) Shallow _ m a.1 in
    p.1.0 ∙ b.1

pub short_inputs : ShortInputs
short_inputs bs m e = short_input bs m (parsed_parts bs m e)

-- the heights that are handed on are those of the model
heights_same : (j : JobNumbers) (b : Body) (s : SurfaceSize) (hs : List ℤ) → length (take (s.width * s.depth) hs) ≡ s.width * s.depth → model_of j b s (take (s.width * s.depth) hs) ≡ model_of j b s hs
heights_same j b s hs e =
    let n = s.width * s.depth in
    ap (λ (ks : List ℤ). record { job = j; scene = b; width = s.width; depth = s.depth; heights = ks }) (take_all n (take n hs) (omega arith))

-- of a model whose guard its scene may have, only the reach is left to be looked at
pub over_whole : (m : Model) (rs : List Pixel) (out : List ℕ) → (eqb m.job.guard 0 || m.scene.exact) ≡ true → pile_answer (pile_of m) m.job.view rs out ≡ model_answer (checked_model m) rs out
over_whole m rs out x =
    sym (ap (λ (r : Result Model InputFault). model_answer r rs out) (cond-true (eqb m.job.guard 0 || m.scene.exact) _ _ x) ∙ by (leb 32767 (pile_of m).reach))
  where
    by : (d : Bool) → model_answer (unless d Shallow (Ok m)) rs out ≡ cond d (picture_answer (pile_of m) m.job.view rs out) (Err Shallow, rs, out)
    by true = refl
    by false = refl

module _ (bs : List ℕ) (j : JobNumbers) (b : Body) (s : SurfaceSize) (hs : List ℤ) (e : unchecked_model bs ≡ Ok (model_of j b s hs)) (long : length (take (s.width * s.depth) hs) ≡ s.width * s.depth) where
  abbrev m : Model
  m = model_of j b s hs

  abbrev handed : Model
  handed = model_of j b s (take (s.width * s.depth) hs)

  pub shown_so : (r : Result ℕ InputFault) (text : List ℕ) → IfOk r (λ _. ShowsModel handed text) → IfOk r (λ _. (m : Model) → input_model bs ≡ Ok m → ShowsModel m text)
  shown_so (Ok k) text c = λ m' p. subst (λ (m : Model). ShowsModel m text) (heights_same j b s hs long ∙ same_ok m m' (sym e ∙ parsed_parts bs m' p)) c
  shown_so (Err d) text c = tt

-- the answer, by what was tried
pub answered : (p : Result Model InputFault) (rs qs : List Pixel) (out text : List ℕ) (n : ℕ) → ◌≡◌ {A = AfterCall InputFault} (Ok n, qs, text) (model_answer p rs out) → ◌≡◌ {A = ℕ × List Pixel × List ℕ} (n, qs, text) (drawing p rs out)
unfolding drawing
answered (Ok m) rs qs out text n e =
    let s = body_drawing (pile_of m) (plain_of m.job.view) rs out in
    let x : n ≡ s.0 = same_ok n s.0 (ap (λ (l : AfterCall InputFault). l.0) e) in
    let y : qs ≡ s.1 = ap (λ (l : AfterCall InputFault). l.1) e in
    let z : text ≡ s.2 = ap (λ (l : AfterCall InputFault). l.2) e in
    λ t. (x t, y t, z t)
answered (Err d) rs qs out text n e = let z : ◌≡◌ {A = Result ℕ InputFault} (Ok n) (Err d) = ap (λ (l : AfterCall InputFault). l.0) e in let z : ◌≡◌ {A = ℕ} 0 1 = cc in absurd (omega arith)

-- the view of a job that was read stands, so that its image has at most 16,392 bytes
job_seen : (bs : List ℕ) (j : JobNumbers) → job_of bs ≡ Ok j → is_ok (view_answer j.view) ≡ true
unfolding job_of
job_seen bs j e =
    let a = first_ok (in_job (bare_at bs 0 13 13)) _ j e in
    let b = first_ok (in_job (view_at bs)) _ j a.1.1 in
    let c = first_ok (in_job (pile_at bs)) _ j b.1.1 in
    let d = test_held (ordered c.0.2 c.0.3) Corners _ j c.1.1 in
    subst (λ (j : JobNumbers). is_ok (view_answer j.view) ≡ true) (same_ok _ j d.1) (view_stands bs b.0 (mapped_ok _ (view_at bs) b.0 b.1.0))

pub most_bytes : (bs : List ℕ) (rs qs : List Pixel) (out text : List ℕ) (n : ℕ) → ◌≡◌ {A = AfterCall InputFault} (Ok n, qs, text) (model_answer (input_model bs) rs out) → n ≤ 16392
most_bytes bs rs qs out text n e = by (input_model bs) refl e
  where
    by : (p : Result Model InputFault) → input_model bs ≡ p → ◌≡◌ {A = AfterCall InputFault} (Ok n, qs, text) (model_answer p rs out) → n ≤ 16392
    by (Ok m) is e =
        let x : n ≡ 4 * (2 + area_of (plain_of m.job.view)) = same_ok n _ (ap (λ (l : AfterCall InputFault). l.0) e) in
        omega (arith, few_of m.job.view (job_seen bs m.job (in_three bs m (parsed_parts bs m is)).0.job))
    by (Err d) is e = let z : ◌≡◌ {A = Result ℕ InputFault} (Ok n) (Err d) = ap (λ (l : AfterCall InputFault). l.0) e in let z : ◌≡◌ {A = ℕ} 0 1 = cc in absurd (omega arith)

-- a refused input
pub record Refused (bs : List ℕ) (e : InputFault) (rs qs : List Pixel) (out text : List ℕ) : Type 0 where
  pub is : input_model bs ≡ Err e
  pub records : qs ≡ rs
  pub bytes : text ≡ out

pub refused_so : (bs : List ℕ) (rs qs : List Pixel) (out text : List ℕ) (e : InputFault) → ◌≡◌ {A = AfterCall InputFault} (Err e, qs, text) (model_answer (input_model bs) rs out) → Refused bs e rs qs out text
refused_so bs rs qs out text e h = by (input_model bs) refl h
  where
    by : (p : Result Model InputFault) → input_model bs ≡ p → ◌≡◌ {A = AfterCall InputFault} (Err e, qs, text) (model_answer p rs out) → Refused bs e rs qs out text
    by (Ok m) is h = let z : ◌≡◌ {A = Result ℕ InputFault} (Err e) (Ok (body_drawing (pile_of m) (plain_of m.job.view) rs out).0) = ap (λ (l : AfterCall InputFault). l.0) h in let z : ◌≡◌ {A = ℕ} 0 1 = cc in absurd (omega arith)
    by (Err d) is h =
        let same : ◌≡◌ {A = Result ℕ InputFault} (Err e) (Err d) = ap (λ (l : AfterCall InputFault). l.0) h in
        let same : d ≡ e = cc in
        record { is = is ∙ ap Err same; records = ap (λ (l : AfterCall InputFault). l.1) h; bytes = ap (λ (l : AfterCall InputFault). l.2) h }

pub refusal_written : (bs : List ℕ) (rs qs new_qs : List Pixel) (out text new : List ℕ) (e : InputFault) (n word : ℕ)
    → Refused bs e rs qs out text → new_qs ≡ qs → word ≡ refusal_of e → new ≡ four_bytes word ++ drop 4 text → n ≡ 4 → ◌≡◌ {A = ℕ × List Pixel × List ℕ} (n, new_qs, new) (drawing (input_model bs) rs out)
unfolding drawing
refusal_written bs rs qs new_qs out text new e n word r k w f l =
    let g : new ≡ four_bytes (refusal_of e) ++ drop 4 out = f ∙ (λ t. four_bytes (w t) ++ drop 4 (r.bytes t)) in
    let h : new_qs ≡ rs = k ∙ r.records in
    (λ t. (l t, h t, g t)) ∙ sym (ap (λ (p : Result Model InputFault). drawing p rs out) r.is)
