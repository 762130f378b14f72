-- Two sweeps and a read.
use Rattle.std.proofs.Common.{◌≡◌, ℕ, ◌+◌, ◌*◌, ◌≤◌, Bool, false, List, [], ◌∷◌, get_or, IfOk, Ok, Err, Result, sym, ap, ◌∙◌, subst, inl, inr, arith}
use mathlib.Core.Path.{subst⁻¹}
use Rattle.lattice.specs.declared.Point.{Point}
use Rattle.lattice.specs.Space.{In}
use Rattle.solid.specs.Body.{Body, Lawful}
use Rattle.piles.specs.Pile.Pile.{lawful}
use Rattle.march.specs.declared.pixel.Pixel.{Pixel}
use Rattle.march.specs.declared.view.View.{View}
use Rattle.march.specs.declared.view.ViewNumbers.{ViewNumbers}
use Rattle.march.specs.March.{marches, probes}
use Rattle.march.specs.Checks.{plain_view, view_answer}
use Rattle.plate_log.specs.declared.fault.PlateFault.{PlateFault}
use Rattle.plate_log.specs.Sweep.{past_the_end}
use Rattle.plate_log.specs.Log.{Call, Answer, sweeping, reading, counted, read_as, line_of, log, new_pixels, area, place_of, pixel_after, pixels_after}
use Rattle.plate_log.specs.Records.{line_on_records, pixels_of}
use Rattle.plate_log.specs.Answers.{read_answer}
use Rattle.plate_log.specs.Lines.{Inside}
use Rattle.plate_log.specs.Law.{SameMembers, PixelShows, IsPileOf, IsBrought, LogHolds, Promise, sweep_budgets, budget_in, budget_in}
use Rattle.plate_log.proofs.Sanity.{none_marching}
use Rattle.plate_log.proofs.Bring.{carried, read_is}
use Rattle.checks.specs.Chained.{Picture, ViewPicture}

piled : (M : Point → Bool) (b : Body) → Lawful b → SameMembers b.member M → IsPileOf M b
piled M b l s = (b.member, b.exact, lawful b l, s)

-- a log of two sweeps
module _ (v : View) (a b : Body) (m n i j : ℕ) where
  abbrev A : Call
  A = sweeping a m

  abbrev B : Call
  B = sweeping b n

  abbrev both : List Call
  both = A ∷ B ∷ []

  only : (x : Body) (P : Body → Type 0) → P a → P b → IsBrought x (log v both) → P x
  only x P pa pb h = elim (carried v x both (new_pixels v) h) [ inl e ↦ subst⁻¹ P e pa | inr r ↦ elim r [ inl e ↦ subst⁻¹ P e pb | inr z ↦ absurd z ] ]

  budgets_are : (s t : ℕ × ℕ) → (line_of v (new_pixels v) A).0 ≡ counted s.0 s.1 → (line_of v (pixels_after v (A ∷ [])) B).0 ≡ counted t.0 t.1 → sweep_budgets (log v both) ≡ m + n
  budgets_are s t e f =
      let x : budget_in A (line_of v (new_pixels v) A).0 ≡ m = ap (budget_in A) e in
      let y : budget_in B (line_of v (pixels_after v (A ∷ [])) B).0 ≡ n = ap (budget_in B) f in
      ap (λ (k : ℕ). k + (budget_in B (line_of v (pixels_after v (A ∷ [])) B).0 + 0)) x ∙ ap (λ (k : ℕ). m + (k + 0)) y ∙ omega arith

  pub pictured : (r0 r1 r2 : List Pixel) (s t : ℕ × ℕ) (q : Pixel) → Lawful a → Lawful b
      → pixels_of v r0 ≡ pixels_after v []
      → ◌≡◌ {A = Answer × List Pixel} (counted s.0 s.1, r1) (line_on_records v r0 A)
      → ◌≡◌ {A = Answer × List Pixel} (counted t.0 t.1, r2) (line_on_records v r1 B)
      → Promise v r0 r1 A → Promise v r1 r2 B
      → ◌≡◌ {A = Answer × List Pixel} (read_as q, r2) (line_on_records v r2 (reading i j))
      → Picture v a b m n i j q
  pictured r0 r1 r2 s t q la lb new l1 l2 p1 p2 l3 = record {
    within = is.0;
    is = same;
    ended = λ h. subst⁻¹ (λ (r : Pixel). marches r ≡ false) same (none_marching (pixels_after v both) (place_of v i j) (held.ends (subst⁻¹ (λ (k : ℕ). area v * (v.far + 1) ≤ k) given h)));
    shows = λ M sa sb. subst⁻¹ (PixelShows v M i j) same ((held.shown M (piled_all M sa sb)).shows i j is.0);
    fewest = λ M sa sb settled r lr deep sr under k takes.
        subst⁻¹ (λ (x : Pixel). probes x ≤ k) same
        ((held.shown M (piled_all M sa sb)).fewest i j is.0 (subst (λ (x : Pixel). marches x ≡ false) same settled) r
        (record { lawful = lr; deep_enough = deep; members = sr; no_more = λ x h. only x (λ x. (p : Point) → In 32767 p → r.clear p ≤ x.clear p) (λ p hp. (under p hp).0) (λ p hp. (under p hp).1) h })
        k takes);
  }
    where
      one : (pixels_of v r1 ≡ pixels_after v (A ∷ [])) × LogHolds v (A ∷ [])
      one = p1 [] new

      two : (pixels_of v r2 ≡ pixels_after v both) × LogHolds v both
      two = p2 (A ∷ []) one.0

      held : LogHolds v both
      held = two.1

      is : Inside v i j × (q ≡ get_or (pixels_of v r2) (place_of v i j) past_the_end)
      is = read_is v (pixels_of v r2) i j q (sym (ap (λ (x : Answer × List Pixel). x.0) l3))

      same : q ≡ pixel_after v both i j
      same = is.1 ∙ ap (λ (ps : List Pixel). get_or ps (place_of v i j) past_the_end) two.0

      piled_all : (M : Point → Bool) → SameMembers a.member M → SameMembers b.member M → (x : Body) → IsBrought x (log v both) → IsPileOf M x
      piled_all M sa sb x h = only x (IsPileOf M) (piled M a la sa) (piled M b lb sb) h

      given : sweep_budgets (log v both) ≡ m + n
      given = budgets_are s t
          (sym (ap (λ (x : Answer × List Pixel). x.0) l1 ∙ ap (λ (ps : List Pixel). (line_of v ps A).0) new))
          (sym (ap (λ (x : Answer × List Pixel). x.0) l2 ∙ ap (λ (ps : List Pixel). (line_of v ps B).0) one.0))

-- the same, with each call's own view
pub chained : (v v1 v2 : View) → v1 ≡ v → v2 ≡ v1 → (numbers : ViewNumbers) → Ok (plain_view v) ≡ view_answer numbers
    → (a b : Body) (m n i j : ℕ) (r0 r1 r2 : List Pixel) (s t : ℕ × ℕ) (r : Result Pixel PlateFault) → Lawful a → Lawful b
    → pixels_of v r0 ≡ pixels_after v []
    → ◌≡◌ {A = Answer × List Pixel} (counted s.0 s.1, r1) (line_on_records v r0 (sweeping a m))
    → ◌≡◌ {A = Answer × List Pixel} (counted t.0 t.1, r2) (line_on_records v1 r1 (sweeping b n))
    → Promise v r0 r1 (sweeping a m) → Promise v1 r1 r2 (sweeping b n)
    → ◌≡◌ {A = Answer × List Pixel} (read_answer r, r2) (line_on_records v2 r2 (reading i j))
    → IfOk r (ViewPicture numbers a b m n i j)
chained v v1 v2 e1 e2 numbers is a b m n i j r0 r1 r2 s t (Err f) la lb new l1 l2 p1 p2 l3 = tt
chained v v1 v2 e1 e2 numbers is a b m n i j r0 r1 r2 s t (Ok q) la lb new l1 l2 p1 p2 l3 = (
  v,
  is,
  pictured v a b m n i j r0 r1 r2 s t q la lb new l1
      (subst (λ (u : View). ◌≡◌ {A = Answer × List Pixel} (counted t.0 t.1, r2) (line_on_records u r1 (sweeping b n))) e1 l2) p1
      (subst (λ (u : View). Promise u r1 r2 (sweeping b n)) e1 p2)
      (subst (λ (u : View). ◌≡◌ {A = Answer × List Pixel} (read_as q, r2) (line_on_records u r2 (reading i j))) (e2 ∙ e1) l3),
)
