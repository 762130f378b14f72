-- What a log's calls brought, and what a read answered.
use Rattle.std.proofs.Common.{◌≡◌, ℕ, ◌⊎◌, List, [], ◌∷◌, refl, inl, inr, arith}
use Rattle.std.proofs.lemmas.Bool.{cond_both}
use Rattle.solid.specs.Body.{Body}
use Rattle.march.specs.declared.pixel.Pixel.{Pixel}
use Rattle.march.specs.declared.view.View.{View}
use Rattle.march.specs.View.{has_pixel}
use Rattle.plate_log.specs.declared.fault.PlateFault.TheVariants.{NoPixel}
use Rattle.plate_log.specs.Log.{Call, Line, Answer, sweeping, touching, reading, writing, read_as, refused, line_of, log_from, pixel_in}
use Rattle.plate_log.specs.Lines.{Inside}
use Rattle.plate_log.specs.Law.{IsBrought, to_sweep, to_touch, later}
use Rattle.plate_log.proofs.Lines.{has_parts}

-- a body that was brought came with one of the calls
abbrev pub Brings : Body → Call → Type 0
Brings b (sweeping c budget) = b ≡ c
Brings b (touching i j c budget) = b ≡ c
Brings b (reading i j) = ⊥
Brings b (writing room) = ⊥

abbrev pub Carried : Body → List Call → Type 0
Carried b [] = ⊥
Carried b (c ∷ cs) = Brings b c ⊎ Carried b cs

brought_cases : {b : Body} {l : Line} {ls : List Line} → IsBrought b (l ∷ ls) → Brings b l.call ⊎ IsBrought b ls
brought_cases to_sweep = inl refl
brought_cases to_touch = inl refl
brought_cases (later x) = inr x

brought_none : {b : Body} → IsBrought b [] → ⊥
brought_none x = elim x as (λ ls _. elim ls [ [] ↦ ⊥ | ◌∷◌ l ls ↦ Unit {0} ]) [ to_sweep ↦ tt | to_touch ↦ tt | later y ↦ tt ]

pub carried : (v : View) (b : Body) (cs : List Call) (ps : List Pixel) → IsBrought b (log_from v ps cs) → Carried b cs
carried v b [] ps x = brought_none x
carried v b (c ∷ cs) ps x = elim (brought_cases x) [ inl e ↦ inl e | inr y ↦ inr (carried v b cs (line_of v ps c).1 y) ]

-- what a read answered is the pixel as it stands
pub read_is : (v : View) (ps : List Pixel) (i j : ℕ) (q : Pixel) → (line_of v ps (reading i j)).0 ≡ read_as q → Inside v i j × (q ≡ pixel_in v ps i j)
read_is v ps i j q =
    cond_both (has_pixel v i j) (read_as (pixel_in v ps i j), ps) (refused NoPixel, ps) (λ (r : Answer × List Pixel). r.0 ≡ read_as q → Inside v i j × (q ≡ pixel_in v ps i j))
    (λ h e. (has_parts v i j h, cc))
    (λ _ e. let z : ◌≡◌ {A = ℕ} 0 1 = cc in absurd (omega arith))
