-- What a lawful body says of membership by its clearances.
use Rattle.std.proofs.Common.{◌≡◌, ℕ, Bool, true, false, if◌then◌else◌, eqb, Ok, Err, Result, refl, ap, ◌∙◌, arith}
use Rattle.std.proofs.lemmas.Bool.Decides.{same_from_decides, Decides-eqb}
use Rattle.lattice.specs.Space.{within, In}
use Rattle.lattice.specs.declared.Point.{Point}
use Rattle.solid.specs.declared.QuestionFault.{QuestionFault}
use Rattle.solid.specs.declared.QuestionFault.TheVariants.{BeyondReach}
use Rattle.solid.specs.Body.{Body, Lawful}
use Rattle.solid.specs.Answer.{answer, membership}
use Rattle.solid.proofs.Asked.{within_in, membership_in}
use Rattle.piles.specs.Stands.{AnswersAlgebra}
use Rattle.piles.proofs.Piles.{pile_members}

module _ {A B E : Type 0} (f : E) where
  err_alike : (w : Bool) (x : A) (y : B) (e : E) → Err e ≡ (if w then Ok x else Err f) → Err e ≡ (if w then Ok y else Err f)
  err_alike true x y e h = let z : ◌≡◌ {A = ℕ} 0 1 = cc in absurd (omega arith)
  err_alike false x y e h = let z : e ≡ f = cc in ap Err z

  ok_alike : (w : Bool) (g : A → B) (x z : A) (y : B) → (w ≡ true → g z ≡ y) → Ok x ≡ (if w then Ok z else Err f) → Ok (g x) ≡ (if w then Ok y else Err f)
  ok_alike true g x z y t h = let s : x ≡ z = cc in ap (λ a. Ok (g a)) s ∙ ap Ok (t refl)
  ok_alike false g x z y t h = let s : ◌≡◌ {A = ℕ} 0 1 = cc in absurd (omega arith)

-- where the clearance is refused, so is the membership
pub refused_alike : (b : Body) (p : Point) (e : QuestionFault) → Err e ≡ answer b p → Err e ≡ membership b p
refused_alike b p e h = err_alike BeyondReach (within b.reach p) (b.clear p) (b.member p) e h

-- the clearance is 0 exactly at members
zero_member : (b : Body) (p : Point) → Lawful b → In b.reach p → eqb (b.clear p) 0 ≡ b.member p
zero_member b p l i = same_from_decides (eqb (b.clear p) 0) (b.member p) (Decides-eqb (b.clear p) 0) (l.inside p i, l.outside p i)

-- where it is answered, so is the membership
pub member_alike : (b : Body) (p : Point) (c : ℕ) → Lawful b → Ok c ≡ answer b p → Ok (eqb c 0) ≡ membership b p
member_alike b p c l h = ok_alike BeyondReach (within b.reach p) (λ n. eqb n 0) c (b.clear p) (b.member p) (λ w. zero_member b p l (within_in b.reach p w)) h

-- of a pile, the answer is that of set algebra
pub of_pile : (b : Body) (p : Point) (r : Result Bool QuestionFault) → r ≡ membership b p → AnswersAlgebra b p r
of_pile b p r h M e t w = h ∙ membership_in b p (within_in b.reach p w) ∙ ap Ok (pile_members t p)
