-- A pile's body is lawful, is exact where the pile says so, and has the members that the pile says.
use Rattle.std.proofs.Common.{◌≡◌, ℕ, ◌≤◌, Bool, true, ◌&&◌, ◌||◌, leb, refl, ap, ◌∙◌, ap₂}
use mathlib.Core.Path.{fun_ext}
use Rattle.std.proofs.lemmas.Bool.{le-leb, cond-true}
use Rattle.lattice.specs.Space.{norm, back}
use Rattle.lattice.specs.declared.Point.{Point}
use Rattle.solid.specs.Body.{Body, Lawful}
use Rattle.piles.specs.Layers.{translate, shift, near, thicken_exact, thicken}
use Rattle.piles.specs.Pile.{Pile}
use Rattle.piles.specs.Stands.{PilesStand}
use Rattle.piles.specs.Pile.Pile.{lawful, united, met, shifted, thickened, cut}
use Rattle.piles.proofs.Kept.{unite_lawful, meet_lawful, shift_lawful, thicken_lawful, cap_lawful}

pub pile_lawful : {M : Point → Bool} {e : Bool} {b : Body} → Pile M e b → Lawful b
pile_lawful (lawful b l) = l
pile_lawful (united {a = a} {b = b} s t) = unite_lawful a b (pile_lawful s) (pile_lawful t)
pile_lawful (met {a = a} {b = b} s t) = meet_lawful a b (pile_lawful s) (pile_lawful t)
pile_lawful (shifted {a = a} v _ h s) = shift_lawful v a (pile_lawful s)
pile_lawful (thickened {a = a} h _ s) = thicken_lawful h a (pile_lawful s)
pile_lawful (cut {a = a} s h _ t) = cap_lawful s a h (pile_lawful t)

pub shift_is : (v : Point) (a : Body) → norm v ≤ a.reach → shift v a ≡ translate v a
shift_is v a h = cond-true (leb (norm v) a.reach) (translate v a) a (le-leb (norm v) a.reach h)

pub thicken_is : (h : ℕ) (a : Body) → a.exact ≡ true → thicken h a ≡ thicken_exact h a
thicken_is h a x = cond-true a.exact (thicken_exact h a) a x

pub pile_exact : {M : Point → Bool} {e : Bool} {b : Body} → Pile M e b → b.exact ≡ e
pile_exact (lawful b l) = refl
pile_exact (united s t) = ap₂ ◌&&◌ (pile_exact s) (pile_exact t)
pile_exact (met s t) = refl
pile_exact (shifted {a = a} v _ h s) = ap (λ (b : Body). b.exact) (shift_is v a h) ∙ pile_exact s
pile_exact (thickened {a = a} h _ s) = ap (λ (b : Body). b.exact) (thicken_is h a (pile_exact s))
pile_exact (cut s _ _ t) = refl

pub pile_members : {M : Point → Bool} {e : Bool} {b : Body} → Pile M e b → (p : Point) → b.member p ≡ M p
pile_members (lawful b l) p = refl
pile_members (united s t) p = ap₂ ◌||◌ (pile_members s p) (pile_members t p)
pile_members (met s t) p = ap₂ ◌&&◌ (pile_members s p) (pile_members t p)
pile_members (shifted {a = a} v _ h s) p = ap (λ (b : Body). b.member p) (shift_is v a h) ∙ pile_members s (back v p)
pile_members (thickened {a = a} h _ s) p = ap (λ (b : Body). b.member p) (thicken_is h a (pile_exact s)) ∙ ap (λ m. near h m p) (fun_ext (pile_members s))
pile_members (cut s _ _ t) p = pile_members t p

pub piles_stand : PilesStand
piles_stand M e b t = (pile_lawful t, pile_exact t, pile_members t)
