-- A pile with every layer, by what the making of each layer answers and promises.
use Rattle.std.proofs.Common.{◌≡◌, ℕ, ℤ, false, IfOk, Ok, Err, Result, unsigned_abs, sym, refl, ap, ◌∙◌, subst, ap₂, arith}
use Rattle.std.proofs.lemmas.Grind.{common_steps}
use Rattle.std.specs.Result.{result_and, result_map_both}
use Rattle.refusal.specs.declared.code.RefusalCode.{RefusalCode}
use Rattle.lattice.specs.declared.Point.{Point}
use Rattle.solid.specs.Body.{Body, Lawful}
use Rattle.piles.specs.Layers.{cap}
use Rattle.piles.specs.Pile.{Pile}
use Rattle.piles.specs.Pile.Pile.{lawful}
use Rattle.piles.proofs.Piles.{pile_members}
use Rattle.layers.specs.declared.fault.LayerFault.{LayerFault}
use Rattle.layers.specs.Checks.{check_offset, thicken_number, cap_number}
use Rattle.layers.specs.Piled.{UnitesPiles, MeetsPiles, ShiftsPiles, ThickensPiles, CapsPiles}
use Rattle.march.specs.declared.pixel.Pixel.{Pixel}
use Rattle.march.specs.declared.view.ViewNumbers.{ViewNumbers}
use Rattle.plate_log.specs.declared.fault.PlateFault.{PlateFault}
use Rattle.checks.specs.declared.pile.LayerNumbers.{LayerNumbers}
use Rattle.checks.specs.Chained.{Picture, ViewPicture}
use Rattle.checks.specs.Piles.{full_pile, full_members, layer_refusal, pile_refusal, IsFullPile, PilePicture}

-- what was made of an answer is made of what it holds
taken : {A X : Type 0} (f : A → X) (r : Result A LayerFault) (x : X) → Ok x ≡ result_map_both f (λ e. e) r → (a : A) × ((r ≡ Ok a) × (x ≡ f a))
taken f (Ok a) x h = (a, (refl, cc))
taken f (Err e) x h = absurd (cc)

pub shift_taken : {X : Type 0} (reach : ℕ) (v : Point) (x made : X) → Ok x ≡ result_map_both (λ _. made) (λ e. e) (check_offset reach v) → (check_offset reach v ≡ Ok tt) × (x ≡ made)
shift_taken reach v x made h = let t = taken (λ _. made) (check_offset reach v) x h in (t.1.0, t.1.1)

thickness_is : (z : ℤ) (h : ℕ) → thicken_number z ≡ Ok h → h ≡ unsigned_abs z
thickness_is z h e = grind (arith, common_steps)

bound_is : (z : ℤ) (h : ℕ) → cap_number z ≡ Ok h → h ≡ unsigned_abs z
bound_is z h e = grind (arith, common_steps)

pub thick_taken : {X : Type 0} (f : ℕ → X) (z : ℤ) (x : X) → Ok x ≡ result_map_both f (λ e. e) (thicken_number z) → (layer_refusal (thicken_number z) ≡ Ok tt) × (x ≡ f (unsigned_abs z))
thick_taken f z x h =
    let t = taken f (thicken_number z) x h in
    (ap (λ (r : Result ℕ LayerFault). layer_refusal r) t.1.0, t.1.1 ∙ ap f (thickness_is z t.0 t.1.0))

made_of : {A B : Type 0} (f : A → B) (r : Result A LayerFault) → layer_refusal (result_map_both f (λ e. e) r) ≡ layer_refusal r
made_of f (Ok a) = refl
made_of f (Err e) = refl

-- what lies below a cap, beside its bound
abbrev beside : {A : Type 0} → A → ℕ → A × ℕ
beside below most = (below, most)

-- a cap's parts are those that it was made of
module _ {X A : Type 0} (r : Result X LayerFault) (below : X → A) (most : X → ℕ) (a : A) (z : ℤ)
    (h : result_map_both (λ c. beside (below c) (most c)) (λ e. e) r ≡ result_map_both (beside a) (λ e. e) (cap_number z)) where
  pub cap_made : layer_refusal r ≡ layer_refusal (cap_number z)
  cap_made = sym (made_of (λ c. beside (below c) (most c)) r) ∙ ap (λ (r : Result (A × ℕ) LayerFault). layer_refusal r) h ∙ made_of (beside a) (cap_number z)

pub cap_body : {X A : Type 0} (r : Result X LayerFault) (below : X → A) (most : X → ℕ) (a : A) (z : ℤ)
    → result_map_both (λ c. beside (below c) (most c)) (λ e. e) r ≡ result_map_both (beside a) (λ e. e) (cap_number z)
    → (f : A → Body) (b : Body) → f a ≡ b
    → IfOk r (λ c. cap (most c) (f (below c)) ≡ cap (unsigned_abs z) b)
cap_body (Err e) below most a z h f b is = tt
cap_body {A = A} (Ok c) below most a z h f b is =
    let t = taken (beside a) (cap_number z) (beside (below c) (most c)) h in
    let e : most c ≡ unsigned_abs z = ap (λ (p : A × ℕ). p.1) t.1.1 ∙ bound_is z t.0 t.1.0 in
    let d : f (below c) ≡ b = ap (λ (p : A × ℕ). f p.0) t.1.1 ∙ is in
    ap₂ cap e d

pub all_made : (reach : ℕ) (n : LayerNumbers) (r : Result (Unit {0}) LayerFault)
    → check_offset reach n.by ≡ Ok tt → layer_refusal (thicken_number n.thickness) ≡ Ok tt → r ≡ layer_refusal (cap_number n.most) → r ≡ pile_refusal reach n
all_made reach n r o t c =
    c ∙ ap (λ (s : Result (Unit {0}) LayerFault). result_and s (layer_refusal (cap_number n.most))) (sym t)
    ∙ ap (λ (s : Result (Unit {0}) LayerFault). result_and s (result_and (layer_refusal (thicken_number n.thickness)) (layer_refusal (cap_number n.most)))) (sym o)

-- a thickness that is refused ends it
pub thick_ends : {A X : Type 0} (reach : ℕ) (n : LayerNumbers) (r : Result A LayerFault) (f : ℕ → X) (e : LayerFault)
    → check_offset reach n.by ≡ Ok tt → Err e ≡ result_map_both f (λ e. e) (thicken_number n.thickness) → r ≡ Err e → layer_refusal r ≡ pile_refusal reach n
thick_ends {A = A} {X = X} reach n r f e o t is =
    let refused : layer_refusal (thicken_number n.thickness) ≡ Err e = sym (made_of f (thicken_number n.thickness)) ∙ ap (λ (r : Result X LayerFault). layer_refusal r) (sym t) in
    ap (λ (r : Result A LayerFault). layer_refusal r) is
    ∙ ap (λ (s : Result (Unit {0}) LayerFault). result_and s (layer_refusal (cap_number n.most))) (sym refused)
    ∙ ap (λ (s : Result (Unit {0}) LayerFault). result_and s (result_and (layer_refusal (thicken_number n.thickness)) (layer_refusal (cap_number n.most)))) (sym o)

pub is_full_pile : {A : Type 0} (body : A → Body) (r : Result A LayerFault) (n : LayerNumbers) (moved grown clip a b u m : Body)
    → Lawful moved → Lawful grown → Lawful clip
    → ShiftsPiles n.by moved a → ThickensPiles (unsigned_abs n.thickness) grown b → UnitesPiles a b u → MeetsPiles u clip m
    → IfOk r (λ pile. CapsPiles m (body pile))
    → IfOk r (λ pile. body pile ≡ full_pile n moved grown clip)
    → IfOk r (λ pile. IsFullPile n moved grown clip (body pile))
is_full_pile body (Err e) n moved grown clip a b u m lm lg lc sa tb uu mm cc is = tt
is_full_pile body (Ok pile) n moved grown clip a b u m lm lg lc sa tb uu mm cc is =
    record { is = is; pile = cc _ _ (mm _ _ _ _ (uu _ _ _ _ (sa _ _ (lawful moved lm)) (tb _ _ (lawful grown lg))) (lawful clip lc)) }

-- what is so of an answer is so of what it holds
pub of_ok : {A E : Type 0} (P : A → Type 0) (r : Result A E) (x : A) → r ≡ Ok x → IfOk r P → P x
of_ok {A = A} {E = E} P r x is h = subst (λ (r : Result A E). IfOk r P) is h

-- a picture of a pile, of which the plate said what it says of any two solids
pub pictured : (numbers : ViewNumbers) (n : LayerNumbers) (moved grown clip made : Body) (budget i j : ℕ) (r : Result Pixel PlateFault) (s : Result Pixel RefusalCode)
    → IsFullPile n moved grown clip made → ((q : Pixel) → s ≡ Ok q → r ≡ Ok q)
    → IfOk r (ViewPicture numbers made made budget budget i j)
    → IfOk s (PilePicture numbers n moved grown clip budget i j)
pictured numbers n moved grown clip made budget i j r (Err f) t same h = tt
pictured numbers n moved grown clip made budget i j r (Ok q) t same h =
    let x = of_ok _ r q (same q refl) h in
    let all = pile_members t.pile in
    record {
      view = x.0;
      is_view = x.1;
      pile = subst (Pile (full_members n moved grown clip) false) t.is t.pile;
      picture = subst (λ (b : Body). Picture x.0 b b budget budget i j q) t.is x.2;
      shows = x.2.shows (full_members n moved grown clip) all all;
    }
