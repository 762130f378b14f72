-- The layers of the pile, as the code makes them.
use Rattle.std.proofs.Common.{◌≡◌, ℕ, ◌≤◌, is_ok, Ok, Err, Result, sym, refl, ap, ◌∙◌, arith}
use Rattle.std.specs.Result.{result_map_both}
use Rattle.lattice.specs.Space.{In}
use Rattle.lattice.specs.declared.Point.{Point}
use Rattle.solid.specs.Body.{Body}
use Rattle.piles.specs.Leaves.{block}
use Rattle.piles.specs.Layers.{unite, meet, shift, cap}
use Rattle.leaves.specs.declared.axis_box.AxisBox.{AxisBox}
use Rattle.layers.specs.declared.meet.Meet.{Meet}
use Rattle.layers.specs.declared.unite.Unite.{Unite}
use Rattle.layers.specs.declared.shift.Shift.{Shift}
use Rattle.layers.specs.declared.cap.Cap.{Cap}
use Rattle.layers.specs.declared.fault.LayerFault.{LayerFault}
use Rattle.layers.specs.Made.{shift_answer, cap_parts}
use Rattle.layers.proofs.Piled.{offset_stands}
use Rattle.readers.specs.declared.job.Job.{Job}
use Rattle.readers.specs.Jobs.{job_numbers}
use Rattle.render.specs.Models.{job_pile}

pub ok_mapped : {T U E D : Type 0} (f : T → U) (g : E → D) (r : Result T E) → is_ok (result_map_both f g r) ≡ is_ok r
ok_mapped f g (Ok x) = refl
ok_mapped f g (Err e) = refl

shift_stands : {A : Type 0} (reach : ℕ) (v : Point) (below : A) → In 16383 v → 16383 ≤ reach → shift_answer reach below v ≡ Ok (record { below = below; by = v })
shift_stands {A} reach v below h l =
    let made : Shift A = record { below = below; by = v } in
    ap (result_map_both (λ _. made) (λ e. e)) (offset_stands reach v h (omega (arith, h.0, h.1, h.2)))

-- the cap that was unwrapped
under : {A : Type 0} (r : Result (Cap A) LayerFault) (c : Cap A) (below : A) → r ≡ Ok c
    → ◌≡◌ {A = Result (A × ℕ) LayerFault} (result_map_both cap_parts (λ e. e) r) (Ok (below, 64)) → ◌≡◌ {A = A × ℕ} (cap_parts c) (below, 64)
under {A} r c below e f =
    let z : ◌≡◌ {A = Result (A × ℕ) LayerFault} (Ok (cap_parts c)) (Ok (below, 64)) = sym (ap (result_map_both (λ (c : Cap A). cap_parts c) (λ e. e)) e) ∙ f in
    cc

unwrapped : {A E : Type 0} (r : Result A E) (x y : A) → r ≡ Ok x → r ≡ Ok y → x ≡ y
unwrapped {A} {E} r x y e f = let z : ◌≡◌ {A = Result A E} (Ok x) (Ok y) = sym e ∙ f in cc

-- what stands under the cap, and what it means
abbrev pub Below : Type 0 → Type 0 → Type 0
Below T S = Meet AxisBox (Unite (Shift T) S)

abbrev pub below_body : {T S : Type 0} → (T → Body) → (S → Body) → Below T S → Body
below_body t s m = meet (block m.left.lo m.left.hi) (unite (shift m.right.left.by (t m.right.left.below)) (s m.right.right))

module _ {T S : Type 0} (t : T → Body) (s : S → Body) where
  pile_body : (j : Job) (c : Cap (Below T S)) (m : Below T S) (u : Unite (Shift T) S) (moved : Shift T) (sheet : T) (scene : S)
      → ◌≡◌ {A = Below T S × ℕ} (c.below, c.most) (m, 64) → m ≡ record { left = j.clip; right = u }
      → u ≡ record { left = moved; right = scene } → moved ≡ record { below = sheet; by = j.shift }
      → cap c.most (below_body t s c.below) ≡ job_pile (job_numbers j) (t sheet) (s scene)
  pile_body j c m u moved sheet scene e f g h =
      let box = j.clip in
      ap (λ (x : Below T S × ℕ). cap x.1 (below_body t s x.0)) e
      ∙ ap (λ (x : Below T S). cap 64 (below_body t s x)) f
      ∙ ap (λ (x : Unite (Shift T) S). cap 64 (meet (block box.lo box.hi) (unite (shift x.left.by (t x.left.below)) (s x.right)))) g
      ∙ ap (λ (x : Shift T). cap 64 (meet (block box.lo box.hi) (unite (shift x.by (t x.below)) (s scene)))) h

  -- the same, by what the making of each layer answers
  pub made_pile : (j : Job) (c : Cap (Below T S)) (m : Below T S) (u : Unite (Shift T) S) (moved : Shift T) (sheet : T) (scene : S)
      (capped : Result (Cap (Below T S)) LayerFault) (shifted : Result (Shift T) LayerFault)
      → 16383 ≤ (t sheet).reach
      → capped ≡ Ok c → ◌≡◌ {A = Result (Below T S × ℕ) LayerFault} (result_map_both cap_parts (λ e. e) capped) (Ok (m, 64))
      → m ≡ record { left = j.clip; right = u } → u ≡ record { left = moved; right = scene }
      → shifted ≡ Ok moved → shifted ≡ shift_answer (t sheet).reach sheet j.shift
      → cap c.most (below_body t s c.below) ≡ job_pile (job_numbers j) (t sheet) (s scene)
  made_pile j c m u moved sheet scene capped shifted far is_cap parts is_meet is_unite is_shift shift =
      pile_body j c m u moved sheet scene (under capped c m is_cap parts) is_meet is_unite
      (unwrapped shifted _ _ is_shift (shift ∙ shift_stands (t sheet).reach j.shift sheet j.shift_in_range far))
