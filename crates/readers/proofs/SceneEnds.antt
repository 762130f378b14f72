-- The end of a scene.
use Rattle.std.proofs.Common.{◌≡◌, ℕ, List, [], ◌∷◌, IfErr, Ok, Err, Result, sym, refl, subst}
use Rattle.solid.specs.Body.{Body}
use Rattle.scene.specs.declared.fault.DraftFault.{DraftFault}
use Rattle.scene.specs.Scenes.{fill_outcome}
use Rattle.words.specs.Reading.{answer_with}
use Rattle.readers.specs.declared.fault.SceneFault.{SceneFault}
use Rattle.readers.specs.Scenes.{at_node, end_answer, nodes_from, scene_length, scene_of}

filled_or_not : (count : ℕ) (s : List Body) (old : Body)
    → answer_with (at_node count (fill_outcome s old).0) (fill_outcome s old).1 ≡ end_answer count s
unfolding end_answer
filled_or_not count [] old = refl
filled_or_not count (b ∷ []) old = refl
filled_or_not count (b ∷ (a ∷ s)) old = refl

-- what a scene becomes of what stands is what the end of its words says
pub ending : (count : ℕ) (s : List Body) (old b : Body) (r : Result Unit DraftFault) → (r, b) ≡ fill_outcome s old
    → answer_with (at_node count r) b ≡ end_answer count s
ending count s old b r e = subst (λ (z : Result Unit DraftFault × Body). answer_with (at_node count z.0) z.1 ≡ end_answer count s) (sym e) (filled_or_not count s old)

-- what was left as it was by a refusal of the fill is so by the refusal at a place
pub left : (count : ℕ) (r : Result Unit DraftFault) (e : SceneFault) (P : Type 0) → at_node count r ≡ Err e
    → IfErr r (λ _. P) → P
left count (Ok u) e P h p = absurd cc
left count (Err f) e P h p = p

module _ (bs : List ℕ) where
  pub no_count : (e : SceneFault) → scene_length bs ≡ Err e → scene_of bs ≡ Err e
  unfolding scene_of
  no_count e p = simp p

  pub no_scene : (n : ℕ) (e : SceneFault) → scene_length bs ≡ Ok n → nodes_from n bs n 1 0 [] ≡ Err e → scene_of bs ≡ Err e
  unfolding scene_of
  no_scene n e p q = simp (p, q)

  pub a_scene : (n : ℕ) (b : Body) → scene_length bs ≡ Ok n → nodes_from n bs n 1 0 [] ≡ Ok b → scene_of bs ≡ Ok (n, b)
  unfolding scene_of
  a_scene n b p q = simp (p, q)
