-- A node that finds room is laid down on what stands.
use Rattle.std.proofs.Common.{◌≡◌, ℕ, ◌+◌, ◌<◌, ◌≤◌, true, ltb, leb, List, IfOk, Ok, Err, Result, sym, refl, ap, ◌∙◌, subst, arith}
use Rattle.std.proofs.lemmas.Bool.Decides.{nat_tests}
use Rattle.solid.specs.Body.{Body}
use Rattle.scene.specs.declared.fault.DraftFault.{DraftFault}
use Rattle.scene.specs.Laid.{LayAnswer}
use Rattle.scene.specs.States.{State, answer_outcome, lay_outcome}
use Rattle.scene.specs.declared.fault.DraftFault.TheVariants.{Full}
use Rattle.refusal.specs.Checks.{and_then}
use Rattle.words.specs.Reading.{answer_with, bare_at}
use Rattle.words.proofs.Chains.{test_held}
use Rattle.readers.specs.declared.fault.SceneFault.{SceneFault}
use Rattle.readers.specs.declared.fault.SceneFault.TheVariants.{Numbers, Node}
use Rattle.readers.specs.declared.kind.NodeKind.{NodeKind}
use Rattle.readers.specs.Kinds.{kind_of, number_count}
use Rattle.readers.specs.Scenes.{at_node, node_check, lay_at, node_at}

-- what is known of a node that was laid down, or not, on x: `y` is the state after it
abbrev IsLaid : LayAnswer → State → ℕ → Result Unit DraftFault → State → Type 0
IsLaid l x k r y = (answer_with (at_node k r) y.1 ≡ at_node k l) × IfOk (at_node k r) (λ _. y.0 ≡ x.0 + 1)

laid : (l : LayAnswer) (x : State) (k : ℕ) → IsLaid l x k (answer_outcome l x).0 (answer_outcome l x).1
laid (Ok t) x k = (refl, refl)
laid (Err e) x k = (refl, tt)

pub laying : (on : List Body → LayAnswer) (x y : State) (k : ℕ) (r : Result Unit DraftFault) → x.0 < 256 → (r, y) ≡ lay_outcome on x
    → IsLaid (on x.1) x k r y
laying on x y k r h e =
    let b : ltb x.0 256 ≡ true = grind (arith, nat_tests) in
    let w : lay_outcome on x ≡ answer_outcome (on x.1) x = simp b in
    subst (λ (z : Result Unit DraftFault × State). IsLaid (on x.1) x k z.0 z.1) (sym (e ∙ w)) (laid (on x.1) x k)

-- a node that passes the checks finds room, and its numbers stand within the count
pub passes : (count k n : ℕ) (kind : NodeKind) (s : List Body) (u : Unit {0}) → node_check count k n kind s ≡ Ok u
    → (n < 256) × (k + number_count kind ≤ count)
unfolding node_check
passes count k n kind s u e =
    let a = test_held (ltb n 256) (Node Full k) _ u e in
    let b = test_held (leb (k + number_count kind) count) (Numbers k) _ u a.1 in
    let p = a.0 in let q = b.0 in
    (grind (arith, nat_tests), grind (arith, nat_tests))

-- the place of the next node joins what stands
pub joined : (r : Result Unit SceneFault) (t : List Body) (p q : ℕ) (l : Result (List Body) SceneFault) → answer_with r t ≡ l
    → IfOk r (λ _. p ≡ q) → answer_with {B = List Body × ℕ} r (t, p) ≡ and_then l (λ u. Ok (u, q))
joined (Ok u) t p q l e m = ap (λ z. Ok (t, z)) m ∙ ap (λ z. and_then z (λ v. Ok (v, q))) e
joined (Err d) t p q l e m = ap (λ z. and_then z (λ v. Ok (v, q))) e

-- what a node gives, once its word is read and its checks are passed
abbrev pub NodeAnswer : Type 0
NodeAnswer = Result (List Body × ℕ) SceneFault

abbrev pub after : List ℕ → ℕ → NodeKind → List Body → NodeAnswer
after bs k kind s = and_then (lay_at bs k kind s) (λ t. Ok (t, k + 1 + number_count kind))

pub node_is : (bs : List ℕ) (count k n : ℕ) (s : List Body) (w : ℕ) (kind : NodeKind) (u : Unit {0})
    → bare_at bs k 3 8 ≡ Ok w → kind ≡ kind_of w → node_check count k n kind s ≡ Ok u
    → node_at bs count k n s ≡ after bs k kind s
unfolding node_at
node_is bs count k n s w kind u b e h = simp b (subst (λ (z : NodeKind). and_then {B = List Body × ℕ} (node_check count k n z s) (λ _. after bs k z s) ≡ after bs k kind s) e (simp h))

-- where a call is made, a fact that follows holds
pub made_on : (r : Result Unit SceneFault) (P Q : Type 0) → (P → Q) → IfOk r (λ _. P) → IfOk r (λ _. Q)
made_on (Ok u) P Q f p = f p
made_on (Err d) P Q f p = tt
