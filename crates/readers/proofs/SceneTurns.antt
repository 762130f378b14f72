-- One turn of reading nodes.
use Rattle.std.proofs.Common.{◌≡◌, ℕ, zero, suc, ◌+◌, ◌-◌, ◌<◌, ◌≤◌, true, false, leb, List, Ok, Err, refl, ap, ◌∙◌, arith}
use Rattle.std.proofs.lemmas.Bool.Decides.{nat_tests}
use Rattle.solid.specs.Body.{Body}
use Rattle.refusal.specs.Checks.{and_then}
use Rattle.readers.specs.declared.fault.SceneFault.{SceneFault}
use Rattle.readers.specs.Scenes.{node_at, end_answer, nodes_from}

pub at_end : (most : ℕ) (bs : List ℕ) (count k n : ℕ) (s : List Body) → count < k
    → nodes_from most bs count k n s ≡ end_answer count s
unfolding nodes_from
at_end zero bs count k n s h = refl
at_end (suc most) bs count k n s h = let b : leb k count ≡ false = grind (arith, nat_tests) in simp b

-- a place within the count has a node
pub a_node : (most : ℕ) (bs : List ℕ) (count k n : ℕ) (s : List Body) → k ≤ count
    → nodes_from (suc most) bs count k n s ≡ and_then (node_at bs count k n s) (λ x. nodes_from most bs count x.1 (n + 1) x.0)
unfolding nodes_from
a_node most bs count k n s h = let b : leb k count ≡ true = grind (arith, nat_tests) in simp b

module _ (bs : List ℕ) (count k n : ℕ) (s : List Body) (h : k ≤ count) (l : n < k) where
  turn : nodes_from (count - n) bs count k n s ≡ and_then (node_at bs count k n s) (λ x. nodes_from (count - (n + 1)) bs count x.1 (n + 1) x.0)
  turn = let e : count - n ≡ suc (count - (n + 1)) = omega arith in ap (λ m. nodes_from m bs count k n s) e ∙ a_node (count - (n + 1)) bs count k n s h

  pub stop : (e : SceneFault) → node_at bs count k n s ≡ Err e → nodes_from (count - n) bs count k n s ≡ Err e
  stop e p = turn ∙ simp p

  pub go_on : (m j : ℕ) (t : List Body) → node_at bs count k n s ≡ Ok (t, j) → m ≡ n + 1
      → nodes_from (count - n) bs count k n s ≡ nodes_from (count - m) bs count j m t
  go_on m j t p q = turn ∙ simp (p, q)
