-- The kinds of nodes among the kinds of words.
use Rattle.std.proofs.Common.{◌≡◌, ℕ, zero, suc, ◌+◌, ◌-◌, ◌/◌, ◌≤◌, ◌≢◌, true, false, ◌&&◌, eqb, leb, List, Ok, Err, refl, ap, ◌∙◌, subst, arith}
use Rattle.std.proofs.lemmas.Bool.{ne_eqb}
use Rattle.std.proofs.lemmas.Bool.Decides.{nat_tests}
use Rattle.words.specs.Kinds.{kind_number}
use Rattle.words.specs.Reading.{word_at, kind_at, bare_at}
use Rattle.words.specs.declared.kind.Kind.{Kind}
use Rattle.words.specs.declared.kind.UnknownKind.{UnknownKind}
use Rattle.words.proofs.Chains.{first_ok, test_held, same_ok}
use Rattle.readers.specs.declared.kind.NodeKind.{NodeKind}
use Rattle.readers.specs.declared.kind.NodeKind.TheVariants.{Ball, Block, Unite, Meet, Shift, Thicken}
use Rattle.readers.specs.Kinds.{word_kind, kind_of, node_kind}

-- a number that no kind of word has is no node's
pub no_word : (e : UnknownKind) (n : ℕ) → (e.0 ≡ n) × ((kind : Kind) → kind_number kind ≢ n) → Err e ≡ node_kind n
no_word e n h = simp (other Ball, other Block, other Unite, other Meet, other Shift, other Thicken) (ap (λ m. Err (record { 0 = m })) h.0)
  where
    other : (kind : NodeKind) → eqb (kind_number (word_kind kind)) n ≡ false
    other kind = ne_eqb _ n (h.1 (word_kind kind))

-- the numbers from 3 to 8 are those of the nodes' kinds
from_three : (d : ℕ) → d ≤ 5 → node_kind (3 + d) ≡ Ok (kind_of (3 + d))
from_three zero h = refl
from_three (suc zero) h = refl
from_three (suc (suc zero)) h = refl
from_three (suc (suc (suc zero))) h = refl
from_three (suc (suc (suc (suc zero)))) h = refl
from_three (suc (suc (suc (suc (suc zero))))) h = refl
from_three (suc (suc (suc (suc (suc (suc d)))))) h = absurd (omega arith)

named : (n : ℕ) → (leb 3 n && leb n 8) ≡ true → node_kind n ≡ Ok (kind_of n)
named n h =
    let least : 3 ≤ n = grind (arith, nat_tests) in
    let most : n ≤ 8 = grind (arith, nat_tests) in
    let e : 3 + (n - 3) ≡ n = omega arith in
    subst (λ m. node_kind m ≡ Ok (kind_of m)) e (from_three (n - 3) (omega arith))

-- a word whose kind is from 3 to 8 is a node's
pub node_word : (bs : List ℕ) (k n : ℕ) → bare_at bs k 3 8 ≡ Ok n → node_kind n ≡ Ok (kind_of n)
unfolding bare_at kind_at
node_word bs k n e =
    let bare = first_ok (kind_at bs k 3 8) _ n e in
    let unnamed = test_held _ _ _ n bare.1.1 in
    let word = first_ok (word_at bs k) _ bare.0 bare.1.0 in
    let due = test_held _ _ _ bare.0 word.1.1 in
    let same : word.0 / 268435456 ≡ n = ap (λ (w : ℕ × ℕ). w.0) (same_ok _ _ due.1) ∙ same_ok _ _ unnamed.1 in
    named n (subst (λ m. (leb 3 m && leb m 8) ≡ true) same due.0)
