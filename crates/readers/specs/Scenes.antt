-- What a scene's words say: a start word that counts those after it, and then the nodes, each a word with its numbers. What
-- stands is a list of bodies, the last first; a node takes as many of them as it wants, and what it makes stands in their
-- place.
use Rattle.std.specs.Prelude.{ℕ, zero, suc, ◌+◌, Bool, true, if◌then◌else◌, ◌&&◌, List, [], ◌∷◌, length, Ok, Err, Result, nat_le, nat_lt}
use Rattle.std.specs.Result.{result_map_both}
use Rattle.refusal.specs.Checks.{and_then, unless}
use Rattle.solid.specs.Body.{Body}
use Rattle.piles.specs.Layers.{unite, meet}
use Rattle.piles.specs.declared.TheConstants.{LEAST_THICKNESS, MOST_THICKNESS}
use Rattle.leaves.specs.declared.ball.TheConstants.{LEAST_RADIUS, MOST_RADIUS}
use Rattle.words.specs.declared.fault.WordFault.{WordFault}
use Rattle.words.specs.declared.kind.Kind.TheVariants as word
use Rattle.words.specs.Kinds.{kind_number}
use Rattle.words.specs.Reading.{rest_at, bare_at, number_in, placement_at, offset_at}
use Rattle.scene.specs.declared.table.TheConstants.{MOST_NODES}
use Rattle.scene.specs.declared.fault.DraftFault.{DraftFault}
use Rattle.scene.specs.declared.fault.DraftFault.TheVariants.{Full, TooFew, Inexact, Unfinished}
use Rattle.scene.specs.Standing.{last_is_exact}
use Rattle.scene.specs.Laid.{ball_on, box_on, two_on, shift_on, thicken_on}
use Rattle.readers.specs.declared.scenes.TheConstants.{LEAST_WORDS, MOST_WORDS}
use Rattle.readers.specs.declared.fault.SceneFault.{SceneFault}
use Rattle.readers.specs.declared.fault.SceneFault.TheVariants.{Word, Count, Numbers, Node}
use Rattle.readers.specs.declared.kind.NodeKind.{NodeKind}
use Rattle.readers.specs.declared.kind.NodeKind.TheVariants.{Ball, Block, Unite, Meet, Shift, Thicken}
use Rattle.readers.specs.Kinds.{kind_of, number_count, nodes_taken}

abbrev pub in_scene : {A : Type 0} → Result A WordFault → Result A SceneFault
in_scene = result_map_both (λ x. x) Word

-- a fault of a node, at a place
abbrev pub at_node : {A : Type 0} → ℕ → Result A DraftFault → Result A SceneFault
at_node k = result_map_both (λ x. x) (λ e. Node e k)

-- is what a thickening takes exact?
abbrev pub is_exact_enough : NodeKind → List Body → Bool
is_exact_enough Ball s = true
is_exact_enough Block s = true
is_exact_enough Unite s = true
is_exact_enough Meet s = true
is_exact_enough Shift s = true
is_exact_enough Thicken s = last_is_exact s

-- what is looked at before the numbers of the node at place k, which has n nodes before it, in a scene of count words
unfoldable pub node_check : (count k n : ℕ) → NodeKind → List Body → Result Unit SceneFault
node_check count k n kind s =
    unless (nat_lt n MOST_NODES) (Node Full k)
    (unless (nat_le (k + number_count kind) count) (Numbers k)
    (unless (nat_le (nodes_taken kind) (length s)) (Node TooFew k)
    (unless (is_exact_enough kind s) (Node Inexact k)
    (Ok tt))))

-- the numbers of the node at place k, and what stands once it is laid down
unfoldable pub lay_at : List ℕ → (k : ℕ) → NodeKind → List Body → Result (List Body) SceneFault
lay_at bs k Ball s =
    and_then (in_scene (placement_at bs (k + 1))) (λ centre.
    and_then (in_scene (number_in bs (k + 4) LEAST_RADIUS MOST_RADIUS)) (λ radius.
    at_node k (ball_on centre radius s)))
lay_at bs k Block s =
    and_then (in_scene (placement_at bs (k + 1))) (λ lo.
    and_then (in_scene (placement_at bs (k + 4))) (λ hi.
    at_node k (box_on lo hi s)))
lay_at bs k Unite s = at_node k (two_on unite s)
lay_at bs k Meet s = at_node k (two_on meet s)
lay_at bs k Shift s =
    and_then (in_scene (offset_at bs (k + 1))) (λ by.
    at_node k (shift_on by s))
lay_at bs k Thicken s =
    and_then (in_scene (number_in bs (k + 1) LEAST_THICKNESS MOST_THICKNESS)) (λ by.
    at_node k (thicken_on by s))

-- a whole node: what stands after it, and the place of the next
unfoldable pub node_at : List ℕ → (count k n : ℕ) → List Body → Result (List Body × ℕ) SceneFault
node_at bs count k n s =
    and_then (in_scene (bare_at bs k (kind_number word.Ball) (kind_number word.Thicken))) (λ w.
    and_then (node_check count k n (kind_of w) s) (λ _.
    and_then (lay_at bs k (kind_of w) s) (λ t.
    Ok (t, k + 1 + number_count (kind_of w)))))

-- at the end one node stands, which is the scene
unfoldable pub end_answer : (count : ℕ) → List Body → Result Body SceneFault
end_answer count [] = Err (Node Unfinished count)
end_answer count (b ∷ []) = Ok b
end_answer count (b ∷ (a ∷ s)) = Err (Node Unfinished count)

-- the nodes from place k on; each has a word at least, so that there are at most as many as words
unfoldable pub nodes_from : (most : ℕ) → List ℕ → (count k n : ℕ) → List Body → Result Body SceneFault
nodes_from zero bs count k n s = end_answer count s
nodes_from (suc most) bs count k n s =
    if nat_le k count
    then and_then (node_at bs count k n s) (λ x. nodes_from most bs count x.1 (n + 1) x.0)
    else end_answer count s

-- the start word: how many words come after it
unfoldable pub scene_length : List ℕ → Result ℕ SceneFault
scene_length bs =
    and_then (in_scene (rest_at bs 0 (kind_number word.Scene))) (λ n.
    unless (nat_le LEAST_WORDS n && nat_le n MOST_WORDS) Count
    (Ok n))

-- the whole scene: that count, and its body
unfoldable pub scene_of : List ℕ → Result (ℕ × Body) SceneFault
scene_of bs =
    and_then (scene_length bs) (λ n.
    and_then (nodes_from n bs n 1 0 []) (λ b.
    Ok (n, b)))

-- the answer, and the body of the caller's scene after it: a refusal leaves the one that was there
abbrev pub put_scene : Body → Result (ℕ × Body) SceneFault → Result Unit SceneFault × Body
put_scene old (Ok x) = (Ok tt, x.1)
put_scene old (Err e) = (Err e, old)
