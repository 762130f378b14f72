-- A scene as a tree, as it is written, and the law that it is read back.
use Rattle.std.specs.Prelude.{◌≡◌, ℕ, ◌+◌, ◌≤◌, Bool, IsTrue, ◌&&◌, List, [], ◌∷◌, ◌++◌, length, pos, Ok, nat_le, unsigned_abs}
use Rattle.refusal.specs.Ranges.{between}
use Rattle.lattice.specs.Space.{norm, within, ordered}
use Rattle.lattice.specs.declared.Point.{Point}
use Rattle.lattice.specs.declared.TheConstants.{LEAST_COORDINATE, MOST_COORDINATE, MOST_OFFSET}
use Rattle.solid.specs.Body.{Body}
use Rattle.piles.specs.Leaves.{ball, block}
use Rattle.piles.specs.Layers.{unite, meet, shift, thicken}
use Rattle.piles.specs.declared.TheConstants.{LEAST_THICKNESS, MOST_THICKNESS}
use Rattle.leaves.specs.declared.ball.TheConstants.{LEAST_RADIUS, MOST_RADIUS}
use Rattle.words.specs.declared.kind.Kind.TheVariants as kind
use Rattle.words.specs.Words.{kind_word}
use Rattle.words.specs.Reading.{point_in}
use Rattle.words.specs.Encoding.{bytes_of, signed_word}
use Rattle.scene.specs.declared.table.TheConstants.{MOST_NODES}
use Rattle.readers.specs.Scenes.{scene_of}

pub data Tree : Type 0 where
  Ball : (centre : Point) (radius : ℕ) → Tree
  Box : (lo hi : Point) → Tree
  Unite : Tree → Tree → Tree
  Meet : Tree → Tree → Tree
  Shift : Point → Tree → Tree
  Thicken : ℕ → Tree → Tree

-- what a tree means
unfoldable pub tree_body : Tree → Body
tree_body (Ball m r) = ball m r
tree_body (Box lo hi) = block lo hi
tree_body (Unite s t) = unite (tree_body s) (tree_body t)
tree_body (Meet s t) = meet (tree_body s) (tree_body t)
tree_body (Shift v s) = shift v (tree_body s)
tree_body (Thicken h s) = thicken h (tree_body s)

-- how many nodes it has
unfoldable pub node_count : Tree → ℕ
node_count (Ball m r) = 1
node_count (Box lo hi) = 1
node_count (Unite s t) = node_count s + node_count t + 1
node_count (Meet s t) = node_count s + node_count t + 1
node_count (Shift v s) = node_count s + 1
node_count (Thicken h s) = node_count s + 1

-- is it a point that a centre or a corner may have?
abbrev pub is_placement : Point → Bool
is_placement p = point_in LEAST_COORDINATE MOST_COORDINATE p

-- its numbers are in their ranges, and each node can be made of those below it
unfoldable pub is_sound : Tree → Bool
is_sound (Ball m r) = is_placement m && between LEAST_RADIUS MOST_RADIUS (pos r)
is_sound (Box lo hi) = is_placement lo && (is_placement hi && ordered lo hi)
is_sound (Unite s t) = is_sound s && is_sound t
is_sound (Meet s t) = is_sound s && is_sound t
is_sound (Shift v s) = is_sound s && (within (unsigned_abs MOST_OFFSET) v && nat_le (norm v) (tree_body s).reach)
is_sound (Thicken h s) = is_sound s && (between LEAST_THICKNESS MOST_THICKNESS (pos h) && (tree_body s).exact)

abbrev pub point_words : Point → List ℕ → List ℕ
point_words p ws = signed_word p.x ∷ signed_word p.y ∷ signed_word p.z ∷ ws

-- a node comes after those that it takes, and its numbers after its word
unfoldable pub words_of : Tree → List ℕ
words_of (Ball m r) = kind_word kind.Ball 0 ∷ point_words m (signed_word (pos r) ∷ [])
words_of (Box lo hi) = kind_word kind.Block 0 ∷ point_words lo (point_words hi [])
words_of (Unite s t) = words_of s ++ (words_of t ++ (kind_word kind.Unite 0 ∷ []))
words_of (Meet s t) = words_of s ++ (words_of t ++ (kind_word kind.Meet 0 ∷ []))
words_of (Shift v s) = words_of s ++ (kind_word kind.Shift 0 ∷ point_words v [])
words_of (Thicken h s) = words_of s ++ (kind_word kind.Thicken 0 ∷ signed_word (pos h) ∷ [])

abbrev pub scene_words : Tree → List ℕ
scene_words t = kind_word kind.Scene (length (words_of t)) ∷ words_of t

-- every sound tree of as many nodes as a scene may have is read back from its words, whatever follows them
abbrev pub ScenesReadBack : Type 0
ScenesReadBack =
    (t : Tree) (rest : List ℕ)
    → IsTrue (is_sound t)
    → node_count t ≤ MOST_NODES
    → scene_of (bytes_of (scene_words t) ++ rest) ≡ Ok (length (words_of t), tree_body t)
