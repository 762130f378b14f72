-- The kinds of nodes, by the kinds of their words.
use Rattle.std.specs.Prelude.{ℕ, List, [], ◌∷◌, Option, Result, ◌==◌, find, ok_or, unwrap_or}
use Rattle.words.specs.declared.kind.Kind.{Kind}
use Rattle.words.specs.declared.kind.Kind.TheVariants as word
use Rattle.words.specs.declared.kind.UnknownKind.{UnknownKind}
use Rattle.words.specs.Kinds.{kind_number}
use Rattle.readers.specs.declared.kind.NodeKind.{NodeKind}
use Rattle.readers.specs.declared.kind.NodeKind.TheVariants.{Ball, Block, Unite, Meet, Shift, Thicken}

-- the kind of its word
abbrev pub word_kind : NodeKind → Kind
word_kind Ball = word.Ball
word_kind Block = word.Block
word_kind Unite = word.Unite
word_kind Meet = word.Meet
word_kind Shift = word.Shift
word_kind Thicken = word.Thicken

abbrev pub node_kinds : List NodeKind
node_kinds = Ball ∷ Block ∷ Unite ∷ Meet ∷ Shift ∷ Thicken ∷ []

-- the kind of a node by the number of its word's kind
abbrev pub kind_named : ℕ → Option NodeKind
kind_named n = find (λ kind. kind_number (word_kind kind) == n) node_kinds

-- that kind; or the number, which no node has
abbrev pub node_kind : ℕ → Result NodeKind UnknownKind
node_kind n = ok_or (kind_named n) (record { 0 = n })

-- that kind, where the number is known to be a node's
abbrev pub kind_of : ℕ → NodeKind
kind_of n = unwrap_or (kind_named n) Thicken

-- how many numbers follow it
abbrev pub number_count : NodeKind → ℕ
number_count Ball = 4
number_count Block = 6
number_count Unite = 0
number_count Meet = 0
number_count Shift = 3
number_count Thicken = 1

-- how many standing nodes it takes
abbrev pub nodes_taken : NodeKind → ℕ
nodes_taken Ball = 0
nodes_taken Block = 0
nodes_taken Unite = 2
nodes_taken Meet = 2
nodes_taken Shift = 1
nodes_taken Thicken = 1
