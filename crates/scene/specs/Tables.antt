-- A table as clauses see it: its nodes, what stands once some or all of them are laid down, and of what the last body is
-- a union.
use Rattle.std.specs.Prelude.{ℕ, List}
use Rattle.solid.specs.Body.{Body}
use Rattle.scene.specs.declared.bound.Bound.{Bound}
use Rattle.scene.specs.declared.node.Node.{Node}
use Rattle.scene.specs.declared.parts.Part.{Part}
use Rattle.scene.specs.declared.stack.Stack.{Stack}
use Rattle.scene.specs.declared.table.Table.{Table}
use Rattle.scene.specs.declared.table.TheConstants.{MOST_NODES}
use Rattle.scene.specs.Standing.{bodies_after, last_body}
use Rattle.scene.specs.Parts.{AreParts, AreBounds, Unites}

abbrev pub nodes_of : Table → List Node
nodes_of t = t.nodes.items

abbrev pub table_count : Table → ℕ
table_count t = t.nodes.height

-- what stands once the first n nodes are laid down, and the last of it
abbrev pub bodies_at : Table → ℕ → List Body
bodies_at t n = bodies_after (nodes_of t) n

abbrev pub body_at : Table → ℕ → Body
body_at t n = last_body (nodes_of t) n

-- the same once all are
abbrev pub bodies_of : Table → List Body
bodies_of t = bodies_at t (table_count t)

abbrev pub table_body : Table → Body
table_body t = body_at t (table_count t)

-- the last of the first `end` nodes unites what stands after the first `left` with what stands before it
abbrev pub UnitesAt : Table → (end left : ℕ) → Type 0
UnitesAt t end left = Unites (nodes_of t) end left

-- a row has the parts of the last body once all are, and these are bounds about its groups
abbrev pub ArePartsOf : Table → (row : Stack Part MOST_NODES) → Type 0
ArePartsOf t row = AreParts (nodes_of t) (table_count t) row.items row.height

abbrev pub AreBoundsOf : Table → (row : Stack Part MOST_NODES) → List Bound → Type 0
AreBoundsOf t row bounds = AreBounds (nodes_of t) row.items row.height bounds
