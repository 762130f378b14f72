-- A search for the parts of a scene.
use Rattle.std.specs.Prelude.{ℕ, ◌+◌, ◌<◌, ◌≤◌, Bool, false, IsTrue, List, slice_index_or}
use Rattle.lattice.specs.declared.Point.{Point}
use Rattle.scene.specs.declared.node.Node.{Node}
use Rattle.scene.specs.declared.parts.Part.{Part}
use Rattle.scene.specs.declared.search.Search.{Search}
use Rattle.scene.specs.declared.table.Table.{Table}
use Rattle.scene.specs.declared.table.TheConstants.{MOST_NODES}
use Rattle.scene.specs.Standing.{last_body}
use Rattle.scene.specs.Tables.{nodes_of, table_count}
use Rattle.scene.specs.Parts.{IsPart}

-- The first k of a row are found, and the other parts lie among what is open up to `end`: whatever is no farther than the
-- parts that are found and what is open is no farther than the whole.
pub record IsSearch (ns : List Node) (n : ℕ) (open_ends : List Bool) (row : List Part) (k end : ℕ) : Type 0 where
  pub room : k + end ≤ MOST_NODES
  pub opened : (e : ℕ) → e ≤ end → IsTrue (slice_index_or open_ends e false) → IsPart ns n e
  pub each : (i : ℕ) (d : Part) → i < k → IsPart ns n (slice_index_or row i d).end
  pub all : (p : Point) (m : ℕ)
      → ((i : ℕ) (d : Part) → i < k → m ≤ (last_body ns (slice_index_or row i d).end).clear p)
      → ((e : ℕ) → e ≤ end → IsTrue (slice_index_or open_ends e false) → m ≤ (last_body ns e).clear p)
      → m ≤ (last_body ns n).clear p

abbrev pub IsSearchOf : Table → Search → (end : ℕ) → Type 0
IsSearchOf t search end = IsSearch (nodes_of t) (table_count t) search.open_ends search.row.items search.row.height end
