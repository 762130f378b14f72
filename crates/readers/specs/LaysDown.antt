-- How a node is laid down: what a call answers, and what it leaves of the reader and of the draft. Where it refuses, they
-- are let go.
use Rattle.std.specs.Prelude.{◌≡◌, ℕ, ◌+◌, List, IfOk, Result}
use Rattle.solid.specs.Body.{Body}
use Rattle.words.specs.declared.reader.Reader.{Reader}
use Rattle.words.specs.Reading.{answer_with}
use Rattle.words.specs.Cursor.{text, place}
use Rattle.scene.specs.declared.draft.Draft.{Draft}
use Rattle.scene.specs.States.{state}
use Rattle.readers.specs.declared.fault.SceneFault.{SceneFault}
use Rattle.readers.specs.declared.kind.NodeKind.{NodeKind}
use Rattle.readers.specs.Kinds.{number_count}
use Rattle.readers.specs.Scenes.{lay_at}

-- how many nodes a draft has, and the bodies that stand in it, the last first
abbrev pub nodes_in : Draft → ℕ
nodes_in draft = (state draft).0

abbrev pub bodies_in : Draft → List Body
bodies_in draft = (state draft).1

-- the node of a kind whose word stands at place k
pub record LaysDown (kind : NodeKind) (k : ℕ) (r : Result Unit SceneFault)
    (from after : Reader) (old new : Draft) : Type 0 where
  pub value : answer_with r (bodies_in new) ≡ lay_at (text from) k kind (bodies_in old)
  pub counted : IfOk r (λ _. nodes_in new ≡ nodes_in old + 1)
  pub same_text : text after ≡ text from
  pub moved : IfOk r (λ _. place after ≡ k + 1 + number_count kind)
