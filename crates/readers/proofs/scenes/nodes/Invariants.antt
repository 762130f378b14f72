use Rattle.std.proofs.Common.{◌≡◌, ◌+◌, ◌-◌, ◌<◌, ◌≤◌, []}
use Rattle.words.specs.Cursor.{text, place}
use Rattle.scene.specs.States.{state}
use Rattle.readers.specs.Scenes.{nodes_from}
use Rattle.readers.proofs.scenes.nodes.Given as goal

-- what is still to be read, from here, gives what was to be read at the start; each node so far had a word at least
abbrev pub invariant-loop-from : goal.invariant-loop-from
invariant-loop-from l =
    (nodes_from l.count (text l.initial.from) l.count 1 0 [] ≡ nodes_from (l.count - (state l.draft).0) (text l.initial.from) l.count (place l.from) (state l.draft).0 (state l.draft).1)
    × (text l.from ≡ text l.initial.from)
    × (place l.from ≤ l.count + 1)
    × ((state l.draft).0 < place l.from)

abbrev pub decreases-loop-from : goal.decreases-loop-from
decreases-loop-from l = l.count + 1 - place l.from
