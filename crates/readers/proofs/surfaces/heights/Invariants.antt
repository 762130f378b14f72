use Rattle.std.proofs.Common.{◌≡◌, ◌+◌, ◌-◌, ◌++◌, length, take}
use Rattle.std.specs.Result.{result_map_both}
use Rattle.words.specs.Cursor.{text, place}
use Rattle.readers.specs.Surfaces.{heights_at}
use Rattle.readers.proofs.surfaces.heights.Given as goal

-- the heights so far, with those that are still to be read, are those to be read at the start
abbrev pub invariant-loop-height : goal.invariant-loop-height
invariant-loop-height l =
    let bs = text l.initial.from in
    let n = length l.initial.sheet in
    (heights_at bs (place l.initial.from) n
    ≡ result_map_both (λ hs. take l.height-index l.sheet ++ hs) (λ e. e) (heights_at bs (place l.from) (n - l.height-index)))
    × (text l.from ≡ bs)
    × (place l.from ≡ place l.initial.from + l.height-index)
