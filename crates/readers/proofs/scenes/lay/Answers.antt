use Rattle.std.proofs.Common.{◌≡◌, ◌+◌, Ok, rules}
use Rattle.words.specs.Cursor.{text}
use Rattle.words.specs.Reading.{placement_at, offset_at}
use Rattle.scene.specs.Laid.{box_on, shift_on}
use Rattle.scene.specs.States.{state}
use Rattle.readers.specs.Scenes.{at_node, lay_at}
use Rattle.readers.proofs.SceneNodes.{laying}
use Rattle.readers.proofs.scenes.lay.Goals as goal

pub returns-in_ok-hi-in-Block : goal.returns-in_ok-hi-in-Block
unfolding lay_at
returns-in_ok-hi-in-Block c =
    let bs = text c.args.from.now in
    let k = c.args.node in
    let m : placement_at bs (k + 1) ≡ Ok c.in_ok-lo-in-Block.lo = search rules in
    let r : placement_at bs (k + 4) ≡ Ok c.in_ok-hi-in-Block.hi = search rules in
    let l = laying (box_on c.in_ok-lo-in-Block.lo c.in_ok-hi-in-Block.hi) (state c.args.draft.now) (state c.block.new.self) k c.block.result c.requires.room (search rules) in
    let a : c.at_node-in-Block.result ≡ at_node k c.block.result = search rules in
    rw c.in-Block.is (record { value = rw a (simp (m, r) l.0); counted = rw a l.1; same_text = search rules; moved = search rules })

pub returns-in_ok-by-in-Shift : goal.returns-in_ok-by-in-Shift
unfolding lay_at
returns-in_ok-by-in-Shift c =
    let k = c.args.node in
    let v : offset_at (text c.args.from.now) (k + 1) ≡ Ok c.in_ok-by-in-Shift.by = search rules in
    let l = laying (shift_on c.in_ok-by-in-Shift.by) (state c.args.draft.now) (state c.shift.new.self) k c.shift.result c.requires.room c.shift.ensures in
    let a : c.at_node-in-Shift.result ≡ at_node k c.shift.result = c.at_node-in-Shift.ensures in
    rw c.in-Shift.is (record { value = rw a (simp v l.0); counted = rw a l.1; same_text = search rules; moved = search rules })
