-- A draft, as the calls on it see it: how many nodes were laid down, and the bodies that stand, the last first.
use Rattle.std.specs.Prelude.{ℕ, ◌+◌, if◌then◌else◌, List, Ok, Err, Result, nat_lt}
use Rattle.std.specs.Result.{result_and}
use Rattle.solid.specs.Body.{Body}
use Rattle.scene.specs.declared.draft.Draft.{Draft}
use Rattle.scene.specs.declared.fault.DraftFault.{DraftFault}
use Rattle.scene.specs.declared.fault.DraftFault.TheVariants.{Full}
use Rattle.scene.specs.declared.table.TheConstants.{MOST_NODES}
use Rattle.scene.specs.Tables.{table_count, bodies_of}
use Rattle.scene.specs.Laid.{LayAnswer}

abbrev pub State : Type 0
State = ℕ × List Body

abbrev pub state : Draft → State
state d = (table_count d.table, bodies_of d.table)

-- is there room for one node more?
abbrev pub room_answer : ℕ → Result Unit DraftFault
room_answer n = if nat_lt n MOST_NODES then Ok tt else Err Full

-- what a call answers, and the state after it: a refusal leaves all as it was
abbrev pub answer_outcome : LayAnswer → State → Result Unit DraftFault × State
answer_outcome (Ok t) x = (Ok tt, (x.0 + 1, t))
answer_outcome (Err e) x = (Err e, x)

-- the same of a call that looks for room first
abbrev pub lay_outcome : (List Body → LayAnswer) → State → Result Unit DraftFault × State
lay_outcome on x = answer_outcome (result_and (room_answer x.0) (on x.1)) x
