-- Checks in their order: the first that fails gives the answer.
use Rattle.std.specs.Prelude.{Bool, if◌then◌else◌, Result, Ok, Err}

-- go on with the value, or stop at the fault
abbrev pub and_then : {A B E : Type 0} → Result A E → (A → Result B E) → Result B E
and_then (Ok x) next = next x
and_then (Err e) next = Err e

-- go on where the test holds, or stop at the fault
abbrev pub unless : {A E : Type 0} → Bool → E → Result A E → Result A E
unless test fault next = if test then next else Err fault
