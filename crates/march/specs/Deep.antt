-- Does a body answer in the whole working range?
use Rattle.std.specs.Prelude.{◌≤◌, Bool, nat_le}
use Rattle.solid.specs.Body.{Body}
use Rattle.march.specs.declared.deep.TheConstants.{WORKING_RANGE}

abbrev pub IsDeep : Body → Type 0
IsDeep b = WORKING_RANGE ≤ b.reach

-- the test of it
abbrev pub is_deep : Body → Bool
is_deep b = nat_le WORKING_RANGE b.reach
