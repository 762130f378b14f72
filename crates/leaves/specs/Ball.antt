-- How far a ball may lie from a point at which it is asked.
use Rattle.std.specs.Prelude.{ℕ, ◌+◌, unsigned_abs}
use Rattle.lattice.specs.declared.TheConstants.{LEAST_COORDINATE}
use Rattle.solid.specs.declared.TheConstants.{MOST_REACH}

-- on an axis, the greatest difference of a centre and a point within the reach
abbrev pub most_gap : ℕ
most_gap = MOST_REACH + unsigned_abs LEAST_COORDINATE
