-- What a solid answers when it is asked at a point: its clearance there, or, beyond its reach, a refusal.
use Rattle.std.specs.Prelude.{ℕ, min, Bool, if◌then◌else◌, Ok, Err, Result}
use Rattle.lattice.specs.Space.{within}
use Rattle.lattice.specs.declared.Point.{Point}
use Rattle.solid.specs.declared.QuestionFault.{QuestionFault}
use Rattle.solid.specs.declared.QuestionFault.TheVariants.{BeyondReach}
use Rattle.solid.specs.Body.{Body}

-- may a solid of that reach be asked at the point?
abbrev pub check_asked : (reach : ℕ) → Point → Result Unit QuestionFault
check_asked reach p = if within reach p then Ok tt else Err BeyondReach

abbrev pub answer : Body → Point → Result ℕ QuestionFault
answer b p = if within b.reach p then Ok (b.clear p) else Err BeyondReach

-- the same, asked up to a limit: a clearance above it is answered by the limit
abbrev pub answer_up_to : (most : ℕ) → Body → Point → Result ℕ QuestionFault
answer_up_to most b p = if within b.reach p then Ok (min most (b.clear p)) else Err BeyondReach

-- whether the point is a member, asked the same way
abbrev pub membership : Body → Point → Result Bool QuestionFault
membership b p = if within b.reach p then Ok (b.member p) else Err BeyondReach
