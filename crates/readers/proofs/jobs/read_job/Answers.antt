use Rattle.std.proofs.Common.{◌≡◌, Ok, arith, rules}
use Rattle.std.proofs.lemmas.Int.{ints}
use Rattle.words.specs.Cursor.{text}
use Rattle.readers.specs.Jobs.{view_at, pile_at, job_of}
use Rattle.readers.proofs.JobsBack.{jobs_back}
use Rattle.readers.proofs.JobRanges.{view_stands, pile_kept, corner_placed}
use Rattle.readers.proofs.jobs.read_job.Goals as goal

pub returns-in_err-bare_of-clause-back : goal.returns-in_err-bare_of-clause-back
returns-in_err-bare_of-clause-back c = jobs_back

pub returns-in_err-view-clause-back : goal.returns-in_err-view-clause-back
returns-in_err-view-clause-back c = jobs_back

pub returns-in_err-guard-clause-back : goal.returns-in_err-guard-clause-back
returns-in_err-guard-clause-back c = jobs_back

pub returns-then-not-ordered-clause-back : goal.returns-then-not-ordered-clause-back
returns-then-not-ordered-clause-back c = jobs_back

pub returns-clause-back : goal.returns-clause-back
returns-clause-back c = jobs_back

pub returns-then-not-ordered-clause-value : goal.returns-then-not-ordered-clause-value
unfolding job_of
returns-then-not-ordered-clause-value c =
    let p : pile_at (text c.next_part.new.self) ≡ Ok (c.in_ok-guard.guard, c.in_ok-guard.shift, c.in_ok-guard.lo, c.in_ok-guard.hi) = search rules in
    search rules

pub returns-clause-value : goal.returns-clause-value
unfolding job_of
returns-clause-value c =
    let p : pile_at (text c.next_part.new.self) ≡ Ok (c.in_ok-guard.guard, c.in_ok-guard.shift, c.in_ok-guard.lo, c.in_ok-guard.hi) = search rules in
    search rules

pub invariant_of-result : goal.invariant_of-result
invariant_of-result c =
    let p : pile_at (text c.next_part.new.self) ≡ Ok (c.in_ok-guard.guard, c.in_ok-guard.shift, c.in_ok-guard.lo, c.in_ok-guard.hi) = search rules in
    let k = pile_kept (text c.next_part.new.self) _ p in
    record { lo_is_placement = corner_placed c.in_ok-guard.lo k.2; hi_is_placement = corner_placed c.in_ok-guard.hi k.3; in_order = search rules }

pub invariant_of-result-2 : goal.invariant_of-result-2
invariant_of-result-2 c =
    let bs = text c.next_part.new.self in
    let v : view_at bs ≡ Ok c.in_ok-view.view = search rules in
    let p : pile_at bs ≡ Ok (c.in_ok-guard.guard, c.in_ok-guard.shift, c.in_ok-guard.lo, c.in_ok-guard.hi) = search rules in
    let k = pile_kept bs _ p in
    let s = k.0 in
    record { view_in_range = view_stands bs _ v; guard_in_range = omega (arith, ints, s); shift_in_range = k.1 }
