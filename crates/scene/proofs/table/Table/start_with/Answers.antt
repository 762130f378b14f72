use Rattle.std.proofs.Common.{inl, inr, ap, ◌∙◌}
use Rattle.scene.specs.Standing.{has_one}
use Rattle.scene.proofs.Takes.{some_laid, one_of_two, shift_fit, thicken_fit}
use Rattle.scene.proofs.table.Table.start_with.Goals as goal

pub start_of-requires-in-Shift-clause-some : goal.start_of-requires-in-Shift-clause-some
start_of-requires-in-Shift-clause-some c =
    let s = c.args.self.now.nodes in
    elim c.in-Shift.is [
      | inl e ↦ some_laid s.items s.height (shift_fit e.0 _ (rw e.1 at c.requires)).0
      | inr e ↦ some_laid s.items s.height (thicken_fit e.0 _ (rw e.1 at c.requires)).0
    ]

pub start_of-requires-clause-some : goal.start_of-requires-clause-some
start_of-requires-clause-some c =
    let s = c.args.self.now.nodes in
    some_laid s.items s.height (one_of_two _ (rw c.in-Joined.is at c.requires))

pub start_of-requires-in-Joined-clause-some : goal.start_of-requires-in-Joined-clause-some
start_of-requires-in-Joined-clause-some c =
    let s = c.args.self.now.nodes in
    some_laid s.items c.start_of.result (ap has_one c.start_of.ensures.before ∙ rw c.in-Joined.is at c.requires)
