use Rattle.std.proofs.Common.{min, ◌*◌}
use Rattle.scene.specs.declared.parts.TheConstants.{GROUP}
use Rattle.scene.proofs.Asked.{IsAnswer}
use Rattle.scene.proofs.parts.Parts.ask.Given as goal

abbrev pub invariant-loop-group : goal.invariant-loop-group
invariant-loop-group l =
    let t = l.table.nodes in IsAnswer t.items t.height l.self.row.items l.p.at l.fn.most l.clear 0 (min (l.group * GROUP) l.self.row.height)
