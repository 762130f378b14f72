use Rattle.scene.proofs.Asked.{IsAnswer}
use Rattle.scene.proofs.parts.Parts.ask_group.Given as goal

abbrev pub invariant-loop-i : goal.invariant-loop-i
invariant-loop-i l =
    let t = l.table.nodes in IsAnswer t.items t.height l.self.row.items l.p.at l.fn.most l.clear l.first l.i
