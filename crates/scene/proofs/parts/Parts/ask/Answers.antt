use Rattle.std.proofs.Common.{arith}
use Rattle.scene.proofs.Asked.{group_asked, group_passed, all_asked}
use Rattle.scene.proofs.parts.Parts.ask.Goals as goal
use Rattle.scene.proofs.parts.Parts.ask.Goals.{then-off-clear, else-off-clear}

pub loop-group-preserved : goal.loop-group-preserved
loop-group-preserved c =
    let t = c.args.table.now.nodes in
    let s = c.args.self.now in
    let p = c.args.p in
    let g = c.loop-group in
    elim c.if-off-clear.branch [
      | then-off-clear w ↦
          let e = w.ask_group-clear.ensures in
          rw w.clear-is (group_asked t.items t.height s.row.items p.at c.args.most g.clear g.group s.row.height w.ask_group-clear.result g.invariant e.most e.whole e.each)
      | else-off-clear w ↦
          rw w.clear-is (group_passed t.items t.height s.row.items p.at c.args.most s.bounds g.clear g.group s.row.height c.index-self-group.result g.invariant c.requires.bounds p.in_reach (omega (arith, c.off.ensures, w.if-off-clear.false)))
    ]

pub returns : goal.returns
returns c =
    let t = c.args.table.now.nodes in
    let s = c.args.self.now.row in
    all_asked t.items t.height s.items c.args.p.at c.args.most c.loop-group.clear s.height _ (omega arith) c.requires.parts c.loop-group.invariant
