use Rattle.std.proofs.Common.{◌<◌, length, ap, arith}
use Rattle.std.proofs.lemmas.List.{get_or_default}
use Rattle.scene.specs.declared.parts.Part.{Part}
use Rattle.scene.proofs.Asked.{one_asked}
use Rattle.scene.proofs.parts.Parts.ask_group.Goals as goal

pub loop-i-preserved : goal.loop-i-preserved
loop-i-preserved c =
    let t = c.args.table.now.nodes in
    let s = c.args.self.now.row in
    let i = c.loop-i.i in
    let room : i < length s.items = omega arith in
    one_asked t.items t.height s.items c.args.p.at c.args.most c.loop-i.clear _ i _ c.loop-i.invariant (c.requires.parts.each i _ (omega arith))
    (λ d. ap (λ (x : Part). x.end) (get_or_default s.items i d _ room)) c.ask_part-clear.result c.ask_part-clear.ensures
