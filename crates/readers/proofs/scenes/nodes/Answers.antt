use Rattle.std.proofs.Common.{◌≡◌, Ok, Err, sym, ◌∙◌, arith, rules}
use Rattle.words.specs.Cursor.{text, place}
use Rattle.scene.specs.States.{state}
use Rattle.readers.specs.Scenes.{node_at}
use Rattle.readers.proofs.SceneTurns.{at_end, stop, go_on}
use Rattle.readers.proofs.scenes.nodes.Goals as goal

pub loop-from-preserved : goal.loop-from-preserved
loop-from-preserved c =
    let bs = text c.args.from.now in
    let k = place c.loop-from.from in
    let x = state c.loop-from.draft in
    let y = state c.node.new.draft in
    let t = c.place.ensures in
    let p : node_at bs c.args.count k x.0 x.1 ≡ Ok (y.1, place c.node.new.from) = search rules in
    let q = c.in_ok-node.ensures.counted in
    let o = c.in_ok-node.ensures.onward in
    let w = c.in_ok-node.ensures.within in
    let l = c.loop-from.invariant.3 in
    (c.loop-from.invariant.0 ∙ go_on bs c.args.count k x.0 x.1 (omega arith) l y.0 (place c.node.new.from) y.1 p q, search rules, w, omega arith)

pub returns-in_err-node : goal.returns-in_err-node
returns-in_err-node c =
    let bs = text c.args.from.now in
    let k = place c.loop-from.from in
    let x = state c.loop-from.draft in
    let e = c.in_err-node.field-0.0 in
    let t = c.place.ensures in
    let l = c.loop-from.invariant.3 in
    let p : node_at bs c.args.count k x.0 x.1 ≡ Err e = search rules in
    let r : c.from_residual.result ≡ Err e = search rules in
    record {
      value = rw r (sym (c.loop-from.invariant.0 ∙ stop bs c.args.count k x.0 x.1 (omega arith) l e p));
      text = search rules;
      moved = rw r tt;
    }

pub returns : goal.returns
returns c =
    let t = c.place.ensures in
    let w = c.loop-from.invariant.2 in
    record {
      value = sym (c.loop-from.invariant.0 ∙ at_end _ _ c.args.count (place c.loop-from.from) _ _ (omega arith));
      text = search rules;
      moved = omega arith;
    }
