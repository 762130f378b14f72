use Rattle.std.proofs.Common.{◌≡◌, [], Ok, Err, sym, ap, ◌∙◌, rules}
use Rattle.words.specs.Cursor.{bytes_left}
use Rattle.words.specs.Reading.{answer_with}
use Rattle.scene.specs.Scenes.{scene_body}
use Rattle.scene.specs.States.{state}
use Rattle.readers.specs.Scenes.{at_node, end_answer, nodes_from, scene_length}
use Rattle.readers.proofs.SceneEnds.{ending, no_count, no_scene, a_scene, left}
use Rattle.readers.proofs.ScenesBack.{scenes_back}
use Rattle.readers.proofs.scenes.read_scene.Goals as goal

pub returns-in_err-count : goal.returns-in_err-count
returns-in_err-count c =
    let bs = bytes_left c.args.from.now in
    let e = c.in_err-count.field-0.0 in
    let p : scene_length bs ≡ Err e = search rules in
    let r : c.from_residual.result ≡ Err e = search rules in
    let z = no_count bs e p in
    record { value = simp (z, r); read = simp z (search rules); same = search rules; back = scenes_back }

pub returns-in_err-nodes : goal.returns-in_err-nodes
returns-in_err-nodes c =
    let bs = bytes_left c.args.from.now in
    let e = c.in_err-nodes.field-0.0 in
    let p : scene_length bs ≡ Ok c.in_ok-count.count = search rules in
    let q : nodes_from c.in_ok-count.count bs c.in_ok-count.count 1 0 [] ≡ Err e = search rules in
    let r : c.from_residual-in_err-nodes.result ≡ Err e = search rules in
    let z = no_scene bs _ e p q in
    record { value = simp (z, r); read = simp z (search rules); same = search rules; back = scenes_back }

pub returns-in_err-at_node : goal.returns-in_err-at_node
returns-in_err-at_node c =
    let bs = bytes_left c.args.from.now in
    let n = c.in_ok-count.count in
    let s = (state c.nodes.new.draft).1 in
    let e = c.in_err-at_node.field-0.0 in
    let p : scene_length bs ≡ Ok n = search rules in
    let q : end_answer n s ≡ nodes_from n bs n 1 0 [] = search rules in
    let t : at_node n c.fill.result ≡ Err e = search rules in
    let u : scene_body c.fill.new.self ≡ scene_body c.args.scene.now = ap scene_body (left n c.fill.result e _ t c.fill.ensures.same) in
    let w : end_answer n s ≡ Err e = sym (ending n s _ (scene_body c.fill.new.self) c.fill.result c.fill.ensures.value) ∙ ap (λ x. answer_with x (scene_body c.fill.new.self)) t in
    let r : c.from_residual-in_err-at_node.result ≡ Err e = search rules in
    let z = no_scene bs n e p (sym q ∙ w) in
    record { value = simp (z, r, u); read = simp z (search rules); same = simp r (left n c.fill.result e _ t c.fill.ensures.same); back = scenes_back }

pub returns : goal.returns
returns c =
    let bs = bytes_left c.args.from.now in
    let n = c.in_ok-count.count in
    let s = (state c.nodes.new.draft).1 in
    let p : scene_length bs ≡ Ok n = search rules in
    let q : end_answer n s ≡ nodes_from n bs n 1 0 [] = search rules in
    let t : at_node n c.fill.result ≡ Ok c.in_ok-at_node.field-0 = search rules in
    let w : end_answer n s ≡ Ok (scene_body c.fill.new.self) = sym (ending n s _ (scene_body c.fill.new.self) c.fill.result c.fill.ensures.value) ∙ ap (λ x. answer_with x (scene_body c.fill.new.self)) t in
    let z = a_scene bs n _ p (sym q ∙ w) in
    record { value = simp z; read = simp z (search rules); same = search rules; back = scenes_back }
