use Rattle.std.proofs.Common.{◌≡◌, ◌+◌, IfOk, Ok, sym, refl, ◌∙◌, subst, arith, rules}
use Rattle.words.specs.Cursor.{text, place}
use Rattle.words.specs.Reading.{answer_with, bare_at}
use Rattle.scene.specs.States.{state}
use Rattle.readers.specs.Kinds.{kind_of, number_count}
use Rattle.readers.specs.Scenes.{node_check, lay_at}
use Rattle.readers.proofs.SceneKinds.{node_word}
use Rattle.readers.proofs.SceneNodes.{passes, joined, node_is, made_on}
use Rattle.readers.proofs.scenes.node.Goals as goal

pub unwrap-kind-requires : goal.unwrap-kind-requires
unwrap-kind-requires c =
    let b : bare_at (text c.args.from.now) (place c.args.from.now) 3 8 ≡ Ok c.in_ok-number.number = search rules in
    let t : c.try_from.result ≡ Ok (kind_of c.in_ok-number.number) = c.try_from.ensures ∙ node_word _ _ _ b in
    rw t refl

pub lay-requires : goal.lay-requires
lay-requires c =
    let h : node_check c.args.count c.place-place.result (state c.args.draft.now).0 c.unwrap-kind.result (state c.args.draft.now).1 ≡ Ok c.in_ok-check.field-0 = search rules in
    record { here = search rules; room = (passes c.args.count c.place-place.result (state c.args.draft.now).0 c.unwrap-kind.result (state c.args.draft.now).1 _ h).0 }

pub returns : goal.returns
returns c =
    let bs = text c.args.from.now in
    let k = place c.args.from.now in
    let x = state c.args.draft.now in
    let kind = c.unwrap-kind.result in
    let p : c.place-place.result ≡ k = search rules in
    let b : bare_at bs k 3 8 ≡ Ok c.in_ok-number.number = search rules in
    let t : c.try_from.result ≡ Ok (kind_of c.in_ok-number.number) = c.try_from.ensures ∙ node_word bs k _ b in
    let e : kind ≡ kind_of c.in_ok-number.number = cc (t, c.unwrap-kind.ensures) in
    let h : node_check c.args.count k x.0 kind x.1 ≡ Ok c.in_ok-check.field-0 = search rules in
    let v : answer_with c.lay.result (state c.lay.new.draft).1 ≡ lay_at bs k kind x.1 = search rules in
    let l : IfOk c.lay.result (λ _. place c.lay.new.from ≡ k + 1 + number_count kind) = subst (λ z. IfOk c.lay.result (λ _. place c.lay.new.from ≡ z + 1 + number_count kind)) p c.lay.ensures.moved in
    let w = (passes c.args.count k x.0 kind x.1 _ h).1 in
    record {
      value = joined c.lay.result _ _ _ _ v l ∙ sym (node_is bs c.args.count k x.0 x.1 _ kind _ b e h);
      counted = c.lay.ensures.counted;
      text = search rules;
      within = made_on c.lay.result _ _ (λ q. omega arith) l;
      onward = made_on c.lay.result _ _ (λ q. omega arith) l;
    }
