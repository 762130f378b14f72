use Rattle.std.proofs.Common.{◌≡◌, ℕ, ◌<◌, ◌≤◌, leb, List, is_ok, Ok, Err, Result, sym, ap, ◌∙◌, subst, rules}
use mathlib.Core.Path.{subst⁻¹}
use Rattle.std.proofs.lemmas.Bool.{cond-true, cond-false, le-leb, lt-leb}
use Rattle.solid.specs.Body.{Body}
use Rattle.march.specs.declared.pixel.Pixel.{Pixel}
use Rattle.march.specs.declared.view.ViewNumbers.{ViewNumbers}
use Rattle.plate_log.specs.Law.{IsPileOf}
use Rattle.render.specs.declared.fault.InputFault.{InputFault}
use Rattle.render.specs.declared.fault.InputFault.TheVariants.{Shallow}
use Rattle.render.specs.Render.{AfterCall, plain_of, body_drawing}
use Rattle.render.specs.Steps.{pile_answer}
use Rattle.render.proofs.PileBodies.{ok_mapped, made_pile, Below, below_body}
use Rattle.piles.specs.Layers.{cap}
use Rattle.layers.specs.declared.cap.Cap.{Cap}
use Rattle.render.proofs.buffers.Buffers.pile_up.Goals as goal

-- what a refused pile leaves, and what the picture of another does
too_shallow : (b : Body) (n : ViewNumbers) (rs : List Pixel) (out : List ℕ) (r : Result ℕ InputFault) → r ≡ Err Shallow → b.reach < 32767 → ◌≡◌ {A = AfterCall InputFault} (r, rs, out) (pile_answer b n rs out)
too_shallow b n rs out r e h = ap (λ (x : Result ℕ InputFault). (x, rs, out)) e ∙ sym (cond-false (leb 32767 b.reach) _ _ (lt-leb 32767 b.reach h))

deep_enough : (b : Body) (n : ViewNumbers) (rs qs : List Pixel) (out text : List ℕ) (k : ℕ) → 32767 ≤ b.reach
    → ◌≡◌ {A = ℕ × List Pixel × List ℕ} (k, qs, text) (body_drawing b (plain_of n) rs out) → ◌≡◌ {A = AfterCall InputFault} (Ok k, qs, text) (pile_answer b n rs out)
deep_enough b n rs qs out text k h e =
    ap (λ (s : ℕ × List Pixel × List ℕ). (Ok s.0, s.1, s.2)) e ∙ sym (cond-true (leb 32767 b.reach) _ _ (le-leb 32767 b.reach h))

pub unwrap-pile-requires : goal.unwrap-pile-requires
unwrap-pile-requires g c = sym (ok_mapped _ _ c.new-3.result) ∙ ap is_ok c.new-3.ensures.value

pub picture-requires-clause-deep : goal.picture-requires-clause-deep
picture-requires-clause-deep g c =
    let P : Cap (Below g.row.T.Denot g.row.S.Denot) → Type 0 = λ x. 32767 ≤ (cap x.most (below_body g.T.Solid.body g.S.Solid.body x.below)).reach in
    subst P (c.in_ok-of.ensures {u = tt}) c.in_ok-of.field-0.is_deep

pub returns-in_err-of-clause-value : goal.returns-in_err-of-clause-value
returns-in_err-of-clause-value g c =
    let j = c.args.job.now in
    let same = made_pile g.T.Solid.body g.S.Solid.body j c.unwrap-pile.result c.new-clipped.result c.new-2.result c.unwrap-moved.result c.args.sheet c.args.scene
    c.new-3.result c.new.result c.requires.sheet_reaches c.unwrap-pile.ensures c.new-3.ensures.value
    c.new-clipped.ensures.value c.new-2.ensures.value c.unwrap-moved.ensures c.new.ensures.value in
    too_shallow _ j.view c.args.self.now.records.now c.args.self.now.out.now c.from_residual.result (search rules) (subst (λ (b : Body). b.reach < 32767) same (c.in_err-of.ensures {u = tt}))

pub returns : goal.returns
returns g c =
    let j = c.args.job.now in
    let same = made_pile g.T.Solid.body g.S.Solid.body j c.unwrap-pile.result c.new-clipped.result c.new-2.result c.unwrap-moved.result c.args.sheet c.args.scene
    c.new-3.result c.new.result c.requires.sheet_reaches c.unwrap-pile.ensures c.new-3.ensures.value
    c.new-clipped.ensures.value c.new-2.ensures.value c.unwrap-moved.ensures c.new.ensures.value in
    record {
      value = deep_enough _ j.view c.args.self.now.records.now c.picture.new.self.records.now c.args.self.now.out.now c.picture.new.self.out.now c.picture.result
          (subst (λ (b : Body). 32767 ≤ b.reach) same (let P : Cap (Below g.row.T.Denot g.row.S.Denot) → Type 0 = λ x. 32767 ≤ (cap x.most (below_body g.T.Solid.body g.S.Solid.body x.below)).reach in subst P (c.in_ok-of.ensures {u = tt}) c.in_ok-of.field-0.is_deep))
          (c.picture.ensures.value ∙ ap (λ (b : Body). body_drawing b (plain_of j.view) c.args.self.now.records.now c.args.self.now.out.now) same);
      shows = λ M piled. c.picture.ensures.shows M (subst⁻¹ (IsPileOf M) same piled);
      lender = c.picture.ensures.lender;
    }
