use Rattle.std.proofs.Common.{Err, unsigned_abs, w32, SFits, ap, ◌∙◌, rules}
use Rattle.std.proofs.lemmas.Int.{to_z-of_z}
use Rattle.std.proofs.lemmas.Result.{err_from_is_err_and}
use Rattle.piles.specs.Layers.{unite, meet, shift, thicken}
use Rattle.checks.proofs.Layers.{shift_taken, thick_taken, cap_made, cap_body, all_made, thick_ends, is_full_pile}
use Rattle.checks.proofs.pile.PileParts.pile.Goals as goal

pub returns-clause-refused : goal.returns-clause-refused
returns-clause-refused g c =
    let s = c.args.self in
    let n = s.numbers in
    let t : SFits w32 n.thickness = search rules in
    let u : SFits w32 n.most = search rules in
    all_made (g.S.Solid.body s.moved).reach n _
    (shift_taken (g.S.Solid.body s.moved).reach n.by c.in_ok-moved.moved (record { below = s.moved; by = n.by }) c.in_ok-moved.ensures.value).0
    (thick_taken _ n.thickness _ (simp to_z-of_z at c.in_ok-grown.ensures.value)).0
    (cap_made c.new-4.result (λ p. p.below) (λ p. p.most) _ n.most (simp to_z-of_z at c.new-4.ensures.value))

pub returns-in_err-grown-clause-refused : goal.returns-in_err-grown-clause-refused
returns-in_err-grown-clause-refused g c =
    let s = c.args.self in
    let n = s.numbers in
    let t : SFits w32 n.thickness = search rules in
    let r = c.from_residual-in_err-grown.result in
    let e = err_from_is_err_and r c.from_residual-in_err-grown.ensures.1 in
    thick_ends (g.S.Solid.body s.moved).reach n r _ c.in_err-grown.field-0.0
    (shift_taken (g.S.Solid.body s.moved).reach n.by c.in_ok-moved.moved (record { below = s.moved; by = n.by }) c.in_ok-moved.ensures.value).0
    (simp to_z-of_z at c.in_err-grown.ensures.value)
    (e.1 ∙ ap Err e.2)

pub returns-clause-made : goal.returns-clause-made
returns-clause-made g c =
    let s = c.args.self in
    let n = s.numbers in
    let t : SFits w32 n.thickness = search rules in
    let u : SFits w32 n.most = search rules in
    let m = (shift_taken (g.S.Solid.body s.moved).reach n.by c.in_ok-moved.moved (record { below = s.moved; by = n.by }) c.in_ok-moved.ensures.value).1 in
    let h = (thick_taken _ n.thickness _ (simp to_z-of_z at c.in_ok-grown.ensures.value)).1 in
    is_full_pile _ _ n _ _ _ _ _ _ _
    (g.met.S.Solid.lawful s.moved) (g.met.T.Solid.lawful s.grown) (g.met.U.Solid.lawful s.clip)
    c.in_ok-moved.ensures.piled (simp to_z-of_z at c.in_ok-grown.ensures.piled) c.new-3.ensures.piled c.new-clipped.ensures.piled c.new-4.ensures.piled
    (cap_body c.new-4.result (λ p. p.below) (λ p. p.most) _ n.most (simp to_z-of_z at c.new-4.ensures.value)
    (λ a. meet (unite (shift a.left.left.by (g.S.Solid.body a.left.left.below)) (thicken a.left.right.by (g.T.Solid.body a.left.right.below))) (g.U.Solid.body a.right))
    (meet (unite (shift n.by (g.S.Solid.body s.moved)) (thicken (unsigned_abs n.thickness) (g.T.Solid.body s.grown))) (g.U.Solid.body s.clip))
    (rw (c.new-clipped.ensures.value, c.new-3.ensures.value, m, h)))
