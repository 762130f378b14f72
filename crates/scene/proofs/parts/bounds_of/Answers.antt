use Rattle.std.proofs.Common.{◌/◌, ◌<◌, length, ap, ◌∙◌, arith}
use Rattle.std.proofs.Math.ListN.{length-set}
use Rattle.std.proofs.lemmas.List.{get_or_default}
use Rattle.scene.specs.declared.parts.Part.{Part}
use Rattle.scene.specs.declared.parts.TheConstants.{GROUP}
use Rattle.scene.proofs.Takes.{some_laid}
use Rattle.scene.proofs.Groups.{bounds_more}
use Rattle.scene.proofs.parts.bounds_of.Goals as goal

pub bound_of-bound-requires-clause-some : goal.bound_of-bound-requires-clause-some
bound_of-bound-requires-clause-some c =
    some_laid c.args.table.now.nodes.items _ (c.requires.parts.each c.loop-i.i _ (omega arith)).stands

pub loop-i-preserved : goal.loop-i-preserved
loop-i-preserved c =
    let ns = c.args.table.now.nodes.items in
    let row = c.args.row.now.items in
    let bs = c.loop-i.bounds in
    let i = c.loop-i.i in
    let l : i < length row = omega arith in
    let room : i / GROUP < length bs = omega (arith, c.loop-i.invariant.0) in (
      length-set bs (i / GROUP) c.with.result ∙ c.loop-i.invariant.0,
      bounds_more ns row bs i _ c.index-bounds-i.result c.with.result c.bound_of-bound.result c.loop-i.invariant.1 room c.with.ensures.this c.with.ensures.other c.bound_of-bound.ensures (λ d. ap (λ (x : Part). x.end) (get_or_default row i d _ l)),
    )
