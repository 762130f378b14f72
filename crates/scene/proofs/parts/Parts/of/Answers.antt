use Rattle.std.proofs.Common.{arith}
use Rattle.scene.proofs.Groups.{parts_moved}
use Rattle.scene.proofs.parts.Parts.of.Goals as goal

pub bounds_of-bounds-requires-clause-parts : goal.bounds_of-bounds-requires-clause-parts
bounds_of-bounds-requires-clause-parts c =
    parts_moved _ _ _ _ _ _ (omega (arith, c.parts_of-row.ensures.room)) c.arrange.ensures.count c.arrange.ensures.parts c.parts_of-row.ensures.parts

pub returns-clause-parts : goal.returns-clause-parts
returns-clause-parts c =
    parts_moved _ _ _ _ _ _ (omega (arith, c.parts_of-row.ensures.room)) c.arrange.ensures.count c.arrange.ensures.parts c.parts_of-row.ensures.parts
