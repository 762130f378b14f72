use Rattle.scene.proofs.Takes.{some_laid, one_of_two}
use Rattle.scene.proofs.table.Table.united_at.Goals as goal

pub start_of-requires-clause-some : goal.start_of-requires-clause-some
start_of-requires-clause-some c =
    let ns = c.args.self.now.nodes.items in
    some_laid ns _ (one_of_two _ (rw c.in-Joined.is at c.last_of.ensures.fit))
