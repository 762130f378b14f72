use Rattle.scene.proofs.Takes.{some_laid}
use Rattle.scene.proofs.table.Table.ask_part.Goals as goal

pub last_of-requires-clause-some : goal.last_of-requires-clause-some
last_of-requires-clause-some c = some_laid _ _ c.requires.stands
