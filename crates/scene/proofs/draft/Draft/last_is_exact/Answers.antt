use Rattle.std.proofs.Common.{rules}
use Rattle.scene.proofs.Summaries.{exactness}
use Rattle.scene.proofs.draft.Draft.last_is_exact.Goals as goal

pub returns : goal.returns
returns c = exactness _ _ _ _ (λ x h. search rules) c.last.ensures c.is_ok_and.ensures
