use Rattle.std.proofs.Common.{sym}
use Rattle.scene.proofs.Summaries.{body_count}
use Rattle.scene.proofs.draft.Draft.standing.Goals as goal

pub returns : goal.returns
returns c = sym (body_count _ _ _ c.args.self.now.are_summaries)
