use Rattle.std.proofs.Common.{arith}
use Rattle.scene.proofs.Summaries.{last_shown, no_last}
use Rattle.scene.proofs.draft.Draft.last.Goals as goal

pub returns-in_default : goal.returns-in_default
returns-in_default c =
    no_last _ _ _ _ c.args.self.now.are_summaries (omega arith) c.as_slice.ensures c.in_default.len_below

pub returns : goal.returns
returns c = last_shown _ _ _ _ c.args.self.now.are_summaries (omega arith) c.as_slice.ensures c.in-len1-up.len_at_least
