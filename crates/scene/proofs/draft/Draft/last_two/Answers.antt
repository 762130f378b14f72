use Rattle.std.proofs.Common.{arith}
use Rattle.scene.proofs.Summaries.{two_shown, no_two}
use Rattle.scene.proofs.draft.Draft.last_two.Goals as goal

pub returns-in_default : goal.returns-in_default
returns-in_default c =
    no_two _ _ _ _ c.args.self.now.are_summaries (omega arith) c.as_slice.ensures c.in_default.len_below

pub returns : goal.returns
returns c = two_shown _ _ _ _ c.args.self.now.are_summaries (omega arith) c.as_slice.ensures c.in-len2-up.len_at_least
