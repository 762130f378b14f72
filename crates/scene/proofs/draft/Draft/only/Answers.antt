use Rattle.std.proofs.Common.{arith}
use Rattle.scene.proofs.Summaries.{only_shown, not_only}
use Rattle.scene.proofs.draft.Draft.only.Goals as goal

pub returns-in_default : goal.returns-in_default
returns-in_default c =
    not_only _ _ _ _ c.args.self.now.are_summaries (omega arith) c.as_slice.ensures (λ e. omega arith)

pub returns-in_default-2 : goal.returns-in_default-2
returns-in_default-2 c =
    not_only _ _ _ _ c.args.self.now.are_summaries (omega arith) c.as_slice.ensures (λ e. omega arith)

pub returns : goal.returns
returns c =
    only_shown _ _ _ _ c.args.self.now.are_summaries (omega arith) c.as_slice.ensures c.in-len1.len_at_least c.in-len1.len_below
