use Rattle.std.proofs.Common.{◌≡◌, Err, ◌∙◌, rules}
use Rattle.readers.proofs.SceneKinds.{no_word}
use Rattle.readers.proofs.kind.NodeKindTryFromU32.try_from.Goals as goal

pub returns-in_err-try_from : goal.returns-in_err-try_from
returns-in_err-try_from c =
    let r : c.from_residual.result ≡ Err c.in_err-try_from.field-0.0 = search rules in
    r ∙ no_word _ _ c.in_err-try_from.ensures
