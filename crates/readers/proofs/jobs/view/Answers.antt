use Rattle.std.proofs.Common.{rules, sym}
use Rattle.words.specs.Cursor.{text}
use Rattle.readers.proofs.JobViews.{view_read}
use Rattle.readers.proofs.jobs.view.Goals as goal

pub returns-clause-value : goal.returns-clause-value
returns-clause-value c = sym (view_read (text c.args.from.now) _ _ _ _ _ _ _ (search rules) (search rules) (search rules) (search rules) (search rules) (search rules) (search rules))
