use Rattle.std.proofs.Common.{◌*◌, ◌-◌}
use Rattle.scene.proofs.table.Table.+ask.Given as goal

abbrev pub decreases-ask : goal.decreases-ask
decreases-ask l = 2 * l.end

abbrev pub decreases-ask_joined : goal.decreases-ask_joined
decreases-ask_joined l = 2 * l.end - 1
