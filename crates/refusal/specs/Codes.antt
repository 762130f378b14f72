-- A refusal as a pair: the number of the rule that was broken, and the place that broke it.
use Rattle.std.specs.Prelude.{ℕ}
use Rattle.refusal.specs.declared.code.RefusalCode.{RefusalCode}
use Rattle.refusal.specs.declared.range.OutOfRange.{OutOfRange}

abbrev pub pair : RefusalCode → ℕ × ℕ
pair code = (code.number, code.place)

abbrev pub range_code : OutOfRange → ℕ × ℕ
range_code fault = (4, fault.place)
