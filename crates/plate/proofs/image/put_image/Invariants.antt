use Rattle.std.proofs.Common.{◌≡◌, ◌+◌, ◌*◌, ◌++◌, take, drop}
use Rattle.plate_log.specs.Image.{pixel_bytes}
use Rattle.plate_log.proofs.Bytes.{head}
use Rattle.plate.proofs.image.put_image.Given as goal

abbrev pub invariant-loop-k : goal.invariant-loop-k
invariant-loop-k l = l.out ≡ (head l.fn.view ++ pixel_bytes (take l.k l.pixels)) ++ drop (4 * (2 + l.k)) l.initial.out
