use Rattle.std.proofs.Common.{◌≡◌, ◌*◌, take, replicate, refl, sym, ap, ◌∙◌}
use Rattle.march.specs.Checks.{PlainView}
use Rattle.march.specs.March.{new_pixel}
use Rattle.plate_log.specs.Log.{area}
use Rattle.plate_log.proofs.ExampleLog.{example_holds}
use Rattle.plate.proofs.plate.Plate.new.Goals as goal

pub returns : goal.returns
returns c =
    let none : area c.blank.result ≡ 0 = ap (λ (v : PlainView). v.width * v.height) c.blank.ensures in
    record {
      records = refl;
      view = c.blank.ensures;
      empty = ap (λ n. take n c.args.records.now) none ∙ sym (ap (λ n. replicate n new_pixel) none);
      lender = refl;
      example = example_holds;
    }
