use Rattle.std.proofs.Common.{take, ap, ◌∙◌, arith, length-take}
use Rattle.plate_log.specs.Sweep.{are_sane}
use Rattle.plate_log.proofs.Calls.{small, write_early, write_tight, write_done}
use Rattle.plate.proofs.plate.Plate.write.Goals as goal

pub count_marching-requires : goal.count_marching-requires
count_marching-requires c = omega (arith, length-take c.pixels.result c.args.self.now.records.now, small c.args.self.now.view, c.pixels.ensures)

pub returns-then-count_marching-gt0 : goal.returns-then-count_marching-gt0
returns-then-count_marching-gt0 c =
    let p = c.args.self.now in
    let rs = p.records.now in
    let l = write_early p.view rs (take c.pixels.result rs) c.args.out.now (ap (λ n. take n rs) c.pixels.ensures) p.room (omega (arith, c.count_marching.ensures)) in
    record { line = l.0; promise = l.1 }

pub returns-then-out-size : goal.returns-then-out-size
returns-then-out-size c =
    let p = c.args.self.now in
    let rs = p.records.now in
    let l = write_tight p.view rs (take c.pixels.result rs) c.args.out.now (ap (λ n. take n rs) c.pixels.ensures) p.room (omega (arith, c.count_marching.ensures)) (omega arith) in
    record { line = l.0; promise = l.1 }

pub put_image-requires : goal.put_image-requires
put_image-requires c =
    let p = c.args.self.now in
    let rs = p.records.now in
    record {
      few = omega (arith, length-take c.pixels.result rs, small p.view, c.pixels.ensures);
      room = c.if-out-size.false;
      sane = ap (λ n. are_sane p.view.far (take n rs)) c.pixels.ensures ∙ p.are_sane;
    }

pub returns : goal.returns
returns c =
    let p = c.args.self.now in
    let rs = p.records.now in
    let l = write_done p.view rs (take c.pixels.result rs) c.args.out.now (ap (λ n. take n rs) c.pixels.ensures) p.room c.put_image.new.out (omega (arith, c.count_marching.ensures)) (omega arith) c.put_image.ensures in
    record { line = l.0; promise = l.1 }
