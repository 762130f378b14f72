use Rattle.std.proofs.Common.{◌≡◌, Ok, Err, ap, ◌∙◌, rules}
use Rattle.march.specs.declared.view.View.{View}
use Rattle.march.specs.Checks.{plain_view}
use Rattle.plate_log.proofs.Opens.{opened_is}
use Rattle.plate_log.specs.Log.{refused}
use Rattle.checks.specs.Chained.{read_refusal}
use Rattle.checks.proofs.Chain.{chained}
use Rattle.checks.proofs.Ends.{lent_ends, swept_ends, read_ends, at_first, at_second, at_read}
use Rattle.checks.proofs.Records.{after_one, after_two, of_lent}
use Rattle.checks.proofs.chained.two_sweeps.Goals as goal

pub returns-in_err-sweep : goal.returns-in_err-sweep
returns-in_err-sweep g c =
    let ns = c.args.numbers in
    let a = g.A.Solid.body c.args.a.now in
    let b = g.B.Solid.body c.args.b.now in
    let p = c.new-plate.result in
    let p0 = c.open.new.self in
    let opened = c.in_ok-open.ensures.value in
    let e = c.in_err-sweep.field-0.0 in
    let first = c.in_err-sweep.ensures.line in
    let lent = c.new-plate.ensures.records in
    let r : c.from_residual-in_err-sweep.result ≡ Err e = search rules in
    let o = lent_ends ns (plain_view p.view) (plain_view p0.view) p.records.now _ p0.records.now (Ok tt) opened lent in
    record {
      refused = at_first _ _ _ _ _ _ e (plain_view p0.view) r o (swept_ends p0.view p0.records.now _ a c.args.m (Err e) first);
      picture = search rules;
      records = of_lent ns a b c.args.m c.args.n _ _ _ lent
          (after_one ns (plain_view p.view) p.records.now a b c.args.m c.args.n p0.view p0.records.now opened e _ _ first (search rules));
    }

pub returns-in_err-sweep-2 : goal.returns-in_err-sweep-2
returns-in_err-sweep-2 g c =
    let ns = c.args.numbers in
    let a = g.A.Solid.body c.args.a.now in
    let b = g.B.Solid.body c.args.b.now in
    let p = c.new-plate.result in
    let p0 = c.open.new.self in
    let p1 = c.sweep.new.self in
    let opened = c.in_ok-open.ensures.value in
    let e = c.in_err-sweep-2.field-0.0 in
    let first = c.in_ok-sweep.ensures.line in
    let second = c.in_err-sweep-2.ensures.line in
    let lent = c.new-plate.ensures.records in
    let r : c.from_residual-in_err-sweep-2.result ≡ Err e = search rules in
    let o = lent_ends ns (plain_view p.view) (plain_view p0.view) p.records.now _ p0.records.now (Ok tt) opened lent in
    record {
      refused = at_second _ _ _ _ _ _ e (plain_view p0.view) r o
          (swept_ends p0.view p0.records.now _ a c.args.m (Ok c.in_ok-sweep.field-0) first)
          (swept_ends p1.view p1.records.now _ b c.args.n (Err e) second);
      picture = search rules;
      records = of_lent ns a b c.args.m c.args.n _ _ _ lent
          (after_two ns (plain_view p.view) p.records.now a b c.args.m c.args.n p0.view p0.records.now opened
          c.in_ok-sweep.field-0 (refused e) p1.view p1.records.now _ _ c.sweep.ensures.view first second (search rules));
    }

pub returns : goal.returns
returns g c =
    let ns = c.args.numbers in
    let a = g.A.Solid.body c.args.a.now in
    let b = g.B.Solid.body c.args.b.now in
    let p = c.new-plate.result in
    let p0 = c.open.new.self in
    let p1 = c.sweep.new.self in
    let p2 = c.sweep-2.new.self in
    let opened = c.in_ok-open.ensures in
    let first = c.in_ok-sweep.ensures.line in
    let second = c.in_ok-sweep-2.ensures.line in
    let lent = c.new-plate.ensures.records in
    let o = lent_ends ns (plain_view p.view) (plain_view p0.view) p.records.now _ p0.records.now (Ok tt) opened.value lent in
    record {
      refused = at_read _ _ _ _ _ _ (plain_view p0.view) o
          (swept_ends p0.view p0.records.now _ a c.args.m (Ok c.in_ok-sweep.field-0) first)
          (swept_ends p1.view p1.records.now _ b c.args.n (Ok c.in_ok-sweep-2.field-0) second)
          (read_ends p2.view p2.records.now _ c.args.i c.args.j c.read.result c.read.ensures.line
          ∙ ap (λ (v : View). read_refusal (plain_view v) c.args.i c.args.j) (c.sweep-2.ensures.view ∙ c.sweep.ensures.view));
      picture = chained p0.view p1.view p2.view c.sweep.ensures.view c.sweep-2.ensures.view
          ns (opened_is ns (plain_view p.view) p.records.now (plain_view p0.view) p0.records.now opened.value)
          a b c.args.m c.args.n c.args.i c.args.j
          p0.records.now p1.records.now p2.records.now c.in_ok-sweep.field-0 c.in_ok-sweep-2.field-0 c.read.result
          (g.met.A.Solid.lawful c.args.a.now) (g.met.B.Solid.lawful c.args.b.now) opened.begins
          first second c.sweep.ensures.promise c.sweep-2.ensures.promise c.read.ensures.line;
      records = of_lent ns a b c.args.m c.args.n _ _ _ lent
          (after_two ns (plain_view p.view) p.records.now a b c.args.m c.args.n p0.view p0.records.now opened.value
          c.in_ok-sweep.field-0 _ p1.view p1.records.now p2.records.now _ c.sweep.ensures.view first second (search rules));
    }
