use Rattle.std.proofs.Common.{◌≡◌, ◌-◌, ◌<◌, ◌≤◌, length, arith, rules}
use Rattle.scene.specs.declared.table.TheConstants.{MOST_NODES}
use Rattle.scene.proofs.Summaries.{body_count, summaries_pushed}
use Rattle.scene.proofs.draft.Draft.put.Goals as goal

pub take_off-requires : goal.take_off-requires
take_off-requires c = omega (arith, body_count _ _ _ c.args.self.now.are_summaries, c.requires.enough)

pub push-requires : goal.push-requires
push-requires c =
    let l : c.take_off.new.self.height < MOST_NODES = omega (arith, c.requires.room, c.args.self.now.summaries_in_range, c.take_off.ensures.counted) in search rules

pub invariant_of-self : goal.invariant_of-self
invariant_of-self c =
    let d = c.args.self.now in
    let ms = d.summaries.items in
    let n = d.summaries.height in
    let k : c.args.taken ≤ n = omega (arith, body_count _ _ _ d.are_summaries, c.requires.enough) in
    let b : c.take_off.new.self.height ≡ n - c.args.taken = omega arith in
    let m : n - c.args.taken < length ms = omega arith in
    let e = summaries_pushed _ _ ms n c.args.taken c.args.summary d.are_summaries k m c.requires.summary_fits in
    record {
      summaries_in_range =
          omega arith;
      are_summaries = rw (c.push-2.ensures.made, c.push.ensures.put, c.push.ensures.counted, c.take_off.ensures.kept, b) e;
    }
