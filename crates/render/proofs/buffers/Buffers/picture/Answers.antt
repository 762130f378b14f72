use Rattle.std.proofs.Common.{◌≡◌, ℕ, ◌≤◌, List, ◌++◌, length, drop, replicate, is_ok, refl, ap, ◌∙◌, subst, lit≤, rules}
use mathlib.Core.Path.{subst⁻¹}
use Rattle.march.specs.declared.pixel.Pixel.{Pixel}
use Rattle.march.specs.declared.view.View.{View}
use Rattle.march.specs.March.{new_pixel}
use Rattle.march.specs.Checks.{plain_view}
use Rattle.plate_log.specs.Log.{Answer, area}
use Rattle.plate_log.specs.Answers.{write_answer, counted_answer, write_on_bytes}
use Rattle.render.proofs.Shots.{opens, fine, shot_is, shows_it}
use Rattle.render.proofs.buffers.Buffers.picture.Goals as goal

pub unwrap-requires : goal.unwrap-requires
unwrap-requires g c =
    let p = c.new-plate.result in
    let q = c.open.new.self in
    let few : 4096 ≤ length p.records.now = subst⁻¹ (λ rs. 4096 ≤ length rs) c.new-plate.ensures.records c.args.self.now.records_enough in
    ap is_ok (opens c.args.view (plain_view p.view) p.records.now c.open.result (plain_view q.view) q.records.now c.open.ensures.value c.requires.view_in_range few).0

pub unwrap-requires-3 : goal.unwrap-requires-3
unwrap-requires-3 g c =
    let p = c.new-plate.result in
    let q = c.open.new.self in
    let s = c.sweep.new.self in
    let few : 4096 ≤ length p.records.now = subst⁻¹ (λ rs. 4096 ≤ length rs) c.new-plate.ensures.records c.args.self.now.records_enough in
    let o = opens c.args.view (plain_view p.view) p.records.now c.open.result (plain_view q.view) q.records.now c.open.ensures.value c.requires.view_in_range few in
    ap is_ok (fine q.view (g.S.Solid.body c.args.pile.now) 4294967295 (lit≤ tt) c.requires.deep c.args.view p.records.now q.records.now s.records.now
    o.1 o.2 (counted_answer c.sweep.result) c.sweep.ensures.line
    c.args.self.now.out.now c.write.new.out c.write.result c.args.self.now.room_enough
    (subst (λ (v : View). ◌≡◌ {A = Answer × List ℕ} (write_answer c.write.result c.write.new.out, c.write.new.out) (write_on_bytes v s.records.now c.args.self.now.out.now)) c.sweep.ensures.view c.write.ensures.line)).1

pub returns : goal.returns
returns g c =
    let p = c.new-plate.result in
    let q = c.open.new.self in
    let s = c.sweep.new.self in
    let lent : p.records.now ≡ c.args.self.now.records.now = c.new-plate.ensures.records in
    let few : 4096 ≤ length p.records.now = subst⁻¹ (λ rs. 4096 ≤ length rs) lent c.args.self.now.records_enough in
    let o = opens c.args.view (plain_view p.view) p.records.now c.open.result (plain_view q.view) q.records.now c.open.ensures.value c.requires.view_in_range few in
    let new = o.2 ∙ ap (λ (rs : List Pixel). replicate (area q.view) new_pixel ++ drop (area q.view) rs) lent in
    let line = subst (λ (v : View). ◌≡◌ {A = Answer × List ℕ} (write_answer c.write.result c.write.new.out, c.write.new.out) (write_on_bytes v s.records.now c.args.self.now.out.now)) c.sweep.ensures.view c.write.ensures.line in
    record {
      value = shot_is q.view (g.S.Solid.body c.args.pile.now) c.requires.deep c.args.view c.args.self.now.records.now q.records.now s.records.now o.1 new (counted_answer c.sweep.result) c.sweep.ensures.line
          c.args.self.now.out.now c.write.new.out c.write.result c.args.self.now.room_enough line c.unwrap-3.result c.unwrap-3.ensures _ (search rules);
      shows = shows_it q.view (g.S.Solid.body c.args.pile.now) c.requires.deep c.args.view c.args.self.now.records.now q.records.now s.records.now o.1 new (counted_answer c.sweep.result) c.sweep.ensures.line
          c.args.self.now.out.now c.write.new.out c.write.result c.args.self.now.room_enough line c.unwrap-3.result c.unwrap-3.ensures;
      lender = (refl, refl);
    }
