use Rattle.std.proofs.Common.{◌≡◌, subst, arith}
use Rattle.scene.specs.Tables.{nodes_of, table_count}
use Rattle.scene.specs.Searches.{IsSearchOf}
use Rattle.scene.proofs.Searches.{search_begun, search_done}
use Rattle.scene.proofs.search.Search.parts_of.Goals as goal

pub loop-k-init : goal.loop-k-init
loop-k-init c =
    let t = c.args.table.now in
    rw (c.new-search.ensures.opened, c.new-search.ensures.none, c.count-count.ensures) (search_begun (nodes_of t) (table_count t) c.new-search.result.row.items t.count_in_range c.requires)

pub returns : goal.returns
returns c =
    let t = c.args.table.now in
    let s = c.loop-k.search in
    let none : c.loop-k.k ≡ 0 = omega arith in
    record {
      room = omega (arith, c.loop-k.invariant.room);
      parts =
          search_done (nodes_of t) (table_count t) s.open_ends s.row.items s.row.height (subst (IsSearchOf t s) none c.loop-k.invariant);
    }
