use Rattle.std.proofs.Common.{◌<◌, length, refl, arith}
use Rattle.scene.proofs.Searches.{search_union, search_part}
use Rattle.scene.proofs.search.Search.look.Goals as goal

pub returns-in-Some : goal.returns-in-Some
returns-in-Some c =
    let s = c.args.self.now in
    let t = c.args.table.now.nodes in
    let room : t.height < length s.open_ends = omega arith in
    search_union t.items t.height s.open_ends s.row.items s.row.height c.args.end c.requires.search c.requires.laid.0 c.in-Some.left c.requires.laid.1 room c.if-not-self-end.false c.in-Some.ensures

pub returns-in-None : goal.returns-in-None
returns-in-None c =
    let s = c.args.self.now in
    let t = c.args.table.now.nodes in
    let room : s.row.height < length s.row.items = omega (arith, c.requires.search.room) in
    rw (c.push.ensures.put, c.push.ensures.counted) (search_part t.items t.height s.open_ends s.row.items s.row.height c.args.end c.requires.search c.requires.laid.0 _ room refl c.if-not-self-end.false)
