use Rattle.std.proofs.Common.{◌≡◌, Ok, rules}
use Rattle.march.specs.declared.pixel.Pixel.{Pixel}
use Rattle.checks.proofs.Layers.{of_ok, pictured}
use Rattle.checks.proofs.pile.PileParts.picture.Goals as goal

pub returns-clause-shown : goal.returns-clause-shown
returns-clause-shown g c =
    let s = c.args.self in
    let is : c.pile.result ≡ Ok c.in_ok-pile.pile = search rules in
    let same : (q : Pixel) → c.map_err-2.result ≡ Ok q → c.two_sweeps-read.result ≡ Ok q = λ q e. search rules in
    pictured c.args.view s.numbers _ _ _ _ c.args.budget c.args.i c.args.j c.two_sweeps-read.result c.map_err-2.result (of_ok _ _ _ is c.pile.ensures.made) same c.two_sweeps-read.ensures.picture
