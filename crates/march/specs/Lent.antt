-- The solid that a `Deep` lends, and what it means.
use Rattle.solid.specs.declared.Solid.{Ghosts}
use Rattle.solid.specs.Body.{Body}
use Rattle.march.specs.declared.deep.Deep.{Deep}

abbrev pub lent_solid : {S : Type 0} {of : Ghosts S} → Deep S of → S
lent_solid d = d.solid.now

abbrev pub lent_body : {S : Type 0} {of : Ghosts S} → Deep S of → Body
lent_body {of} d = of.body (lent_solid d)
