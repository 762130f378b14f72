-- What a caller knows of a plate.
use Rattle.std.specs.Prelude.{◌≡◌, List}
use Rattle.std.specs.Borrow.{MutBor}
use Rattle.march.specs.declared.pixel.Pixel.{Pixel}
use Rattle.march.specs.declared.view.View.{View}
use Rattle.plate.specs.declared.plate.Plate.{Plate}

-- the view that it is opened with
abbrev pub view_of : Plate → View
view_of p = p.view

-- what stands in all its records
abbrev pub records_of : Plate → List Pixel
records_of p = p.records.now

-- the records that it stands over are those that were lent
abbrev pub StandsOver : Plate → MutBor (List Pixel) → Type 0
StandsOver p records = p.records.ghost_name ≡ records.ghost_name

-- the two plates stand over the same records, whatever is in them
abbrev pub SameLoan : Plate → Plate → Type 0
SameLoan old new = new.records.ghost_name ≡ old.records.ghost_name
