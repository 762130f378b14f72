-- A pile with every layer: a cap over what the body `clip` meets of `moved`, shifted, united with `grown`, thickened.
use Rattle.std.specs.Prelude.{◌≡◌, ℕ, Bool, false, ◌&&◌, ◌||◌, List, Ok, Err, Result, unsigned_abs}
use Rattle.std.specs.Result.{result_and, result_map_both}
use Rattle.lattice.specs.declared.Point.{Point}
use Rattle.lattice.specs.Space.{back}
use Rattle.solid.specs.Body.{Body}
use Rattle.piles.specs.Layers.{unite, meet, shift, near, thicken, cap}
use Rattle.piles.specs.Pile.{Pile}
use Rattle.layers.specs.declared.fault.LayerFault.{LayerFault}
use Rattle.layers.specs.Codes.{layer_code}
use Rattle.layers.specs.Checks.{check_offset, thicken_number, cap_number}
use Rattle.march.specs.declared.pixel.Pixel.{Pixel}
use Rattle.march.specs.declared.view.View.{View}
use Rattle.march.specs.declared.view.ViewNumbers.{ViewNumbers}
use Rattle.march.specs.Checks.{PlainView, plain_view, view_answer}
use Rattle.plate_log.specs.declared.fault.PlateFault.{PlateFault}
use Rattle.plate_log.specs.Codes.{plate_code}
use Rattle.plate_log.specs.Law.{PixelShows}
use Rattle.checks.specs.declared.pile.LayerNumbers.{LayerNumbers}
use Rattle.checks.specs.Chained.{Picture, RecordsAfter}

-- its body, and by set algebra its members
abbrev pub full_pile : LayerNumbers → (moved grown clip : Body) → Body
full_pile n moved grown clip =
    cap (unsigned_abs n.most) (meet (unite (shift n.by moved) (thicken (unsigned_abs n.thickness) grown)) clip)

abbrev pub full_members : LayerNumbers → (moved grown clip : Body) → Point → Bool
full_members n moved grown clip p =
    (moved.member (back n.by p) || near (unsigned_abs n.thickness) grown.member p) && clip.member p

-- what was made is that body, and a pile of these members
pub record IsFullPile (n : LayerNumbers) (moved grown clip made : Body) : Type 0 where
  pub is : made ≡ full_pile n moved grown clip
  pub pile : Pile (full_members n moved grown clip) false made

-- why the making of a layer was refused, if it was
abbrev pub layer_refusal : {A : Type 0} → Result A LayerFault → Result (Unit {0}) LayerFault
layer_refusal = result_map_both (λ _. tt) (λ e. e)

-- why the making of the pile is refused, `moved` having that reach: the first layer that is refused ends it
abbrev pub pile_refusal : (reach : ℕ) → LayerNumbers → Result (Unit {0}) LayerFault
pile_refusal reach n =
    result_and (check_offset reach n.by) (result_and (layer_refusal (thicken_number n.thickness)) (layer_refusal (cap_number n.most)))

-- the same of the layers and then the calls of a plate, by number and place
abbrev pub picture_refusal : (layers : Result (Unit {0}) LayerFault) (calls : Result (Unit {0}) PlateFault)
    → Result (Unit {0}) (ℕ × ℕ)
picture_refusal layers calls =
    result_and (result_map_both (λ u. u) layer_code layers) (result_map_both (λ u. u) plate_code calls)

-- What the records hold at the end: where the pile was refused, all are as they were; else they are as two
-- sweeps of it leave them.
abbrev pub PictureRecords : Result (Unit {0}) LayerFault → (opened : Result PlainView PlateFault)
    → (pile : Body) → (budget : ℕ) → (old new : List Pixel) → Type 0
PictureRecords (Err fault) opened pile budget old new = new ≡ old
PictureRecords (Ok made) opened pile budget old new = RecordsAfter opened pile pile budget budget old new

-- pixel (i, j) of a picture of the pile, after two sweeps of so many probes each
pub record PilePicture (numbers : ViewNumbers) (n : LayerNumbers) (moved grown clip : Body) (budget i j : ℕ) (q : Pixel)
    : Type 0 where
  pub view : View
  pub is_view : Ok (plain_view view) ≡ view_answer numbers
  -- a pile of these members was brought to both
  pub pile : Pile (full_members n moved grown clip) false (full_pile n moved grown clip)
  pub picture : Picture view (full_pile n moved grown clip) (full_pile n moved grown clip) budget budget i j q
  -- and the pixel tells of them
  pub shows : PixelShows view (full_members n moved grown clip) i j q
