-- A log, worked out: two pixels over a small pile, with a call of each kind, refused and not.
use Rattle.std.specs.Prelude.{◌≡◌, ◌-◌, false, List, [], ◌∷◌, pos, negsuc}
use Rattle.std.proofs.Common.{lit≤}
use Rattle.lattice.specs.Space.{point_of}
use Rattle.solid.specs.Body.{Body}
use Rattle.piles.specs.Leaves.{block, surface}
use Rattle.piles.specs.Layers.{unite, meet, shift, cap}
use Rattle.march.specs.declared.deep.TheConstants.{WORKING_RANGE}
use Rattle.march.specs.declared.pixel.Pixel.{Pixel}
use Rattle.march.specs.declared.pixel.Pixel.TheVariants.{Marching, Hit}
use Rattle.march.specs.declared.view.View.{View}
use Rattle.plate_log.specs.declared.fault.PlateFault.TheVariants.{NoPixel, Shallow, StillMarching, NoRoom}
use Rattle.plate_log.specs.Log.{Call, Answer, Line, sweeping, touching, reading, writing, counted, read_as, wrote, refused, log}

-- two pixels, side by side at height 20, that look straight down
abbrev pub example_view : View
example_view = record {
  origin = point_of (pos 0) (pos 0) (pos 20);
  ray = record { x = pos 0; y = pos 0; z = negsuc 0; x_in_range = lit≤ tt; y_in_range = lit≤ tt; z_in_range = lit≤ tt; moves = lit≤ tt };
  across = record { x = pos 1; y = pos 0; z = pos 0; x_in_range = lit≤ tt; y_in_range = lit≤ tt; z_in_range = lit≤ tt; moves = lit≤ tt };
  down = record { x = pos 0; y = pos 1; z = pos 0; x_in_range = lit≤ tt; y_in_range = lit≤ tt; z_in_range = lit≤ tt; moves = lit≤ tt };
  width = 2;
  height = 1;
  far = 50;
  x_in_range = lit≤ tt;
  y_in_range = lit≤ tt;
  z_in_range = lit≤ tt;
  width_in_range = lit≤ tt;
  height_in_range = lit≤ tt;
  far_in_range = lit≤ tt;
}

-- a sheet of two columns, of heights 3 and 0, and a post from height 5 to 8, within a clip box
abbrev pub small_pile : Body
small_pile = cap 64 (meet (block (point_of (negsuc 99) (negsuc 99) (negsuc 99)) (point_of (pos 100) (pos 100) (pos 100)))
    (unite (shift (point_of (pos 0) (pos 0) (pos 0)) (surface 2 1 (pos 3 ∷ pos 0 ∷ [])))
    (block (point_of (pos 0) (pos 0) (pos 5)) (point_of (pos 0) (pos 0) (pos 8)))))

-- the same, but its reach is one less than the working range
abbrev pub shallow_pile : Body
shallow_pile = record { member = small_pile.member; reach = WORKING_RANGE - 1; clear = small_pile.clear; exact = false }

abbrev pub example_calls : List Call
example_calls =
    sweeping small_pile 5
    ∷ writing 100
    ∷ sweeping shallow_pile 9
    ∷ touching 2 0 shallow_pile 9
    ∷ touching 1 0 small_pile 1
    ∷ sweeping small_pile 100
    ∷ writing 15
    ∷ reading 1 0
    ∷ writing 16
    ∷ []

-- what each line answers, and the two pixels after it
abbrev pub lines_of : List Line → List (Answer × List Pixel)
lines_of [] = []
lines_of (l ∷ ls) = (l.answer, l.after) ∷ lines_of ls

abbrev pub ExampleHolds : Type 0
ExampleHolds = lines_of (log example_view example_calls) ≡
    (counted 5 1, Hit 12 2 ∷ Marching 14 3 ∷ [])
    ∷ (refused StillMarching, Hit 12 2 ∷ Marching 14 3 ∷ [])
    ∷ (refused Shallow, Hit 12 2 ∷ Marching 14 3 ∷ [])
    ∷ (refused NoPixel, Hit 12 2 ∷ Marching 14 3 ∷ [])
    ∷ (counted 1 1, Hit 12 2 ∷ Marching 15 4 ∷ [])
    ∷ (counted 6 0, Hit 12 2 ∷ Hit 20 10 ∷ [])
    ∷ (refused NoRoom, Hit 12 2 ∷ Hit 20 10 ∷ [])
    ∷ (read_as (Hit 20 10), Hit 12 2 ∷ Hit 20 10 ∷ [])
    ∷ (
      wrote 16 (1 ∷ 0 ∷ 2 ∷ 160 ∷ 50 ∷ 0 ∷ 0 ∷ 32 ∷ 2 ∷ 0 ∷ 12 ∷ 176 ∷ 10 ∷ 0 ∷ 20 ∷ 176 ∷ []),
      Hit 12 2 ∷ Hit 20 10 ∷ [],
    )
    ∷ []
