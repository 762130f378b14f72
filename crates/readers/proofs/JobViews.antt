-- A view is read from its numbers, each read at its place.
use Rattle.std.proofs.Common.{◌≡◌, ℕ, List, ℤ, pos, Ok}
use Rattle.lattice.specs.declared.Point.{Point}
use Rattle.words.specs.Reading.{placement_at, row_at, number_in}
use Rattle.march.specs.declared.view.TheConstants.{MOST_SIDE, MOST_FAR}
use Rattle.readers.specs.Jobs.{rows_at, sizes_at, view_at}

pub view_read : (bs : List ℕ) (o : Point) (r a d w h f : ℤ) → placement_at bs 1 ≡ Ok o → row_at bs 4 ≡ Ok r
    → row_at bs 5 ≡ Ok a → row_at bs 6 ≡ Ok d → number_in bs 7 (pos 1) MOST_SIDE ≡ Ok w
    → number_in bs 8 (pos 1) MOST_SIDE ≡ Ok h → number_in bs 9 (pos 0) MOST_FAR ≡ Ok f
    → view_at bs ≡ Ok (record { origin = o; ray = r; across = a; down = d; width = w; height = h; far = f })
unfolding view_at rows_at sizes_at
view_read bs o r a d w h f po pr pa pd pw ph pf = simp (po, pr, pa, pd, pw, ph, pf)
