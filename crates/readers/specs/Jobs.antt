-- What a job's words say: a start word, and nineteen numbers, each at its place.
use Rattle.std.specs.Prelude.{ℕ, ◌+◌, List, ℤ, pos, Ok, Result, unsigned_abs}
use Rattle.std.specs.Result.{result_map_both}
use Rattle.refusal.specs.Checks.{and_then, unless}
use Rattle.lattice.specs.Space.{ordered}
use Rattle.lattice.specs.declared.Point.{Point}
use Rattle.piles.specs.declared.TheConstants.{LEAST_THICKNESS, MOST_THICKNESS}
use Rattle.march.specs.declared.view.ViewNumbers.{ViewNumbers}
use Rattle.march.specs.declared.view.TheConstants.{LEAST_SIDE, MOST_SIDE, MOST_FAR}
use Rattle.words.specs.declared.fault.WordFault.{WordFault}
use Rattle.words.specs.declared.kind.Kind.TheVariants as kind
use Rattle.words.specs.Kinds.{kind_number}
use Rattle.words.specs.Reading.{bare_at, number_in, row_at, placement_at, offset_at}
use Rattle.march.specs.Checks.{origin_place, ray_place, width_place}
use Rattle.readers.specs.declared.job.Job.{Job}
use Rattle.readers.specs.declared.fault.JobFault.{JobFault}
use Rattle.readers.specs.declared.fault.JobFault.TheVariants.{Word, Corners}

-- a job by its plain numbers
pub record JobNumbers : Type 0 where
  pub view : ViewNumbers
  pub guard : ℕ
  pub shift : Point
  pub lo : Point
  pub hi : Point

abbrev pub job_numbers : Job → JobNumbers
job_numbers j = record {
  view = j.view;
  guard = j.guard;
  shift = j.shift;
  lo = j.clip.lo;
  hi = j.clip.hi;
}

abbrev pub numbers_in : Result Job JobFault → Result JobNumbers JobFault
numbers_in = result_map_both job_numbers (λ e. e)

abbrev pub in_job : {A : Type 0} → Result A WordFault → Result A JobFault
in_job = result_map_both (λ x. x) Word

-- Where its numbers stand. The start word is at place 0; a view's numbers have their own places.
abbrev pub guard_place : ℕ
guard_place = 10

abbrev pub shift_place : ℕ
shift_place = 11

abbrev pub lower_corner_place : ℕ
lower_corner_place = 14

abbrev pub upper_corner_place : ℕ
upper_corner_place = 17

-- three rows: ray, across, down
unfoldable pub rows_at : List ℕ → (place : ℕ) → Result (ℤ × ℤ × ℤ) WordFault
rows_at bs k =
    and_then (row_at bs k) (λ ray.
    and_then (row_at bs (k + 1)) (λ across.
    and_then (row_at bs (k + 2)) (λ down.
    Ok (ray, across, down))))

-- width, height and far
unfoldable pub sizes_at : List ℕ → (place : ℕ) → Result (ℤ × ℤ × ℤ) WordFault
sizes_at bs k =
    and_then (number_in bs k LEAST_SIDE MOST_SIDE) (λ width.
    and_then (number_in bs (k + 1) LEAST_SIDE MOST_SIDE) (λ height.
    and_then (number_in bs (k + 2) (pos 0) MOST_FAR) (λ far.
    Ok (width, height, far))))

unfoldable pub view_at : List ℕ → Result ViewNumbers WordFault
view_at bs =
    and_then (placement_at bs origin_place) (λ o.
    and_then (rows_at bs ray_place) (λ r.
    and_then (sizes_at bs width_place) (λ s.
    Ok (record { origin = o; ray = r.0; across = r.1; down = r.2; width = s.0; height = s.1; far = s.2 }))))

-- the numbers of the pile: the guard, the surface's shift, the clip box's corners
unfoldable pub pile_at : List ℕ → Result (ℤ × Point × Point × Point) WordFault
pile_at bs =
    and_then (number_in bs guard_place LEAST_THICKNESS MOST_THICKNESS) (λ guard.
    and_then (offset_at bs shift_place) (λ shift.
    and_then (placement_at bs lower_corner_place) (λ lo.
    and_then (placement_at bs upper_corner_place) (λ hi.
    Ok (guard, shift, lo, hi)))))

-- the whole job; that lo is above hi on no axis is looked at last
unfoldable pub job_of : List ℕ → Result JobNumbers JobFault
job_of bs =
    and_then (in_job (bare_at bs 0 (kind_number kind.Job) (kind_number kind.Job))) (λ _.
    and_then (in_job (view_at bs)) (λ view.
    and_then (in_job (pile_at bs)) (λ pile.
    unless (ordered pile.2 pile.3) Corners
    (Ok (record { view = view; guard = unsigned_abs pile.0; shift = pile.1; lo = pile.2; hi = pile.3 })))))
