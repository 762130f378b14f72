-- A job as it is written, and the law that it is read back.
use Rattle.std.specs.Prelude.{◌≡◌, ℕ, List, [], ◌∷◌, ◌++◌, map, ℤ, pos, Ok}
use Rattle.lattice.specs.declared.Point.{Point}
use Rattle.march.specs.declared.view.ViewNumbers.{ViewNumbers}
use Rattle.words.specs.declared.kind.Kind.TheVariants as kind
use Rattle.words.specs.Words.{kind_word}
use Rattle.words.specs.Encoding.{bytes_of, signed_word}
use Rattle.readers.specs.declared.job.Job.{Job}
use Rattle.readers.specs.Jobs.{job_numbers, job_of}

-- a point's coordinates, and the numbers that follow them
abbrev pub coordinates : Point → List ℤ → List ℤ
coordinates p ns = p.x ∷ p.y ∷ p.z ∷ ns

-- the nineteen numbers, in their order
abbrev pub numbers_of : Job → List ℤ
numbers_of j =
    view_and j.view (pos j.guard ∷ coordinates j.shift (coordinates j.clip.lo (coordinates j.clip.hi [])))
  where
    view_and : ViewNumbers → List ℤ → List ℤ
    view_and v ns = coordinates v.origin (v.ray ∷ v.across ∷ v.down ∷ v.width ∷ v.height ∷ v.far ∷ ns)

abbrev pub job_words : Job → List ℕ
job_words j = kind_word kind.Job 0 ∷ map signed_word (numbers_of j)

-- every job is read back from its words, whatever follows them
abbrev pub JobsReadBack : Type 0
JobsReadBack =
    (j : Job) (rest : List ℕ)
    → job_of (bytes_of (job_words j) ++ rest) ≡ Ok (job_numbers j)
